-- The events of a delivery: what each one tells.
use Rattle.mail_save.proofs.Common.{◌≡◌, ◌≤◌, ◌<◌, ◌+◌, ℕ, Bool, true, false, inl, inr, List, Option, Some, None, Err, refl, sym, ◌∙◌, ap, subst, arith, length, ◌↔◌, if◌then◌else◌, nat_le, option_or, cond-true, cond-false, eq-eqb, common_steps, Faults, History, ChangeFaultCounted, Guid, Uid, Did}
use Rattle.mail_save.proofs.Common.{Progress, Refusal, Reply, BoxMeaning, StoreValue, list_named, box_refusal, save_refusal, uid_refusal, Saves, stopped_reply, SaveStage}
use Rattle.std.proofs.Common.{Ok}
use Rattle.std.specs.Prelude.{◌==◌, ◌⊎◌, Result}
use Rattle.mdbox_base.specs.declared.progress.Did.TheVariants as did
use Rattle.mdbox_base.specs.declared.progress.Progress.TheVariants as progress
use Rattle.mdbox_base.specs.declared.replies.Refusal.TheVariants as refusal
use Rattle.mdbox_base.specs.declared.replies.Reply.TheVariants as reply
use Rattle.mail_save.specs.Task.{SaveValue, giving_did}

-- ---- answers

pub more_apart : progress.More ≡ stopped_reply → ⊥
more_apart e = cc e

pub unfallen : (b : Bool) → b ≡ true → b ≡ false → ⊥
unfallen b t f = let k : true ≡ false = sym t ∙ f in cc k

pub done_goes_on : (r : Reply) → progress.Done r ≡ progress.More → ⊥
done_goes_on r e = cc e

whys : (a b : Refusal) → progress.Done (reply.Refused a) ≡ progress.Done (reply.Refused b) → a ≡ b
whys a b e = let k : reply.Refused a ≡ reply.Refused b = cc e in cc k

pub more_runs : (b : Bool) → b ≡ false → (progress.More ≡ stopped_reply) ↔ (b ≡ true)
more_runs b runs = record { 0 = λ e. absurd (more_apart e); 1 = λ e. absurd (unfallen b e runs) }

pub saved_apart : (uid : Uid) (guid : Guid) → progress.Done (reply.Saved uid guid) ≡ stopped_reply → ⊥
saved_apart uid guid e = let k : reply.Saved uid guid ≡ reply.Refused refusal.Stopped = cc e in cc k

pub saved_runs : (uid : Uid) (guid : Guid) (b : Bool) → b ≡ false → (progress.Done (reply.Saved uid guid) ≡ stopped_reply) ↔ (b ≡ true)
saved_runs uid guid b runs = record { 0 = λ e. absurd (saved_apart uid guid e); 1 = λ e. absurd (unfallen b e runs) }

pub refused_stops : (why : Refusal) (b : Bool) → ((why ≡ refusal.Stopped) ↔ (b ≡ true)) → (progress.Done (reply.Refused why) ≡ stopped_reply) ↔ (b ≡ true)
refused_stops why b h = record { 0 = λ e. h.0 (whys why refusal.Stopped e); 1 = λ e. ap (λ (r : Refusal). progress.Done (reply.Refused r)) (h.1 e) }

pub refused_rose : (why : Refusal) → progress.Done (reply.Refused why) ≡ stopped_reply → why ≡ refusal.Stopped
refused_rose why e = whys why refusal.Stopped e

pub never_true : false ≡ true → ⊥
never_true e = cc e

pub ok_apart : {X E : Type 0} (x : X) (e : E) → Ok x ≡ Err e → ⊥
ok_apart x e k = cc k

pub one_error : {X E : Type 0} (a b : E) → ◌≡◌ {A = Result X E} (Err a) (Err b) → a ≡ b
one_error a b e = cc e

pub refused_is : (why : Refusal) → why ≡ refusal.Stopped → progress.Done (reply.Refused why) ≡ stopped_reply
refused_is why e = ap (λ (r : Refusal). progress.Done (reply.Refused r)) e

pub is_false : (b : Bool) → (b ≡ true → ⊥) → b ≡ false
is_false true f = absurd (f refl)
is_false false f = refl

pub faults_by : (p q : Type 0) (old new : Faults) → (q → p) → ChangeFaultCounted p old new → ChangeFaultCounted q old new
faults_by p q old new to h = record { reads = h.reads; changes = h.changes; rose = λ e. h.rose (to e) }

pub no_faults : (q : Type 0) (old : Faults) → (q → ⊥) → ChangeFaultCounted q old old
no_faults q old none = record { reads = refl; changes = omega arith; rose = λ e. absurd (none e) }

-- ---- what refuses the first event is no fault

room_calm : (many last : Bool) (n k : ℕ) → (if many then Some (refusal.MailboxFull n) else (if last then Some (refusal.StoreFull k) else None)) ≡ Some refusal.Stopped → ⊥
room_calm true last n k e = cc e
room_calm false true n k e = cc e
room_calm false false n k e = let w : None ≡ Some refusal.Stopped = e in cc w

pub box_calm : (o : Option BoxMeaning) → box_refusal o ≡ Some refusal.Stopped → ⊥
box_calm None e = cc e
box_calm (Some m) e = room_calm (nat_le 1000000 (length m.rows)) (nat_le 4294967295 m.next) 1000000 4294967294 e

uid_if : (last : Bool) (k : ℕ) → (if last then Some (refusal.StoreFull k) else None) ≡ Some refusal.Stopped → ⊥
uid_if true k e = cc e
uid_if false k e = let w : None ≡ Some refusal.Stopped = e in cc w

either_calm : (a b : Option Refusal) → (a ≡ Some refusal.Stopped → ⊥) → (b ≡ Some refusal.Stopped → ⊥) → option_or a b ≡ Some refusal.Stopped → ⊥
either_calm None b x y e = y e
either_calm (Some r) b x y e = x e

save_calm : {D : Type 0} (name : List ℕ) (store : StoreValue D) → save_refusal name store ≡ Some refusal.Stopped → ⊥
save_calm name store e = either_calm (box_refusal (list_named store name)) (uid_refusal store.drawn.map) (box_calm (list_named store name)) (uid_if (nat_le 4294967294 store.drawn.map) 4294967294) e

pub first_calm : {D : Type 0} (name : List ℕ) (store : StoreValue D) (why : Refusal) → (save_refusal name store ≡ Some why) ⊎ ((save_refusal name store ≡ None) × (why ≡ refusal.NoMemory)) → why ≡ refusal.Stopped → ⊥
first_calm name store why (inl is) e = save_calm name store (is ∙ ap Some e)
first_calm name store why (inr is) e = let w : refusal.NoMemory ≡ refusal.Stopped = sym is.1 ∙ e in cc w

pub never_stops : (why : Refusal) (b : Bool) → b ≡ false → (why ≡ refusal.Stopped → ⊥) → (why ≡ refusal.Stopped) ↔ (b ≡ true)
never_stops why b runs calm = record { 0 = λ e. absurd (calm e); 1 = λ e. absurd (unfallen b e runs) }

-- ---- why a message isn't stored

le_true : (a b : ℕ) → a ≤ b → nat_le a b ≡ true
le_true a b h = grind (arith, common_steps, h)

le_false : (a b : ℕ) → b < a → nat_le a b ≡ false
le_false a b h = grind (arith, common_steps, h)

pub uids_full : (drawn : ℕ) → 4294967294 ≤ drawn → uid_refusal drawn ≡ Some (refusal.StoreFull 4294967294)
uids_full drawn full = cond-true (nat_le 4294967294 drawn) (Some (refusal.StoreFull 4294967294)) None (le_true 4294967294 drawn full)

pub uids_left : (drawn next : ℕ) → next ≡ drawn + 1 → next ≤ 4294967294 → uid_refusal drawn ≡ None
uids_left drawn next is small = cond-false (nat_le 4294967294 drawn) (Some (refusal.StoreFull 4294967294)) None (le_false 4294967294 drawn (omega (arith, is, small)))

-- ---- why it isn't added

pub add_refused : (refused : Option Refusal) (why : Refusal) → (refused ≡ Some why) ⊎ ((refused ≡ None) × ((why ≡ refusal.Stopped) ⊎ (why ≡ refusal.NoMemory))) → (why ≡ refusal.Stopped → ⊥) → (refused ≡ Some why) ⊎ ((refused ≡ None) × (why ≡ refusal.NoMemory))
add_refused refused why (inl e) calm = inl e
add_refused refused why (inr (none, inl e)) calm = absurd (calm e)
add_refused refused why (inr (none, inr e)) calm = inr (none, e)

-- ---- giving back

pub gives_quietly : (why : Refusal) → (why ≡ refusal.Stopped → ⊥) → did.Quiet ≡ giving_did (progress.Done (reply.Refused why))
gives_quietly refusal.NoMailbox calm = refl
gives_quietly refusal.Inbox calm = refl
gives_quietly refusal.Exists calm = refl
gives_quietly refusal.NoMessage calm = refl
gives_quietly refusal.Sealed calm = refl
gives_quietly (refusal.TooManyCopies n) calm = refl
gives_quietly (refusal.MailboxFull n) calm = refl
gives_quietly (refusal.TooManyMailboxes n) calm = refl
gives_quietly (refusal.StoreFull n) calm = refl
gives_quietly refusal.NoMemory calm = refl
gives_quietly refusal.ReadFault calm = refl
gives_quietly refusal.Stopped calm = absurd (calm refl)
gives_quietly (refusal.Damaged file offset) calm = refl

-- ---- what is due

same_uid_is : (n : ℕ) → (n == n) ≡ true
same_uid_is n = eq-eqb n n refl

pub one_is_due : (uid old new : ℕ) → new ≡ old + (if uid == uid then 1 else 0) → 1 ≤ new
one_is_due uid old new is = let one = ap (λ (b : Bool). old + (if b then 1 else 0)) (same_uid_is uid) in omega (arith, is, one)

-- ---- a step

-- what is said of the task as it is kept is said of it as it is seen
pub seen_saves : {D : Type 0} (task seen : SaveValue) (now next : SaveStage) (answer : Progress) (how : Did) (old new : StoreValue D) (before after : Option History) (began ended : Faults) → task ≡ seen → now ≡ task.stage
    → Saves now next task.name task.time task.size answer how old new before after began ended → Saves seen.stage next seen.name seen.time seen.size answer how old new before after began ended
seen_saves task seen now next answer how old new before after began ended same at s =
    subst (λ (v : SaveValue). Saves v.stage next v.name v.time v.size answer how old new before after began ended) same (subst (λ (st : SaveStage). Saves st next task.name task.time task.size answer how old new before after began ended) at s)
