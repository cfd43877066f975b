-- How a request alone ends, whatever its reply tells.
use Rattle.std.specs.Prelude.{◌≡◌, ◌⊎◌, ℕ, List, [], ◌∷◌, Option, Some, None}
use Rattle.std.proofs.Common.{refl, sym, ◌∙◌, ap, subst, inl, inr, arith}
use Rattle.disk_model.specs.Disk.{History, Faults, EachImage, IsIdle}
use Rattle.disk_model.proofs.IdleLemmas.{idle-begins}
use Rattle.disk_model.proofs.MomentLemmas.{since-begins, if_told-all}
use Rattle.mdbox_base.specs.Streams.{Appended}
use Rattle.mdbox_base.specs.declared.replies.Refusal.TheVariants as refusal
use Rattle.mdbox_base.specs.declared.replies.Reply.{Reply}
use Rattle.mdbox_base.specs.declared.replies.Reply.TheVariants as reply
use Rattle.mdbox_base.specs.declared.requests.Request.{Request}
use Rattle.model_lists.specs.Lists.{Lists}
use Rattle.model_store.specs.Safe.{Safe}
use Rattle.model_store.specs.Settled.{files_of, IsSettledFor}
use Rattle.model_store.proofs.OpeningLemmas.{no_store_or_opens, opens_or_damaged}
use Rattle.model_store.proofs.OpeningSafeLemmas.{safe_opens}
use Rattle.model_store.proofs.SettledLemmas.{settled_safe}
use Rattle.store_open.specs.Making.{IdleUnless}
use Rattle.store_open.specs.Opened.{HasNoLogDue, Opening, IsClosedWell, IsOpeningError}
use Rattle.store_open.proofs.SweptStoreLemmas.{carries-idle}
use Rattle.store_open.specs.declared.error.OpenError.{OpenError}
use Rattle.store_open.specs.declared.error.OpenError.TheVariants as error
use Rattle.store_sweep.specs.Moments.{IdleIf}
use Rattle.request_text.specs.Outcomes.{status_of, reply_outcome}
use Rattle.request_text.specs.ReplyText.{IsLong}
use Rattle.request_text.specs.declared.outcome.InputRefusal.{InputRefusal}
use Rattle.request_text.specs.declared.outcome.StoreRefusal.{StoreRefusal}
use Rattle.request_text.specs.declared.outcome.Outcome.{Outcome}
use Rattle.request_text.specs.declared.outcome.Outcome.TheVariants as outcome
use Rattle.script_run.proofs.DoneLemmas.{settled_safe as safe_settled}
use Rattle.script_run.specs.Opening.{IsUnopened}
use Rattle.mdbox_top.specs.InputRun.{IsOneOf}
use Rattle.mdbox_top.specs.OpeningOutcome.{opening_outcome}
use Rattle.mdbox_top.specs.Served.{IsNotOpened, ShowsReply, RequestOutcome}
use Rattle.model_kept.proofs.KeptLemmas.{kept_begins}
use Rattle.model_meaning.specs.MapMeaning.{map_meaning}

-- ---- how it ends

-- a whole reply
pub whole : (given : Reply) (text : List ℕ) (h k : Option (List ℕ)) → Appended h text k → ShowsReply text given h k (reply_outcome given)
whole (reply.Refused refusal.NoMemory) text h k a = inr (refl, a)
whole (reply.Refused other) text h k a = (refl, a)
whole other text h k a = (refl, a)

-- the numbers of the ends of an opening, of a reply, and of the printing of a reply
pub opening_number : (why : OpenError) → IsOneOf (3 ∷ 5 ∷ 6 ∷ []) (status_of (opening_outcome why))
opening_number error.NoStore = inl refl
opening_number error.StoreWhole = inl refl
opening_number error.MailFiles = inl refl
opening_number (error.Damaged name place) = inl refl
opening_number error.NoMemory = inr (inl refl)
opening_number error.DiskFault = inr (inr (inl refl))

reply_number : (given : Reply) → IsOneOf (0 ∷ 1 ∷ 5 ∷ 6 ∷ []) (status_of (reply_outcome given))
reply_number (reply.Refused refusal.NoMemory) = inr (inr (inl refl))
reply_number (reply.Refused refusal.ReadFault) = inr (inr (inr (inl refl)))
reply_number (reply.Refused refusal.Stopped) = inr (inr (inr (inl refl)))
reply_number (reply.Refused other) = inr (inl refl)
reply_number other = inl refl

pub one_of_shown : (n m : ℕ) → IsOneOf (0 ∷ 1 ∷ 5 ∷ 6 ∷ []) m → n ≡ m → IsOneOf (0 ∷ 1 ∷ 5 ∷ 6 ∷ 8 ∷ []) n
one_of_shown n m (inl a) e = inl (e ∙ a)
one_of_shown n m (inr (inl a)) e = inr (inl (e ∙ a))
one_of_shown n m (inr (inr (inl a))) e = inr (inr (inl (e ∙ a)))
one_of_shown n m (inr (inr (inr (inl a)))) e = inr (inr (inr (inl (e ∙ a))))
one_of_shown n m (inr (inr (inr (inr a)))) e = absurd a

pub shown_number : (text : List ℕ) (given : Reply) (h k : Option (List ℕ)) (o : Outcome) → ShowsReply text given h k o → IsOneOf (0 ∷ 1 ∷ 5 ∷ 6 ∷ 8 ∷ []) (status_of o)
shown_number text given h k outcome.WriteFault s = inr (inr (inr (inr (inl refl))))
shown_number text given h k outcome.NoMemory s = inr (inr (inl refl))
shown_number text given h k outcome.Done s = inl refl
shown_number text given h k outcome.No s = inr (inl refl)
shown_number text given h k outcome.DiskFault s = inr (inr (inr (inl refl)))
shown_number text given h k outcome.ReadFault s = one_of_shown 7 _ (reply_number given) (ap status_of s.0)
shown_number text given h k outcome.Usage s = one_of_shown 2 _ (reply_number given) (ap status_of s.0)
shown_number text given h k outcome.SessionFull s = inl refl
shown_number text given h k (outcome.StoreRefused why) s = one_of_shown 3 _ (reply_number given) (ap status_of s.0)
shown_number text given h k (outcome.InputRefused why) s = one_of_shown 4 _ (reply_number given) (ap status_of s.0)

-- a request is not refused as words or as an input
pub refused_by : (n m : ℕ) → IsOneOf (3 ∷ 5 ∷ 6 ∷ []) m → n ≡ m → (n ≡ 2) ⊎ (n ≡ 4) → ⊥
refused_by n m (inl a) e (inl b) = omega (arith, a, e, b)
refused_by n m (inl a) e (inr b) = omega (arith, a, e, b)
refused_by n m (inr (inl a)) e (inl b) = omega (arith, a, e, b)
refused_by n m (inr (inl a)) e (inr b) = omega (arith, a, e, b)
refused_by n m (inr (inr (inl a))) e (inl b) = omega (arith, a, e, b)
refused_by n m (inr (inr (inl a))) e (inr b) = omega (arith, a, e, b)
refused_by n m (inr (inr (inr a))) e b = a

pub shown_by : (n : ℕ) → IsOneOf (0 ∷ 1 ∷ 5 ∷ 6 ∷ 8 ∷ []) n → (n ≡ 2) ⊎ ((n ≡ 3) ⊎ (n ≡ 4)) → ⊥
shown_by n (inl a) (inl b) = omega (arith, a, b)
shown_by n (inl a) (inr (inl b)) = omega (arith, a, b)
shown_by n (inl a) (inr (inr b)) = omega (arith, a, b)
shown_by n (inr (inl a)) (inl b) = omega (arith, a, b)
shown_by n (inr (inl a)) (inr (inl b)) = omega (arith, a, b)
shown_by n (inr (inl a)) (inr (inr b)) = omega (arith, a, b)
shown_by n (inr (inr (inl a))) (inl b) = omega (arith, a, b)
shown_by n (inr (inr (inl a))) (inr (inl b)) = omega (arith, a, b)
shown_by n (inr (inr (inl a))) (inr (inr b)) = omega (arith, a, b)
shown_by n (inr (inr (inr (inl a)))) (inl b) = omega (arith, a, b)
shown_by n (inr (inr (inr (inl a)))) (inr (inl b)) = omega (arith, a, b)
shown_by n (inr (inr (inr (inl a)))) (inr (inr b)) = omega (arith, a, b)
shown_by n (inr (inr (inr (inr (inl a))))) (inl b) = omega (arith, a, b)
shown_by n (inr (inr (inr (inr (inl a))))) (inr (inl b)) = omega (arith, a, b)
shown_by n (inr (inr (inr (inr (inl a))))) (inr (inr b)) = omega (arith, a, b)
shown_by n (inr (inr (inr (inr (inr a))))) b = a

pub request_used : {D : Type 0} → (Tells : Option History → Option History → Reply → Type 0) (request : Request) (h k : Option (List ℕ)) (old new : Option History) (f g : Faults) → RequestOutcome D Tells request h k old new f g outcome.Usage → ⊥
request_used Tells request h k old new f g (inl n) = refused_by 2 _ (opening_number n.why) (ap status_of n.ended_is) (inl refl)
request_used Tells request h k old new f g (inr l) = shown_by 2 (shown_number _ l.given h k outcome.Usage l.printed) (inl refl)

pub request_input : {D : Type 0} → (Tells : Option History → Option History → Reply → Type 0) (request : Request) (h k : Option (List ℕ)) (old new : Option History) (f g : Faults) (why : InputRefusal) → RequestOutcome D Tells request h k old new f g (outcome.InputRefused why) → ⊥
request_input Tells request h k old new f g why (inl n) = refused_by 4 _ (opening_number n.why) (ap status_of n.ended_is) (inr refl)
request_input Tells request h k old new f g why (inr l) = shown_by 4 (shown_number _ l.given h k (outcome.InputRefused why) l.printed) (inr (inr refl))

-- damage that finds no memory for its text
fault_number : (s : StoreRefusal) (why : OpenError) → outcome.StoreRefused s ≡ opening_outcome why → why ≡ error.DiskFault → ⊥
fault_number s why e d = let f : 3 ≡ 6 = ap status_of e ∙ ap (λ (w : OpenError). status_of (opening_outcome w)) d in omega (arith, f)

-- nor does it end as a fault of what it reads
pub request_reads : {D : Type 0} → (Tells : Option History → Option History → Reply → Type 0) (request : Request) (h k : Option (List ℕ)) (old new : Option History) (f g : Faults) (o : Outcome) → RequestOutcome D Tells request h k old new f g o → o ≡ outcome.ReadFault → ⊥
request_reads Tells request h k old new f g o (inl n) e = opened_number (status_of o) (status_of (opening_outcome n.why)) (opening_number n.why) (ap status_of n.ended_is) (ap status_of e)
  where
    opened_number : (n m : ℕ) → IsOneOf (3 ∷ 5 ∷ 6 ∷ []) m → n ≡ m → n ≡ 7 → ⊥
    opened_number n m (inl a) e f = omega (arith, a, e, f)
    opened_number n m (inr (inl a)) e f = omega (arith, a, e, f)
    opened_number n m (inr (inr (inl a))) e f = omega (arith, a, e, f)
    opened_number n m (inr (inr (inr a))) e f = a
request_reads Tells request h k old new f g o (inr l) e = replied_number (status_of o) (shown_number _ l.given h k o l.printed) (ap status_of e)
  where
    replied_number : (n : ℕ) → IsOneOf (0 ∷ 1 ∷ 5 ∷ 6 ∷ 8 ∷ []) n → n ≡ 7 → ⊥
    replied_number n (inl a) f = omega (arith, a, f)
    replied_number n (inr (inl a)) f = omega (arith, a, f)
    replied_number n (inr (inr (inl a))) f = omega (arith, a, f)
    replied_number n (inr (inr (inr (inl a)))) f = omega (arith, a, f)
    replied_number n (inr (inr (inr (inr (inl a))))) f = omega (arith, a, f)
    replied_number n (inr (inr (inr (inr (inr a))))) f = a

pub request_ended : {D : Type 0} → (Tells : Option History → Option History → Reply → Type 0) (request : Request) (h k : Option (List ℕ)) (old new : Option History) (f g : Faults) (o : Outcome) → RequestOutcome D Tells request h k old new f g o → (o ≡ outcome.ReadFault) ⊎ ((why : InputRefusal) × (o ≡ outcome.InputRefused why)) → ⊥
request_ended Tells request h k old new f g o e (inl is) = request_reads Tells request h k old new f g o e is
request_ended {D} Tells request h k old new f g o e (inr w) = request_input Tells request h k old new f g w.0 (subst (λ (x : Outcome). RequestOutcome D Tells request h k old new f g x) w.1 e)

still_if : (old new : Option History) → IsIdle old new → IdleIf HasNoLogDue old new
still_if old new idle = if_told-all (λ disk. HasNoLogDue disk → IsIdle old new) old (λ disk none. idle)

-- where no log is due, nothing has changed but after a fault of the disk
undue_idle : (why : OpenError) (old new : Option History) (f g : Faults) → (why ≡ error.DiskFault → ⊥) → IsUnopened why old new f g → IdleIf HasNoLogDue old new
undue_idle error.NoMemory old new f g other u = u.memory refl
undue_idle error.NoStore old new f g other u = still_if old new (u.idle other (λ e. cc e))
undue_idle error.StoreWhole old new f g other u = still_if old new (u.idle other (λ e. cc e))
undue_idle error.MailFiles old new f g other u = still_if old new (u.idle other (λ e. cc e))
undue_idle (error.Damaged name place) old new f g other u = still_if old new (u.idle other (λ e. cc e))
undue_idle error.DiskFault old new f g other u = absurd (other refl)

-- out of memory leaves what any cause leaves that is no fault of the disk
lacking : (why : OpenError) (old new : Option History) (f g : Faults) → (why ≡ error.DiskFault → ⊥) → IsUnopened why old new f g → IsUnopened error.NoMemory old new f g
lacking why old new f g other u = record {
  cause = tt;
  idle = λ fault memory. absurd (memory refl);
  memory = λ why_is. undue_idle why old new f g other u;
  untouched = u.untouched;
  stays = u.stays;
  closed_well = u.closed_well;
  moments = u.moments;
  safe = u.safe;
  settled_again = λ none. u.settled_again (λ fault. absurd (other fault));
  carried = λ none. u.carried (λ fault. absurd (other fault));
  fault = record { reads = u.fault.reads; changes = u.fault.changes; rose = λ e. absurd (cc e) };
  unfailed = λ memory. u.unfailed other;
}

pub damage_lacking : (h k : Option (List ℕ)) (old new : Option History) (f g : Faults) (s : StoreRefusal) → IsNotOpened h k old new f g (outcome.StoreRefused s) → IsNotOpened h k old new f g outcome.NoMemory
damage_lacking h k old new f g s n = record { why = error.NoMemory; ended_is = refl; unprinted = n.unprinted; leaves = lacking n.why old new f g (fault_number s n.why n.ended_is) n.leaves }

pub request_damage : {D : Type 0} → (Tells : Option History → Option History → Reply → Type 0) (request : Request) (h k : Option (List ℕ)) (old new : Option History) (f g : Faults) (s : StoreRefusal) → RequestOutcome D Tells request h k old new f g (outcome.StoreRefused s) → RequestOutcome D Tells request h k old new f g outcome.NoMemory
request_damage Tells request h k old new f g s (inl n) = inl (damage_lacking h k old new f g s n)
request_damage Tells request h k old new f g s (inr l) = absurd (shown_by 3 (shown_number _ l.given h k (outcome.StoreRefused s) l.printed) (inr (inl refl)))

-- a settled disk has a store, which is damaged nowhere
pub settled_opens : (lists : Lists) (old : Option History) (why : OpenError) → IsSettledFor lists old → IsOpeningError old why → (why ≡ error.DiskFault) ⊎ (why ≡ error.NoMemory)
settled_opens lists None why s cause = absurd s
settled_opens lists (Some h) error.NoStore s cause =
    let o = safe_opens (files_of h.now) s.store s.entries lists s.safe in absurd (no_store_or_opens (files_of h.now) s.store s.entries o.0 cause o.1)
settled_opens lists (Some h) (error.Damaged name place) s cause =
    let o = safe_opens (files_of h.now) s.store s.entries lists s.safe in absurd (opens_or_damaged (files_of h.now) s.store s.entries o.0 name place o.1 cause)
settled_opens lists (Some h) error.DiskFault s cause = inl refl
settled_opens lists (Some h) error.NoMemory s cause = inr refl
settled_opens lists (Some h) error.StoreWhole s cause = absurd cause
settled_opens lists (Some h) error.MailFiles s cause = absurd cause

-- so no file of it refuses a request
pub request_status : {D : Type 0} → (Tells : Option History → Option History → Reply → Type 0) (request : Request) (h k : Option (List ℕ)) (old new : Option History) (f g : Faults) (o : Outcome) → RequestOutcome D Tells request h k old new f g o → (lists : Lists) → IsSettledFor lists old
    → IsOneOf (0 ∷ 1 ∷ 5 ∷ 6 ∷ 8 ∷ []) (status_of o)
request_status Tells request h k old new f g o (inl n) lists s = elim (settled_opens lists old n.why s n.leaves.cause) [
  | inl fault ↦ inr (inr (inr (inl (ap status_of n.ended_is ∙ ap (λ (w : OpenError). status_of (opening_outcome w)) fault))))
  | inr memory ↦ inr (inr (inl (ap status_of n.ended_is ∙ ap (λ (w : OpenError). status_of (opening_outcome w)) memory)))
]
request_status Tells request h k old new f g o (inr l) lists s = shown_number _ l.given h k o l.printed

-- a settled disk of which no call is made
pub still_safe : (lists : Lists) (h : Option History) → IsSettledFor lists h → EachImage (λ _ image. Safe image lists) h h
still_safe lists None s = absurd s
still_safe lists (Some h) s = since-begins (λ _ image. Safe image lists) h (λ image is. settled_safe h.now lists image s is)

-- a store for which the disk was not asked, for out of memory
unchanged : (old : Option History) → IdleUnless Opening old old
unchanged None = tt
unchanged (Some now) = λ lacks. idle-begins (Some now)

still_unopened : (old : Option History) (f : Faults) → IsUnopened error.NoMemory old old f f
still_unopened old f = record {
  cause = tt;
  idle = λ fault memory. idle-begins old;
  memory = λ why_is. still_if old old (idle-begins old);
  untouched = unchanged old;
  stays = λ store entries logs opens. kept_begins (map_meaning store entries) old;
  closed_well = if_told-all (λ disk. IsClosedWell disk → IsIdle old old) old (λ disk well. idle-begins old);
  moments = λ lists s. still_safe lists old s;
  safe = λ lists s. safe_settled lists old s;
  settled_again = λ none lists s. s;
  carried = λ none. carries-idle old old (idle-begins old);
  fault = record { reads = omega arith; changes = omega arith; rose = λ e. absurd (cc e) };
  unfailed = λ other. refl;
}

pub unasked : {D : Type 0} → (Tells : Option History → Option History → Reply → Type 0) (request : Request) (h : Option (List ℕ)) (old : Option History) (f : Faults) → RequestOutcome D Tells request h h old old f f outcome.NoMemory
unasked Tells request h old f = inl (record { why = error.NoMemory; ended_is = refl; unprinted = refl; leaves = still_unopened old f })

-- ---- a fault of the disk

-- a reply that ends as a fault of the disk
failed_is : (given : Reply) → outcome.DiskFault ≡ reply_outcome given → (given ≡ reply.Refused refusal.ReadFault) ⊎ (given ≡ reply.Refused refusal.Stopped)
failed_is (reply.Refused refusal.ReadFault) e = inl refl
failed_is (reply.Refused refusal.Stopped) e = inr refl
failed_is (reply.Refused refusal.NoMemory) e = absurd (let k : 6 ≡ 5 = ap status_of e in omega (arith, k))
failed_is (reply.Refused other) e = absurd (let k : 6 ≡ 1 = ap status_of e in omega (arith, k))
failed_is other e = absurd (let k : 6 ≡ 0 = ap status_of e in omega (arith, k))

pub faulted_is : (text : List ℕ) (given : Reply) (h k : Option (List ℕ)) (o : Outcome) → ShowsReply text given h k o → o ≡ outcome.DiskFault → (given ≡ reply.Refused refusal.ReadFault) ⊎ (given ≡ reply.Refused refusal.Stopped)
faulted_is text given h k o s e = failed_is given (subst (λ (x : Outcome). ShowsReply text given h k x) e s).0

pub failed_outcome : (given : Reply) → (given ≡ reply.Refused refusal.ReadFault) ⊎ (given ≡ reply.Refused refusal.Stopped) → reply_outcome given ≡ outcome.DiskFault
failed_outcome given (inl e) = ap reply_outcome e
failed_outcome given (inr e) = ap reply_outcome e

-- a listing and a message are no `NO`
long_is_done : (given : Reply) → IsLong given → reply_outcome given ≡ outcome.Done
long_is_done (reply.Listed rows) l = refl
long_is_done (reply.Fetched octets) l = refl
long_is_done other l = absurd l

-- it ends so, or with a printing that failed
pub failed_status : (text : List ℕ) (given : Reply) (h k : Option (List ℕ)) (o : Outcome) → ShowsReply text given h k o → reply_outcome given ≡ outcome.DiskFault → IsOneOf (6 ∷ 8 ∷ []) (status_of o)
failed_status text given h k outcome.WriteFault s failed = inr (inl refl)
failed_status text given h k outcome.NoMemory (inl s) failed = absurd (let k : 0 ≡ 6 = ap status_of (sym (long_is_done given s.0) ∙ failed) in omega (arith, k))
failed_status text given h k outcome.NoMemory (inr s) failed = absurd (let k : 5 ≡ 6 = ap status_of (sym (ap reply_outcome s.0) ∙ failed) in omega (arith, k))
failed_status text given h k outcome.Done s failed = inl (ap status_of (s.0 ∙ failed))
failed_status text given h k outcome.No s failed = inl (ap status_of (s.0 ∙ failed))
failed_status text given h k outcome.DiskFault s failed = inl refl
failed_status text given h k outcome.ReadFault s failed = inl (ap status_of (s.0 ∙ failed))
failed_status text given h k outcome.Usage s failed = inl (ap status_of (s.0 ∙ failed))
failed_status text given h k outcome.SessionFull s failed = inl (ap status_of (s.0 ∙ failed))
failed_status text given h k (outcome.StoreRefused why) s failed = inl (ap status_of (s.0 ∙ failed))
failed_status text given h k (outcome.InputRefused why) s failed = inl (ap status_of (s.0 ∙ failed))
