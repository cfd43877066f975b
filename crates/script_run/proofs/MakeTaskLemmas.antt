-- A make alone: what its task knows from one event to the next, and what it leaves of the files that the opening left.
use Rattle.std.specs.Prelude.{◌≡◌, ◌≢◌, ◌≤◌, ◌⊎◌, ◌+◌, ◌++◌, ◌∷◌, ◌==◌, ◌&&◌, ℕ, nat_le, Bool, true, false, List, [], length, is_some, Option, Some, None}
use Rattle.std.specs.Option.{option_or}
use Rattle.std.proofs.Common.{refl, sym, ◌∙◌, ap, subst, inl, inr, arith}
use Rattle.std.proofs.lemmas.Bool.{cases_Bool, cond-false, ne_eqb}
use Rattle.std.proofs.lemmas.List.Elements.{All-weaker}
use Rattle.std.proofs.lemmas.List.Folds.{list_any_none}
use Rattle.disk_model.specs.Disk.{Between, DiskState, FileState, History, IfTold, IsIdle, IsThere, no_file, reading}
use Rattle.disk_model.specs.Name.{same_name}
use Rattle.disk_model.specs.declared.name.FileName.{FileName}
use Rattle.disk_model.specs.declared.name.FileName.TheVariants as file
use Rattle.disk_model.proofs.NameLemmas.{same_name-true, same_name-eq}
use Rattle.gate_log.specs.Log.{NamedButFor}
use Rattle.mdbox_base.specs.declared.entries.Highest.{Highest}
use Rattle.mdbox_base.specs.declared.entries.MapEntry.TheVariants as map_entry
use Rattle.mdbox_base.specs.declared.ids.BoxNo.{BoxNo}
use Rattle.mdbox_base.specs.declared.replies.Refusal.{Refusal}
use Rattle.mdbox_base.specs.declared.replies.Refusal.TheVariants as refusal
use Rattle.mdbox_base.specs.declared.replies.Reply.{Reply}
use Rattle.mdbox_base.specs.declared.replies.Reply.TheVariants as reply
use Rattle.mdbox_base.specs.declared.requests.Request.TheVariants as request
use Rattle.model_meaning.specs.BoxMeaning.{BoxMeaning, box_meaning}
use Rattle.model_meaning.specs.MapMeaning.{MapBox, MapMeaning, map_applied}
use Rattle.model_store.specs.Listing.{meaning_named}
use Rattle.list_machine.specs.Machine.{refused_where}
use Rattle.task_steps.specs.Step.{ended_by}
use Rattle.task_steps.proofs.OneEventLemmas.{not_true}
use Rattle.store_core.specs.MadeLogs.{IsUnnamed}
use Rattle.store_core.specs.Value.{StoreValue, indexes_of, list_named}
use Rattle.store_core.proofs.MailChangeLemmas.{named_reads}
use Rattle.store_sweep.specs.Swept.{IsSwept}
use Rattle.store_sweep.specs.Wanted.{has_box}
use Rattle.mail_ops.specs.Event.{refusal_told}
use Rattle.mail_ops.specs.Making.{IsLogNotMade, MakeAnswers, MakesLog, NamesLog, RemovesLog, making_refusal, naming_refusal}
use Rattle.mail_ops.specs.Requests.{IsOpsRequest}
use Rattle.mail_ops.specs.declared.event.NotDone.{NotDone}
use Rattle.mail_ops.specs.declared.event.NotDone.TheVariants as not_done
use Rattle.mail_ops.specs.declared.making.MakeStage.{MakeStage}
use Rattle.mail_ops.specs.declared.making.MakeStage.TheVariants as make_stage
use Rattle.lane_tasks.specs.Clause.{StaysOfRequest, TellsStore, progress_by}
use Rattle.lane_tasks.specs.Tasks.{BeginsTask}
use Rattle.lane_tasks.specs.declared.task.Task.{Task}
use Rattle.lane_tasks.specs.declared.task.Task.TheVariants as task
use Rattle.lane_tasks.proofs.StepLemmas.{ops_asked}
use Rattle.script_run.specs.One.{IsChangeAnswer, ReadAlike, next_mailbox, unmade_cause, with_next_named}
use Rattle.script_run.proofs.OneTaskLemmas.{KeepsAlone, missing_answers, one_refusal, some_reply, there_answers}

-- ---- what is known of it

-- The log of the next number was made, and nothing else has happened: each other file is as it was, with its name synced.
pub record HasMadeNext {D : Type 0} (name : List ℕ) (number : ℕ) (s : StoreValue D) (mid : Option History) (store : StoreValue D) (history : Option History) : Type 0 where
  pub free : making_refusal name s ≡ None
  pub number_is : number ≡ next_mailbox s.map
  pub unnamed : IsUnnamed number s.map
  pub map_is : store.map ≡ s.map
  pub indexes : indexes_of store.boxes ≡ indexes_of s.boxes
  pub others : NamedButFor (file.Box number 1) mid history

abbrev AtMake : {D : Type 0} → List ℕ → StoreValue D → Option History → MakeStage → StoreValue D → Option History → Type 0
AtMake name s mid make_stage.First store history = (store ≡ s) × (history ≡ mid)
AtMake name s mid (make_stage.Naming number) store history = HasMadeNext name number.0 s mid store history

abbrev pub StandsMake : {D : Type 0} → List ℕ → StoreValue D → Option History → Task → StoreValue D → Option History → Type 0
StandsMake name s mid (task.Make t) store history = (t.name ≡ name) × (store.stopped ≡ false) × AtMake name s mid t.stage store history
StandsMake name s mid (task.Ops t) store history = request.Make name ≡ t.request
StandsMake name s mid other store history = ⊥

-- The log of a number that the map doesn't name isn't there, and each other file reads as it did.
pub record LeavesNoLogOf (m : MapMeaning) (old new : Option History) : Type 0 where
  pub number : ℕ
  pub unnamed : IsUnnamed number m
  pub gone : IfTold new (λ now. now (file.Box number 1) ≡ no_file)
  pub others : Between (λ a b. (other : FileName) → other ≢ file.Box number 1 → reading (b other) ≡ reading (a other)) old new

-- The store means what it did when it was opened.
abbrev MeansSo : {D : Type 0} → StoreValue D → StoreValue D → Type 0
MeansSo s store = (store.map ≡ s.map) × (indexes_of store.boxes ≡ indexes_of s.boxes)

abbrev HasOneMore : {D : Type 0} → List ℕ → StoreValue D → StoreValue D → Type 0
HasOneMore name s store = (store.map ≡ with_next_named name s.map) × (indexes_of store.boxes ≡ indexes_of s.boxes ++ box_meaning [] ∷ [])

abbrev pub UnmadeLeaves : {D : Type 0} → StoreValue D → Option History → Option History → Type 0
UnmadeLeaves s mid history = IsIdle mid history ⊎ LeavesNoLogOf s.map mid history

-- The reply to a make is by what the store had that was opened, whose disk a refusal by a check leaves as it was; whose logs mean the
-- same out of memory, and have the mailbox more where it is done; and whose files no log is added to, where it isn't done.
pub record IsMakeTold {D : Type 0} (name : List ℕ) (s : StoreValue D) (mid : Option History) (given : Reply) (store : StoreValue D) (history : Option History) : Type 0 where
  pub given_is : IsChangeAnswer (making_refusal name s) given
  pub unchanged : (why : Refusal) → given ≡ reply.Refused why → (why ≡ refusal.Stopped → ⊥) → (why ≡ refusal.NoMemory → ⊥) → IsIdle mid history
  pub memory : given ≡ reply.Refused refusal.NoMemory → MeansSo s store
  pub more : given ≡ reply.Done → HasOneMore name s store
  pub leaves : (why : Refusal) → given ≡ reply.Refused why → (why ≡ refusal.Stopped → ⊥) → UnmadeLeaves s mid history

-- ---- the log that was made

-- what refuses none at the first event refuses none at the second
none_before : (a b : Option Refusal) → option_or a b ≡ None → a ≡ None
none_before None b e = refl
none_before (Some why) b e = absurd (let k : Some why ≡ None = e in cc k)

naming_in : List ℕ → MapMeaning → List BoxMeaning → Option Refusal
naming_in name m ms = option_or (refused_where (is_some (meaning_named name m.boxes ms)) refusal.Exists) (refused_where (nat_le 1024 (length m.boxes)) (refusal.TooManyMailboxes 1024))

still_free : {D : Type 0} → (name : List ℕ) (number : ℕ) (s store : StoreValue D) (mid history : Option History) → HasMadeNext name number s mid store history → naming_refusal name store ≡ None
unfolding naming_in
still_free name number s store mid history k =
    ap (λ (m : MapMeaning). naming_in name m (indexes_of store.boxes)) k.map_is
    ∙ (ap (naming_in name s.map) k.indexes ∙ none_before (naming_refusal name s) (refused_where (nat_le 4294967294 s.drawn.mailbox) (refusal.StoreFull 4294967294)) k.free)

not_overtaken : {D : Type 0} → (name : List ℕ) (number : ℕ) (s store : StoreValue D) (mid history : Option History) → HasMadeNext name number s mid store history → number ≤ store.map.highest.mailbox → ⊥
not_overtaken name number s store mid history k l =
    let highest : store.map.highest.mailbox ≡ s.map.highest.mailbox = ap (λ (m : MapMeaning). m.highest.mailbox) k.map_is in
    let is = k.number_is in
    omega (arith, highest, is, l)

made_next : {D : Type 0} → (name : List ℕ) (number : BoxNo) (s old new : StoreValue D) (mid before after : Option History) → s.drawn ≡ s.map.highest → old ≡ s → before ≡ mid → making_refusal name old ≡ None → MakesLog number.0 old new → NamedButFor (file.Box number.0 1) before after → HasMadeNext name number.0 s mid new after
made_next name number s old new mid before after drawn same was free log others =
    let map_is : new.map ≡ s.map = ap (λ (v : StoreValue _). v.map) log.same ∙ ap (λ (v : StoreValue _). v.map) same in
    record {
      free = subst (λ (v : StoreValue _). making_refusal name v ≡ None) same free;
      number_is = log.next ∙ (ap (λ (v : StoreValue _). v.drawn.mailbox + 1) same ∙ ap (λ (h : Highest). h.mailbox + 1) drawn);
      unnamed = subst (λ (m : MapMeaning). IsUnnamed number.0 m) map_is log.unnamed;
      map_is = map_is;
      indexes = ap (λ (v : StoreValue _). indexes_of v.boxes) log.same ∙ ap (λ (v : StoreValue _). indexes_of v.boxes) same;
      others = subst (λ (h : Option History). NamedButFor (file.Box number.0 1) h after) was others;
    }

read_others : (name : FileName) (a b c : Option History) → NamedButFor name a b → NamedButFor name b c → Between (λ f g. (other : FileName) → other ≢ name → reading (g other) ≡ reading (f other)) a c
read_others name None b c e k = subst (λ (h : Option History). NamedButFor name h c) e k
read_others name (Some a) None c e k = absurd e
read_others name (Some a) (Some b) None e k = absurd k
read_others name (Some a) (Some b) (Some c) e k = λ other apart. ap reading (k other apart) ∙ (named_reads (b.now other) ∙ (ap reading (e other apart) ∙ named_reads (a.now other)))

-- ---- the replies

refused_make : {D : Type 0} → (name : List ℕ) (s : StoreValue D) (mid : Option History) (why : Refusal) (store : StoreValue D) (history : Option History) → IsChangeAnswer (making_refusal name s) (reply.Refused why) → ((why ≡ refusal.Stopped → ⊥) → (why ≡ refusal.NoMemory → ⊥) → IsIdle mid history) → (why ≡ refusal.NoMemory → MeansSo s store)
    → ((why ≡ refusal.Stopped → ⊥) → UnmadeLeaves s mid history) → IsMakeTold name s mid (reply.Refused why) store history
refused_make name s mid why store history is same means leaves = record {
  given_is = is;
  unchanged = λ other e running memory. same (λ f. running (sym (one_refusal why other e) ∙ f)) (λ f. memory (sym (one_refusal why other e) ∙ f));
  memory = λ e. means (one_refusal why refusal.NoMemory e);
  more = λ e. absurd (cc e);
  leaves = λ other e running. leaves (λ f. running (sym (one_refusal why other e) ∙ f));
}

-- the first event made no log
first_make : {D : Type 0} → (name : List ℕ) (s : StoreValue D) (mid : Option History) (e : NotDone) (new : StoreValue D) (after : Option History) → IsLogNotMade name e s new → (new.disk ≡ s.disk → IsIdle mid after) → IsMakeTold name s mid (reply.Refused (refusal_told e)) new after
first_make name s mid (not_done.Refused cause) new after a same =
    let idle = same (ap (λ (v : StoreValue _). v.disk) a.0) in
    refused_make name s mid cause new after (missing_answers (making_refusal name s) cause a.1) (λ running memory. idle) (λ memory. (ap (λ (v : StoreValue _). v.map) a.0, ap (λ (v : StoreValue _). indexes_of v.boxes) a.0)) (λ running. inl idle)
first_make name s mid not_done.NoMemory new after a same =
    let idle = same (ap (λ (v : StoreValue _). v.disk) a.0) in
    refused_make name s mid refusal.NoMemory new after (there_answers (making_refusal name s) (reply.Refused refusal.NoMemory) a.1 (inr (inl refl))) (λ running memory. idle) (λ memory. (ap (λ (v : StoreValue _). v.map) a.0, ap (λ (v : StoreValue _). indexes_of v.boxes) a.0)) (λ running. inl idle)
first_make name s mid not_done.Stopped new after a same =
    refused_make name s mid refusal.Stopped new after (there_answers (making_refusal name s) (reply.Refused refusal.Stopped) a.1 (inr (inr refl))) (λ running. absurd (running refl)) (λ memory. absurd (cc memory)) (λ running. absurd (running refl))

-- the second removed it
removed_make : {D : Type 0} → (name : List ℕ) (number : ℕ) (s old new : StoreValue D) (mid before after : Option History) → HasMadeNext name number s mid old before → RemovesLog number old new before after → IsMakeTold name s mid (reply.Refused refusal.NoMemory) new after
removed_make name number s old new mid before after k gone =
    refused_make name s mid refusal.NoMemory new after (there_answers (making_refusal name s) (reply.Refused refusal.NoMemory) k.free (inr (inl refl))) (λ running memory. absurd (memory refl))
    (λ memory. (ap (λ (v : StoreValue _). v.map) gone.same ∙ k.map_is, ap (λ (v : StoreValue _). indexes_of v.boxes) gone.same ∙ k.indexes))
    (λ running. inr (record { number = number; unnamed = k.unnamed; gone = gone.gone; others = read_others (file.Box number 1) mid before after k.others gone.others }))

-- a change of the disk failed
stopped_make : {D : Type 0} → (name : List ℕ) (number : ℕ) (s old new : StoreValue D) (mid before after : Option History) → HasMadeNext name number s mid old before → IsMakeTold name s mid (reply.Refused refusal.Stopped) new after
stopped_make name number s old new mid before after k =
    refused_make name s mid refusal.Stopped new after (there_answers (making_refusal name s) (reply.Refused refusal.Stopped) k.free (inr (inr refl))) (λ running. absurd (running refl)) (λ memory. absurd (cc memory)) (λ running. absurd (running refl))

-- the map names it
named_make : {D : Type 0} → (name : List ℕ) (number : BoxNo) (s old new : StoreValue D) (mid before after : Option History) → HasMadeNext name number.0 s mid old before → NamesLog number name old new → IsMakeTold name s mid reply.Done new after
named_make name number s old new mid before after k named = record {
  given_is = there_answers (making_refusal name s) reply.Done k.free (inl refl);
  unchanged = λ why e. absurd (cc e);
  memory = λ e. absurd (cc e);
  more = λ e. (
    named.map ∙ (ap (map_applied (map_entry.B number 1 name)) k.map_is ∙ ap (λ (n : ℕ). map_applied (map_entry.B (record { 0 = n }) 1 name) s.map) k.number_is),
    named.indexes ∙ ap (λ (ms : List BoxMeaning). ms ++ box_meaning [] ∷ []) k.indexes,
  );
  leaves = λ why e. absurd (cc e);
}

-- ---- event after event

abbrev MakeOn : {D : Type 0} → Type 0 → List ℕ → StoreValue D → Option History → StoreValue D → Option History → Option Reply → Type 0
MakeOn Stands name s mid new after ended = (ended ≡ None → Stands) × ((given : Reply) → ended ≡ Some given → IsMakeTold name s mid given new after)

goes_make : {D : Type 0} → (Stands : Type 0) (name : List ℕ) (s : StoreValue D) (mid : Option History) (new : StoreValue D) (after : Option History) → Stands → MakeOn Stands name s mid new after None
goes_make Stands name s mid new after at = (λ more. at, λ given e. absurd (let k : None ≡ Some given = e in cc k))

ends_make : {D : Type 0} → (Stands : Type 0) (name : List ℕ) (s : StoreValue D) (mid : Option History) (new : StoreValue D) (after : Option History) (one : Reply) → IsMakeTold name s mid one new after → MakeOn Stands name s mid new after (Some one)
ends_make Stands name s mid new after one told = (λ more. absurd (let k : Some one ≡ None = more in cc k), λ given e. subst (λ (r : Reply). IsMakeTold name s mid r new after) (some_reply one given e) told)

no_refusal : (o : Option Refusal) (why : Refusal) → o ≡ None → o ≡ Some why → ⊥
no_refusal o why none some = let k : None ≡ Some why = sym none ∙ some in cc k

make_at : {D : Type 0} → (name : List ℕ) (s : StoreValue D) (mid : Option History) (now next : MakeStage) (old new : StoreValue D) (before after : Option History) (ended : Option Reply) → s.drawn ≡ s.map.highest → AtMake name s mid now old before → MakeAnswers name now old new before after next (progress_by ended) → (new.disk ≡ old.disk → IsIdle before after)
    → MakeOn (AtMake name s mid next new after) name s mid new after ended
make_at name s mid make_stage.First (make_stage.Naming number) old new before after None drawn at a same = goes_make _ name s mid new after (made_next name number s old new mid before after drawn at.0 at.1 a.0 a.1 a.2)
make_at name s mid make_stage.First make_stage.First old new before after (Some (reply.Refused why)) drawn at a same =
    ends_make _ name s mid new after (reply.Refused why)
    (subst (λ (w : Refusal). IsMakeTold name s mid (reply.Refused w) new after) (sym a.1)
    (first_make name s mid a.0 new after (subst (λ (v : StoreValue _). IsLogNotMade name a.0 v new) at.0 a.2) (λ back. subst (λ (h : Option History). IsIdle h after) at.1 (same (back ∙ ap (λ (v : StoreValue _). v.disk) (sym at.0))))))
make_at name s mid (make_stage.Naming number) make_stage.First old new before after (Some reply.Done) drawn at a same = ends_make _ name s mid new after reply.Done (named_make name number s old new mid before after at a.2)
make_at name s mid (make_stage.Naming number) make_stage.First old new before after None drawn at a same = absurd (not_overtaken name number.0 s old mid before at a.1)
make_at name s mid (make_stage.Naming number) make_stage.First old new before after (Some (reply.Refused why)) drawn at a same = elim a.1 [
  | inl some ↦ absurd (no_refusal (naming_refusal name old) why (still_free name number.0 s old mid before at) some)
  | inr memory ↦ ends_make _ name s mid new after (reply.Refused why) (subst (λ (w : Refusal). IsMakeTold name s mid (reply.Refused w) new after) (sym memory.2) (removed_make name number.0 s old new mid before after at a.0))
]
make_at name s mid (make_stage.Naming number) (make_stage.Naming still) old new before after (Some (reply.Refused why)) drawn at a same =
    ends_make _ name s mid new after (reply.Refused why) (subst (λ (w : Refusal). IsMakeTold name s mid (reply.Refused w) new after) (sym a.1) (stopped_make name number.0 s old new mid before after at))
make_at name s mid now next old new before after ended drawn at a same = absurd a

make_on : {D : Type 0} → (name : List ℕ) (s : StoreValue D) (mid : Option History) (t next : Task) (old new : StoreValue D) (before after : Option History) (ended : Option Reply) → s.drawn ≡ s.map.highest → StandsMake name s mid t old before → StaysOfRequest t next → TellsStore t next old new before after ended → (new.disk ≡ old.disk → IsIdle before after) → (ended ≡ None → new.stopped ≡ false)
    → MakeOn (StandsMake name s mid next new after) name s mid new after ended
make_on name s mid (task.Make t) (task.Make next) old new before after ended drawn is kind tells same runs =
    let a = subst (λ (n : List ℕ). MakeAnswers n t.stage old new before after next.stage (progress_by ended)) is.0 (tells is.1) in
    let k = make_at name s mid t.stage next.stage old new before after ended drawn is.2 a same in
    (λ more. (kind ∙ is.0, runs more, k.0 more), k.1)
make_on name s mid (task.Ops t) next old new before after ended drawn is kind tells same runs = absurd (subst IsOpsRequest (sym is) (ops_asked t.request old new tells.0 tells.2))
make_on name s mid (task.Make t) next old new before after ended drawn is kind tells same runs = absurd kind
make_on name s mid t next old new before after ended drawn is kind tells same runs = absurd is

pub keeps_make : {D : Type 0} → (name : List ℕ) (s : StoreValue D) (mid : Option History) → s.drawn ≡ s.map.highest → KeepsAlone (StandsMake name s mid) (IsMakeTold name s mid)
keeps_make name s mid drawn queued next event old new before after first second is goes =
    make_on name s mid queued.task next old new before after (ended_by event.ended) drawn is goes.keeps.request goes.keeps.tells goes.keeps.same
    (λ more. not_true new.stopped (λ stopped. let k : None ≡ Some (reply.Refused refusal.Stopped) = sym more ∙ ap ended_by (goes.stopped stopped) in cc k))

pub begun_make : {D : Type 0} → (name : List ℕ) (s : StoreValue D) (mid : Option History) → s.stopped ≡ false → (t : Task) → BeginsTask (request.Make name) t → StandsMake name s mid t s mid
begun_make name s mid running (task.Make t) b =
    let k : request.Make name ≡ request.Make t.name = b.is_of in
    let names : name ≡ t.name = cc k in
    (sym names, running, subst (λ (now : MakeStage). AtMake name s mid now s mid) (sym b.at) (refl, refl))
begun_make name s mid running (task.Ops t) b = b.is_of
begun_make name s mid running (task.Deliver t) b = absurd b.is_of
begun_make name s mid running t b = absurd (cc b.is_of)

-- ---- behind the opening

-- the cause by the logs: no number is drawn beside those that the map's log names
pub making_cause : {D : Type 0} → (name : List ℕ) (s : StoreValue D) (given : Reply) → s.drawn ≡ s.map.highest → IsChangeAnswer (making_refusal name s) given → IsChangeAnswer (unmade_cause (list_named s name) s.map) given
making_cause name s given drawn is = subst (λ (h : Highest). IsChangeAnswer (option_or (naming_refusal name s) (refused_where (nat_le 4294967294 h.mailbox) (refusal.StoreFull 4294967294))) given) drawn is

-- a log that the map doesn't name isn't one that the store needs
unwanted : (number : ℕ) (m : MapMeaning) → IsUnnamed number m → has_box m number 1 ≡ true → ⊥
unwanted number m unnamed there =
    let apart = All-weaker (λ (b : MapBox). b.number ≢ number) (λ (b : MapBox). ((b.number == number) && (b.generation == 1)) ≡ false) (λ b no. ap (λ (t : Bool). t && (b.generation == 1)) (ne_eqb b.number number no)) m.boxes unnamed in
    let none : has_box m number 1 ≡ false = list_any_none (λ (b : MapBox). (b.number == number) && (b.generation == 1)) m.boxes apart in
    let k : false ≡ true = sym none ∙ there in
    cc k

-- so the opening leaves none, and it reads as what is left of it
gone_alike : (f g : FileState) → (IsThere f → ⊥) → g ≡ no_file → reading g ≡ reading f
gone_alike f g gone is = elim (cases_Bool f.is_there) [
  | inl there ↦ absurd (gone there)
  | inr none ↦ ap reading is ∙ sym (cond-false f.is_there (Some f.octets) None none)
]

unlogged_alike : (generation : ℕ) (m : MapMeaning) (old mid new : Option History) → IsSwept generation m old mid → LeavesNoLogOf m mid new → ReadAlike mid new
unlogged_alike generation m old None new swept left = left.others
unlogged_alike generation m old (Some h) None swept left = absurd left.others
unlogged_alike generation m old (Some h) (Some k) swept left = λ name. elim (cases_Bool (same_name name (file.Box left.number 1))) [
  | inl own ↦ subst (λ (n : FileName). reading (k.now n) ≡ reading (h.now n)) (sym (same_name-true name (file.Box left.number 1) own))
      (gone_alike (h.now (file.Box left.number 1)) (k.now (file.Box left.number 1)) (λ there. unwanted left.number m left.unnamed (swept.only (file.Box left.number 1) there)) left.gone)
  | inr apart ↦ left.others name (λ e. let f : true ≡ false = sym (same_name-eq name (file.Box left.number 1) e) ∙ apart in cc f)
]

idle_alike : (mid new : Option History) → IsIdle mid new → ReadAlike mid new
idle_alike None new idle = idle.same
idle_alike (Some h) None idle = absurd idle.same
idle_alike (Some h) (Some k) idle = λ name. ap (λ (d : DiskState). reading (d name)) idle.same

pub unmade_alike : {D : Type 0} → (generation : ℕ) (s : StoreValue D) (old mid new : Option History) → IsSwept generation s.map old mid → UnmadeLeaves s mid new → ReadAlike mid new
unmade_alike generation s old mid new swept (inl idle) = idle_alike mid new idle
unmade_alike generation s old mid new swept (inr left) = unlogged_alike generation s.map old mid new swept left
