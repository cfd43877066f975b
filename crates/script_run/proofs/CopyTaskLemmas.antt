-- A copy alone, and what a move begins with: why it isn't made, and what its task knows from one event to the next.
use Rattle.std.specs.Prelude.{◌≡◌, ◌⊎◌, ◌∷◌, ◌+◌, ◌-◌, ◌==◌, ℕ, nat_le, Bool, true, false, List, [], find, map, is_some, if◌then◌else◌, Option, Some, None}
use Rattle.std.specs.Option.{option_map, option_map_or, option_or}
use Rattle.std.specs.Str.{bytes_eq}
use Rattle.std.proofs.Common.{refl, sym, ◌∙◌, ap, subst, inl, inr, arith}
use Rattle.disk_model.specs.Disk.{History, IsIdle}
use Rattle.mdbox_base.specs.declared.ids.MapUid.{MapUid}
use Rattle.mdbox_base.specs.declared.ids.Uid.{Uid}
use Rattle.mdbox_base.specs.declared.entries.MapEntry.{MapEntry}
use Rattle.mdbox_base.specs.declared.replies.Refusal.{Refusal}
use Rattle.mdbox_base.specs.declared.replies.Refusal.TheVariants as refusal
use Rattle.mdbox_base.specs.declared.replies.Reply.{Reply}
use Rattle.mdbox_base.specs.declared.replies.Reply.TheVariants as reply
use Rattle.mdbox_base.specs.declared.requests.Request.TheVariants as request
use Rattle.model_meaning.specs.BoxMeaning.{LogRow, BoxMeaning, row_at}
use Rattle.model_meaning.specs.MapMeaning.{MapRecord, MapBox, MapMeaning, record_changed, count_of}
use Rattle.model_meaning.proofs.AppliedLemmas.{records_by_raised, records_by_lowered}
use Rattle.model_store.specs.Listing.{meaning_named}
use Rattle.list_machine.specs.Machine.{refused_where, is_step}
use Rattle.journal.specs.Journal.{is_read_fault}
use Rattle.task_steps.specs.Step.{ended_by}
use Rattle.task_steps.proofs.OneEventLemmas.{not_true}
use Rattle.store_core.specs.Value.{StoreValue, indexes_of, list_named}
use Rattle.task_claims.specs.Leaving.{number_named}
use Rattle.mail_ops.specs.Appends.{TakesIntoMap, lowering_of}
use Rattle.mail_ops.specs.Copy.{CopyAnswers}
use Rattle.mail_ops.specs.Copying.{CopyPlace, copy_refusal, room_refusal, raising_of, IsNamedElsewhere, IsRaiseRefusal, MayBeRaised}
use Rattle.mail_ops.specs.Requests.{IsOpsRequest}
use Rattle.mail_ops.specs.declared.copy.CopyStage.{CopyStage}
use Rattle.mail_ops.specs.declared.copy.CopyStage.TheVariants as copy_stage
use Rattle.mail_ops.proofs.CopyFirstLemmas.{no_room, place_free, too_many, few_copies}
use Rattle.lane_tasks.specs.Clause.{StaysOfRequest, TellsStore, progress_by}
use Rattle.lane_tasks.specs.Tasks.{BeginsTask}
use Rattle.lane_tasks.specs.declared.task.Task.{Task}
use Rattle.lane_tasks.specs.declared.task.Task.TheVariants as task
use Rattle.lane_tasks.proofs.StepLemmas.{ops_asked}
use Rattle.script_run.specs.One.{IsCopiedAs, IsCopyAnswer, MeansAlike, uncopied_cause}
use Rattle.script_run.proofs.OneTaskLemmas.{KeepsAlone, one_refusal, some_reply}

-- ---- why it isn't copied

abbrev pub CauseIn : {D : Type 0} → List ℕ → ℕ → List ℕ → StoreValue D → Option Refusal
CauseIn name uid target s = uncopied_cause (list_named s name) (list_named s target) s.map uid

place_cause : {D : Type 0} → (name : List ℕ) (uid : ℕ) (target : List ℕ) (s : StoreValue D) (why : Refusal) → copy_refusal name uid target s ≡ Some why → CauseIn name uid target s ≡ Some why
place_cause name uid target s why e = by_source (list_named s name) e
  where
    by_row : (to : BoxMeaning) (o : Option LogRow) → (if is_some o then room_refusal to else Some refusal.NoMessage) ≡ Some why
        → option_map_or (λ row. option_or (room_refusal to) (refused_where (nat_le 65535 (count_of s.map row.guid)) (refusal.TooManyCopies 65535))) o (Some refusal.NoMessage) ≡ Some why
    by_row to None k = k
    by_row to (Some row) k = ap (λ (r : Option Refusal). option_or r (refused_where (nat_le 65535 (count_of s.map row.guid)) (refusal.TooManyCopies 65535))) k

    by_target : (from : BoxMeaning) (o : Option BoxMeaning) → option_map_or (λ to. if is_some (row_at from uid) then room_refusal to else Some refusal.NoMessage) o (Some refusal.NoMailbox) ≡ Some why → uncopied_cause (Some from) o s.map uid ≡ Some why
    by_target from None k = k
    by_target from (Some to) k = by_row to (row_at from uid) k

    by_source : (o : Option BoxMeaning) → option_map_or (λ from. option_map_or (λ to. if is_some (row_at from uid) then room_refusal to else Some refusal.NoMessage) (list_named s target) (Some refusal.NoMailbox)) o (Some refusal.NoMailbox) ≡ Some why → uncopied_cause o (list_named s target) s.map uid ≡ Some why
    by_source None k = k
    by_source (Some from) k = by_target from (list_named s target) k

-- of a message that has a place
placed_cause : {D : Type 0} → (name : List ℕ) (uid : ℕ) (target : List ℕ) (s : StoreValue D) (row : LogRow) (number next : ℕ) (many : Bool) → CopyPlace name uid target s row number next → nat_le 65535 (count_of s.map row.guid) ≡ many → CauseIn name uid target s ≡ refused_where many (refusal.TooManyCopies 65535)
placed_cause name uid target s row number next many at test =
    ap (λ (o : Option BoxMeaning). uncopied_cause o (list_named s target) s.map uid) at.from.box.named
    ∙ (ap (λ (o : Option BoxMeaning). uncopied_cause (Some at.from.m) o s.map uid) at.to.named
    ∙ (ap (λ (o : Option LogRow). option_map_or (λ r. option_or (room_refusal at.m) (refused_where (nat_le 65535 (count_of s.map r.guid)) (refusal.TooManyCopies 65535))) o (Some refusal.NoMessage)) at.from.listed
    ∙ (ap (λ (r : Option Refusal). option_or r (refused_where (nat_le 65535 (count_of s.map row.guid)) (refusal.TooManyCopies 65535))) (no_room at.m next at.next_is at.few at.some)
    ∙ ap (λ (b : Bool). refused_where b (refusal.TooManyCopies 65535)) test)))

pub raise_cause : {D : Type 0} → (name : List ℕ) (uid : ℕ) (target : List ℕ) (s : StoreValue D) (why : Refusal) → IsRaiseRefusal name uid target s why → CauseIn name uid target s ≡ Some why
raise_cause name uid target s why (inl e) = place_cause name uid target s why e
raise_cause name uid target s why (inr many) = placed_cause name uid target s many.0.row many.0.number many.0.next true many.0.at (too_many (count_of s.map many.0.row.guid) many.0.many) ∙ ap Some (sym many.1)

pub may_cause : {D : Type 0} → (name : List ℕ) (uid : ℕ) (target : List ℕ) (s : StoreValue D) → MayBeRaised name uid target s → CauseIn name uid target s ≡ None
may_cause name uid target s may = placed_cause name uid target s may.row may.number may.next false may.at (few_copies (count_of s.map may.row.guid) may.few)

-- ---- replies

pub memory_runs : refusal.NoMemory ≡ refusal.Stopped → ⊥
memory_runs e = cc e

pub step_calm : (why : Refusal) → is_step why ≡ true → is_read_fault (Some (reply.Refused why)) ≡ false
step_calm refusal.ReadFault e = absurd (let k : false ≡ true = e in cc k)
step_calm other e = refl

abbrev pub AnswerIn : {D : Type 0} → List ℕ → ℕ → List ℕ → StoreValue D → Reply → Type 0
AnswerIn name uid target s given = IsCopyAnswer (CauseIn name uid target s) (list_named s target) given

pub may_answers : {D : Type 0} → (name : List ℕ) (uid : ℕ) (target : List ℕ) (s : StoreValue D) (given : Reply) → MayBeRaised name uid target s → IsCopiedAs (list_named s target) given ⊎ ((given ≡ reply.Refused refusal.NoMemory) ⊎ (given ≡ reply.Refused refusal.Stopped)) → AnswerIn name uid target s given
may_answers name uid target s given may is = subst (λ (o : Option Refusal). IsCopyAnswer o (list_named s target) given) (sym (may_cause name uid target s may)) is

pub raise_answers : {D : Type 0} → (name : List ℕ) (uid : ℕ) (target : List ℕ) (s : StoreValue D) (why : Refusal) → IsRaiseRefusal name uid target s why → AnswerIn name uid target s (reply.Refused why)
raise_answers name uid target s why e = subst (λ (o : Option Refusal). IsCopyAnswer o (list_named s target) (reply.Refused why)) (sym (raise_cause name uid target s why e)) refl

-- ---- counts

raised_other : (held : MapUid) (row : MapRecord) → (held.0 == row.uid) ≡ false → record_changed (raising_of held) row ≡ row
raised_other held row t = rw t refl

lowered_other : (held : MapUid) (row : MapRecord) → (held.0 == row.uid) ≡ false → record_changed (lowering_of held) row ≡ row
lowered_other held row t = rw t refl

raised_it : (held : MapUid) (row : MapRecord) → (held.0 == row.uid) ≡ true → record_changed (raising_of held) row ≡ record row { count = row.count + 1 }
raised_it held row t = rw t refl

lowered_it : (held : MapUid) (row : MapRecord) → (held.0 == row.uid) ≡ true → record_changed (lowering_of held) row ≡ record row { count = row.count - 1 }
lowered_it held row t = rw t refl

-- a count that was raised and given back
back_one : (held : MapUid) (row : MapRecord) → record_changed (lowering_of held) (record_changed (raising_of held) row) ≡ row
back_one held row = by_test (held.0 == row.uid) refl
  where
    more : MapRecord
    more = record row { count = row.count + 1 }

    same : row.count + 1 - 1 ≡ row.count
    same = omega arith

    by_test : (b : Bool) → (held.0 == row.uid) ≡ b → record_changed (lowering_of held) (record_changed (raising_of held) row) ≡ row
    by_test true t = ap (record_changed (lowering_of held)) (raised_it held row t) ∙ (lowered_it held more t ∙ ap (λ (n : ℕ). let r : MapRecord = record row { count = n } in r) same)
    by_test false t = ap (record_changed (lowering_of held)) (raised_other held row t) ∙ lowered_other held row t

back_all : (held : MapUid) (rows : List MapRecord) → map (record_changed (lowering_of held)) (map (record_changed (raising_of held)) rows) ≡ rows
back_all held [] = refl
back_all held (row ∷ rows) = ap (λ (r : MapRecord). r ∷ map (record_changed (lowering_of held)) (map (record_changed (raising_of held)) rows)) (back_one held row) ∙ ap (λ (rs : List MapRecord). row ∷ rs) (back_all held rows)

-- the listings and counts of a store are those of the other
abbrev pub IsAlikeStore : {D : Type 0} → StoreValue D → StoreValue D → Type 0
IsAlikeStore s t = MeansAlike s.map (indexes_of s.boxes) t.map (indexes_of t.boxes)

pub given_back : {D : Type 0} → (held : MapUid) (first s t : StoreValue D) → TakesIntoMap (raising_of held) first s → TakesIntoMap (lowering_of held) s t → IsAlikeStore first t
given_back held first s t up down = record {
  indexes = down.indexes ∙ up.indexes;
  mailboxes = down.mailboxes ∙ up.mailboxes;
  records =
      ap (λ (m : MapMeaning). m.records) down.taken
      ∙ (records_by_lowered (held ∷ []) s.map.records
      ∙ (ap (λ (rs : List MapRecord). map (record_changed (lowering_of held)) rs) (ap (λ (m : MapMeaning). m.records) up.taken ∙ records_by_raised held first.map.records)
      ∙ back_all held first.map.records));
}

-- ---- a count that was raised

-- the count was raised, and nothing else has happened
pub record HoldsRaised {D : Type 0} (name : List ℕ) (uid : ℕ) (target : List ℕ) (held : MapUid) (first s : StoreValue D) : Type 0 where
  pub may : MayBeRaised name uid target first
  pub raised : TakesIntoMap (raising_of held) first s

pub named_kept : {D : Type 0} → (name : List ℕ) (entry : MapEntry) (first s : StoreValue D) → TakesIntoMap entry first s → list_named s name ≡ list_named first name
named_kept name entry first s took = ap (λ (bs : List MapBox). meaning_named name bs (indexes_of s.boxes)) took.mailboxes ∙ ap (meaning_named name first.map.boxes) took.indexes

-- the count of a message was raised, of the mailbox with this number, which has the name
abbrev pub HoldsFrom : {D : Type 0} → List ℕ → ℕ → List ℕ → MapUid → ℕ → StoreValue D → StoreValue D → Type 0
HoldsFrom name uid target held source first s = HoldsRaised name uid target held first s × (number_named first.map name ≡ Some source)

-- no other mailbox gets the name
pub still_named : {D : Type 0} → (name : List ℕ) (uid : ℕ) (target : List ℕ) (held : MapUid) (source : ℕ) (first s : StoreValue D) → HoldsFrom name uid target held source first s → IsNamedElsewhere name uid target source s → ⊥
still_named name uid target held source first s k elsewhere =
    let stays : number_named s.map name ≡ number_named first.map name = ap (λ (boxes : List MapBox). option_map (λ (box : MapBox). box.number) (find (λ (box : MapBox). bytes_eq box.name name) boxes)) k.0.raised.mailboxes in
    let e : Some elsewhere.other ≡ Some source = sym elsewhere.named ∙ (stays ∙ k.1) in
    elsewhere.differs (cc e)

-- so the second event finds the same place
still_free : {D : Type 0} → (name : List ℕ) (uid : ℕ) (target : List ℕ) (held : MapUid) (first s : StoreValue D) → HoldsRaised name uid target held first s → copy_refusal name uid target s ≡ None
still_free name uid target held first s k =
    ap (λ (o : Option BoxMeaning). option_map_or (λ from. option_map_or (λ to. if is_some (row_at from uid) then room_refusal to else Some refusal.NoMessage) (list_named s target) (Some refusal.NoMailbox)) o (Some refusal.NoMailbox)) (named_kept name (raising_of held) first s k.raised)
    ∙ (ap (λ (o : Option BoxMeaning). option_map_or (λ from. option_map_or (λ to. if is_some (row_at from uid) then room_refusal to else Some refusal.NoMessage) o (Some refusal.NoMailbox)) (list_named first name) (Some refusal.NoMailbox)) (named_kept target (raising_of held) first s k.raised)
    ∙ place_free name uid target first k.may.row k.may.number k.may.next k.may.at)

pub only_memory : {D : Type 0} → (name : List ℕ) (uid : ℕ) (target : List ℕ) (held : MapUid) (first s : StoreValue D) (why : Refusal) → HoldsRaised name uid target held first s → (copy_refusal name uid target s ≡ Some why) ⊎ (why ≡ refusal.NoMemory) → why ≡ refusal.NoMemory
only_memory name uid target held first s why k (inl e) = absurd (let z : None ≡ Some why = sym (still_free name uid target held first s k) ∙ e in cc z)
only_memory name uid target held first s why k (inr e) = e

pub raised_first : {D : Type 0} → (name : List ℕ) (uid : ℕ) (target : List ℕ) (held : MapUid) (source : ℕ) (first s t : StoreValue D) → s ≡ first → (may : MayBeRaised name uid target s) → TakesIntoMap (raising_of held) s t → may.at.source ≡ source → HoldsFrom name uid target held source first t
raised_first name uid target held source first s t same may took is = (
  record { may = subst (λ (v : StoreValue _). MayBeRaised name uid target v) same may; raised = subst (λ (v : StoreValue _). TakesIntoMap (raising_of held) v t) same took },
  subst (λ (v : StoreValue _). number_named v.map name ≡ Some source) same (may.at.from.box.number_is ∙ ap Some is),
)

-- ---- a copy, event after event

-- the store is as it was, in its listings and counts
pub still_alike : {D : Type 0} → (s t : StoreValue D) → t ≡ s → IsAlikeStore s t
still_alike s t e = subst (λ (v : StoreValue _). IsAlikeStore s v) (sym e) (record { indexes = refl; mailboxes = refl; records = refl })

abbrev AtCopy : {D : Type 0} → List ℕ → Uid → List ℕ → StoreValue D → Option History → CopyStage → StoreValue D → Option History → Type 0
AtCopy name uid target s mid copy_stage.First store history = (store ≡ s) × (history ≡ mid)
AtCopy name uid target s mid (copy_stage.Adding held source) store history = HoldsFrom name uid.0 target held source.0 s store
AtCopy name uid target s mid (copy_stage.BeginningAgain held) store history = ⊥
AtCopy name uid target s mid (copy_stage.GivingBack held why) store history = HoldsRaised name uid.0 target held s store × (why ≡ refusal.NoMemory)

abbrev pub StandsCopy : {D : Type 0} → List ℕ → Uid → List ℕ → StoreValue D → Option History → Task → StoreValue D → Option History → Type 0
StandsCopy name uid target s mid (task.Copy t) store history = (t.name ≡ name) × (t.uid ≡ uid) × (t.target ≡ target) × (store.stopped ≡ false) × AtCopy name uid target s mid t.stage store history
StandsCopy name uid target s mid (task.Ops t) store history = request.Copy name uid target ≡ t.request
StandsCopy name uid target s mid other store history = ⊥

-- The reply to a copy or a move is by what the store had that was opened, whose disk a refusal by a check leaves as it was, and whose
-- listings and counts want of memory does.
pub record IsRaiseTold {D : Type 0} (Answers : Reply → Type 0) (s : StoreValue D) (mid : Option History) (given : Reply) (store : StoreValue D) (history : Option History) : Type 0 where
  pub given_is : Answers given
  pub unchanged : (why : Refusal) → given ≡ reply.Refused why → (why ≡ refusal.Stopped → ⊥) → (why ≡ refusal.NoMemory → ⊥) → IsIdle mid history
  pub alike : given ≡ reply.Refused refusal.NoMemory → IsAlikeStore s store

-- it was stopped
pub stopped_raise : {D : Type 0} → (Answers : Reply → Type 0) (s : StoreValue D) (mid : Option History) (why : Refusal) (store : StoreValue D) (history : Option History) → ((reply.Refused why ≡ reply.Refused refusal.Stopped) → Answers (reply.Refused why)) → why ≡ refusal.Stopped → IsRaiseTold Answers s mid (reply.Refused why) store history
stopped_raise Answers s mid why store history answers is = record {
  given_is = answers (ap reply.Refused is);
  unchanged = λ other e running memory. absurd (running (sym (one_refusal why other e) ∙ is));
  alike = λ e. absurd (memory_runs (sym (one_refusal why refusal.NoMemory e) ∙ is));
}

-- there was no memory
pub short_raise : {D : Type 0} → (Answers : Reply → Type 0) (s : StoreValue D) (mid : Option History) (why : Refusal) (store : StoreValue D) (history : Option History) → ((reply.Refused why ≡ reply.Refused refusal.NoMemory) → Answers (reply.Refused why)) → why ≡ refusal.NoMemory → IsAlikeStore s store → IsRaiseTold Answers s mid (reply.Refused why) store history
short_raise Answers s mid why store history answers is alike = record {
  given_is = answers (ap reply.Refused is);
  unchanged = λ other e running memory. absurd (memory (sym (one_refusal why other e) ∙ is));
  alike = λ e. alike;
}

-- it was done
pub done_raise : {D : Type 0} → (Answers : Reply → Type 0) (s : StoreValue D) (mid : Option History) (given : Reply) (store : StoreValue D) (history : Option History) → Answers given → ((why : Refusal) → given ≡ reply.Refused why → ⊥) → IsRaiseTold Answers s mid given store history
done_raise Answers s mid given store history answers unrefused = record { given_is = answers; unchanged = λ why e. absurd (unrefused why e); alike = λ e. absurd (unrefused refusal.NoMemory e) }

-- the first event of either refused it, or stopped the store, or found no memory
pub first_raise : {D : Type 0} → (Answers : Reply → Type 0) (name : List ℕ) (uid : Uid) (target : List ℕ) (s : StoreValue D) (mid : Option History) (why : Refusal) (new : StoreValue D) (before after : Option History) → (IsRaiseRefusal name uid.0 target s why → Answers (reply.Refused why))
    → (MayBeRaised name uid.0 target s → (reply.Refused why ≡ reply.Refused refusal.NoMemory) ⊎ (reply.Refused why ≡ reply.Refused refusal.Stopped) → Answers (reply.Refused why)) → before ≡ mid → (new ≡ s → IsIdle before after) → CopyAnswers name uid target copy_stage.First s new copy_stage.First (progress_by (Some (reply.Refused why)))
    → IsRaiseTold Answers s mid (reply.Refused why) new after
first_raise Answers name uid target s mid why new before after refuses may was same (inl a) = stopped_raise Answers s mid why new after (λ e. may a.2 (inr e)) a.0
first_raise Answers name uid target s mid why new before after refuses may was same (inr (back, inl e)) = record {
  given_is = refuses e;
  unchanged = λ other q running memory. subst (λ (h : Option History). IsIdle h after) was (same back);
  alike = λ q. still_alike s new back;
}
first_raise Answers name uid target s mid why new before after refuses may was same (inr (back, inr e)) = short_raise Answers s mid why new after (λ q. may e.1 (inl q)) e.0 (still_alike s new back)

pub raise_told_so : {D : Type 0} → (Answers : Reply → Type 0) (s : StoreValue D) (mid : Option History) (one : Reply) (store : StoreValue D) (history : Option History) → IsRaiseTold Answers s mid one store history → (given : Reply) → Some one ≡ Some given → IsRaiseTold Answers s mid given store history
raise_told_so Answers s mid one store history is given e = subst (λ (r : Reply). IsRaiseTold Answers s mid r store history) (some_reply one given e) is

-- an event that goes on, and one that ends it
abbrev pub GoesOrEnds : {D : Type 0} → Type 0 → (Reply → Type 0) → StoreValue D → Option History → StoreValue D → Option History → Option Reply → Type 0
GoesOrEnds Stands Answers s mid new after ended = (ended ≡ None → Stands) × ((given : Reply) → ended ≡ Some given → IsRaiseTold Answers s mid given new after)

pub goes_raise : {D : Type 0} → (Stands : Type 0) (Answers : Reply → Type 0) (s : StoreValue D) (mid : Option History) (new : StoreValue D) (after : Option History) → Stands → GoesOrEnds Stands Answers s mid new after None
goes_raise Stands Answers s mid new after at = (λ more. at, λ given e. absurd (let k : None ≡ Some given = e in cc k))

pub ends_raise : {D : Type 0} → (Stands : Type 0) (Answers : Reply → Type 0) (s : StoreValue D) (mid : Option History) (new : StoreValue D) (after : Option History) (one : Reply) → IsRaiseTold Answers s mid one new after → GoesOrEnds Stands Answers s mid new after (Some one)
ends_raise Stands Answers s mid new after one told = (λ more. absurd (let k : Some one ≡ None = more in cc k), raise_told_so Answers s mid one new after told)

abbrev pub IsCopyTold : {D : Type 0} → List ℕ → Uid → List ℕ → StoreValue D → Option History → Reply → StoreValue D → Option History → Type 0
IsCopyTold name uid target s mid = IsRaiseTold (AnswerIn name uid.0 target s) s mid

copy_at : {D : Type 0} → (name : List ℕ) (uid : Uid) (target : List ℕ) (s : StoreValue D) (mid : Option History) (now next : CopyStage) (old new : StoreValue D) (before after : Option History) (ended : Option Reply) → AtCopy name uid target s mid now old before → CopyAnswers name uid target now old new next (progress_by ended) → (new ≡ old → IsIdle before after)
    → GoesOrEnds (AtCopy name uid target s mid next new after) (AnswerIn name uid.0 target s) s mid new after ended
copy_at name uid target s mid copy_stage.First (copy_stage.Adding held source) old new before after None at a same =
    goes_raise _ (AnswerIn name uid.0 target s) s mid new after (raised_first name uid.0 target held source.0 s old new at.0 (record { row = a.0; number = a.1; next = a.2; at = a.3; few = a.5 }) a.6 a.7)
copy_at name uid target s mid copy_stage.First copy_stage.First old new before after (Some (reply.Refused why)) at a same =
    ends_raise _ (AnswerIn name uid.0 target s) s mid new after (reply.Refused why)
    (first_raise (AnswerIn name uid.0 target s) name uid target s mid why new before after (raise_answers name uid.0 target s why) (λ may is. may_answers name uid.0 target s (reply.Refused why) may (inr is)) at.1 (λ back. same (back ∙ sym at.0))
    (subst (λ (v : StoreValue _). CopyAnswers name uid target copy_stage.First v new copy_stage.First (progress_by (Some (reply.Refused why)))) at.0 a))
copy_at name uid target s mid (copy_stage.Adding held source) copy_stage.First old new before after (Some (reply.Copied given)) at a same =
    ends_raise _ (AnswerIn name uid.0 target s) s mid new after (reply.Copied given)
    (done_raise (AnswerIn name uid.0 target s) s mid (reply.Copied given) new after (may_answers name uid.0 target s (reply.Copied given) at.0.may (inl (a.2.m, given, sym (named_kept target (raising_of held) s old at.0.raised) ∙ a.2.to.named, a.2.next_is, refl)))
    (λ why e. let k : reply.Copied given ≡ reply.Refused why = e in cc k))
copy_at name uid target s mid (copy_stage.Adding held source) (copy_stage.Adding still from) old new before after (Some (reply.Refused why)) at a same =
    ends_raise _ (AnswerIn name uid.0 target s) s mid new after (reply.Refused why) (stopped_raise (AnswerIn name uid.0 target s) s mid why new after (λ e. may_answers name uid.0 target s (reply.Refused why) at.0.may (inr (inr e))) a.1)
copy_at name uid target s mid (copy_stage.Adding held source) (copy_stage.GivingBack still why) old new before after None at a same =
    goes_raise _ (AnswerIn name uid.0 target s) s mid new after
    (subst (λ (v : StoreValue _). HoldsRaised name uid.0 target still s v) (sym a.1) (subst (λ (h : MapUid). HoldsRaised name uid.0 target h s old) (sym a.0) at.0), only_memory name uid.0 target held s old why at.0 a.2)
copy_at name uid target s mid (copy_stage.Adding held source) (copy_stage.BeginningAgain still) old new before after None at a same = absurd (still_named name uid.0 target held source.0 s old at a.2)
copy_at name uid target s mid (copy_stage.BeginningAgain held) next old new before after ended at a same = absurd at
copy_at name uid target s mid (copy_stage.GivingBack held why) copy_stage.First old new before after (Some (reply.Refused given)) at a same =
    ends_raise _ (AnswerIn name uid.0 target s) s mid new after (reply.Refused given)
    (short_raise (AnswerIn name uid.0 target s) s mid given new after (λ e. may_answers name uid.0 target s (reply.Refused given) at.0.may (inr (inl e))) (a.0 ∙ at.1) (given_back held s old new at.0.raised a.1))
copy_at name uid target s mid (copy_stage.GivingBack held why) (copy_stage.GivingBack still cause) old new before after (Some (reply.Refused given)) at a same =
    ends_raise _ (AnswerIn name uid.0 target s) s mid new after (reply.Refused given) (stopped_raise (AnswerIn name uid.0 target s) s mid given new after (λ e. may_answers name uid.0 target s (reply.Refused given) at.0.may (inr (inr e))) a.2)
copy_at name uid target s mid now next old new before after ended at a same = absurd a

copy_on : {D : Type 0} → (name : List ℕ) (uid : Uid) (target : List ℕ) (s : StoreValue D) (mid : Option History) (t next : Task) (old new : StoreValue D) (before after : Option History) (ended : Option Reply) → StandsCopy name uid target s mid t old before → StaysOfRequest t next → TellsStore t next old new before after ended → (new ≡ old → IsIdle before after) → (ended ≡ None → new.stopped ≡ false)
    → (ended ≡ None → StandsCopy name uid target s mid next new after) × ((given : Reply) → ended ≡ Some given → IsCopyTold name uid target s mid given new after)
copy_on name uid target s mid (task.Copy t) (task.Copy next) old new before after ended is kind tells same runs =
    let a = subst (λ (n : List ℕ). CopyAnswers n uid target t.stage old new next.stage (progress_by ended)) is.0 (subst (λ (u : Uid). CopyAnswers t.name u target t.stage old new next.stage (progress_by ended)) is.1
    (subst (λ (n : List ℕ). CopyAnswers t.name t.uid n t.stage old new next.stage (progress_by ended)) is.2 (tells is.3))) in
    let k = copy_at name uid target s mid t.stage next.stage old new before after ended is.4 a same in
    (λ more. (kind.0 ∙ is.0, kind.1 ∙ is.1, kind.2 ∙ is.2, runs more, k.0 more), k.1)
copy_on name uid target s mid (task.Ops t) next old new before after ended is kind tells same runs = absurd (subst IsOpsRequest (sym is) (ops_asked t.request old new tells.0 tells.2))
copy_on name uid target s mid (task.Copy t) next old new before after ended is kind tells same runs = absurd kind
copy_on name uid target s mid t next old new before after ended is kind tells same runs = absurd is

pub keeps_copy : {D : Type 0} → (name : List ℕ) (uid : Uid) (target : List ℕ) (s : StoreValue D) (mid : Option History) → KeepsAlone (StandsCopy name uid target s mid) (IsCopyTold name uid target s mid)
keeps_copy name uid target s mid queued next event old new before after first second is goes =
    copy_on name uid target s mid queued.task next old new before after (ended_by event.ended) is goes.keeps.request goes.keeps.tells (λ back. goes.keeps.same (ap (λ (v : StoreValue _). v.disk) back))
    (λ more. not_true new.stopped (λ stopped. let k : None ≡ Some (reply.Refused refusal.Stopped) = sym more ∙ ap ended_by (goes.stopped stopped) in cc k))

pub begun_copy : {D : Type 0} → (name : List ℕ) (uid : Uid) (target : List ℕ) (s : StoreValue D) (mid : Option History) → s.stopped ≡ false → (t : Task) → BeginsTask (request.Copy name uid target) t → StandsCopy name uid target s mid t s mid
begun_copy name uid target s mid running (task.Copy t) b =
    let k : request.Copy name uid target ≡ request.Copy t.name t.uid t.target = b.is_of in
    let names : name ≡ t.name = cc k in
    let uids : uid ≡ t.uid = cc k in
    let targets : target ≡ t.target = cc k in
    (sym names, sym uids, sym targets, running, subst (λ (now : CopyStage). AtCopy name uid target s mid now s mid) (sym b.at) (refl, refl))
begun_copy name uid target s mid running (task.Ops t) b = b.is_of
begun_copy name uid target s mid running (task.Deliver t) b = absurd b.is_of
begun_copy name uid target s mid running t b = absurd (cc b.is_of)
