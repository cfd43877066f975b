-- What the events of a script keep, one after another, whatever run they are of.
use Rattle.std.specs.Prelude.{◌≢◌, ◌⊎◌, slice_get, slice_set}
use Rattle.std.proofs.Common.{◌≡◌, ◌≤◌, ◌-◌, ℕ, true, false, List, [], ◌∷◌, All, Option, Some, None, refl, sym, ◌∙◌, ap, subst, arith, inl, inr}
use Rattle.std.proofs.lemmas.Bool.{cases_Bool, cond-true, cond-false}
use Rattle.std.proofs.lemmas.List.Elements.{All-cons, All-head, All-tail}
use Rattle.disk_model.specs.Disk.{Faults, FileState, Grows, History, IsIdle, named, no_file}
use Rattle.disk_model.specs.declared.name.FileName.TheVariants as file
use Rattle.disk_model.proofs.IdleLemmas.{idle-then}
use Rattle.mdbox_base.specs.declared.replies.Refusal.TheVariants as refusal
use Rattle.mdbox_base.specs.declared.replies.Reply.{Reply}
use Rattle.mdbox_base.specs.declared.replies.Reply.TheVariants as reply
use Rattle.model_kept.specs.Kept.{MailIsKept}
use Rattle.model_kept.proofs.KeptLemmas.{kept_then}
use Rattle.model_meaning.specs.MapMeaning.{MapMeaning}
use Rattle.journal.specs.Journal.{HasReply}
use Rattle.serving.specs.Lanes.{replies_behind}
use Rattle.serving.proofs.LaneLemmas.{get_set_other, get_set_same, nat_cases, one_some}
use Rattle.store_core.specs.Value.{StoreValue}
use Rattle.task_claims.specs.Leaving.{IsSameOrSynced, SyncsMail}
use Rattle.task_steps.specs.Step.{ended_by}
use Rattle.lane_tasks.specs.Clause.{AnswersReads, DoomsNone, DoomsNothing, OnlyReads, ReadsNoOctets, SetsNothing, StaysOfRequest, TaskKeeps, WritesTask}
use Rattle.lane_tasks.specs.declared.task.Task.{Task}
use Rattle.lane_tasks.specs.declared.task.Task.TheVariants as task
use Rattle.lane_tasks.proofs.StepLemmas.{ran_before}
use Rattle.lanes.specs.Rows.{LaneRow, after_event, next_in_turn}
use Rattle.lanes.specs.Turned.{GoesOnInOrder}
use Rattle.lanes.specs.Worlds.{IsLaneEvent, WorldValue, queued_in}
use Rattle.lanes.specs.declared.lane.Queued.{Queued}

-- ---- a fact that each event keeps

-- A fact of a world and its disk stays over an event.
abbrev pub StaysOver : {D : Type 0} → (WorldValue D → Option History → Faults → Type 0) → Type 0
StaysOver Fact = (lane : ℕ) (old mid : WorldValue _) (before between : Option History) (first counted : Faults) → IsLaneEvent lane old mid before between first counted → Fact old before first → Fact mid between counted

-- So it stays over all of them.
pub stays_over : {D : Type 0} → (Fact : WorldValue D → Option History → Faults → Type 0) → StaysOver Fact → (lanes : List ℕ) (old new : WorldValue D) (before after : Option History) (first second : Faults) → GoesOnInOrder lanes old new before after first second → Fact old before first → Fact new after second
stays_over {D} Fact keep [] old new before after first second g is =
    subst (λ (w : WorldValue D). Fact w after second) (sym g.0) (subst (λ (h : Option History). Fact old h second) (sym g.1) (subst (λ (f : Faults). Fact old before f) (sym g.2) is))
stays_over {D} Fact keep (lane ∷ lanes) old new before after first second g is =
    stays_over Fact keep lanes g.0 new g.1 after g.2 second g.5 (keep lane old g.0 before g.1 first g.2 g.3 is)

-- ---- the tasks of all requests

-- Every request that isn't answered has a task of which this holds.
abbrev pub AllTasks : (Task → Type 0) → List LaneRow → Type 0
AllTasks Holds rows = (k : ℕ) (row : LaneRow) → slice_get rows k ≡ Some row → All (λ queued. Holds queued.task) (queued_in row)

waiting_next : (Holds : Task → Type 0) (waiting : List Queued) → All (λ queued. Holds queued.task) waiting → All (λ queued. Holds queued.task) (queued_in (next_in_turn waiting))
waiting_next Holds [] all = all
waiting_next Holds (next ∷ rest) all = all

queued_after : (Holds : Task → Type 0) (ended : Option Reply) (queued : Queued) (waiting : List Queued) → (ended ≡ None → Holds queued.task) → All (λ q. Holds q.task) waiting → All (λ q. Holds q.task) (queued_in (after_event ended queued waiting))
queued_after Holds None queued waiting holds all = All-cons (λ (q : Queued). Holds q.task) queued waiting (holds refl) all
queued_after Holds (Some given) queued waiting holds all = waiting_next Holds waiting all

-- what an event's task had, and that it goes on
pub in_turn : {D : Type 0} → (Holds : Task → Type 0) (lane : ℕ) (old mid : WorldValue D) (before between : Option History) (first counted : Faults) → (e : IsLaneEvent lane old mid before between first counted) → AllTasks Holds old.rows → Holds e.works.goes.queued.task × All (λ q. Holds q.task) e.works.row.waiting
in_turn Holds lane old mid before between first counted e all =
    let own = subst (λ (o : Option Queued). All (λ q. Holds q.task) (queued_in (record { current = o; waiting = e.works.row.waiting }))) e.works.goes.was (all (lane - 1) e.works.row e.works.there) in
    (All-head (λ (q : Queued). Holds q.task) e.works.goes.queued e.works.row.waiting own, All-tail (λ (q : Queued). Holds q.task) e.works.goes.queued e.works.row.waiting own)

pub tasks_after : {D : Type 0} → (Holds : Task → Type 0) (lane : ℕ) (old mid : WorldValue D) (before between : Option History) (first counted : Faults) → (e : IsLaneEvent lane old mid before between first counted) → (ended_by e.works.event.ended ≡ None → Holds e.works.goes.next) → AllTasks Holds old.rows → AllTasks Holds mid.rows
tasks_after Holds lane old mid before between first counted e next all k row at = by_lane (nat_cases (lane - 1) k)
  where
    here : slice_get (slice_set old.rows (lane - 1) e.works.now) k ≡ Some row
    here = sym (ap (λ (rows : List LaneRow). slice_get rows k) e.works.rows_are) ∙ at

    own : All (λ q. Holds q.task) (queued_in (after_event (ended_by e.works.event.ended) (record e.works.goes.queued { task = e.works.goes.next }) e.works.row.waiting))
    own = queued_after Holds (ended_by e.works.event.ended) (record e.works.goes.queued { task = e.works.goes.next }) e.works.row.waiting next (in_turn Holds lane old mid before between first counted e all).1

    by_lane : (lane - 1 ≡ k) ⊎ (lane - 1 ≢ k) → All (λ q. Holds q.task) (queued_in row)
    by_lane (inl is) =
        let same : e.works.now ≡ row = one_some e.works.now row (sym (get_set_same old.rows (lane - 1) e.works.now e.works.row e.works.there) ∙ (ap (slice_get (slice_set old.rows (lane - 1) e.works.now)) is ∙ here)) in
        subst (λ (r : LaneRow). All (λ q. Holds q.task) (queued_in r)) (sym e.works.goes.now_is ∙ same) own
    by_lane (inr apart) = all k row (sym (get_set_other old.rows (lane - 1) k e.works.now apart) ∙ here)

-- ---- the counts of faults, and time

pub record HasCounted {D : Type 0} (origin : Option History) (start : Faults) (world : WorldValue D) (history : Option History) (faults : Faults) : Type 0 where
  pub grows : Grows origin history
  pub reads : start.reads ≤ faults.reads
  pub changes : start.changes ≤ faults.changes
  pub unchanged : world.store.stopped ≡ false → faults.changes ≡ start.changes
  pub replied : world.store.stopped ≡ true → (i : ℕ) × HasReply world.replies i (reply.Refused refusal.Stopped)

pub replied_now : (given : Reply) (ended : Option Reply) (place : ℕ) (replies : List (Option Reply)) → slice_get replies place ≡ Some None → ended ≡ Some given → HasReply (replies_behind ended place replies) place given
replied_now given ended place replies there is = subst (λ (o : Option Reply). HasReply (replies_behind o place replies) place given) (sym is) (get_set_same replies place (Some given) None there)

-- a reply that was given stays
pub replied_on : {D : Type 0} → (place : ℕ) (given : Reply) → StaysOver {D = D} (λ world history faults. HasReply world.replies place given)
replied_on place given lane old mid before between first counted e is = subst (λ (rs : List (Option Reply)). HasReply rs place given) (sym e.works.replies_are) (behind (ended_by e.works.event.ended))
  where
    apart_from : (one : Reply) → (e.works.event.place ≡ place) ⊎ (e.works.event.place ≢ place) → HasReply (slice_set old.replies e.works.event.place (Some one)) place given
    apart_from one (inl same) = absurd (let k : None ≡ Some given = one_some None (Some given) (sym e.works.unanswered ∙ (ap (slice_get old.replies) same ∙ is)) in cc k)
    apart_from one (inr apart) = get_set_other old.replies e.works.event.place place (Some one) apart ∙ is

    behind : (ended : Option Reply) → HasReply (replies_behind ended e.works.event.place old.replies) place given
    behind None = is
    behind (Some one) = apart_from one (nat_cases e.works.event.place place)

pub counted_on : {D : Type 0} → (origin : Option History) (start : Faults) → StaysOver {D = D} (HasCounted origin start)
counted_on origin start lane old mid before between first counted e is =
    let w = e.works in
    let k = w.goes.goes.keeps in
    let grown = k.grows in
    let origin_grown = is.grows in
    let read = k.reads in
    let read_before = is.reads in
    let changed = k.changes in
    let changed_before = is.changes in
    record {
      grows = omega (arith, grown, origin_grown);
      reads = omega (arith, read, read_before);
      changes = omega (arith, changed, changed_before);
      unchanged = λ runs. k.unfailed runs ∙ is.unchanged (ran_before old.store.stopped mid.store.stopped w.goes.goes.halted runs);
      replied = λ stopped. (
        w.event.place,
        ap (λ (rs : List (Option Reply)). slice_get rs w.event.place) w.replies_are
            ∙ replied_now (reply.Refused refusal.Stopped) (ended_by w.event.ended) w.event.place old.replies w.unanswered (ap ended_by (w.goes.goes.stopped stopped)),
      );
    }

pub counted_first : {D : Type 0} → (world : WorldValue D) (history : Option History) (faults : Faults) → world.store.stopped ≡ false → HasCounted history faults world history faults
counted_first world history faults runs = record {
  grows = omega arith;
  reads = omega arith;
  changes = omega arith;
  unchanged = λ again. refl;
  replied = λ stopped. absurd (let k : true ≡ false = sym stopped ∙ runs in cc k);
}

-- ---- tasks that neither doom storage files nor remove them

pub record HasDoomedNone {D : Type 0} (world : WorldValue D) : Type 0 where
  pub tasks : AllTasks DoomsNone world.rows
  pub files : world.store.stopped ≡ false → DoomsNothing world.store

pub undoomed_on : {D : Type 0} → StaysOver {D = D} (λ world history faults. HasDoomedNone world)
undoomed_on lane old mid before between first counted e is =
    let own = (in_turn DoomsNone lane old mid before between first counted e is.tasks).0 in
    let left = e.works.goes.goes.keeps.undoomed own is.files in
    record { tasks = tasks_after DoomsNone lane old mid before between first counted e (λ more. left.0) is.tasks; files = left.1 }

-- ---- tasks that read at the most

reads_next : (t next : Task) → OnlyReads t → StaysOfRequest t next → OnlyReads next
reads_next (task.Ops t) (task.Ops next) reads kind = subst SetsNothing (sym kind) reads
reads_next (task.Counts t) (task.Counts next) reads kind = tt
reads_next (task.Fetch t) (task.Fetch next) reads kind = tt
reads_next (task.Make t) next reads kind = absurd reads
reads_next (task.Copy t) next reads kind = absurd reads
reads_next (task.Move t) next reads kind = absurd reads
reads_next (task.Expunge t) next reads kind = absurd reads
reads_next (task.Deliver t) next reads kind = absurd reads
reads_next (task.Resync t) next reads kind = absurd reads
reads_next (task.Purge t) next reads kind = absurd reads
reads_next (task.Delete t) next reads kind = absurd reads
reads_next (task.Rename t) next reads kind = absurd reads
reads_next (task.Ops t) next reads kind = absurd kind
reads_next (task.Counts t) next reads kind = absurd kind
reads_next (task.Fetch t) next reads kind = absurd kind

pub record HasOnlyRead {D : Type 0} (origin : Option History) (world : WorldValue D) (history : Option History) (faults : Faults) : Type 0 where
  pub tasks : AllTasks OnlyReads world.rows
  pub undoomed : HasDoomedNone world
  pub idle : IsIdle origin history
  pub running : world.store.stopped ≡ false

pub reads_on : {D : Type 0} → (origin : Option History) → StaysOver {D = D} (HasOnlyRead origin)
reads_on origin lane old mid before between first counted e is =
    let k = e.works.goes.goes.keeps in
    let own = (in_turn OnlyReads lane old mid before between first counted e is.tasks).0 in
    let none = (in_turn DoomsNone lane old mid before between first counted e is.undoomed.tasks).0 in
    record {
      tasks = tasks_after OnlyReads lane old mid before between first counted e (λ more. reads_next e.works.goes.queued.task e.works.goes.next own k.request) is.tasks;
      undoomed = undoomed_on lane old mid before between first counted e is.undoomed;
      idle = idle-then origin before between is.idle (k.idle own none).0;
      running = (k.idle own none).2 ∙ is.running;
    }

-- ---- tasks that read no octets

unread_next : (t next : Task) → ReadsNoOctets t → StaysOfRequest t next → ReadsNoOctets next
unread_next (task.Fetch t) next none kind = absurd none
unread_next (task.Deliver t) next none kind = absurd none
unread_next (task.Resync t) next none kind = absurd none
unread_next (task.Purge t) next none kind = absurd none
unread_next t (task.Fetch next) none kind = absurd kind
unread_next t (task.Deliver next) none kind = absurd kind
unread_next t (task.Resync next) none kind = absurd kind
unread_next t (task.Purge next) none kind = absurd kind
unread_next t next none kind = tt

pub record HasReadNoOctets {D : Type 0} (start : Faults) (world : WorldValue D) (history : Option History) (faults : Faults) : Type 0 where
  pub tasks : AllTasks ReadsNoOctets world.rows
  pub unread : faults.reads ≡ start.reads

pub unread_on : {D : Type 0} → (start : Faults) → StaysOver {D = D} (HasReadNoOctets start)
unread_on start lane old mid before between first counted e is =
    let k = e.works.goes.goes.keeps in
    let own = (in_turn ReadsNoOctets lane old mid before between first counted e is.tasks).0 in
    record { tasks = tasks_after ReadsNoOctets lane old mid before between first counted e (λ more. unread_next e.works.goes.queued.task e.works.goes.next own k.request) is.tasks; unread = k.unread own ∙ is.unread }

-- ---- tasks that answer a failed read at once

answers_next : (t next : Task) → AnswersReads t → StaysOfRequest t next → AnswersReads next
answers_next (task.Fetch t) next answers kind = absurd answers
answers_next t (task.Fetch next) answers kind = absurd kind
answers_next t next answers kind = tt

pub record HasReadAsTold {D : Type 0} (start : Faults) (world : WorldValue D) (history : Option History) (faults : Faults) : Type 0 where
  pub tasks : AllTasks AnswersReads world.rows
  pub calm : ((i : ℕ) → HasReply world.replies i (reply.Refused refusal.ReadFault) → ⊥) → faults.reads ≡ start.reads

pub calm_on : {D : Type 0} → (start : Faults) → StaysOver {D = D} (HasReadAsTold start)
calm_on start lane old mid before between first counted e is =
    let w = e.works in
    let k = w.goes.goes.keeps in
    let own = (in_turn AnswersReads lane old mid before between first counted e is.tasks).0 in
    record {
      tasks = tasks_after AnswersReads lane old mid before between first counted e (λ more. answers_next w.goes.queued.task w.goes.next own k.request) is.tasks;
      calm = λ untold.
          k.calm own
          (λ told. untold w.event.place
          (ap (λ (rs : List (Option Reply)). slice_get rs w.event.place) w.replies_are ∙ replied_now (reply.Refused refusal.ReadFault) (ended_by w.event.ended) w.event.place old.replies w.unanswered told))
          ∙ is.calm (λ i was. untold i (replied_on i (reply.Refused refusal.ReadFault) lane old mid before between first counted e was));
    }

-- ---- tasks that write nothing to storage files

-- neither of a delivery nor of a purge
abbrev pub WritesNoMail : Task → Type 0
WritesNoMail (task.Deliver t) = ⊥
WritesNoMail (task.Purge t) = ⊥
WritesNoMail other = Unit {0}

none_next : (t next : Task) → WritesNoMail t → StaysOfRequest t next → WritesNoMail next
none_next (task.Deliver t) next none kind = absurd none
none_next (task.Purge t) next none kind = absurd none
none_next t (task.Deliver next) none kind = absurd kind
none_next t (task.Purge next) none kind = absurd kind
none_next t next none kind = tt

named_twice : (f : FileState) → named (named f) ≡ named f
named_twice f = elim (cases_Bool f.is_there) [
  | inl there ↦
      let e : named f ≡ record f { is_name_loose = false } = cond-true f.is_there (record f { is_name_loose = false }) no_file there in
      let again : named (record f { is_name_loose = false }) ≡ record f { is_name_loose = false } = cond-true f.is_there (record f { is_name_loose = false }) no_file there in
      ap named e ∙ again ∙ sym e
  | inr gone ↦
      let e : named f ≡ no_file = cond-false f.is_there (record f { is_name_loose = false }) no_file gone in
      ap named e ∙ sym e
]

named_on : (a b c : FileState) → IsSameOrSynced a b → IsSameOrSynced b c → IsSameOrSynced a c
named_on a b c (inl e) (inl k) = inl (k ∙ e)
named_on a b c (inl e) (inr k) = inr (k ∙ ap named e)
named_on a b c (inr e) (inl k) = inr (k ∙ e)
named_on a b c (inr e) (inr k) = inr (k ∙ (ap named e ∙ named_twice a))

-- what two events leave together
pub names_then : (a b c : Option History) → SyncsMail a b → SyncsMail b c → SyncsMail a c
names_then None b c e k = subst (λ (h : Option History). SyncsMail h c) e k
names_then (Some a) None c e k = absurd e
names_then (Some a) (Some b) None e k = absurd k
names_then (Some a) (Some b) (Some c) e k = (
  λ number. named_on (a.now (file.Mail number)) (b.now (file.Mail number)) (c.now (file.Mail number)) (e.0 number) (k.0 number),
  λ hash id. named_on (a.now (file.Inst hash id)) (b.now (file.Inst hash id)) (c.now (file.Inst hash id)) (e.1 hash id) (k.1 hash id),
)

pub syncs_first : (history : Option History) → SyncsMail history history
syncs_first None = refl
syncs_first (Some h) = (λ number. inl refl, λ hash id. inl refl)

syncs_event : {D : Type 0} → (t next : Task) (old : StoreValue D) (before between : Option History) → WritesNoMail t → DoomsNone t → WritesTask t next old before between → SyncsMail before between
syncs_event (task.Deliver t) next old before between none dooms writes = absurd none
syncs_event (task.Purge t) next old before between none dooms writes = absurd none
syncs_event (task.Fetch t) next old before between none dooms writes = writes dooms
syncs_event t next old before between none dooms writes = writes

kept_event : {D : Type 0} → (t next : Task) (old new : StoreValue D) (before between : Option History) (first counted : Faults) (ended : Option Reply) (m : MapMeaning) → WritesNoMail t → DoomsNone t → TaskKeeps t next old new before between first counted ended → MailIsKept m before between
kept_event (task.Deliver t) next old new before between first counted ended m none dooms k = absurd none
kept_event (task.Purge t) next old new before between first counted ended m none dooms k = absurd none
kept_event (task.Fetch t) next old new before between first counted ended m none dooms k = k.mail m (λ removes. absurd (removes dooms))
kept_event t next old new before between first counted ended m none dooms k = k.mail m tt

pub record HasWrittenNone {D : Type 0} (origin : Option History) (world : WorldValue D) (history : Option History) (faults : Faults) : Type 0 where
  pub tasks : AllTasks WritesNoMail world.rows
  pub undoomed : HasDoomedNone world
  pub synced : world.store.stopped ≡ false → SyncsMail origin history
  pub kept : (m : MapMeaning) → MailIsKept m origin history

pub unwritten_on : {D : Type 0} → (origin : Option History) → StaysOver {D = D} (HasWrittenNone origin)
unwritten_on origin lane old mid before between first counted e is =
    let w = e.works in
    let k = w.goes.goes.keeps in
    let own = (in_turn WritesNoMail lane old mid before between first counted e is.tasks).0 in
    let dooms = (in_turn DoomsNone lane old mid before between first counted e is.undoomed.tasks).0 in
    record {
      tasks = tasks_after WritesNoMail lane old mid before between first counted e (λ more. none_next w.goes.queued.task w.goes.next own k.request) is.tasks;
      undoomed = undoomed_on lane old mid before between first counted e is.undoomed;
      synced = λ runs. names_then origin before between (is.synced (ran_before old.store.stopped mid.store.stopped w.goes.goes.halted runs)) (syncs_event w.goes.queued.task w.goes.next old.store before between own dooms (k.left runs));
      kept = λ m. kept_then m origin before between w.goes.goes.image (is.kept m) (kept_event w.goes.queued.task w.goes.next old.store mid.store before between first counted (ended_by w.event.ended) m own dooms k);
    }
