-- The world of a script after its events: of which run it is, and what these left of the disk.
use Rattle.std.specs.Prelude.{◌≢◌, ◌||◌, ◌+◌, not, ◌++◌, slice_get}
use Rattle.std.specs.List.{list_any}
use Rattle.std.proofs.Common.{◌≡◌, ◌≤◌, ℕ, zero, suc, Bool, true, false, List, [], ◌∷◌, All, Option, Some, None, refl, sym, ◌∙◌, ap, subst, arith}
use Rattle.std.proofs.lemmas.List.{append-nil, append_assoc}
use Rattle.std.proofs.lemmas.List.Elements.{All-cons, All-head, All-nil, All-tail, All-weaker}
use Rattle.disk_model.specs.Disk.{Faults, History, IsIdle, told_calls}
use Rattle.disk_model.proofs.IdleLemmas.{idle-begins, idle-then}
use Rattle.mdbox_base.specs.declared.replies.Refusal.{Refusal}
use Rattle.mdbox_base.specs.declared.replies.Refusal.TheVariants as refusal
use Rattle.mdbox_base.specs.declared.replies.Reply.{Reply}
use Rattle.mdbox_base.specs.declared.replies.Reply.TheVariants as reply
use Rattle.mdbox_base.specs.declared.requests.Request.{Request}
use Rattle.mdbox_base.specs.declared.requests.Request.TheVariants as request
use Rattle.model_lists.specs.Lists.{Lists}
use Rattle.list_machine.specs.Machine.{is_step}
use Rattle.list_machine.specs.Run.{Run, RunEvent, and_then}
use Rattle.journal.specs.Journal.{Broken, JournalStep, Requests}
use Rattle.store_core.specs.Value.{StoreValue}
use Rattle.task_steps.specs.Step.{Seen, ended_by}
use Rattle.lane_tasks.specs.Clause.{AnswersReads, DoomsNone, IsAtStart, OnlyReads, ReadsNoOctets, RemovesNothing, SetsNothing, TaskKeeps}
use Rattle.lane_tasks.specs.Tasks.{BeginsTask, IsTaskOf}
use Rattle.lane_tasks.specs.declared.task.Task.{Task}
use Rattle.lane_tasks.specs.declared.task.Task.TheVariants as task
use Rattle.lanes.specs.Going.{AreFreshRows, IsFreshRow, WaitsWithTask}
use Rattle.lanes.specs.Rows.{LaneRow}
use Rattle.lanes.specs.Turned.{GoesOnInOrder}
use Rattle.lanes.specs.Worlds.{IsWorldOf, WorldValue, and_events, queued_in}
use Rattle.lanes.specs.declared.lane.Queued.{Queued}
use Rattle.script_run.specs.Script.{IsRefusedAtOnce, has_change, has_delivery, has_fetch, has_mail_read, has_purge, is_delivery, is_fetch, is_purge, only_reads, reads_mail}
use Rattle.script_run.proofs.ChainLemmas.{AllTasks, WritesNoMail, in_turn, tasks_after}

-- ---- the tasks with which requests begin

any_false : {X : Type 0} → (p : X → Bool) (xs : List X) (k : ℕ) (x : X) → list_any p xs ≡ false → slice_get xs k ≡ Some x → p x ≡ false
any_false p [] k x none at = absurd (let e : None ≡ Some x = at in cc e)
any_false {X} p (y ∷ ys) zero x none at = (let e : Some y ≡ Some x = at in let is : y ≡ x = cc e in sym (ap p is) ∙ first (p y) none)
  where
    first : (b : Bool) → (b || list_any p ys) ≡ false → b ≡ false
    first true e = e
    first false e = refl
any_false p (y ∷ ys) (suc k) x none at = any_false p ys k x (rest (p y) none) at
  where
    rest : (b : Bool) → (b || list_any p ys) ≡ false → list_any p ys ≡ false
    rest true e = absurd (cc e)
    rest false e = e

yes_by : (b : Bool) → not b ≡ false → b ≡ true
yes_by true e = refl
yes_by false e = absurd (cc e)

-- Each request that isn't answered has a task of which this holds, if it holds of those with which the script's requests begin.
pub fresh_tasks : (Holds : Task → Type 0) (script : Requests) (rows : List LaneRow) → ((place lane : ℕ) (asked : Request) (t : Task) → slice_get script place ≡ Some (lane, asked) → BeginsTask asked t → Holds t) → AreFreshRows script rows → AllTasks Holds rows
fresh_tasks Holds script rows holds are k row at = by_current row.current refl (are k row at)
  where
    one : (queued : Queued) → WaitsWithTask script (k + 1) queued → Holds queued.task
    one queued w = holds queued.place (k + 1) w.0 queued.task w.1 w.2

    by_current : (o : Option Queued) → row.current ≡ o → IsFreshRow script (k + 1) row → All (λ q. Holds q.task) (queued_in row)
    by_current None is f = subst (λ (c : Option Queued). All (λ q. Holds q.task) (queued_in (record { current = c; waiting = row.waiting }))) (sym is) (All-nil (λ (q : Queued). Holds q.task))
    by_current (Some queued) is f =
        subst (λ (c : Option Queued). All (λ q. Holds q.task) (queued_in (record { current = c; waiting = row.waiting }))) (sym is)
        (All-cons (λ (q : Queued). Holds q.task) queued row.waiting (one queued (f.first queued is)) (All-weaker (WaitsWithTask script (k + 1)) (λ (q : Queued). Holds q.task) one row.waiting f.behind))

-- A task that has done nothing: it is at its start, but of a purge, each event that is refused tells that it is the first one.
abbrev pub MayBeRefused : Task → Type 0
MayBeRefused (task.Purge t) = Unit {0}
MayBeRefused t = IsAtStart t

pub begun_first : (asked : Request) (t : Task) → BeginsTask asked t → MayBeRefused t
begun_first asked (task.Ops t) b = tt
begun_first asked (task.Counts t) b = tt
begun_first asked (task.Make t) b = b.at
begun_first asked (task.Copy t) b = b.at
begun_first asked (task.Move t) b = b.at
begun_first asked (task.Expunge t) b = b.at
begun_first asked (task.Fetch t) b = b.at
begun_first asked (task.Resync t) b = b.at
begun_first asked (task.Purge t) b = tt
begun_first asked (task.Delete t) b = b.at
begun_first asked (task.Rename t) b = tt
begun_first (request.Deliver name time octets) (task.Deliver t) b = (b.at.0, b.at.1)
begun_first asked (task.Deliver t) b = absurd b.at

pub unpurged : (script : Requests) (place lane : ℕ) (asked : Request) → has_purge script ≡ false → slice_get script place ≡ Some (lane, asked) → is_purge asked ≡ false
unpurged script place lane asked none at = any_false (λ (q : ℕ × Request). is_purge q.1) script place (lane, asked) none at

-- the task of a request that is no purge dooms nothing as it begins
pub dooms_first : (asked : Request) (t : Task) → is_purge asked ≡ false → BeginsTask asked t → DoomsNone t
dooms_first asked (task.Fetch t) none b = subst RemovesNothing (sym b.at) tt
dooms_first asked (task.Purge t) none b = absurd (let k : true ≡ false = sym (ap is_purge b.is_of) ∙ none in cc k)
dooms_first asked t none b = tt

-- a request that reads at the most is no purge
pub reads_unpurged : (asked : Request) → only_reads asked ≡ true → is_purge asked ≡ false
reads_unpurged request.Purge reads = absurd (let k : false ≡ true = reads in cc k)
reads_unpurged asked reads = refl

sets_none : (asked : Request) → only_reads asked ≡ true → SetsNothing asked
sets_none (request.Flag name uid flags) reads = absurd (let k : false ≡ true = reads in cc k)
sets_none (request.Keywords name uid words) reads = absurd (let k : false ≡ true = reads in cc k)
sets_none asked reads = tt

-- a request that reads at the most begins with such a task
reads_as : (asked kind : Request) → only_reads kind ≡ false → asked ≡ kind → only_reads asked ≡ true → ⊥
reads_as asked kind changes is reads = let k : true ≡ false = sym reads ∙ (ap only_reads is ∙ changes) in cc k

reads_task : (asked : Request) (t : Task) → only_reads asked ≡ true → IsTaskOf t asked → OnlyReads t
reads_task asked (task.Ops t) reads of = subst SetsNothing of (sets_none asked reads)
reads_task asked (task.Counts t) reads of = tt
reads_task asked (task.Make t) reads of = absurd (reads_as asked (request.Make t.name) refl of reads)
reads_task asked (task.Copy t) reads of = absurd (reads_as asked (request.Copy t.name t.uid t.target) refl of reads)
reads_task asked (task.Move t) reads of = absurd (reads_as asked (request.Move t.name t.uid t.target) refl of reads)
reads_task asked (task.Expunge t) reads of = absurd (reads_as asked (request.Expunge t.name t.uid) refl of reads)
reads_task asked (task.Fetch t) reads of = tt
reads_task asked (task.Resync t) reads of = absurd (reads_as asked request.Resync refl of reads)
reads_task asked (task.Purge t) reads of = absurd (reads_as asked request.Purge refl of reads)
reads_task asked (task.Delete t) reads of = absurd (reads_as asked (request.Delete t.name) refl of reads)
reads_task asked (task.Rename t) reads of = absurd (reads_as asked (request.Rename t.name t.target) refl of reads)
reads_task (request.Deliver name time octets) (task.Deliver t) reads of = absurd (let k : false ≡ true = reads in cc k)
reads_task asked (task.Deliver t) reads of = absurd of

pub changes_none : (script : Requests) (place lane : ℕ) (asked : Request) → has_change script ≡ false → slice_get script place ≡ Some (lane, asked) → only_reads asked ≡ true
changes_none script place lane asked none at = yes_by (only_reads asked) (any_false (λ (q : ℕ × Request). not (only_reads q.1)) script place (lane, asked) none at)

pub reads_first : (script : Requests) (place lane : ℕ) (asked : Request) (t : Task) → has_change script ≡ false → slice_get script place ≡ Some (lane, asked) → BeginsTask asked t → OnlyReads t
reads_first script place lane asked t none at begins = reads_task asked t (changes_none script place lane asked none at) begins.is_of

writes_none : (asked : Request) (t : Task) → is_delivery asked ≡ false → is_purge asked ≡ false → IsTaskOf t asked → WritesNoMail t
writes_none (request.Deliver name time octets) (task.Deliver t) none unpurged of = absurd (let k : true ≡ false = none in cc k)
writes_none asked (task.Deliver t) none unpurged of = absurd of
writes_none asked (task.Purge t) none unpurged of = absurd (let k : true ≡ false = sym (ap is_purge of) ∙ unpurged in cc k)
writes_none asked t none unpurged of = tt

pub unwritten_first : (script : Requests) (place lane : ℕ) (asked : Request) (t : Task) → has_delivery script ≡ false → has_purge script ≡ false → slice_get script place ≡ Some (lane, asked) → BeginsTask asked t → WritesNoMail t
unwritten_first script place lane asked t none none_purges at begins = writes_none asked t (any_false (λ (q : ℕ × Request). is_delivery q.1) script place (lane, asked) none at) (unpurged script place lane asked none_purges at) begins.is_of

-- a request that reads no octets begins with a task that reads none
no_octets : (asked : Request) (t : Task) → reads_mail asked ≡ false → IsTaskOf t asked → ReadsNoOctets t
no_octets asked (task.Fetch t) none of = absurd (let k : true ≡ false = sym (ap reads_mail of) ∙ none in cc k)
no_octets asked (task.Resync t) none of = absurd (let k : true ≡ false = sym (ap reads_mail of) ∙ none in cc k)
no_octets asked (task.Purge t) none of = absurd (let k : true ≡ false = sym (ap reads_mail of) ∙ none in cc k)
no_octets (request.Deliver name time octets) (task.Deliver t) none of = absurd (let k : true ≡ false = none in cc k)
no_octets asked (task.Deliver t) none of = absurd of
no_octets asked t none of = tt

pub unread_first : (script : Requests) (place lane : ℕ) (asked : Request) (t : Task) → has_mail_read script ≡ false → slice_get script place ≡ Some (lane, asked) → BeginsTask asked t → ReadsNoOctets t
unread_first script place lane asked t none at begins = no_octets asked t (any_false (λ (q : ℕ × Request). reads_mail q.1) script place (lane, asked) none at) begins.is_of

-- a request that fetches no message begins with a task that answers a failed read at once
answers_task : (asked : Request) (t : Task) → is_fetch asked ≡ false → IsTaskOf t asked → AnswersReads t
answers_task asked (task.Fetch t) none of = absurd (let k : true ≡ false = sym (ap is_fetch of) ∙ none in cc k)
answers_task asked t none of = tt

pub answers_first : (script : Requests) (place lane : ℕ) (asked : Request) (t : Task) → has_fetch script ≡ false → slice_get script place ≡ Some (lane, asked) → BeginsTask asked t → AnswersReads t
answers_first script place lane asked t none at begins = answers_task asked t (any_false (λ (q : ℕ × Request). is_fetch q.1) script place (lane, asked) none at) begins.is_of

-- An event that is refused by a check changes nothing.
not_fault : (why kind : Refusal) → is_step kind ≡ false → is_step why ≡ true → why ≢ kind
not_fault why kind none step is = let k : true ≡ false = sym step ∙ (ap is_step is ∙ none) in cc k

pub refused_event : {D : Type 0} → (t next : Task) (old new : StoreValue D) (before after : Option History) (began now : Faults) (ended : Option Reply) (why : Refusal) → MayBeRefused t → ended ≡ Some (reply.Refused why) → is_step why ≡ true → TaskKeeps t next old new before after began now ended → IsIdle before after
refused_event (task.Purge t) (task.Purge next) old new before after began now ended why may is step k =
    let first = k.tells.refused why is (not_fault why refusal.ReadFault refl step) (not_fault why refusal.Stopped refl step) in
    (k.tells.first first).idle
refused_event (task.Purge t) next old new before after began now ended why may is step k = absurd k.request
refused_event t next old new before after began now ended why may is step k = k.refused why may is step

-- ---- the run

-- The world is one of the run with these events, none of which ended before this time; and where each answered its request with a
-- refusal that a check gave, nothing has changed.
pub record ServedSince {D : Type 0} (start : Lists) (script : Requests) (run : Run) (steps : List JournalStep) (began : Seen) (old new : WorldValue D) (before after : Option History) (second : Faults) : Type 0 where
  pub added : List RunEvent
  pub more : List JournalStep
  pub broke : Broken
  pub is : IsWorldOf start script (and_events run added) (steps ++ more) broke began after second new
  pub later : All (λ event. told_calls before ≤ event.moment) added
  pub refused : AllTasks MayBeRefused old.rows → All IsRefusedAtOnce added → IsIdle before after

pub served_since : {D : Type 0} → (lanes : List ℕ) (old new : WorldValue D) (before after : Option History) (first second : Faults) → GoesOnInOrder lanes old new before after first second
    → (start : Lists) (script : Requests) (run : Run) (steps : List JournalStep) (failed : Broken) (began : Seen) → IsWorldOf start script run steps failed began before first old → ServedSince start script run steps began old new before after second
served_since {D} [] old new before after first second g start script run steps failed began is = record {
  added = [];
  more = [];
  broke = failed;
  is =
      subst (λ (w : WorldValue D). IsWorldOf start script (and_events run []) (steps ++ []) failed began after second w) (sym g.0)
      (subst (λ (h : Option History). IsWorldOf start script (and_events run []) (steps ++ []) failed began h second old) (sym g.1)
      (subst (λ (f : Faults). IsWorldOf start script (and_events run []) (steps ++ []) failed began before f old) (sym g.2)
      (subst (λ (js : List JournalStep). IsWorldOf start script (and_events run []) js failed began before first old) (sym (append-nil steps))
      (subst (λ (es : List RunEvent). IsWorldOf start script (record run { events = es }) steps failed began before first old) (sym (append-nil run.events)) is))));
  later = All-nil (λ (event : RunEvent). told_calls before ≤ event.moment);
  refused = λ begun all. subst (λ (h : Option History). IsIdle before h) (sym g.1) (idle-begins before);
}
served_since {D} (lane ∷ lanes) old new before after first second g start script run steps failed began is =
    let e = g.3.goes start script run steps failed began is in
    let r = served_since lanes g.0 new g.1 after g.2 second g.5 start script (and_then run e.0) (steps ++ e.1) e.2 began e.4 in
    let grown = g.3.works.goes.goes.keeps.grows in
    record {
      added = e.0 ∷ r.added;
      more = e.1 ++ r.more;
      broke = r.broke;
      is =
          subst (λ (js : List JournalStep). IsWorldOf start script (and_events run (e.0 ∷ r.added)) js r.broke began after second new) (append_assoc steps e.1 r.more)
          (subst (λ (es : List RunEvent). IsWorldOf start script (record run { events = es }) ((steps ++ e.1) ++ r.more) r.broke began after second new) (append_assoc run.events (e.0 ∷ []) r.added) r.is);
      later =
          All-cons (λ (event : RunEvent). told_calls before ≤ event.moment) e.0 r.added (let at = e.3.moment_is in omega (arith, at, grown))
          (All-weaker (λ (event : RunEvent). told_calls g.1 ≤ event.moment) (λ (event : RunEvent). told_calls before ≤ event.moment) (λ event at. omega (arith, at, grown)) r.added r.later);
      refused = λ begun all.
          let at_once = All-head IsRefusedAtOnce e.0 r.added all in
          let answered : ended_by g.3.works.event.ended ≡ Some (reply.Refused at_once.0) = sym e.3.reply_is ∙ at_once.1 in
          let own = (in_turn MayBeRefused lane old g.0 before g.1 first g.2 g.3 begun).0 in
          let rest = tasks_after MayBeRefused lane old g.0 before g.1 first g.2 g.3 (λ more. absurd (let k : None ≡ Some (reply.Refused at_once.0) = sym more ∙ answered in cc k)) begun in
          idle-then before g.1 after (refused_event g.3.works.goes.queued.task g.3.works.goes.next old.store g.0.store before g.1 first g.2 (ended_by g.3.works.event.ended) at_once.0 own answered at_once.2 g.3.works.goes.goes.keeps) (r.refused rest (All-tail IsRefusedAtOnce e.0 r.added all));
    }
