-- What events and requests that are asked keep, one after another.
use Rattle.std.specs.Prelude.{◌≢◌, ◌⊎◌, ◌||◌, Bool, All, length, slice_get, slice_set}
use Rattle.std.proofs.Common.{◌≡◌, ◌≤◌, ◌-◌, ◌+◌, ◌++◌, ℕ, true, false, List, [], ◌∷◌, Option, Some, None, refl, sym, ◌∙◌, ap, subst, arith, inl, inr}
use Rattle.std.proofs.lemmas.List.{append-nil, append_assoc, length-append}
use Rattle.std.proofs.lemmas.List.Folds.{list_any-append}
use Rattle.std.proofs.lemmas.List.Elements.{All-append, All-cons, All-head, All-nil, All-tail, All-weaker}
use Rattle.disk_model.specs.Disk.{Faults, History, IsIdle, told_calls}
use Rattle.disk_model.proofs.IdleLemmas.{idle-begins, idle-then}
use Rattle.mdbox_base.specs.declared.ids.Uid.{Uid}
use Rattle.mdbox_base.specs.declared.replies.Refusal.TheVariants as refusal
use Rattle.mdbox_base.specs.declared.replies.Reply.TheVariants as reply
use Rattle.mdbox_base.specs.declared.requests.Request.{Request}
use Rattle.mdbox_base.specs.declared.requests.Request.TheVariants as request
use Rattle.model_kept.specs.Kept.{MailIsKept}
use Rattle.model_lists.specs.Lists.{Lists}
use Rattle.model_meaning.specs.MapMeaning.{MapMeaning, is_sealed}
use Rattle.model_store.specs.Settled.{IsSettledFor}
use Rattle.list_machine.specs.Run.{Run, RunEvent, and_then, map_of}
use Rattle.journal.specs.Journal.{Broken, HasReply, JournalStep, Requests}
use Rattle.journal.proofs.JournalLemmas.{get_more}
use Rattle.serving.specs.Turns.{LaneTurn}
use Rattle.task_claims.specs.Leaving.{SyncsMail}
use Rattle.serving.proofs.LaneLemmas.{get_set_other, get_set_same, nat_cases, one_some}
use Rattle.task_steps.specs.Step.{Seen, ended_by}
use Rattle.mail_fetch.specs.Clause.{ReadsSafe}
use Rattle.lane_tasks.specs.Clause.{AnswersReads, DoomsNone, DoomsNothing, OnlyReads, ReadsNoOctets}
use Rattle.lane_tasks.specs.Tasks.{BeginsTask}
use Rattle.lane_tasks.specs.declared.task.Task.{Task}
use Rattle.lanes.specs.Asked.{GoesWith, HasNoIdleTurn, IsRequestAsked, asked_in, row_asked}
use Rattle.lanes.specs.Going.{FindsMessages}
use Rattle.lanes.specs.Rows.{LaneRow}
use Rattle.lanes.specs.Worlds.{IsWorldOf, WorldValue, and_events, queued_in, turn_of}
use Rattle.lanes.specs.declared.lane.Queued.{Queued}
use Rattle.lanes.proofs.AskLemmas.{asked_grows, behind_busy, behind_idle}
use Rattle.script_run.specs.Script.{IsRefusedAtOnce, has_fetch, is_fetch}
use Rattle.script_run.proofs.ChainLemmas.{AllTasks, HasCounted, HasDoomedNone, HasOnlyRead, HasReadAsTold, HasReadNoOctets, HasWrittenNone, StaysOver, WritesNoMail, in_turn, tasks_after}
use Rattle.script_run.proofs.DoneLemmas.{fetches}
use Rattle.script_run.proofs.SealedLemmas.{sealed_event, sealed_only}
use Rattle.script_run.proofs.SinceLemmas.{MayBeRefused, begun_first, refused_event}

-- ---- a fact that all of them keep

-- A fact stays over a request of the script that is asked.
abbrev pub StaysAsked : {D : Type 0} → Requests → (WorldValue D → Option History → Faults → Type 0) → Type 0
StaysAsked script Fact = (lane place : ℕ) (asked : Request) (old mid : WorldValue _) (history : Option History) (faults : Faults) → slice_get script place ≡ Some (lane, asked) → IsRequestAsked lane asked old mid → Fact old history faults → Fact mid history faults

pub middle : {X : Type 0} → (xs ys : List X) (x : X) → slice_get (xs ++ x ∷ ys) (length xs) ≡ Some x
middle [] ys x = refl
middle (a ∷ xs) ys x = middle xs ys x

module _ {D : Type 0} (history : D → Option History) (faults : D → Faults) where
  -- a request that is asked makes no call of the disk
  pub same_history : (lane : ℕ) (asked : Request) (old mid : WorldValue D) → IsRequestAsked lane asked old mid → history mid.store.disk ≡ history old.store.disk
  same_history lane asked old mid a = ap (λ (w : WorldValue D). history w.store.disk) a.new_is

  pub same_faults : (lane : ℕ) (asked : Request) (old mid : WorldValue D) → IsRequestAsked lane asked old mid → faults mid.store.disk ≡ faults old.store.disk
  same_faults lane asked old mid a = ap (λ (w : WorldValue D). faults w.store.disk) a.new_is

  pub stays_with : (script : Requests) (Fact : WorldValue D → Option History → Faults → Type 0) → StaysOver Fact → StaysAsked script Fact → (before : Requests) (moves : List (ℕ × Option Request)) (old new : WorldValue D) → script ≡ before ++ asked_in moves → GoesWith history faults moves old new
      → Fact old (history old.store.disk) (faults old.store.disk) → Fact new (history new.store.disk) (faults new.store.disk)
  stays_with script Fact over asks before [] old new is g fact = subst (λ (w : WorldValue D). Fact w (history w.store.disk) (faults w.store.disk)) (sym g) fact
  stays_with script Fact over asks before ((lane, None) ∷ moves) old new is g fact =
      stays_with script Fact over asks before moves g.0 new is g.2 (over lane old g.0 (history old.store.disk) (history g.0.store.disk) (faults old.store.disk) (faults g.0.store.disk) g.1.1 fact)
  stays_with script Fact over asks before ((lane, Some asked) ∷ moves) old new is g fact =
      let there : slice_get script (length before) ≡ Some (lane, asked) = ap (λ (s : Requests). slice_get s (length before)) is ∙ middle before (asked_in moves) (lane, asked) in
      let here = asks lane (length before) asked old g.0 (history old.store.disk) (faults old.store.disk) there g.1 fact in
      let moved = subst (λ (f : Faults). Fact g.0 (history g.0.store.disk) f) (sym (same_faults lane asked old g.0 g.1)) (subst (λ (h : Option History). Fact g.0 h (faults old.store.disk)) (sym (same_history lane asked old g.0 g.1)) here) in
      stays_with script Fact over asks (before ++ (lane, asked) ∷ []) moves g.0 new (is ∙ sym (append_assoc before ((lane, asked) ∷ []) (asked_in moves))) g.2 moved

-- ---- the tasks of all requests

queued_behind : (q : Queued) (row : LaneRow) (Holds : Task → Type 0) → Holds q.task → All (λ one. Holds one.task) (queued_in row) → All (λ one. Holds one.task) (queued_in (row_asked q row))
queued_behind q row Holds own all = by_current row.current refl
  where
    by_current : (o : Option Queued) → row.current ≡ o → All (λ one. Holds one.task) (queued_in (row_asked q row))
    by_current None none = subst (λ (r : LaneRow). All (λ one. Holds one.task) (queued_in r)) (sym (behind_idle q row none)) (All-cons (λ (one : Queued). Holds one.task) q [] own (All-nil (λ (one : Queued). Holds one.task)))
    by_current (Some first) was =
        let were = subst (λ (o : Option Queued). All (λ one. Holds one.task) (queued_in (record row { current = o }))) was all in
        subst (λ (r : LaneRow). All (λ one. Holds one.task) (queued_in r)) (sym (behind_busy q row first was)) (All-append (λ (one : Queued). Holds one.task) (first ∷ row.waiting) (q ∷ []) were (All-cons (λ (one : Queued). Holds one.task) q [] own (All-nil (λ (one : Queued). Holds one.task))))

pub tasks_asked : {D : Type 0} → (Holds : Task → Type 0) (lane : ℕ) (asked : Request) (old mid : WorldValue D) → IsRequestAsked lane asked old mid → ((t : Task) → BeginsTask asked t → Holds t) → AllTasks Holds old.rows → AllTasks Holds mid.rows
tasks_asked {D} Holds lane asked old mid a holds all j other at = by_lane (nat_cases (lane - 1) j)
  where
    q : Queued
    q = record { place = length old.replies; task = a.task }

    here : slice_get (slice_set old.rows (lane - 1) (row_asked q a.row)) j ≡ Some other
    here = sym (ap (λ (w : WorldValue D). slice_get w.rows j) a.new_is) ∙ at

    by_lane : (lane - 1 ≡ j) ⊎ (lane - 1 ≢ j) → All (λ one. Holds one.task) (queued_in other)
    by_lane (inl is) =
        let same : row_asked q a.row ≡ other = one_some (row_asked q a.row) other (sym (get_set_same old.rows (lane - 1) (row_asked q a.row) a.row a.there) ∙ (ap (slice_get (slice_set old.rows (lane - 1) (row_asked q a.row))) is ∙ here)) in
        subst (λ (r : LaneRow). All (λ one. Holds one.task) (queued_in r)) same (queued_behind q a.row Holds (holds a.task a.begins) (all (lane - 1) a.row a.there))
    by_lane (inr apart) = all j other (sym (get_set_other old.rows (lane - 1) j (row_asked q a.row) apart) ∙ here)

-- ---- the script

-- the run's map has sealed all that this map has
abbrev pub HasSealed : MapMeaning → Run → Type 0
HasSealed m run = (number : ℕ) → is_sealed m number ≡ true → is_sealed (map_of run) number ≡ true

-- What events and requests that are asked make of a world of a script: it is one of the script with these requests.
pub record ServedWith {D : Type 0} (history : D → Option History) (faults : D → Faults) (start : Lists) (script : Requests) (run : Run) (steps : List JournalStep) (began : Seen) (old new : WorldValue D) : Type 0 where
  pub added : List RunEvent
  pub more : List JournalStep
  pub broke : Broken
  pub is : IsWorldOf start script (and_events run added) (steps ++ more) broke began (history new.store.disk) (faults new.store.disk) new
  pub busy : HasNoIdleTurn new
  pub later : All (λ event. told_calls (history old.store.disk) ≤ event.moment) added
  pub refused : AllTasks MayBeRefused old.rows → All IsRefusedAtOnce added → IsIdle (history old.store.disk) (history new.store.disk) × AllTasks MayBeRefused new.rows
  pub sealed : (m : MapMeaning) (origin : Option History) → HasSealed m run → MailIsKept (sealed_only m) origin (history old.store.disk) → HasSealed m (and_events run added) × MailIsKept (sealed_only m) origin (history new.store.disk)

-- a fetch among the first requests is one of the script's
fetch_before : (before rest : Requests) → has_fetch before ≡ true → has_fetch (before ++ rest) ≡ true
fetch_before before rest e = list_any-append (λ (asked : ℕ × Request). is_fetch asked.1) before rest ∙ ap (λ (b : Bool). b || has_fetch rest) e

module _ {D : Type 0} (history : D → Option History) (faults : D → Faults) (start : Lists) (script : Requests) (began : Seen) where
  -- how its fetches find their messages
  abbrev pub Finds : Run → Option History → Type 0
  Finds run now = has_fetch script ≡ true → IsSettledFor start began.history ⊎ ((length script ≡ 1) × (run.events ≡ [] → ReadsSafe start now))

  finds_asked : (before rest : Requests) (q : ℕ × Request) (run : Run) (now : Option History) → script ≡ (before ++ q ∷ []) ++ rest → Finds run now
      → (place at : ℕ) (name : List ℕ) (uid : Uid) → slice_get (before ++ q ∷ []) place ≡ Some (at, request.Fetch name uid) → FindsMessages start (before ++ q ∷ []) run began.history now
  finds_asked before rest q run now is finds place at name uid there =
      let some : has_fetch script ≡ true = ap has_fetch is ∙ fetch_before (before ++ q ∷ []) rest (fetches (before ++ q ∷ []) place at name uid there) in
      elim (finds some) [
        | inl settled ↦ inl settled
        | inr one ↦
            let all : length script ≡ length (before ++ q ∷ []) + length rest = ap length is ∙ length-append (before ++ q ∷ []) rest in
            let own = length-append before (q ∷ []) in
            let single = one.0 in
            inr (omega (arith, all, own, single), one.1)
      ]

  pub served_with : (before : Requests) (moves : List (ℕ × Option Request)) (old new : WorldValue D) (run : Run) (steps : List JournalStep) (failed : Broken) → script ≡ before ++ asked_in moves → GoesWith history faults moves old new → Finds run (history old.store.disk) → HasNoIdleTurn old
      → IsWorldOf start before run steps failed began (history old.store.disk) (faults old.store.disk) old → ServedWith history faults start script run steps began old new
  served_with before [] old new run steps failed is g finds busy world =
      let same : before ≡ script = sym (is ∙ append-nil before) in
      subst (λ (w : WorldValue D). ServedWith history faults start script run steps began old w) (sym g) (record {
        added = [];
        more = [];
        broke = failed;
        is =
            subst (λ (s : Requests). IsWorldOf start s (and_events run []) (steps ++ []) failed began (history old.store.disk) (faults old.store.disk) old) same
            (subst (λ (js : List JournalStep). IsWorldOf start before (and_events run []) js failed began (history old.store.disk) (faults old.store.disk) old) (sym (append-nil steps))
            (subst (λ (es : List RunEvent). IsWorldOf start before (record run { events = es }) steps failed began (history old.store.disk) (faults old.store.disk) old) (sym (append-nil run.events)) world));
        busy = busy;
        later = All-nil (λ (event : RunEvent). told_calls (history old.store.disk) ≤ event.moment);
        refused = λ begun all. (idle-begins (history old.store.disk), begun);
        sealed = λ m origin sealed kept. (subst (λ (es : List RunEvent). HasSealed m (record run { events = es })) (sym (append-nil run.events)) sealed, kept);
      })
  served_with before ((lane, None) ∷ moves) old new run steps failed is g finds busy world =
      let event = g.1.1 in
      let e = event.goes start before run steps failed began world in
      let later : Finds (and_then run e.0) (history g.0.store.disk) = λ some. elim (finds some) [ inl settled ↦ inl settled | inr one ↦ inr (one.0, λ none. absurd (no_event run.events e.0 none)) ] in
      let turned : HasNoIdleTurn g.0 = subst (λ (ts : List LaneTurn). All (λ turn. turn.idle ≡ false) ts) (sym g.1.2) (All-append (λ (turn : LaneTurn). turn.idle ≡ false) old.turns (turn_of lane false ∷ []) busy (All-cons (λ (turn : LaneTurn). turn.idle ≡ false) (turn_of lane false) [] refl (All-nil (λ (turn : LaneTurn). turn.idle ≡ false)))) in
      let r = served_with before moves g.0 new (and_then run e.0) (steps ++ e.1) e.2 is g.2 later turned e.4 in
      let grown = event.works.goes.goes.keeps.grows in
      record {
        added = e.0 ∷ r.added;
        more = e.1 ++ r.more;
        broke = r.broke;
        is =
            subst (λ (js : List JournalStep). IsWorldOf start script (and_events run (e.0 ∷ r.added)) js r.broke began (history new.store.disk) (faults new.store.disk) new) (append_assoc steps e.1 r.more)
            (subst (λ (es : List RunEvent). IsWorldOf start script (record run { events = es }) ((steps ++ e.1) ++ r.more) r.broke began (history new.store.disk) (faults new.store.disk) new) (append_assoc run.events (e.0 ∷ []) r.added) r.is);
        busy = r.busy;
        later =
            All-cons (λ (one : RunEvent). told_calls (history old.store.disk) ≤ one.moment) e.0 r.added (let at = e.3.moment_is in omega (arith, at, grown))
            (All-weaker (λ (one : RunEvent). told_calls (history g.0.store.disk) ≤ one.moment) (λ (one : RunEvent). told_calls (history old.store.disk) ≤ one.moment) (λ one at. omega (arith, at, grown)) r.added r.later);
        refused = λ begun each.
            let at_once = All-head IsRefusedAtOnce e.0 r.added each in
            let answered : ended_by event.works.event.ended ≡ Some (reply.Refused at_once.0) = sym e.3.reply_is ∙ at_once.1 in
            let own = (in_turn MayBeRefused lane old g.0 (history old.store.disk) (history g.0.store.disk) (faults old.store.disk) (faults g.0.store.disk) event begun).0 in
            let rest = tasks_after MayBeRefused lane old g.0 (history old.store.disk) (history g.0.store.disk) (faults old.store.disk) (faults g.0.store.disk) event (λ more. absurd (let k : None ≡ Some (reply.Refused at_once.0) = sym more ∙ answered in cc k)) begun in
            let there = r.refused rest (All-tail IsRefusedAtOnce e.0 r.added each) in
            (idle-then (history old.store.disk) (history g.0.store.disk) (history new.store.disk) (refused_event event.works.goes.queued.task event.works.goes.next old.store g.0.store (history old.store.disk) (history g.0.store.disk) (faults old.store.disk) (faults g.0.store.disk) (ended_by event.works.event.ended) at_once.0 own answered at_once.2 event.works.goes.goes.keeps) there.0, there.1);
        sealed = λ m origin sealed kept.
            let k = sealed_event m origin (history old.store.disk) (history g.0.store.disk) run e.0 old.store.map event.works.goes.goes.image world.going.serving.serves.come.come.map_is sealed kept e.3.mail in
            let more = r.sealed m origin k.0 k.1 in
            (subst (λ (es : List RunEvent). HasSealed m (record run { events = es })) (append_assoc run.events (e.0 ∷ []) r.added) more.0, more.1);
      }
    where
      no_event : (events : List RunEvent) (one : RunEvent) → events ++ one ∷ [] ≡ [] → ⊥
      no_event [] one e = cc e
      no_event (a ∷ events) one e = cc e
  served_with before ((lane, Some asked) ∷ moves) old new run steps failed is g finds busy world =
      let a = g.1 in
      let all : script ≡ (before ++ (lane, asked) ∷ []) ++ asked_in moves = is ∙ sym (append_assoc before ((lane, asked) ∷ []) (asked_in moves)) in
      let here : history g.0.store.disk ≡ history old.store.disk = same_history history faults lane asked old g.0 a in
      let counts : faults g.0.store.disk ≡ faults old.store.disk = same_faults history faults lane asked old g.0 a in
      let grown = asked_grows lane asked start before run steps failed began old g.0 (history old.store.disk) (faults old.store.disk) a busy (finds_asked before (asked_in moves) (lane, asked) run (history old.store.disk) all finds) world in
      let moved = subst (λ (f : Faults). IsWorldOf start (before ++ (lane, asked) ∷ []) run steps failed began (history g.0.store.disk) f g.0) (sym counts) (subst (λ (h : Option History). IsWorldOf start (before ++ (lane, asked) ∷ []) run steps failed began h (faults old.store.disk) g.0) (sym here) grown) in
      let still : HasNoIdleTurn g.0 = subst (λ (w : WorldValue D). HasNoIdleTurn w) (sym a.new_is) busy in
      let r = served_with (before ++ (lane, asked) ∷ []) moves g.0 new run steps failed all g.2 (subst (λ (h : Option History). Finds run h) (sym here) finds) still moved in
      record {
        added = r.added;
        more = r.more;
        broke = r.broke;
        is = r.is;
        busy = r.busy;
        later = subst (λ (h : Option History). All (λ event. told_calls h ≤ event.moment) r.added) here r.later;
        refused = λ begun each.
            let more = r.refused (tasks_asked MayBeRefused lane asked old g.0 a (λ t b. begun_first asked t b) begun) each in
            (subst (λ (h : Option History). IsIdle h (history new.store.disk)) here more.0, more.1);
        sealed = λ m origin sealed kept. r.sealed m origin sealed (subst (λ (h : Option History). MailIsKept (sealed_only m) origin h) (sym here) kept);
      }

-- ---- the facts of ChainLemmas

-- each stays over a request that is asked, whose task begins so
pub counted_asked : {D : Type 0} → (script : Requests) (origin : Option History) (start : Faults) → StaysAsked {D = D} script (HasCounted origin start)
counted_asked script origin start lane place asked old mid history faults there a is = subst (λ (w : WorldValue _). HasCounted origin start w history faults) (sym a.new_is) (record {
  grows = is.grows;
  reads = is.reads;
  changes = is.changes;
  unchanged = is.unchanged;
  replied = λ stopped. let r = is.replied stopped in (r.0, get_more old.replies (None ∷ []) r.0 (Some (reply.Refused refusal.Stopped)) r.1);
})

pub doomed_none_asked : {D : Type 0} → (lane : ℕ) (asked : Request) (old mid : WorldValue D) → IsRequestAsked lane asked old mid → ((t : Task) → BeginsTask asked t → DoomsNone t) → HasDoomedNone old → HasDoomedNone mid
doomed_none_asked lane asked old mid a holds is = record {
  tasks = tasks_asked DoomsNone lane asked old mid a holds is.tasks;
  files = subst (λ (w : WorldValue _). w.store.stopped ≡ false → DoomsNothing w.store) (sym a.new_is) is.files;
}

pub reads_asked : {D : Type 0} → (script : Requests) (origin : Option History) → ((place lane : ℕ) (asked : Request) (t : Task) → slice_get script place ≡ Some (lane, asked) → BeginsTask asked t → OnlyReads t × DoomsNone t) → StaysAsked {D = D} script (HasOnlyRead origin)
reads_asked script origin holds lane place asked old mid history faults there a is = record {
  tasks = tasks_asked OnlyReads lane asked old mid a (λ t b. (holds place lane asked t there b).0) is.tasks;
  undoomed = doomed_none_asked lane asked old mid a (λ t b. (holds place lane asked t there b).1) is.undoomed;
  idle = is.idle;
  running = ap (λ (w : WorldValue _). w.store.stopped) a.new_is ∙ is.running;
}

pub unread_asked : {D : Type 0} → (script : Requests) (start : Faults) → ((place lane : ℕ) (asked : Request) (t : Task) → slice_get script place ≡ Some (lane, asked) → BeginsTask asked t → ReadsNoOctets t) → StaysAsked {D = D} script (HasReadNoOctets start)
unread_asked script start holds lane place asked old mid history faults there a is = record { tasks = tasks_asked ReadsNoOctets lane asked old mid a (λ t b. holds place lane asked t there b) is.tasks; unread = is.unread }

pub calm_asked : {D : Type 0} → (script : Requests) (start : Faults) → ((place lane : ℕ) (asked : Request) (t : Task) → slice_get script place ≡ Some (lane, asked) → BeginsTask asked t → AnswersReads t) → StaysAsked {D = D} script (HasReadAsTold start)
calm_asked script start holds lane place asked old mid history faults there a is = record {
  tasks = tasks_asked AnswersReads lane asked old mid a (λ t b. holds place lane asked t there b) is.tasks;
  calm = λ untold. is.calm (λ i has. untold i (subst (λ (w : WorldValue _). HasReply w.replies i (reply.Refused refusal.ReadFault)) (sym a.new_is) (get_more old.replies (None ∷ []) i (Some (reply.Refused refusal.ReadFault)) has)));
}

pub unwritten_asked : {D : Type 0} → (script : Requests) (origin : Option History) → ((place lane : ℕ) (asked : Request) (t : Task) → slice_get script place ≡ Some (lane, asked) → BeginsTask asked t → WritesNoMail t × DoomsNone t) → StaysAsked {D = D} script (HasWrittenNone origin)
unwritten_asked script origin holds lane place asked old mid history faults there a is = record {
  tasks = tasks_asked WritesNoMail lane asked old mid a (λ t b. (holds place lane asked t there b).0) is.tasks;
  undoomed = doomed_none_asked lane asked old mid a (λ t b. (holds place lane asked t there b).1) is.undoomed;
  synced = subst (λ (w : WorldValue _). w.store.stopped ≡ false → SyncsMail origin history) (sym a.new_is) is.synced;
  kept = is.kept;
}
