-- The trace of a world as its lanes take turns, and as they are finished.
use Rattle.std.proofs.Common.{◌≡◌, ◌≤◌, ◌+◌, ◌-◌, ◌^◌, ℕ, Bool, true, false, List, [], ◌∷◌, ◌++◌, map, slice_set, Option, Some, None, refl, sym, ◌∙◌, ap, subst}
use Rattle.std.specs.Prelude.{length}
use Rattle.std.proofs.lemmas.List.{append-nil}
use Rattle.std.proofs.lemmas.Bool.{false_from_ne_true}
use Rattle.disk_model.specs.Disk.{Faults, History}
use Rattle.model_lists.specs.Lists.{Lists}
use Rattle.list_machine.specs.Run.{Run, RunEvent, and_then}
use Rattle.journal.specs.Journal.{Broken, JournalStep, Requests}
use Rattle.serving.specs.Lanes.{LaneValue}
use Rattle.serving.specs.Turns.{IsTraceOf, LaneTurn, MadeEvents, lanes_worked}
use Rattle.serving.proofs.TurnLemmas.{trace_finishing, trace_on}
use Rattle.task_steps.specs.Step.{Seen}
use Rattle.lane_tasks.specs.declared.task.Task.{Task}
use Rattle.lanes.specs.Rows.{LaneRow, lane_value, lanes_of}
use Rattle.lanes.specs.Going.{AddsEvent}
use Rattle.lanes.specs.Worlds.{IsIdleLane, IsLaneEvent, IsSoundWorld, IsWorldOf, Works, WorldValue, turn_of}
use Rattle.lanes.specs.declared.lane.Queued.{Queued}
use Rattle.lanes.proofs.GoingLemmas.{queue_is, rows_set, value_at}
use Rattle.lanes.proofs.SoundLemmas.{busy, not_idle}
use Rattle.lanes.proofs.WorldLemmas.{works_by, lane_back}

-- ---- turns

-- an event of a lane is one of the world whatever turns that has, and whether it is finished
pub other_turns : {D : Type 0} → (k : ℕ) (old new now : WorldValue D) (turns : List LaneTurn) (finished : Bool) (before after : Option History) (first second : Faults) → Works k (record old { turns = turns; finished = finished }) new before after first second → now ≡ record new { turns = old.turns; finished = old.finished }
    → Works k old now before after first second
other_turns k old new now turns finished before after first second w is = subst (λ (v : WorldValue _). Works k old v before after first second) (sym is) (record {
  row = w.row;
  now = w.now;
  event = w.event;
  there = w.there;
  goes = w.goes;
  rows_are = w.rows_are;
  unanswered = w.unanswered;
  replies_are = w.replies_are;
  scripted_are = w.scripted_are;
  replied_are = w.replied_are;
  earlier = w.earlier;
  earlier_is = w.earlier_is;
  later = w.later;
  later_is = w.later_is;
  journal = w.journal;
  broken = w.broken;
  began_is = w.began_is;
  turns_are = refl;
  room_is = w.room_is;
  finished_is = refl;
})

-- a lane that has a request in turn has some, before its event
was_busy : {D : Type 0} → (k : ℕ) (old new : WorldValue D) (before after : Option History) (first second : Faults) → (w : Works k old new before after first second) → (lane_value w.row).queue ≡ [] → (lane_value w.now).queue ≡ []
was_busy k old new before after first second w none = absurd (let z : w.goes.queued.place ∷ map (λ (q : Queued). q.place) w.row.waiting ≡ [] = sym (queue_is w.row w.goes.queued w.goes.was) ∙ none in cc z)

-- a world of which a lane has a request left wasn't finished
unfinished : {D : Type 0} → (k : ℕ) (old new : WorldValue D) (before after : Option History) (first second : Faults) → Works k old new before after first second → IsSoundWorld before old → old.finished ≡ false
unfinished k old new before after first second w s = false_from_ne_true old.finished (λ is. busy old.rows k w.row w.goes.queued w.there w.goes.was (s.idle is))

rows_are : {D : Type 0} → (k : ℕ) (old new : WorldValue D) (before after : Option History) (first second : Faults) → (w : Works k old new before after first second) → slice_set (lanes_of old.rows) k (lane_value w.now) ≡ lanes_of new.rows
rows_are k old new before after first second w = sym (rows_set old.rows k w.now) ∙ ap lanes_of (sym w.rows_are)

-- the lane of an event wasn't idle
busy_lane : {D : Type 0} → (lane : ℕ) (old new : WorldValue D) (before after : Option History) (first second : Faults) → Works (lane - 1) old new before after first second → IsIdleLane lane old.rows → ⊥
busy_lane lane old new before after first second w =
    not_idle lane old.rows w.row w.there (λ none. let z : Some w.goes.queued ≡ None = sym w.goes.was ∙ none in cc z)

-- What a world makes of an event makes it one of the lane, if its turns are a trace of the run with the event.
one_event : {D : Type 0} → (lane : ℕ) (old new : WorldValue D) (before after : Option History) (first second : Faults) → 1 ≤ lane → old.began ≤ 2 ^ 64 - 1 → length old.replies ≤ 100000 → (w : Works (lane - 1) old (record new { turns = old.turns }) before after first second)
    → ((start : Lists) (script : Requests) (run : Run) (steps : List JournalStep) (failed : Broken) (began : Seen) → IsWorldOf start script run steps failed began before first old → (added : RunEvent) → added.lane ≡ lane - 1 + 1 → IsTraceOf new.finished new.turns (and_then run added) (lanes_of new.rows))
    → IsLaneEvent lane old new before after first second
one_event {D} lane old new before after first second some clock few w trace = record {
  busy = busy_lane lane old (record new { turns = old.turns }) before after first second w;
  works = w;
  goes = λ start script run steps failed began world.
      let g = works_by (lane - 1) old (record new { turns = old.turns }) before after first second w clock few start script run steps failed began world in (
        g.added,
        g.more,
        g.broke,
        subst (λ (n : ℕ). AddsEvent n w.event run old.store.map before after first second g.added g.more failed g.broke) (sym (lane_back lane some)) g.adds,
        g.is new.finished new.turns (trace start script run steps failed began world g.added g.adds.lane_is),
      );
}

-- A turn of a lane that has a request left.
lane_event : {D : Type 0} → (lane : ℕ) (old new : WorldValue D) (before after : Option History) (first second : Faults) → 1 ≤ lane → Works (lane - 1) (record old { turns = old.turns ++ turn_of lane false ∷ [] }) new before after first second → IsSoundWorld before old
    → IsLaneEvent lane old new before after first second × (new.turns ≡ old.turns ++ turn_of lane false ∷ [])
lane_event {D} lane old new before after first second some works sound = (one_event lane old new before after first second some sound.clock sound.short w trace, works.turns_are)
  where
    w : Works (lane - 1) old (record new { turns = old.turns }) before after first second
    w = other_turns (lane - 1) old new (record new { turns = old.turns }) (old.turns ++ turn_of lane false ∷ []) old.finished before after first second works (ap (λ (b : Bool). record new { turns = old.turns; finished = b }) works.finished_is)

    none : old.finished ≡ false
    none = unfinished (lane - 1) old (record new { turns = old.turns }) before after first second w sound

    trace : (start : Lists) (script : Requests) (run : Run) (steps : List JournalStep) (failed : Broken) (began : Seen) → IsWorldOf start script run steps failed began before first old → (added : RunEvent) → added.lane ≡ lane - 1 + 1 → IsTraceOf new.finished new.turns (and_then run added) (lanes_of new.rows)
    trace start script run steps failed began world added own =
        subst (λ (b : Bool). IsTraceOf b new.turns (and_then run added) (lanes_of new.rows)) (sym (works.finished_is ∙ none))
        (subst (λ (ts : List LaneTurn). IsTraceOf false ts (and_then run added) (lanes_of new.rows)) (sym works.turns_are)
        (subst (λ (n : ℕ). IsTraceOf false (old.turns ++ turn_of n false ∷ []) (and_then run added) (lanes_of new.rows)) (sym (lane_back lane some))
        (subst (λ (lanes : List (LaneValue Task)). IsTraceOf false (old.turns ++ turn_of (lane - 1 + 1) false ∷ []) (and_then run added) lanes) (rows_are (lane - 1) old (record new { turns = old.turns }) before after first second w)
        (trace_on old.turns run (lanes_of old.rows) (lane - 1) (lane_value w.row) (lane_value w.now) added (value_at old.rows (lane - 1) w.row w.there) (was_busy (lane - 1) old (record new { turns = old.turns }) before after first second w) own
        (subst (λ (b : Bool). IsTraceOf b old.turns run (lanes_of old.rows)) none world.trace)))))

-- the same, as the world's own call has it
pub lane_turn : {D : Type 0} → (H : D → Option History) (F : D → Faults) (lane : ℕ) (was old new : WorldValue D) (turns : List LaneTurn) → was ≡ old → turns ≡ was.turns ++ turn_of lane false ∷ [] → 1 ≤ lane → IsSoundWorld (H was.store.disk) was
    → Works (lane - 1) (record was { turns = turns }) new (H was.store.disk) (H new.store.disk) (F was.store.disk) (F new.store.disk)
    → IsLaneEvent lane old new (H old.store.disk) (H new.store.disk) (F old.store.disk) (F new.store.disk) × (new.turns ≡ old.turns ++ turn_of lane false ∷ [])
lane_turn H F lane was old new turns same are some sound works =
    subst (λ (v : WorldValue _). IsLaneEvent lane v new (H v.store.disk) (H new.store.disk) (F v.store.disk) (F new.store.disk) × (new.turns ≡ v.turns ++ turn_of lane false ∷ [])) same
    (lane_event lane was new (H was.store.disk) (H new.store.disk) (F was.store.disk) (F new.store.disk) some
    (subst (λ (ts : List LaneTurn). Works (lane - 1) (record was { turns = ts }) new (H was.store.disk) (H new.store.disk) (F was.store.disk) (F new.store.disk)) are works) sound)

-- A turn of a lane that has no request left.
pub idle_turn : {D : Type 0} → (lane : ℕ) (was old : WorldValue D) (turns : List LaneTurn) → was ≡ old → turns ≡ was.turns ++ turn_of lane true ∷ [] → IsIdleLane lane was.rows → IsIdleLane lane old.rows × (record was { turns = turns } ≡ record old { turns = old.turns ++ turn_of lane true ∷ [] })
idle_turn lane was old turns same are idle =
    subst (λ (v : WorldValue _). IsIdleLane lane v.rows × (record was { turns = turns } ≡ record v { turns = v.turns ++ turn_of lane true ∷ [] })) same (idle, ap (λ (ts : List LaneTurn). record was { turns = ts }) are)

-- ---- events that finish the lanes

abbrev pub as_finished : {D : Type 0} → WorldValue D → WorldValue D
as_finished world = record world { finished = true }

-- an event that finishes the lanes is one of the world as it is finished
pub finishing : {D : Type 0} → (lane : ℕ) (old new : WorldValue D) (before after : Option History) (first second : Faults) → 1 ≤ lane → Works (lane - 1) old new before after first second → old.began ≤ 2 ^ 64 - 1 → length old.replies ≤ 100000
    → IsLaneEvent lane (as_finished old) (as_finished new) before after first second × (new.turns ≡ old.turns)
finishing {D} lane old new before after first second some works clock few = (one_event lane (as_finished old) (as_finished new) before after first second some clock few w trace, works.turns_are)
  where
    w : Works (lane - 1) (as_finished old) (record (as_finished new) { turns = old.turns }) before after first second
    w = other_turns (lane - 1) (as_finished old) new (record (as_finished new) { turns = old.turns }) old.turns old.finished before after first second works refl

    trace : (start : Lists) (script : Requests) (run : Run) (steps : List JournalStep) (failed : Broken) (began : Seen) → IsWorldOf start script run steps failed began before first (as_finished old) → (added : RunEvent) → added.lane ≡ lane - 1 + 1 → IsTraceOf true new.turns (and_then run added) (lanes_of new.rows)
    trace start script run steps failed began world added own =
        subst (λ (ts : List LaneTurn). IsTraceOf true ts (and_then run added) (lanes_of new.rows)) (sym works.turns_are)
        (subst (λ (lanes : List (LaneValue Task)). IsTraceOf true old.turns (and_then run added) lanes) (rows_are (lane - 1) old new before after first second works)
        (trace_finishing true old.turns run (lanes_of old.rows) (lane - 1) (lane_value works.row) (lane_value works.now) added (value_at old.rows (lane - 1) works.row works.there) (was_busy (lane - 1) old new before after first second works) world.trace))

-- what was made in turns is made of a world that is finished then
made_first : (finished : Bool) (worked : List ℕ) (run : Run) → MadeEvents finished worked run → MadeEvents true worked run
made_first false worked run is = ([], append-nil worked ∙ is)
made_first true worked run is = is

trace_done : (finished : Bool) (turns : List LaneTurn) (run : Run) (rows : List LaneRow) → IsTraceOf finished turns run (lanes_of rows) → IsTraceOf true turns run (lanes_of rows)
trace_done finished turns run rows t = record { worked = made_first finished (lanes_worked turns) run t.worked; idle = t.idle }

-- a world is of its script as it is finished, too
pub world_finished : {D : Type 0} → (start : Lists) (script : Requests) (run : Run) (steps : List JournalStep) (failed : Broken) (began : Seen) (history : Option History) (faults : Faults) (world : WorldValue D) → IsWorldOf start script run steps failed began history faults world → IsWorldOf start script run steps failed began history faults (as_finished world)
world_finished start script run steps failed began history faults world is = record { going = is.going; entries = is.entries; broken = is.broken; counts = is.counts; trace = trace_done world.finished world.turns run world.rows is.trace }
