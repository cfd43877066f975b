-- Turns, one after another, and events without them.
use Rattle.std.proofs.Common.{◌≡◌, ◌≤◌, ◌+◌, ◌-◌, ◌^◌, ℕ, Bool, true, false, cond, List, [], ◌∷◌, ◌++◌, map, Option, None, refl, sym, ◌∙◌, ap, subst, arith, inl, inr}
use Rattle.std.specs.Prelude.{filter, length, not}
use Rattle.std.specs.Option.{option_map_or}
use Rattle.std.proofs.lemmas.List.{append-nil, append_assoc}
use Rattle.std.proofs.lemmas.List.Elements.{All-nil}
use Rattle.disk_model.specs.Disk.{Faults, History}
use Rattle.model_lists.specs.Lists.{Lists}
use Rattle.list_machine.specs.Run.{Run, RunEvent, and_then}
use Rattle.journal.specs.Journal.{Broken, JournalStep, Requests}
use Rattle.serving.specs.Turns.{IsTraceOf, IsTrueTurn, LaneTurn, lanes_worked}
use Rattle.serving.proofs.TurnLemmas.{trace_idle}
use Rattle.task_steps.specs.Step.{Seen}
use Rattle.lanes.specs.Rows.{LaneRow, lane_value, lanes_of}
use Rattle.lanes.specs.Turned.{CameInTurns, GoesInTurns, GoesOnInOrder, HasRun, IsTurnOf, WentOn, untraced}
use Rattle.lanes.specs.Worlds.{GoesInRounds, GoesOnBy, IsIdleLane, IsLaneEvent, IsServedOn, IsWorldOf, KeepsWorld, WorldValue, and_events, turn_of}
use Rattle.lanes.specs.declared.lane.Queued.{Queued}
use Rattle.lanes.specs.declared.turn.Turned.{Turned}
use Rattle.lanes.specs.declared.turn.Turned.TheVariants.{Idle, NoMemory, Worked}
use Rattle.lanes.proofs.GoingLemmas.{value_at}
use Rattle.lanes.proofs.RoundLemmas.{event_keeps, keeps_itself, keeps_then}
use Rattle.lanes.proofs.TraceLemmas.{finishing, other_turns}

-- ---- without turns

-- A world without its turns is of the same scripts and runs.
pub world_untraced : {D : Type 0} → (start : Lists) (script : Requests) (run : Run) (steps : List JournalStep) (failed : Broken) (began : Seen) (history : Option History) (faults : Faults) (world : WorldValue D) → IsWorldOf start script run steps failed began history faults world → IsWorldOf start script run steps failed began history faults (untraced world)
world_untraced start script run steps failed began history faults world is = record {
  going = is.going;
  entries = is.entries;
  broken = is.broken;
  counts = is.counts;
  trace = record { worked = (map (λ (event : RunEvent). event.lane) run.events, refl); idle = All-nil (IsTrueTurn (lanes_of world.rows)) };
}

-- an event is one of the worlds without their turns
pub event_untraced : {D : Type 0} → (lane : ℕ) (old new : WorldValue D) (before after : Option History) (first second : Faults) → 1 ≤ lane → old.began ≤ 2 ^ 64 - 1 → length old.replies ≤ 100000 → IsLaneEvent lane old new before after first second → IsLaneEvent lane (untraced old) (untraced new) before after first second
event_untraced lane old new before after first second some clock few e =
    (finishing lane (record old { turns = [] }) (record new { turns = []; finished = old.finished }) before after first second some
    (other_turns (lane - 1) (record old { turns = [] }) (record new { turns = old.turns }) (record new { turns = []; finished = old.finished }) old.turns old.finished before after first second e.works refl)
    clock few).0

rounds_untraced : {D : Type 0} → (last : ℕ) (lanes : List ℕ) (old new : WorldValue D) (before after : Option History) (first second : Faults) → old.began ≤ 2 ^ 64 - 1 → length old.replies ≤ 100000 → GoesInRounds last lanes old new before after first second → GoesOnInOrder lanes (untraced old) (untraced new) before after first second
rounds_untraced last [] old new before after first second clock few g = (ap untraced g.0, g.1, g.2)
rounds_untraced last (lane ∷ lanes) old new before after first second clock few g =
    let k = event_keeps lane old g.0 before g.1 first g.2 g.4 in (
      untraced g.0,
      g.1,
      g.2,
      event_untraced lane old g.0 before g.1 first g.2 g.3.is_lane.0 clock few g.4,
      refl,
      rounds_untraced lane lanes g.0 new g.1 after g.2 second (subst (λ (n : ℕ). n ≤ 2 ^ 64 - 1) (sym k.began) clock) (subst (λ (n : ℕ). n ≤ 100000) (sym k.requests) few) g.6,
    )

-- Events in rounds, which finish the lanes, are events of worlds without their turns.
pub rounds_events : {D : Type 0} → (lanes : List ℕ) (old new : WorldValue D) (before after : Option History) (first second : Faults) → old.began ≤ 2 ^ 64 - 1 → length old.replies ≤ 100000 → GoesOnBy lanes old new before after first second → GoesOnInOrder lanes (untraced old) (untraced new) before after first second
rounds_events lanes old new before after first second clock few g = rounds_untraced 0 lanes (record old { finished = true }) new before after first second clock few g

-- Events, and then others.
pub order_then : {D : Type 0} → (lanes more : List ℕ) (old mid new : WorldValue D) (before between after : Option History) (first counted second : Faults) → GoesOnInOrder lanes old mid before between first counted → GoesOnInOrder more mid new between after counted second → GoesOnInOrder (lanes ++ more) old new before after first second
order_then [] more old mid new before between after first counted second g h = rw (← g.0, ← g.1, ← g.2) h
order_then (lane ∷ lanes) more old mid new before between after first counted second g h =
    (g.0, g.1, g.2, g.3, g.4, order_then lanes more g.0 mid new g.1 between after g.2 counted second g.5 h)

-- ---- lanes that worked

worked_front : (turn : LaneTurn) (turns : List LaneTurn) (b : Bool) → turn.idle ≡ b → lanes_worked (turn ∷ turns) ≡ cond (not b) (turn.lane ∷ lanes_worked turns) (lanes_worked turns)
worked_front turn turns true is = ap (λ (b : Bool). map (λ (t : LaneTurn). t.lane) (cond (not b) (turn ∷ filter (λ (t : LaneTurn). not t.idle) turns) (filter (λ (t : LaneTurn). not t.idle) turns))) is
worked_front turn turns false is = ap (λ (b : Bool). map (λ (t : LaneTurn). t.lane) (cond (not b) (turn ∷ filter (λ (t : LaneTurn). not t.idle) turns) (filter (λ (t : LaneTurn). not t.idle) turns))) is

none_queued : (row : LaneRow) → row.current ≡ None → (lane_value row).queue ≡ []
none_queued row none = ap (λ (o : Option Queued). option_map_or (λ (first : Queued). first.place ∷ map (λ (q : Queued). q.place) row.waiting) o []) none

same_lane : (lane : ℕ) → 1 ≤ lane → turn_of (lane - 1 + 1) true ≡ turn_of lane true
same_lane lane some = let p : lane - 1 + 1 ≡ lane = omega (arith, some) in ap (λ (n : ℕ). turn_of n true) p

-- A world with an idle turn more is of the same run.
idle_world : {D : Type 0} → (lane : ℕ) (start : Lists) (script : Requests) (run : Run) (steps : List JournalStep) (failed : Broken) (began : Seen) (then : Option History) (counted : Faults) (old : WorldValue D) → 1 ≤ lane → IsIdleLane lane old.rows
    → IsWorldOf start script run steps failed began then counted old → IsWorldOf start script run steps failed began then counted (record old { turns = old.turns ++ turn_of lane true ∷ [] })
idle_world lane start script run steps failed began then counted old some none is = record {
  going = is.going;
  entries = is.entries;
  broken = is.broken;
  counts = is.counts;
  trace = subst (λ (t : LaneTurn). IsTraceOf old.finished (old.turns ++ t ∷ []) run (lanes_of old.rows)) (same_lane lane some)
      (trace_idle old.finished old.turns run (lanes_of old.rows) (lane - 1) (lane_value none.0) (value_at old.rows (lane - 1) none.0 none.1) (none_queued none.0 none.2) is.trace);
}

-- a turn more in a world's trace, which is all that changes
keeps_traced : {D : Type 0} → (world : WorldValue D) (turns : List LaneTurn) (history : Option History) (faults : Faults) → KeepsWorld world (record world { turns = turns }) history history faults faults
keeps_traced world turns history faults = let k = keeps_itself world history faults in assumption k

module _ {D : Type 0} (history : D → Option History) (faults : D → Faults) where
  -- ---- one more

  pub turns_more : (turns : List LaneTurn) (turn : LaneTurn) (old mid new : WorldValue D) → GoesInTurns history faults turns old mid → IsTurnOf history faults turn mid new → GoesInTurns history faults (turns ++ turn ∷ []) old new
  turns_more [] turn old mid new g t = (new, subst (λ (w : WorldValue D). IsTurnOf history faults turn w new) g t, refl)
  turns_more (a ∷ rest) turn old mid new g t = (g.0, g.1, turns_more rest turn g.0 mid new g.2 t)

  pub came_more : (turn : LaneTurn) (first old new : WorldValue D) → CameInTurns history faults first old → IsTurnOf history faults turn old new → CameInTurns history faults first new
  came_more turn first old new came t = record { sound = came.sound; turns = came.turns ++ turn ∷ []; goes = turns_more came.turns turn first old new came.goes t }

  -- what a turn of a world that came so leaves is a world that came so, whatever the turn came to
  pub came_on : (lane : ℕ) (t : Turned) (first old new : WorldValue D) → CameInTurns history faults first old → 1 ≤ lane
      → (t ≡ Worked → IsLaneEvent lane old new (history old.store.disk) (history new.store.disk) (faults old.store.disk) (faults new.store.disk) × (new.turns ≡ old.turns ++ turn_of lane false ∷ []))
      → (t ≡ Idle → IsIdleLane lane old.rows × (new ≡ record old { turns = old.turns ++ turn_of lane true ∷ [] }))
      → (t ≡ NoMemory → (old.turn_room ≤ length old.turns) × (new ≡ old)) → CameInTurns history faults first new
  came_on lane Worked first old new came some worked idle none = came_more (turn_of lane false) first old new came (inr (refl, (some, (worked refl).0, (worked refl).1)))
  came_on lane Idle first old new came some worked idle none = came_more (turn_of lane true) first old new came (inl (refl, (some, (idle refl).0, (idle refl).1)))
  came_on lane NoMemory first old new came some worked idle none = subst (λ (w : WorldValue D). CameInTurns history faults first w) (sym (none refl).1) came

  -- ---- what they keep

  abbrev pub Keeps : WorldValue D → WorldValue D → Type 0
  Keeps old new = KeepsWorld old new (history old.store.disk) (history new.store.disk) (faults old.store.disk) (faults new.store.disk)

  turn_keeps : (turn : LaneTurn) (old new : WorldValue D) → IsTurnOf history faults turn old new → Keeps old new
  turn_keeps turn old new (inl idle) = subst (λ (w : WorldValue D). Keeps old w) (sym idle.1.2) (keeps_traced old (old.turns ++ turn_of turn.lane true ∷ []) (history old.store.disk) (faults old.store.disk))
  turn_keeps turn old new (inr event) = event_keeps turn.lane old new (history old.store.disk) (history new.store.disk) (faults old.store.disk) (faults new.store.disk) event.1.1

  -- whatever the script and the disk
  pub turns_keep : (turns : List LaneTurn) (old new : WorldValue D) → GoesInTurns history faults turns old new → Keeps old new
  turns_keep [] old new g = subst (λ (w : WorldValue D). Keeps old w) (sym g) (keeps_itself old (history old.store.disk) (faults old.store.disk))
  turns_keep (turn ∷ turns) old new g =
      keeps_then old g.0 new (history old.store.disk) (history g.0.store.disk) (history new.store.disk) (faults old.store.disk) (faults g.0.store.disk) (faults new.store.disk) (turn_keeps turn old g.0 g.1) (turns_keep turns g.0 new g.2)

  turn_traced : (turn : LaneTurn) (old new : WorldValue D) → IsTurnOf history faults turn old new → (new.turns ≡ old.turns ++ turn ∷ []) × (new.finished ≡ old.finished)
  turn_traced turn old new (inl idle) = (
    ap (λ (w : WorldValue D). w.turns) idle.1.2 ∙ ap (λ (b : Bool). old.turns ++ turn_of turn.lane b ∷ []) (sym idle.0),
    ap (λ (w : WorldValue D). w.finished) idle.1.2,
  )
  turn_traced turn old new (inr event) = (event.1.2 ∙ ap (λ (b : Bool). old.turns ++ turn_of turn.lane b ∷ []) (sym event.0), event.1.1.works.finished_is)

  -- they are added to the trace
  pub turns_traced : (turns : List LaneTurn) (old new : WorldValue D) → GoesInTurns history faults turns old new → (new.turns ≡ old.turns ++ turns) × (new.finished ≡ old.finished)
  turns_traced [] old new g = (ap (λ (w : WorldValue D). w.turns) g ∙ sym (append-nil old.turns), ap (λ (w : WorldValue D). w.finished) g)
  turns_traced (turn ∷ turns) old new g = let k = turn_traced turn old g.0 g.1 in let r = turns_traced turns g.0 new g.2 in (
    r.0 ∙ (ap (λ (ts : List LaneTurn). ts ++ turns) k.0 ∙ append_assoc old.turns (turn ∷ []) turns),
    r.1 ∙ k.1,
  )

  -- ---- the world of a script

  -- what a world of a script and a run becomes
  abbrev Serves : List ℕ → WorldValue D → Lists → Requests → Run → List JournalStep → Seen → Type 0
  Serves lanes new start script run steps began =
      (added : List RunEvent) × (more : List JournalStep) × (broke : Broken) × (map (λ event. event.lane) added ≡ lanes) × IsWorldOf start script (and_events run added) (steps ++ more) broke began (history new.store.disk) (faults new.store.disk) new

  abbrev IsOfRun : WorldValue D → Lists → Requests → Run → List JournalStep → Broken → Seen → Type 0
  IsOfRun w start script run steps failed began = IsWorldOf start script run steps failed began (history w.store.disk) (faults w.store.disk) w

  one_serves : (turn : LaneTurn) (turns : List LaneTurn) (old mid new : WorldValue D) (start : Lists) (script : Requests) (began : Seen) → IsTurnOf history faults turn old mid
      → ((run : Run) (steps : List JournalStep) (failed : Broken) → IsOfRun mid start script run steps failed began → Serves (lanes_worked turns) new start script run steps began)
      → (run : Run) (steps : List JournalStep) (failed : Broken) → IsOfRun old start script run steps failed began → Serves (lanes_worked (turn ∷ turns)) new start script run steps began
  one_serves turn turns old mid new start script began (inl idle) rest run steps failed is =
      let there = subst (λ (w : WorldValue D). IsOfRun w start script run steps failed began) (sym idle.1.2)
      (idle_world turn.lane start script run steps failed began (history old.store.disk) (faults old.store.disk) old idle.1.0 idle.1.1 is) in
      let r = rest run steps failed there in
      (r.0, r.1, r.2, r.3 ∙ sym (worked_front turn turns true idle.0), r.4)
  one_serves turn turns old mid new start script began (inr event) rest run steps failed is =
      let e = event.1.1.goes start script run steps failed began is in
      let r = rest (and_then run e.0) (steps ++ e.1) e.2 e.4 in (
        e.0 ∷ r.0,
        e.1 ++ r.1,
        r.2,
        (ap (λ (n : ℕ). n ∷ map (λ (x : RunEvent). x.lane) r.0) e.3.lane_is ∙ ap (λ (ls : List ℕ). turn.lane ∷ ls) r.3) ∙ sym (worked_front turn turns false event.0),
        subst (λ (js : List JournalStep). IsWorldOf start script (and_events run (e.0 ∷ r.0)) js r.2 began (history new.store.disk) (faults new.store.disk) new) (append_assoc steps e.1 r.1)
            (subst (λ (es : List RunEvent). IsWorldOf start script (record run { events = es }) ((steps ++ e.1) ++ r.1) r.2 began (history new.store.disk) (faults new.store.disk) new) (append_assoc run.events (e.0 ∷ []) r.0) r.4),
      )

  turns_serve : (turns : List LaneTurn) (old new : WorldValue D) → GoesInTurns history faults turns old new → (start : Lists) (script : Requests) (began : Seen) (run : Run) (steps : List JournalStep) (failed : Broken) → IsOfRun old start script run steps failed began → Serves (lanes_worked turns) new start script run steps began
  turns_serve [] old new g start script began run steps failed is = (
    [],
    [],
    failed,
    refl,
    subst (λ (w : WorldValue D). IsWorldOf start script (and_events run []) (steps ++ []) failed began (history w.store.disk) (faults w.store.disk) w) (sym g)
        (subst (λ (js : List JournalStep). IsWorldOf start script (and_events run []) js failed began (history old.store.disk) (faults old.store.disk) old) (sym (append-nil steps))
        (subst (λ (es : List RunEvent). IsWorldOf start script (record run { events = es }) steps failed began (history old.store.disk) (faults old.store.disk) old) (sym (append-nil run.events)) is)),
  )
  turns_serve (turn ∷ turns) old new g start script began run steps failed is =
      one_serves turn turns old g.0 new start script began g.1 (λ r js f w. turns_serve turns g.0 new g.2 start script began r js f w) run steps failed is

  pub turns_served : (turns : List LaneTurn) (old new : WorldValue D) → GoesInTurns history faults turns old new → IsServedOn (lanes_worked turns) old new (history old.store.disk) (history new.store.disk) (faults old.store.disk) (faults new.store.disk)
  turns_served turns old new g start script run steps failed began is = turns_serve turns old new g start script began run steps failed is

  -- ---- events of worlds without their turns

  abbrev InOrder : List ℕ → WorldValue D → WorldValue D → Type 0
  InOrder lanes old new = GoesOnInOrder lanes (untraced old) (untraced new) (history old.store.disk) (history new.store.disk) (faults old.store.disk) (faults new.store.disk)

  one_event : (turn : LaneTurn) (turns : List LaneTurn) (old mid new : WorldValue D) → old.began ≤ 2 ^ 64 - 1 → length old.replies ≤ 100000 → IsTurnOf history faults turn old mid → InOrder (lanes_worked turns) mid new → InOrder (lanes_worked (turn ∷ turns)) old new
  one_event turn turns old mid new clock few (inl idle) rest = subst (λ (ls : List ℕ). InOrder ls old new) (sym (worked_front turn turns true idle.0)) (subst (λ (w : WorldValue D). InOrder (lanes_worked turns) w new) idle.1.2 rest)
  one_event turn turns old mid new clock few (inr event) rest = subst (λ (ls : List ℕ). InOrder ls old new) (sym (worked_front turn turns false event.0)) (
    untraced mid,
    history mid.store.disk,
    faults mid.store.disk,
    event_untraced turn.lane old mid (history old.store.disk) (history mid.store.disk) (faults old.store.disk) (faults mid.store.disk) event.1.0 clock few event.1.1,
    refl,
    rest,
  )

  pub turns_events : (turns : List LaneTurn) (old new : WorldValue D) → old.began ≤ 2 ^ 64 - 1 → length old.replies ≤ 100000 → GoesInTurns history faults turns old new → InOrder (lanes_worked turns) old new
  turns_events [] old new clock few g = (ap untraced g, ap (λ (w : WorldValue D). history w.store.disk) g, ap (λ (w : WorldValue D). faults w.store.disk) g)
  turns_events (turn ∷ turns) old new clock few g =
      let k = turn_keeps turn old g.0 g.1 in
      one_event turn turns old g.0 new clock few g.1
      (turns_events turns g.0 new (subst (λ (n : ℕ). n ≤ 2 ^ 64 - 1) (sym k.began) clock) (subst (λ (n : ℕ). n ≤ 100000) (sym k.requests) few) g.2)

  -- turns, and then events in rounds
  pub runs_events : (trace : List LaneTurn) (old new : WorldValue D) → HasRun history faults old trace new → WentOn history faults old new
  runs_events trace old new run =
      let clock = run.came.sound.clock in
      let few = run.came.sound.short in
      let k = turns_keep run.came.turns old run.mid run.came.goes in (
        lanes_worked run.came.turns ++ run.lanes,
        order_then (lanes_worked run.came.turns) run.lanes (untraced old) (untraced run.mid) (untraced new) (history old.store.disk) (history run.mid.store.disk) (history new.store.disk) (faults old.store.disk) (faults run.mid.store.disk) (faults new.store.disk)
            (turns_events run.came.turns old run.mid clock few run.came.goes)
            (rounds_events run.lanes run.mid new (history run.mid.store.disk) (history new.store.disk) (faults run.mid.store.disk) (faults new.store.disk) (subst (λ (n : ℕ). n ≤ 2 ^ 64 - 1) (sym k.began) clock) (subst (λ (n : ℕ). n ≤ 100000) (sym k.requests) few) run.ends),
      )
