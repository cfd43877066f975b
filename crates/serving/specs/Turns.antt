-- The turns of lanes: which were taken in which order, and which of them made an event.
use Rattle.std.specs.Prelude.{◌≡◌, ◌+◌, ℕ, Bool, true, false, not, List, [], All, filter, map, slice_get, Some}
use Rattle.list_machine.specs.Run.{Run}
use Rattle.journal.specs.Journal.{IsFirstPart}
use Rattle.serving.specs.Lanes.{LaneValue}

-- A turn of a lane, which was idle if the lane had no request left.
pub record LaneTurn : Type 0 where
  pub lane : ℕ
  pub idle : Bool

-- the lanes of the turns that weren't idle
abbrev pub lanes_worked : List LaneTurn → List ℕ
lanes_worked turns = map (λ turn. turn.lane) (filter (λ turn. not turn.idle) turns)

-- The turns of these lanes made a run's events, in order. Events that finish the lanes are nobody's turn: once there are such, turns
-- made the first of the events.
abbrev pub MadeEvents : Bool → List ℕ → Run → Type 0
MadeEvents false worked run = worked ≡ map (λ event. event.lane) run.events
MadeEvents true worked run = IsFirstPart worked (map (λ event. event.lane) run.events)

-- If a turn was idle, its lane has no request left.
abbrev pub IsTrueTurn : {T : Type 0} → List (LaneValue T) → LaneTurn → Type 0
IsTrueTurn lanes turn = turn.idle ≡ true → (k : ℕ) (value : LaneValue _) → turn.lane ≡ k + 1 → slice_get lanes k ≡ Some value → value.queue ≡ []

-- Turns are a trace of a run, which may have gone on without turns to finish the lanes: those that weren't idle made its events, and
-- those that were idle are of lanes that have no request left.
pub record IsTraceOf {T : Type 0} (finished : Bool) (turns : List LaneTurn) (run : Run) (lanes : List (LaneValue T)) : Type 0 where
  pub worked : MadeEvents finished (lanes_worked turns) run
  pub idle : All (IsTrueTurn lanes) turns
