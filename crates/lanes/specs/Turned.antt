-- Turns of lanes, one after another, and what they make of a world.
use Rattle.std.specs.Prelude.{◌≡◌, ◌≤◌, ◌⊎◌, ◌++◌, ◌∷◌, ℕ, true, false, List, [], Option}
use Rattle.disk_model.specs.Disk.{Faults, History}
use Rattle.serving.specs.Serving.{AreIdle}
use Rattle.serving.specs.Turns.{LaneTurn}
use Rattle.lanes.specs.Asked.{IsEventTurn}
use Rattle.lanes.specs.Rows.{lanes_of}
use Rattle.lanes.specs.Worlds.{GoesOnBy, IsIdleLane, IsLaneEvent, IsSoundWorld, WorldValue, turn_of}

-- ---- turns, one after another

-- A turn of a lane that has no request left: only the turn is added.
abbrev pub IsIdleTurn : {D : Type 0} → ℕ → WorldValue D → WorldValue D → Type 0
IsIdleTurn lane old new = (1 ≤ lane) × IsIdleLane lane old.rows × (new ≡ record old { turns = old.turns ++ turn_of lane true ∷ [] })

-- A turn of a lane: idle, if it has no request left, and else an event of it.
abbrev pub IsTurnOf : {D : Type 0} → (D → Option History) → (D → Faults) → LaneTurn → WorldValue D → WorldValue D → Type 0
IsTurnOf history faults turn old new = ((turn.idle ≡ true) × IsIdleTurn turn.lane old new) ⊎ ((turn.idle ≡ false) × IsEventTurn history faults turn.lane old new)

-- These turns, in whatever order of lanes. Where one ends, the next begins.
abbrev pub GoesInTurns : {D : Type 0} → (D → Option History) → (D → Faults) → List LaneTurn → WorldValue D → WorldValue D → Type 0
GoesInTurns history faults [] old new = new ≡ old
GoesInTurns history faults (turn ∷ turns) old new = (mid : WorldValue _) × IsTurnOf history faults turn old mid × GoesInTurns history faults turns mid new

-- The world came from the first one, which was sound, by turns.
pub record CameInTurns {D : Type 0} (history : D → Option History) (faults : D → Faults) (first world : WorldValue D) : Type 0 where
  pub sound : IsSoundWorld (history first.store.disk) first
  pub turns : List LaneTurn
  pub goes : GoesInTurns history faults turns first world

-- The world went on by turns, of which this is the trace, and then by events that finish the lanes, in rounds.
pub record HasRun {D : Type 0} (history : D → Option History) (faults : D → Faults) (old : WorldValue D) (trace : List LaneTurn) (new : WorldValue D) : Type 0 where
  pub mid : WorldValue D
  pub came : CameInTurns history faults old mid
  pub lanes : List ℕ
  pub ends : GoesOnBy lanes mid new (history mid.store.disk) (history new.store.disk) (faults mid.store.disk) (faults new.store.disk)
  pub trace_is : trace ≡ old.turns ++ came.turns
  pub traced : new.turns ≡ trace
  pub finished : new.finished ≡ true
  pub idle : AreIdle (lanes_of new.rows)

-- ---- events alone

-- Events of these lanes, one after another, in whatever order, and no turn is added. Of each the disk tells what it did at the end of the
-- one before.
abbrev pub GoesOnInOrder : {D : Type 0} → List ℕ → WorldValue D → WorldValue D → Option History → Option History → Faults → Faults → Type 0
GoesOnInOrder [] old new before after first second = (new ≡ old) × (after ≡ before) × (second ≡ first)
GoesOnInOrder (lane ∷ lanes) old new before after first second =
    (mid : WorldValue _) × (between : Option History) × (counted : Faults) × IsLaneEvent lane old mid before between first counted × (mid.turns ≡ old.turns) × GoesOnInOrder lanes mid new between after counted second

-- a world without its turns, finished
abbrev pub untraced : {D : Type 0} → WorldValue D → WorldValue D
untraced world = record world { turns = []; finished = true }

-- The world went on by events of lanes, whatever their turns.
abbrev pub WentOn : {D : Type 0} → (D → Option History) → (D → Faults) → WorldValue D → WorldValue D → Type 0
WentOn history faults first world =
    (lanes : List ℕ) × GoesOnInOrder lanes (untraced first) (untraced world) (history first.store.disk) (history world.store.disk) (faults first.store.disk) (faults world.store.disk)
