-- What the seat of a worker knows.
use Rattle.std.specs.Prelude.{◌≡◌, ◌≤◌, ◌++◌, ◌∷◌, ℕ, true, false, List, [], length}
use Rattle.turn_lock.specs.LockRule.{StartsWith}
use Rattle.turn_lock.specs.Seats.{IsFreeSeat, IsUnder, parts_with, seen_by}
use Rattle.turn_lock.specs.declared.lock.TurnLock.{TurnLock}
use Rattle.turn_lock.specs.declared.lock.TurnSeat.{TurnSeat}
use Rattle.lanes.specs.Worlds.{WorldValue, turn_of}
use Rattle.lanes.specs.declared.turn.Turned.{Turned}
use Rattle.lanes.specs.declared.turn.Turned.TheVariants as turned
use Rattle.mdbox_threads.specs.Handed.{HandedValue}
use Rattle.mdbox_threads.specs.Traces.{HasMarkOrIsFull, turn_number}

abbrev pub LockOf : Type 0 → Type 0
LockOf D = TurnLock (HandedValue D) (WorldValue D)

abbrev pub SeatOf : Type 0 → Type 0
SeatOf D = TurnSeat (HandedValue D) (WorldValue D)

-- the seat is free, and knows that each world under the lock came from this one
abbrev pub IsReadySeat : {D : Type 0} → LockOf D → WorldValue D → SeatOf D → Type 0
IsReadySeat lock first seat = IsFreeSeat lock seat × IsUnder first first.finished seat

-- A turn of this lane, which came to this, after turns that go on from all that its seat had seen.
abbrev pub HasTakenTurn : ℕ → ℕ → Turned → List ℕ → List ℕ → Type 0
HasTakenTurn lane room turned.Idle old new = (found : List ℕ) × StartsWith found old × (new ≡ found ++ turn_number (turn_of lane true) ∷ [])
HasTakenTurn lane room turned.Worked old new = (found : List ℕ) × StartsWith found old × (new ≡ found ++ turn_number (turn_of lane false) ∷ [])
HasTakenTurn lane room turned.NoMemory old new = StartsWith new old × (room ≤ length new)

-- The worker of this lane is done: its seat is ready as before, has seen more, and an idle turn of the lane, unless the trace is full.
pub record HasWorkedAway {D : Type 0} (lock : LockOf D) (first : WorldValue D) (lane : ℕ) (old new : SeatOf D) : Type 0 where
  pub ready : IsReadySeat lock first new
  pub parts : parts_with new ≡ parts_with old
  pub later : StartsWith (seen_by new) (seen_by old)
  pub done : HasMarkOrIsFull (turn_number (turn_of lane true)) first.turn_room (seen_by new)
