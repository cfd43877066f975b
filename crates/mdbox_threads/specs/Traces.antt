-- Traces of turns: a mark in one, and the numbers by which a lock tells of one.
use Rattle.std.specs.Prelude.{◌≤◌, ◌⊎◌, ◌+◌, ◌*◌, ℕ, List, length, map, if◌then◌else◌}
use Rattle.std.specs.List.{Contains}
use Rattle.serving.specs.Turns.{LaneTurn}

-- the mark stands in the trace, or the trace has at least so many turns
abbrev pub HasMarkOrIsFull : {A : Type 0} → A → ℕ → List A → Type 0
HasMarkOrIsFull mark room trace = Contains trace mark ⊎ (room ≤ length trace)

-- the number of a turn: no two turns have one
abbrev pub turn_number : LaneTurn → ℕ
turn_number turn = 2 * turn.lane + (if turn.idle then 1 else 0)

abbrev pub turn_numbers : List LaneTurn → List ℕ
turn_numbers turns = map turn_number turns
