use Rattle.std.proofs.Common.{◌≤◌, length}
use Rattle.std.proofs.lemmas.List.Elements.{All-rest}
use Rattle.box_index.specs.Pieces.{HeldRows}
use Rattle.box_index.proofs.rows.BoxRowsIterator.next.Goals as goal
use Rattle.box_index.proofs.rows.BoxRowsIterator.next.Goals.{then-is_empty+in-Some, then-is_empty+in-None, else-is_empty}

pub invariant_of-self-2 : goal.invariant_of-self-2
invariant_of-self-2 c = elim c.if-is_empty.branch [
  | then-is_empty+in-Some w ↦ rw w.self-inside-is (All-rest (λ (piece : HeldRows). 1 ≤ length piece.rows) w.in-Some.piece.now w.in-Some.earlier.now _ w.in-Some.ensures.cases.0 c.self.invariant)
  | then-is_empty+in-None w ↦ rw w.self-inside-is c.self.invariant
  | else-is_empty w ↦ rw w.self-inside-is c.self.invariant
]
