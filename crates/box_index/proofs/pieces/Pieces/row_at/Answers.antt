use Rattle.std.proofs.Common.{sym, ◌∙◌}
use Rattle.box_index.proofs.PiecesLemmas.{row-in, row-past, row-last}
use Rattle.box_index.proofs.pieces.Pieces.row_at.Goals as goal

pub returns-then-after-length : goal.returns-then-after-length
returns-then-after-length c =
    let lt = rw c.deref-piece-items.ensures.value at c.loop-piece-test.true in
    let is = rw c.deref-piece-items.ensures.value at c.piece-item.is in
    let within = rw c.length.ensures at c.if-after-length.true in
    rw (← c.self.view_is) (c.row_at.ensures ∙ sym (c.loop-piece.invariant ∙ row-in c.self.inside.earlier.items c.loop-piece.piece-index c.piece-item.result c.self.inside.last.rows c.loop-piece.after lt is within))

pub loop-piece-preserved : goal.loop-piece-preserved
loop-piece-preserved c =
    let lt = rw c.deref-piece-items.ensures.value at c.loop-piece-test.true in
    let is = rw c.deref-piece-items.ensures.value at c.piece-item.is in
    let past = rw c.length.ensures at c.if-after-length.false in
    c.loop-piece.invariant ∙ rw c.length-after.ensures (row-past c.self.inside.earlier.items c.loop-piece.piece-index c.piece-item.result c.self.inside.last.rows c.loop-piece.after lt is past)

pub returns : goal.returns
returns c =
    let past = rw c.deref-piece-items.ensures.value at c.loop-piece-test.false in
    rw (← c.self.view_is) (c.row_at-2.ensures ∙ sym (c.loop-piece.invariant ∙ row-last c.self.inside.earlier.items c.loop-piece.piece-index c.self.inside.last.rows c.loop-piece.after past))
