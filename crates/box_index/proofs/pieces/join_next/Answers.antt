use Rattle.std.proofs.Common.{add-one, arith}
use Rattle.box_index.proofs.PiecesLemmas.{joined-rows, joined-filled}
use Rattle.box_index.proofs.pieces.join_next.Goals as goal

pub returns-then-can_join-clause-same : goal.returns-then-can_join-clause-same
returns-then-can_join-clause-same c =
    let items = rw add-one at c.remove-next.ensures.items in
    rw items (joined-rows c.args.pieces.now.items c.args.place c.index_mut.result.now c.remove-next.result c.join.new.self (omega arith) (rw items at c.index_mut.ensures.value) (rw add-one at c.remove-next.ensures.value) c.join.ensures)

pub returns-then-can_join-clause-filled : goal.returns-then-can_join-clause-filled
returns-then-can_join-clause-filled c =
    let items = rw add-one at c.remove-next.ensures.items in
    rw items (joined-filled c.args.pieces.now.items c.args.place c.index_mut.result.now c.remove-next.result c.join.new.self c.requires (omega arith) (rw add-one at c.remove-next.ensures.value) c.join.ensures)
