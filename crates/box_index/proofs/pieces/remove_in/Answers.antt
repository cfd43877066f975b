use Rattle.std.proofs.Common.{List, length, slice_set, arith, sym, ap, ◌∙◌, refl}
use Rattle.std.proofs.lemmas.List.{length-set}
use Rattle.box_index.specs.declared.index.BoxRow.{BoxRow}
use Rattle.box_index.specs.Pieces.{HeldRows, rows_in}
use Rattle.box_index.proofs.PiecesLemmas.{rising-piece, removed-in, rows_in-remove, fewer-in}
use Rattle.box_index.proofs.pieces.remove_in.Goals as goal

pub remove-removed-requires : goal.remove-removed-requires
remove-removed-requires c = rising-piece c.args.pieces.now.items c.args.place c.index_mut.result.now c.requires.rising c.requires.only.0 c.index_mut.ensures.value

pub returns-then-is_empty-clause-rows : goal.returns-then-is_empty-clause-rows
returns-then-is_empty-clause-rows c =
    let lt = c.requires.only.0 in
    let none = ap (λ (p : HeldRows). length p.rows) (sym c.index.ensures) ∙ c.if-is_empty.ensures.0 refl in
    ap rows_in c.remove.ensures.items
    ∙ rows_in-remove (slice_set c.args.pieces.now.items c.args.place c.remove-removed.new.self) c.args.place c.index.result.now (rw length-set lt) none
    ∙ removed-in c.args.uid.0 c.args.pieces.now.items c.args.place c.index_mut.result.now c.remove-removed.new.self c.requires.only c.index_mut.ensures.value c.remove-removed.ensures.rows

pub returns-then-is_empty-clause-gone : goal.returns-then-is_empty-clause-gone
returns-then-is_empty-clause-gone c = λ removed.
    let lt = c.requires.only.0 in
    let none = ap (λ (p : HeldRows). length p.rows) (sym c.index.ensures) ∙ c.if-is_empty.ensures.0 refl in
    let same = ap (λ (t : List BoxRow). length t) (ap rows_in c.remove.ensures.items
    ∙ rows_in-remove (slice_set c.args.pieces.now.items c.args.place c.remove-removed.new.self) c.args.place c.index.result.now (rw length-set lt) none) in
    let one = fewer-in c.args.pieces.now.items c.args.place c.index_mut.result.now c.remove-removed.new.self lt c.index_mut.ensures.value (c.remove-removed.ensures.gone removed) in
    omega (arith, same, one)

pub returns-else-is_empty-clause-rows : goal.returns-else-is_empty-clause-rows
returns-else-is_empty-clause-rows c = removed-in c.args.uid.0 c.args.pieces.now.items c.args.place c.index_mut.result.now c.remove-removed.new.self c.requires.only c.index_mut.ensures.value c.remove-removed.ensures.rows

pub returns-else-is_empty-clause-gone : goal.returns-else-is_empty-clause-gone
returns-else-is_empty-clause-gone c = λ removed. fewer-in c.args.pieces.now.items c.args.place c.index_mut.result.now c.remove-removed.new.self c.requires.only.0 c.index_mut.ensures.value (c.remove-removed.ensures.gone removed)
