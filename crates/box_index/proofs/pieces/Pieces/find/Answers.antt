use Rattle.std.specs.Option.{option_copied}
use Rattle.std.proofs.Common.{sym, ap, ◌∙◌, refl}
use Rattle.box_index.specs.Pieces.{rows_in}
use Rattle.box_index.proofs.RisingLemmas.{find-after, find-before, find-lacks}
use Rattle.box_index.proofs.PiecesLemmas.{rising-front, rising-back, rising-piece, lacks-before, lacks-last, found-in}
use Rattle.box_index.proofs.pieces.Pieces.find.Goals as goal

pub find-requires : goal.find-requires
find-requires c = rising-back _ _ (rw (← c.self.view_is) at c.requires)

pub returns-then-begins_by : goal.returns-then-begins_by
returns-then-begins_by c =
    let lacks = lacks-before c.args.uid.0 (rows_in c.self.inside.earlier.items) c.self.inside.last.rows (rw (← c.self.view_is) at c.requires) (sym c.begins_by.ensures ∙ c.if-begins_by.true) in
    c.find.ensures ∙ sym (rw (← c.self.view_is) (find-after c.args.uid.0 _ _ lacks))

pub piece_with-requires-clause-rising : goal.piece_with-requires-clause-rising
piece_with-requires-clause-rising c = rw c.deref.ensures.value (rising-front (rows_in c.self.inside.earlier.items) c.self.inside.last.rows (rw (← c.self.view_is) at c.requires))

pub returns-in_err-place : goal.returns-in_err-place
returns-in_err-place c =
    let lacks = lacks-last c.args.uid.0 (rows_in c.self.inside.earlier.items) c.self.inside.last.rows (rw (← c.self.view_is) at c.requires) (sym c.begins_by.ensures ∙ c.if-begins_by.false) in
    let none = rw c.deref.ensures.value at c.in_err-place.ensures.none refl in
    ap option_copied c.from_residual.ensures ∙ sym (rw (← c.self.view_is) (find-after c.args.uid.0 (rows_in c.self.inside.earlier.items) c.self.inside.last.rows none ∙ find-lacks c.args.uid.0 _ lacks))

pub find-requires-2 : goal.find-requires-2
find-requires-2 c =
    let only = rw c.deref.ensures.value at c.in_ok-place.ensures.some in
    rising-piece c.self.inside.earlier.items c.in_ok-place.place c.index.result.now (rising-front (rows_in c.self.inside.earlier.items) c.self.inside.last.rows (rw (← c.self.view_is) at c.requires)) only.0 c.index.ensures

pub returns : goal.returns
returns c =
    let lacks = lacks-last c.args.uid.0 (rows_in c.self.inside.earlier.items) c.self.inside.last.rows (rw (← c.self.view_is) at c.requires) (sym c.begins_by.ensures ∙ c.if-begins_by.false) in
    let only = rw c.deref.ensures.value at c.in_ok-place.ensures.some in
    c.find-2.ensures ∙ sym (rw (← c.self.view_is) (find-before c.args.uid.0 (rows_in c.self.inside.earlier.items) c.self.inside.last.rows lacks ∙ found-in c.args.uid.0 c.self.inside.earlier.items c.in_ok-place.place c.index.result.now only c.index.ensures))
