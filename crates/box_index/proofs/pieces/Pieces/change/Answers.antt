use Rattle.std.proofs.Common.{List, ◌++◌, sym, ap, ◌∙◌, refl}
use Rattle.box_index.specs.declared.index.BoxRow.{BoxRow}
use Rattle.box_index.specs.Pieces.{rows_in}
use Rattle.box_index.proofs.RisingLemmas.{change-after, change-before, change-lacks}
use Rattle.box_index.proofs.PiecesLemmas.{rising-front, rising-back, rising-piece, lacks-before, lacks-last, changed-in, changed-filled, changed-length, held-same}
use Rattle.box_index.proofs.pieces.Pieces.change.Goals as goal

pub change-requires : goal.change-requires
change-requires c = rising-back _ _ (rw (← c.self.view_is) at c.requires)

pub piece_with-requires-clause-rising : goal.piece_with-requires-clause-rising
piece_with-requires-clause-rising c = rw c.deref.ensures.value (rising-front (rows_in c.self.inside.earlier.items) c.self.inside.last.rows (rw (← c.self.view_is) at c.requires))

pub change-requires-in-Some : goal.change-requires-in-Some
change-requires-in-Some c =
    let only = rw c.deref.ensures.value at c.in-Some.ensures.some in
    rising-piece c.self.inside.earlier.items c.in-Some.place c.index_mut.result.now (rising-front (rows_in c.self.inside.earlier.items) c.self.inside.last.rows (rw (← c.self.view_is) at c.requires)) only.0 c.index_mut.ensures.value

pub invariant_of-self-in-Some : goal.invariant_of-self-in-Some
invariant_of-self-in-Some c =
    let only = rw c.deref.ensures.value at c.in-Some.ensures.some in
    let is = ap (λ p. p.rows) c.change-in-Some.ensures in (
      changed-filled c.args.uid.0 c.args.change c.self.inside.earlier.items c.in-Some.place c.index_mut.result.now c.change-in-Some.new.self c.self.invariant.0 only.0 c.index_mut.ensures.value is,
      c.self.invariant.1 ∙ changed-length c.args.uid.0 c.args.change c.self.inside.earlier.items c.in-Some.place c.index_mut.result.now c.change-in-Some.new.self c.self.inside.last.rows only c.index_mut.ensures.value is,
    )

pub returns-then-begins_by : goal.returns-then-begins_by
returns-then-begins_by c =
    let lacks = lacks-before c.args.uid.0 (rows_in c.self.inside.earlier.items) c.self.inside.last.rows (rw (← c.self.view_is) at c.requires) (sym c.begins_by.ensures ∙ c.if-begins_by.true) in
    rw (← c.self.view_is, c.change.ensures) (held-same _ _ _ (sym (change-after c.args.uid.0 c.args.change (rows_in c.self.inside.earlier.items) c.self.inside.last.rows lacks)))

pub returns-in-Some : goal.returns-in-Some
returns-in-Some c =
    let lacks = lacks-last c.args.uid.0 (rows_in c.self.inside.earlier.items) c.self.inside.last.rows (rw (← c.self.view_is) at c.requires) (sym c.begins_by.ensures ∙ c.if-begins_by.false) in
    let only = rw c.deref.ensures.value at c.in-Some.ensures.some in
    let later = changed-in c.args.uid.0 c.args.change c.self.inside.earlier.items c.in-Some.place c.index_mut.result.now c.change-in-Some.new.self only c.index_mut.ensures.value (ap (λ p. p.rows) c.change-in-Some.ensures) in
    rw (← c.self.view_is) (held-same _ _ _ (ap (λ (t : List BoxRow). t ++ c.self.inside.last.rows) later ∙ sym (change-before c.args.uid.0 c.args.change (rows_in c.self.inside.earlier.items) c.self.inside.last.rows lacks)))

pub returns-in_default : goal.returns-in_default
returns-in_default c =
    let lacks = lacks-last c.args.uid.0 (rows_in c.self.inside.earlier.items) c.self.inside.last.rows (rw (← c.self.view_is) at c.requires) (sym c.begins_by.ensures ∙ c.if-begins_by.false) in
    let none = rw c.deref.ensures.value at c.in_default.ensures.none refl in
    rw (← c.self.view_is) (held-same _ _ _ (sym (change-after c.args.uid.0 c.args.change (rows_in c.self.inside.earlier.items) c.self.inside.last.rows none ∙ ap (λ (t : List BoxRow). rows_in c.self.inside.earlier.items ++ t) (change-lacks c.args.uid.0 c.args.change c.self.inside.last.rows lacks))))
