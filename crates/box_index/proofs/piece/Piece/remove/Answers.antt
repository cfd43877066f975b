use Rattle.std.proofs.Common.{sym, ap, ◌∙◌, refl}
use Rattle.box_index.specs.declared.index.BoxRow.{BoxRow}
use Rattle.box_index.proofs.RisingLemmas.{filter-lacks, removed-at}
use Rattle.box_index.proofs.piece.Piece.remove.Goals as goal

pub returns-in-Some-clause-rows : goal.returns-in-Some-clause-rows
returns-in-Some-clause-rows c =
    let rising = rw (← c.self.view_is) at c.requires in
    let within = rw c.deref.ensures.value at c.in-Some.ensures.within in
    let same = rw c.deref.ensures.value at c.in-Some.ensures.some in
    rw (← c.self.view_is) (c.remove.ensures.items ∙ removed-at rising.0 rising.1 _ c.self.inside.rows.items c.in-Some.place c.remove.result rising.2 within c.remove.ensures.value (ap (λ (row : BoxRow). row.uid.0) c.remove.ensures.value ∙ same c.remove.result))

pub returns-in-None-clause-rows : goal.returns-in-None-clause-rows
returns-in-None-clause-rows c = rw (← c.self.view_is) (sym (filter-lacks _ _ (rw c.deref.ensures.value at c.in-None.ensures.none refl)))
