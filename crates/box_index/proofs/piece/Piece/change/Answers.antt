use Rattle.std.proofs.Common.{sym, ap, ◌∙◌, refl}
use Rattle.box_index.specs.declared.index.BoxRow.{BoxRow}
use Rattle.box_index.proofs.PiecesLemmas.{held-same}
use Rattle.box_index.proofs.RisingLemmas.{change-lacks, changed-at}
use Rattle.box_index.proofs.piece.Piece.change.Goals as goal

pub returns-in-Some : goal.returns-in-Some
returns-in-Some c =
    let rising = rw (← c.self.view_is) at c.requires in
    let within = rw c.deref.ensures.value at c.in-Some.ensures.within in
    let same = rw c.deref.ensures.value at c.in-Some.ensures.some in
    rw (← c.self.view_is, c.change.ensures) (held-same _ _ _ (changed-at rising.0 rising.1 _ _ c.self.inside.rows.items c.in-Some.place c.index_mut.result.now rising.2 within c.index_mut.ensures.value (ap (λ (row : BoxRow). row.uid.0) c.index_mut.ensures.value ∙ same c.index_mut.result.now)))

pub returns-in_default : goal.returns-in_default
returns-in_default c = rw (← c.self.view_is) (held-same _ _ _ (sym (change-lacks _ _ _ (rw c.deref.ensures.value at c.in_default.ensures.none refl))))
