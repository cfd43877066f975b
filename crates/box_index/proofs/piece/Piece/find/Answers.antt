use Rattle.std.specs.Option.{option_copied}
use Rattle.std.proofs.Common.{sym, ap, ◌∙◌, refl}
use Rattle.box_index.specs.declared.index.BoxRow.{BoxRow}
use Rattle.box_index.proofs.RisingLemmas.{find-lacks, found-at}
use Rattle.box_index.proofs.piece.Piece.find.Goals as goal

pub returns-in_err-place : goal.returns-in_err-place
returns-in_err-place c = ap option_copied c.from_residual.ensures ∙ sym (rw (← c.self.view_is) (find-lacks _ _ (rw c.deref.ensures.value at c.in_err-place.ensures.none refl)))

pub returns : goal.returns
returns c =
    let rising = rw (← c.self.view_is) at c.requires in
    let within = rw c.deref.ensures.value at c.in_ok-place.ensures.within in
    let same = rw c.deref.ensures.value at c.in_ok-place.ensures.some in
    rw (← c.self.view_is) (sym (found-at rising.0 rising.1 _ c.self.inside.rows.items c.in_ok-place.place c.index.result.now rising.2 within c.index.ensures (ap (λ (row : BoxRow). row.uid.0) c.index.ensures ∙ same c.index.result.now)))
