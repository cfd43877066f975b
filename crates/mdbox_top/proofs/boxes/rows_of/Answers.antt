use Rattle.std.proofs.Common.{◌∙◌, ◌∷◌, ◌++◌, [], List, length, take_all, sym, ap, arith}
use Rattle.request_text.specs.declared.boxes.BoxRow.{BoxRow}
use Rattle.model_meaning.specs.MapMeaning.{MapMeaning}
use Rattle.store_core.specs.Value.{indexes_of}
use Rattle.mail_ops.proofs.CountingLemmas.{one_meaning_each}
use Rattle.mdbox_top.specs.BoxesRun.{box_rows}
use Rattle.mdbox_top.proofs.BoxesLemmas.{as_many_rows, row_more}
use Rattle.mdbox_top.proofs.boxes.rows_of.Goals as goal

pub loop-place-preserved : goal.loop-place-preserved
loop-place-preserved g c =
    let rows = box_rows c.args.store.now.map.boxes (indexes_of c.args.store.now.boxes) in
    c.in_ok-push.ensures.ok ∙ ap (λ (rs : List BoxRow). rs ++ c.in_ok-row_at.field-0 ∷ []) c.loop-place.invariant ∙ sym (row_more rows c.loop-place.place c.in_ok-row_at.field-0 c.in_ok-row_at.ensures)

pub returns : goal.returns
returns g c =
    let rows = box_rows c.args.store.now.map.boxes (indexes_of c.args.store.now.boxes) in
    let many = as_many_rows c.args.store.now.map.boxes (indexes_of c.args.store.now.boxes) (one_meaning_each _ c.args.store.now c.facts.ensures.store) in
    let same = ap (λ (m : MapMeaning). length m.boxes) c.map-2.ensures in
    c.loop-place.invariant ∙ take_all c.loop-place.place rows (omega (arith, many, same))
