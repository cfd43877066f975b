use Rattle.std.proofs.Common.{◌∙◌, map, take_all, ap, arith}
use Rattle.std.specs.Prelude.{flat_map}
use Rattle.std.proofs.lemmas.List.{length-map}
use Rattle.store_checks.specs.declared.mailbox.CheckedBox.{CheckedBox}
use Rattle.mdbox_top.specs.BoxesRun.{box_rows}
use Rattle.mdbox_top.specs.RebuildRun.{row_told}
use Rattle.mdbox_top.proofs.BackLemmas.{told_more}
use Rattle.mdbox_top.proofs.BoxesLemmas.{as_many_rows}
use Rattle.mdbox_top.proofs.back.told_rows.Goals as goal

pub loop-place-preserved : goal.loop-place-preserved
loop-place-preserved c =
    told_more (box_rows c.args.checked.now.map.meaning.boxes (map (λ b. b.index.meaning) c.args.checked.now.boxes)) c.loop-place.place c.loop-place.text c.push_told.new.text c.loop-place.invariant c.in_ok-push_told.ensures

pub returns : goal.returns
returns c =
    let rows = box_rows c.args.checked.now.map.meaning.boxes (map (λ b. b.index.meaning) c.args.checked.now.boxes) in
    let many = as_many_rows c.args.checked.now.map.meaning.boxes (map (λ b. b.index.meaning) c.args.checked.now.boxes) (length-map c.args.checked.now.boxes (λ (b : CheckedBox). b.index.meaning) ∙ c.requires) in
    c.loop-place.invariant ∙ ap (flat_map row_told) (take_all c.loop-place.place rows (omega (arith, many)))
