use Rattle.std.proofs.Common.{◌≡◌, map, take}
use Rattle.std.specs.Prelude.{flat_map}
use Rattle.mdbox_top.specs.BoxesRun.{box_rows}
use Rattle.mdbox_top.specs.RebuildRun.{row_told}
use Rattle.mdbox_top.proofs.back.told_rows.Given as goal

abbrev pub invariant-loop-place : goal.invariant-loop-place
invariant-loop-place l = l.text ≡ flat_map row_told (take l.place (box_rows l.checked.map.meaning.boxes (map (λ b. b.index.meaning) l.checked.boxes)))
