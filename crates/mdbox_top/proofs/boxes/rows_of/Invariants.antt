use Rattle.std.proofs.Common.{◌≡◌, take}
use Rattle.store_core.specs.Value.{indexes_of}
use Rattle.mdbox_top.specs.BoxesRun.{box_rows}
use Rattle.mdbox_top.proofs.boxes.rows_of.Given as goal

abbrev pub invariant-loop-place : goal.invariant-loop-place
invariant-loop-place g l = l.rows ≡ take l.place (box_rows l.store.map.boxes (indexes_of l.store.boxes))
