use Rattle.std.proofs.Common.{◌≡◌, ◌≤◌, ◌*◌, take}
use Rattle.std.specs.Prelude.{sum_by}
use Rattle.store_core.specs.Value.{indexes_of}
use Rattle.mdbox_top.specs.Numbers.{box_octets}
use Rattle.mdbox_top.proofs.numbers.octets_of.Given as goal

abbrev pub invariant-loop-place : goal.invariant-loop-place
invariant-loop-place g l = (l.octets ≡ sum_by box_octets (take l.place (indexes_of l.store.boxes))) × (l.octets ≤ 4294967296000000 * l.place)
