use Rattle.std.proofs.Common.{◌≡◌, ◌≤◌, ◌*◌, length, take}
use Rattle.std.specs.Prelude.{sum_by}
use Rattle.mdbox_top.proofs.numbers.octets_in.Given as goal

abbrev pub invariant-loop-row : goal.invariant-loop-row
invariant-loop-row l = (l.octets ≡ sum_by (λ row. row.size) (take (length l.yielded) l.index.meaning.rows)) × (l.octets ≤ 4294967296 * length l.yielded)
