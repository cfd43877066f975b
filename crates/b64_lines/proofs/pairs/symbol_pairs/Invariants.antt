use Rattle.std.proofs.Common.{◌≡◌, ◌<◌, ◌*◌, ℕ, take, drop}
use Rattle.b64_lines.specs.Pairs.{pair_of}
use Rattle.b64_lines.proofs.pairs.symbol_pairs.Given as goal

abbrev pub invariant-loop-bits : goal.invariant-loop-bits
invariant-loop-bits l = record { done : (bits : ℕ) → bits < l.bits → take 2 (drop (2 * bits) l.pairs) ≡ pair_of bits }
