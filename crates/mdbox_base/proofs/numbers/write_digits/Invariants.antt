use Rattle.std.proofs.Common.{◌≡◌, ◌<◌, ◌+◌, ◌-◌, ◌^◌, false, drop}
use Rattle.std.specs.Fmt.{digits}
use Rattle.mdbox_base.proofs.DigitLemmas.{digits_to}
use Rattle.mdbox_base.proofs.numbers.write_digits.Given as goal

abbrev pub invariant-loop-rest : goal.invariant-loop-rest
invariant-loop-rest l = record {
  within : l.start < 20;
  small : l.rest < 10 ^ (l.start + 1);
  written : digits_to l.start l.base l.rest (drop (l.start + 1) l.text) ≡ digits l.base false l.value;
}

abbrev pub decreases-loop-rest : goal.decreases-loop-rest
decreases-loop-rest l = l.rest + 1 - l.base
