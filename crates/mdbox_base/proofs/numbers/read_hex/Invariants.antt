use Rattle.std.proofs.Common.{◌≡◌, ◌<◌, ◌^◌, drop}
use Rattle.mdbox_base.specs.Numbers.{hex_from}
use Rattle.mdbox_base.proofs.numbers.read_hex.Given as goal

abbrev pub invariant-loop-digit : goal.invariant-loop-digit
invariant-loop-digit l = record {
  small : l.value < 16 ^ l.digit-index;
  spelled : hex_from l.value (drop l.digit-index l.text) ≡ hex_from 0 l.text;
}
