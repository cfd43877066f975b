use Rattle.std.proofs.Common.{◌≡◌, ◌≤◌, ◌++◌}
use Rattle.std.specs.Char.Escape.{escape_ascii}
use Rattle.std.specs.Char.Iter.{escape_byte_end, escape_byte_left, escape_byte_rest}
use Rattle.usage_text.proofs.line.push_escaped.Given as goal

abbrev pub decreases-loop-next : goal.decreases-loop-next
decreases-loop-next l = escape_byte_left l.escape

-- what is told and what is still to be told
abbrev pub invariant-loop-next : goal.invariant-loop-next
invariant-loop-next l = record {
  within : escape_byte_end l.escape ≤ 4;
  told : l.out ++ escape_byte_rest l.escape ≡ l.fn.out ++ escape_ascii l.octet;
}
