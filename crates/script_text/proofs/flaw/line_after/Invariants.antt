use Rattle.std.proofs.Common.{◌≡◌, ◌≤◌, ◌+◌, nat_eq, take}
use Rattle.std.specs.List.{count_by}
use Rattle.script_text.proofs.flaw.line_after.Given as goal

-- the lines so far
abbrev pub invariant-loop-octet : goal.invariant-loop-octet
invariant-loop-octet l = record {
  counted : l.line ≡ 1 + count_by (λ octet. nat_eq octet 10) (take l.octet-index l.before);
  few : l.line ≤ 1 + l.octet-index;
}
