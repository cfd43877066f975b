use Rattle.std.proofs.Common.{◌-◌, length}
use Rattle.std.specs.Prelude.{◌≤◌, map, string_bytes}
use Rattle.usage_text.specs.Rules.{FitTo}
use Rattle.usage_text.proofs.rules.first_unfit.Given as goal

abbrev pub decreases-loop-place : goal.decreases-loop-place
decreases-loop-place l = length l.rules - l.place

-- the words so far fit
abbrev pub invariant-loop-place : goal.invariant-loop-place
invariant-loop-place l = record {
  within : l.place ≤ length l.rules;
  fit : FitTo l.rules (map string_bytes l.words) l.place;
}
