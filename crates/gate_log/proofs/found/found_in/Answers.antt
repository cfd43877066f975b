use Rattle.std.proofs.Common.{◌≡◌, ◌+◌, ℕ, List, length, get_or, ◌∙◌, ap, arith}
use Rattle.gate_log.proofs.OpenLogLemmas.{long-is, gate-is}
use Rattle.gate_log.proofs.TextLemmas.{text-few}
use Rattle.gate_log.proofs.found.found_in.Goals as goal
use Rattle.gate_log.proofs.found.found_in.Goals.{After-as_slice-octets}

long : (c : After-as_slice-octets) → length c.as_slice-octets.result.now ≡ c.args.text.now.end + 1 + length c.requires.1.log.behind
long c = ap length c.as_slice-octets.ensures ∙ long-is c.args.text.now.octets c.args.text.now.head c.requires.0 c.args.text.now.end c.requires.1.log c.requires.1.end

pub bounds-octets-end : goal.bounds-octets-end
bounds-octets-end c = omega (arith, long (goal.at.bounds-octets-end c).After-as_slice-octets)

pub overflow_sub-result : goal.overflow_sub-result
overflow_sub-result c = omega (arith, long (goal.at.overflow_sub-result c).After-as_slice-octets)

pub overflow_sub-result-2 : goal.overflow_sub-result-2
overflow_sub-result-2 c = omega (arith, long (goal.at.overflow_sub-result-2 c).After-as_slice-octets)

pub invariant_of-result : goal.invariant_of-result
invariant_of-result c = (omega (arith, long (goal.at.invariant_of-result c).After-as_slice-octets, c.as_slice-octets.type_inv.1), text-few c.args.text.now c.requires)

pub returns-clause-end : goal.returns-clause-end
returns-clause-end c = λ entries log e. (
  ap (λ (o : List ℕ). get_or o c.args.text.now.end 0) c.as_slice-octets.ensures ∙ gate-is c.args.text.now.octets c.args.text.now.head entries c.args.text.now.end 0 log e,
  let all : length c.as_slice-octets.result.now ≡ c.args.text.now.end + 1 + length log.behind = ap length c.as_slice-octets.ensures ∙ long-is c.args.text.now.octets c.args.text.now.head entries c.args.text.now.end log e in omega (arith, all),
)
