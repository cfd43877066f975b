use Rattle.std.proofs.Common.{arith, codes}
use Rattle.std.proofs.lemmas.Bool.Decides.{Decides-eqb}
use Rattle.std.proofs.lemmas.Slice.Eq.{strip_prefix_is}
use Rattle.script_text.proofs.FlawLemmas.{same_delivery}
use Rattle.script_text.proofs.flaw.delivers.Goals as goal

pub returns-then-size-gt-MOST_OCTETS-clause-bad : goal.returns-then-size-gt-MOST_OCTETS-clause-bad
returns-then-size-gt-MOST_OCTETS-clause-bad c = λ is are.
    let told = strip_prefix_is Decides-eqb c.args.words.now (codes "deliver ") c.strip_prefix.result c.strip_prefix.ensures.cases in
    let words = rw c.in-Some.is at told in
    let found = c.in_ok-_name.ensures.found in
    let most = same_delivery c.args.words.now c.in-Some.arguments.now c.in_ok-_name._name c.in_ok-_name._time c.in_ok-_name.size found.0 found.1 found.2 words found.3 are in
    let more = c.if-size-gt-MOST_OCTETS.true in
    omega (arith, most, more)
