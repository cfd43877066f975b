use Rattle.std.proofs.Common.{◌∷◌, []}
use Rattle.std.proofs.lemmas.Bool.Decides.{Decides-eqb}
use Rattle.std.proofs.lemmas.Slice.Eq.{strip_prefix_is}
use Rattle.script_text.proofs.RequestLemmas.{name_front}
use Rattle.script_text.proofs.arguments.octets_and_rest.Goals as goal

pub returns-in_default-strip_prefix-clause-none : goal.returns-in_default-strip_prefix-clause-none
returns-in_default-strip_prefix-clause-none c = λ name rest n e.
    let told = strip_prefix_is Decides-eqb c.in-Some.behind.now (32 ∷ []) c.strip_prefix.result c.strip_prefix.ensures.cases in
    let none = rw c.in_default-strip_prefix.is at told in
    let found = c.in-Some.ensures.some in
    let r = name_front c.args.words.now c.in-Some.octets.now c.in-Some.behind.now name rest found.0 found.1 n e in
    none rest r.1
