use Rattle.std.proofs.Common.{refl}
use Rattle.std.proofs.lemmas.Bool.Decides.{Decides-eqb}
use Rattle.std.proofs.lemmas.Slice.Eq.{strip_prefix_is, starts_is}
use Rattle.dbox_file.proofs.RunLemmas.{text_short, text_bad}
use Rattle.dbox_file.proofs.reading.behind.Goals as goal

pub returns-in-Some-clause-found : goal.returns-in-Some-clause-found
returns-in-Some-clause-found c =
    let told = strip_prefix_is Decides-eqb c.args.text.now c.args.wanted.now c.strip_prefix.result c.strip_prefix.ensures.cases in
    (tt, (c.args.wanted.now, rw c.in-Some.is at told, refl))

pub returns-in-None-clause-flaw : goal.returns-in-None-clause-flaw
returns-in-None-clause-flaw c =
    let told = strip_prefix_is Decides-eqb c.args.text.now c.args.wanted.now c.strip_prefix.result c.strip_prefix.ensures.cases in
    text_short c.args.wanted.now c.args.text.now _ (rw c.in-None.is at told) ((starts_is Decides-eqb c.args.wanted.now c.args.text.now c.starts_with.result c.starts_with.ensures.value).0 c.if-starts_with.true)

pub returns-in-None-2-clause-flaw : goal.returns-in-None-2-clause-flaw
returns-in-None-2-clause-flaw c =
    let told = strip_prefix_is Decides-eqb c.args.text.now c.args.wanted.now c.strip_prefix.result c.strip_prefix.ensures.cases in
    text_bad c.args.wanted.now c.args.text.now (rw c.in-None.is at told)
    (λ r e. let yes = (starts_is Decides-eqb c.args.wanted.now c.args.text.now c.starts_with.result c.starts_with.ensures.value).1 r e in cc (yes, c.if-starts_with.false))
