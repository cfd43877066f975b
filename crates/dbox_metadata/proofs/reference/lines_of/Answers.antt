use Rattle.std.proofs.Common.{◌≡◌, ◌++◌, true, codes}
use Rattle.std.proofs.lemmas.Bool.Decides.{Decides-eqb}
use Rattle.std.proofs.lemmas.Option.{IfSome_then}
use Rattle.std.proofs.lemmas.Slice.Eq.{strip_suffix_is}
use Rattle.dbox_metadata.proofs.OptionLemmas.{with_mark, lines_made}
use Rattle.dbox_metadata.proofs.SplitLemmas.{none_then}
use Rattle.dbox_metadata.proofs.reference.lines_of.Goals as goal

pub returns-in-Some-clause-some : goal.returns-in-Some-clause-some
returns-in-Some-clause-some c =
    let end = strip_suffix_is Decides-eqb c.args.text.now (codes "C") c.strip_suffix.result c.strip_suffix.ensures.cases in
    let whole : c.args.text.now ≡ c.in-Some.length.now ++ codes "C" = rw c.in-Some.is at end in
    IfSome_then c.form_with.result c.form_with.ensures.some (λ form p. (p.0, lines_made c.args.text.now c.in-Some.length.now form true p.1 p.2 whole))

pub returns-in-Some-clause-none : goal.returns-in-Some-clause-none
returns-in-Some-clause-none c =
    let end = strip_suffix_is Decides-eqb c.args.text.now (codes "C") c.strip_suffix.result c.strip_suffix.ensures.cases in
    let whole : c.args.text.now ≡ c.in-Some.length.now ++ codes "C" = rw c.in-Some.is at end in
    none_then c.form_with.result c.form_with.ensures.none (λ none form fits e. none form fits (with_mark c.args.text.now c.in-Some.length.now form fits whole e).1)
