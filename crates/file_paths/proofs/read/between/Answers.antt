use Rattle.std.proofs.Common.{◌≡◌, ◌++◌}
use Rattle.std.proofs.lemmas.Bool.Decides.{Decides-eqb}
use Rattle.std.proofs.lemmas.Slice.Eq.{strip_prefix_is, strip_suffix_is}
use Rattle.file_paths.proofs.ReadLemmas.{stripped, not_stripped}
use Rattle.file_paths.proofs.read.between.Goals as goal

pub returns-in_err-strip_prefix-clause-none : goal.returns-in_err-strip_prefix-clause-none
returns-in_err-strip_prefix-clause-none c =
    let front = strip_prefix_is Decides-eqb c.args.text.now c.args.front.now c.strip_prefix.result c.strip_prefix.ensures.cases in
    let none = rw c.in_err-strip_prefix.was at front in
    rw c.from_residual.ensures (λ middle e. none (middle ++ c.args.end.now) e)

pub returns-clause-some : goal.returns-clause-some
returns-clause-some c =
    let front = strip_prefix_is Decides-eqb c.args.text.now c.args.front.now c.strip_prefix.result c.strip_prefix.ensures.cases in
    let whole : c.args.text.now ≡ c.args.front.now ++ c.in_ok-strip_prefix.field-0.now = rw c.in_ok-strip_prefix.was at front in
    let end = strip_suffix_is Decides-eqb c.in_ok-strip_prefix.field-0.now c.args.end.now c.strip_suffix.result c.strip_suffix.ensures.cases in
    rw whole (stripped c.strip_suffix.result c.args.front.now c.in_ok-strip_prefix.field-0.now c.args.end.now end)

pub returns-clause-none : goal.returns-clause-none
returns-clause-none c =
    let front = strip_prefix_is Decides-eqb c.args.text.now c.args.front.now c.strip_prefix.result c.strip_prefix.ensures.cases in
    let whole : c.args.text.now ≡ c.args.front.now ++ c.in_ok-strip_prefix.field-0.now = rw c.in_ok-strip_prefix.was at front in
    let end = strip_suffix_is Decides-eqb c.in_ok-strip_prefix.field-0.now c.args.end.now c.strip_suffix.result c.strip_suffix.ensures.cases in
    rw whole (not_stripped c.strip_suffix.result c.args.front.now c.in_ok-strip_prefix.field-0.now c.args.end.now end)
