use Rattle.folder_disk.proofs.Common.{◌≡◌, ◌≢◌, ◌++◌, ◌∷◌, [], List, ℕ, codes, sym, ◌∙◌, ap, refl, encode_lower}
use Rattle.std.proofs.lemmas.Bool.Decides.{Decides-eqb}
use Rattle.std.proofs.lemmas.Slice.Eq.{strip_prefix_is}
use Rattle.std.proofs.lemmas.Option.{IfSome_then}
use Rattle.folder_disk.proofs.listing.octet_at.Goals as goal

pub returns-in_err-strip_prefix-clause-none : goal.returns-in_err-strip_prefix-clause-none
returns-in_err-strip_prefix-clause-none c =
    let front = strip_prefix_is Decides-eqb c.args.path.now c.args.above.now c.strip_prefix.result c.strip_prefix.ensures.cases in
    let none = rw c.in_err-strip_prefix.was at front in
    rw c.from_residual.ensures (λ octet fits e. none (codes "/" ++ encode_lower (octet ∷ [])) e)

pub returns-clause-some : goal.returns-clause-some
returns-clause-some c =
    let front = strip_prefix_is Decides-eqb c.args.path.now c.args.above.now c.strip_prefix.result c.strip_prefix.ensures.cases in
    let whole : c.args.path.now ≡ c.args.above.now ++ c.in_ok-strip_prefix.field-0.now = rw c.in_ok-strip_prefix.was at front in
    let next = strip_prefix_is Decides-eqb c.in_ok-strip_prefix.field-0.now (codes "/") c.strip_prefix-2.result c.strip_prefix-2.ensures.cases in
    let rest : c.in_ok-strip_prefix.field-0.now ≡ codes "/" ++ c.in_ok-strip_prefix-2.field-0.now = rw c.in_ok-strip_prefix-2.was at next in
    IfSome_then c.octet_of.result c.octet_of.ensures.some (λ octet is. whole ∙ ap (λ (o : List ℕ). c.args.above.now ++ o) (rest ∙ ap (λ (o : List ℕ). codes "/" ++ o) is))
