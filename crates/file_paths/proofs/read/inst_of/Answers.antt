use Rattle.std.proofs.Common.{◌≡◌, ◌<◌, ◌++◌, ◌∷◌, [], List, ℕ, codes, sym, ◌∙◌, ap, arith, refl, slice_index}
use Rattle.std.proofs.lemmas.Bool.Decides.{Decides-eqb}
use Rattle.std.proofs.lemmas.Slice.Eq.{strip_prefix_is}
use Rattle.std.proofs.lemmas.Option.{IfSome_then}
use Rattle.hex.specs.Hex.{encode_lower}
use Rattle.model_octets.proofs.PiecesLemmas.{split_same}
use Rattle.file_paths.proofs.InstLemmas.{inst_text, behind_folder}
use Rattle.file_paths.proofs.read.inst_of.Goals as goal

pub returns-in_err-first-clause-none : goal.returns-in_err-first-clause-none
returns-in_err-first-clause-none c =
    let front = strip_prefix_is Decides-eqb c.args.path.now (codes "attachments/") c.strip_prefix.result c.strip_prefix.ensures.cases in
    let whole : c.args.path.now ≡ codes "attachments/" ++ c.in_ok-strip_prefix.field-0.now = rw c.in_ok-strip_prefix.was at front in
    rw c.from_residual-in_err-first.ensures (λ hash id h e.
    let lt : slice_index hash 0 < 256 = h.1 0 0 (omega (arith, h.0)) in
    let rest = (split_same (codes "attachments/") (codes "attachments/") _ _ refl (sym whole ∙ e ∙ inst_text hash id (omega (arith, h.0)))).1 in
    c.in_err-first.ensures.none (slice_index hash 0) _ lt rest)

pub returns-in_err-second-clause-none : goal.returns-in_err-second-clause-none
returns-in_err-second-clause-none c =
    let front = strip_prefix_is Decides-eqb c.args.path.now (codes "attachments/") c.strip_prefix.result c.strip_prefix.ensures.cases in
    let whole : c.args.path.now ≡ codes "attachments/" ++ c.in_ok-strip_prefix.field-0.now = rw c.in_ok-strip_prefix.was at front in
    rw c.from_residual-in_err-second.ensures (λ hash id h e.
    let lt : slice_index hash 1 < 256 = h.1 1 0 (omega (arith, h.0)) in
    let rest = (split_same (codes "attachments/") (codes "attachments/") _ _ refl (sym whole ∙ e ∙ inst_text hash id (omega (arith, h.0)))).1 in
    let r = behind_folder c.in_ok-first.first (slice_index hash 0) c.in_ok-first.rest.now _ (sym c.in_ok-first.ensures.some ∙ rest) in
    c.in_err-second.ensures.none (slice_index hash 1) _ lt r)

pub returns-clause-some : goal.returns-clause-some
returns-clause-some c =
    let front = strip_prefix_is Decides-eqb c.args.path.now (codes "attachments/") c.strip_prefix.result c.strip_prefix.ensures.cases in
    let whole : c.args.path.now ≡ codes "attachments/" ++ c.in_ok-strip_prefix.field-0.now = rw c.in_ok-strip_prefix.was at front in
    let first : c.in_ok-strip_prefix.field-0.now ≡ encode_lower (c.in_ok-first.first ∷ []) ++ (codes "/" ++ c.in_ok-first.rest.now) = c.in_ok-first.ensures.some in
    let second : c.in_ok-first.rest.now ≡ encode_lower (c.in_ok-second.second ∷ []) ++ (codes "/" ++ c.in_ok-second.text.now) = c.in_ok-second.ensures.some in
    IfSome_then c.inst_in.result c.inst_in.ensures.some (λ name p. (p.0, whole ∙ ap (λ (o : List ℕ). codes "attachments/" ++ o) (first ∙ ap (λ (o : List ℕ). encode_lower (c.in_ok-first.first ∷ []) ++ (codes "/" ++ o)) second) ∙ p.1))
