use Rattle.std.proofs.Common.{sym, ◌∙◌, ap, ◌∷◌, [], ◌≡◌}
use Rattle.std.proofs.lemmas.Bool.Decides.{Decides-eqb}
use Rattle.std.proofs.lemmas.List.{nil_from_length}
use Rattle.std.proofs.lemmas.Slice.Eq.{strip_prefix_is}
use Rattle.dbox_file.proofs.HeaderLemmas.{no_space, no_key, not_letter}
use Rattle.dbox_file.proofs.header_line.next_field.Goals as goal

pub returns-in_err-rest-clause-none : goal.returns-in_err-rest-clause-none
returns-in_err-rest-clause-none c =
    let told = strip_prefix_is Decides-eqb c.args.text.now (32 ∷ []) c.strip_prefix.result c.strip_prefix.ensures.cases in
    rw c.from_residual.ensures (λ fields p e. no_space fields c.args.text.now c.requires (rw c.in_err-rest.was at told) e)

pub returns-in_err-letter-clause-none : goal.returns-in_err-letter-clause-none
returns-in_err-letter-clause-none c =
    let told = strip_prefix_is Decides-eqb c.args.text.now (32 ∷ []) c.strip_prefix.result c.strip_prefix.ensures.cases in
    let cut : c.args.text.now ≡ 32 ∷ c.in_ok-rest.rest.now = rw c.in_ok-rest.was at told in
    rw c.from_residual-in_err-letter.ensures
    (λ fields p e. no_key fields c.args.text.now (cut ∙ ap (λ o. 32 ∷ o) (nil_from_length c.in_ok-rest.rest.now c.in_err-letter.ensures.cases)) e)

pub returns-then-not-is_ascii_alphabetic-clause-none : goal.returns-then-not-is_ascii_alphabetic-clause-none
returns-then-not-is_ascii_alphabetic-clause-none c =
    let told = strip_prefix_is Decides-eqb c.args.text.now (32 ∷ []) c.strip_prefix.result c.strip_prefix.ensures.cases in
    let cut : c.args.text.now ≡ 32 ∷ c.in_ok-rest.rest.now = rw c.in_ok-rest.was at told in
    λ fields p e. not_letter c.in_ok-letter.letter.now fields c.args.text.now c.in_ok-letter.rest.now
    (cut ∙ ap (λ o. 32 ∷ o) c.in_ok-letter.ensures.cases.0) (sym c.if-not-is_ascii_alphabetic.ensures.value) p e
