-- Where a path's last "/" stands.
use Rattle.std.proofs.Common.{◌≡◌, ◌≢◌, ℕ, ◌+◌, ◌==◌, ◌<◌, if◌then◌else◌, List, [], ◌∷◌, ◌++◌, length, take, Some, refl, sym, ◌∙◌, ap, inl, inr, get_or}
use Rattle.std.proofs.lemmas.Bool.{cases_Bool, cond-true, cond-false, eqb-true, eq-eqb}
use Rattle.std.proofs.lemmas.List.{take_more}
use Rattle.folder_model.specs.Paths.{before_slash, put_before_slash}

before_slash-push : (path : List ℕ) (octet : ℕ) → before_slash (path ++ octet ∷ []) ≡ (if octet == 47 then Some path else before_slash path)
before_slash-push [] octet = refl
before_slash-push (x ∷ path) octet = ap (put_before_slash x) (before_slash-push path octet) ∙ elim (cases_Bool (octet == 47)) [
  | inl is ↦ ap (put_before_slash x) (cond-true (octet == 47) _ _ is) ∙ sym (cond-true (octet == 47) _ _ is)
  | inr apart ↦ ap (put_before_slash x) (cond-false (octet == 47) _ _ apart) ∙ sym (cond-false (octet == 47) _ _ apart)
]

pub before_slash-here : (path : List ℕ) (i octet : ℕ) → i < length path → octet ≡ get_or path i octet → octet ≡ 47 → before_slash (take (i + 1) path) ≡ Some (take i path)
before_slash-here path i octet below is slash =
    ap before_slash (take_more path i octet below ∙ ap (λ c. take i path ++ c ∷ []) (sym is))
    ∙ before_slash-push (take i path) octet ∙ cond-true (octet == 47) _ _ (eq-eqb octet 47 slash)

pub before_slash-other : (path : List ℕ) (i octet : ℕ) → i < length path → octet ≡ get_or path i octet → octet ≢ 47 → before_slash (take (i + 1) path) ≡ before_slash (take i path)
before_slash-other path i octet below is other =
    ap before_slash (take_more path i octet below ∙ ap (λ c. take i path ++ c ∷ []) (sym is))
    ∙ before_slash-push (take i path) octet ∙ elim (cases_Bool (octet == 47)) [
      | inl slash ↦ absurd (other (eqb-true octet 47 slash))
      | inr apart ↦ cond-false (octet == 47) _ _ apart
    ]
