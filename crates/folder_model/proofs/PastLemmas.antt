-- What a call adds to the systems of the past.
use Rattle.std.proofs.Common.{◌≡◌, ◌⊎◌, inl, inr, ℕ, ◌<◌, List, [], ◌∷◌, Option, Some, None, Contains, sym, subst, arith}
use Rattle.std.proofs.lemmas.List.Elements.{Contains-append_cases, Contains-push_cases}
use Rattle.folder_model.specs.System.{System}
use Rattle.folder_model.specs.Calls.{Modelled, IfModelled, HasPassed, AreSince}

pub first_or_later : {A : Type 0} (x y : A) (xs : List A) → Contains (x ∷ xs) y → (y ≡ x) ⊎ Contains xs y
first_or_later x y xs has = elim (Contains-append_cases (x ∷ []) xs y has) [
  | inl first ↦ elim (Contains-push_cases [] x y first) [
    | inl none ↦ absurd (let below : none.0 < 0 = none.1 in omega arith)
    | inr is ↦ inl (sym is)
  ]
  | inr later ↦ inr later
]

pub since-passed : (P : System → Type 0) (now new : Option Modelled) (start before after : List System) → IfModelled now P → AreSince P start before
    → HasPassed now before new after → AreSince P start after
since-passed P None new start before after is since (inl e) = let F : List System → Type 0 = AreSince P start in subst F (sym e) since
since-passed P (Some m) new start before after is since (inl e) =
    let F : List System → Type 0 = AreSince P start in
    subst F (sym e) (λ s has. elim (first_or_later m.now s before has) [
      | inl here ↦ inr (subst P (sym here) is)
      | inr earlier ↦ since s earlier
    ])
since-passed P now new start before after is since (inr e) = let F : List System → Type 0 = AreSince P start in subst F (sym e.0) since

pub since-none : (P : System → Type 0) (start : List System) → AreSince P start start
since-none P start s has = inl has
