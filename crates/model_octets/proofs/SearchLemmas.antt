-- Searches in a list of which one element at most passes, and tests that agree element by element.
use Rattle.std.specs.Prelude.{◌≡◌, ℕ, Bool, true, false, cond, List, [], ◌∷◌, Some, None, find, All, AllPairs, Contains, ◌⊎◌, refl}
use Rattle.std.specs.Str.{bytes_eq}
use Rattle.std.proofs.Common.{inl, inr, sym, ◌∙◌, ap, arith}
use Rattle.std.proofs.lemmas.List.Elements.{All-nil, All-cons, All-contains, All-contains_itself, Contains-append_cases}
use Rattle.std.proofs.lemmas.Slice.Eq.{bytes_eq-Decides}
use Rattle.model_octets.proofs.PairLemmas.{NotBoth, pairs_head, pairs_tail, found_holds}

-- an element of a list is the first, or one behind it
pub among : {X : Type 0} → (y : X) (ys : List X) (x : X) → Contains (y ∷ ys) x → (y ≡ x) ⊎ Contains ys x
among y ys x c = elim (Contains-append_cases (y ∷ []) ys x c) [
  | inl h ↦ inl (All-contains (λ z. y ≡ z) (y ∷ []) x (All-cons (λ z. y ≡ z) y [] refl (All-nil (λ z. y ≡ z))) h)
  | inr h ↦ inr h
]

first_found : {X : Type 0} → (p : X → Bool) (y : X) (ys : List X) (x : X) (b : Bool) → p y ≡ b → p x ≡ true → All (NotBoth p y) ys
    → (y ≡ x) ⊎ Contains ys x → (Contains ys x → find p ys ≡ Some x) → cond b (Some y) (find p ys) ≡ Some x
first_found p y ys x true h k one (inl e) rest = ap Some e
first_found p y ys x true h k one (inr c) rest = absurd (All-contains (NotBoth p y) ys x one c h k)
first_found p y ys x false h k one (inl e) rest = absurd (let w : false ≡ true = sym h ∙ ap p e ∙ k in cc w)
first_found p y ys x false h k one (inr c) rest = rest c

-- an element that passes is found, where no two do
pub found_is : {X : Type 0} → (p : X → Bool) (xs : List X) (x : X) → Contains xs x → p x ≡ true → AllPairs (NotBoth p) xs → find p xs ≡ Some x
found_is p [] x c h one = absurd (let k = c.1 in omega (arith, k))
found_is p (y ∷ ys) x c h one = first_found p y ys x (p y) refl h (pairs_head (NotBoth p) y ys one) (among y ys x c) (λ d. found_is p ys x d h (pairs_tail (NotBoth p) y ys one))

-- what is found is an element that passes
pub found_one : {X : Type 0} → (p : X → Bool) (xs : List X) (x : X) → find p xs ≡ Some x → Contains xs x × (p x ≡ true)
found_one p xs x e = found_holds p xs x (Contains xs) e (All-contains_itself xs)

none_step : {X : Type 0} → (p : X → Bool) (y : X) (ys : List X) (b : Bool) → p y ≡ b → (find p ys ≡ None → All (λ x. p x ≡ false) ys) → cond b (Some y) (find p ys) ≡ None → All (λ x. p x ≡ false) (y ∷ ys)
none_step p y ys true h rest e = absurd (cc e)
none_step p y ys false h rest e = All-cons (λ x. p x ≡ false) y ys h (rest e)

-- where nothing is found, no element passes
pub found_none : {X : Type 0} → (p : X → Bool) (xs : List X) → find p xs ≡ None → All (λ x. p x ≡ false) xs
found_none p [] e = All-nil (λ x. p x ≡ false)
found_none p (y ∷ ys) e = none_step p y ys (p y) refl (found_none p ys) e

pub both_same : (a b : Bool) → (a ≡ true → b ≡ true) → (b ≡ true → a ≡ true) → a ≡ b
both_same true b f g = sym (f refl)
both_same false true f g = g refl
both_same false false f g = refl

-- two texts are equal where the test says so
pub text_is : (a b : List ℕ) → bytes_eq a b ≡ true → a ≡ b
text_is a b e = (bytes_eq-Decides a b).0 e

pub text_yes : (a b : List ℕ) → a ≡ b → bytes_eq a b ≡ true
text_yes a b e = (bytes_eq-Decides a b).1 e
