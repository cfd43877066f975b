-- The first that fails, of a list in order.
use Rattle.std.proofs.Common.{◌≡◌, ◌<◌, ℕ, List, map, take, get_or, slice_get, Some, All, AllPairs, IsPermutation, inl, inr, sym, ◌∙◌, ap, subst}
use Rattle.std.specs.Prelude.{Contains}
use Rattle.std.specs.Option.{option_map}
use Rattle.std.proofs.lemmas.Bool.{cases_order}
use Rattle.std.proofs.lemmas.Option.{slice_get-map, slice_get_within, slice_get-get_or, get_or_from_slice_get}
use Rattle.std.proofs.lemmas.List.Sorted.{IsPermutation-sym, All-permutation, Contains-permutation}
use Rattle.store_checks.proofs.WalkLemmas.{behind, at_place, before_place, contained, place_in}

-- what an element of a mapped list is made of
made_of : {X Y : Type 0} → (f : X → Y) (xs : List X) (y : Y) → Contains (map f xs) y → (x : X) × Contains xs x × (y ≡ f x)
made_of f xs y c =
    let p = place_in (map f xs) y c in
    let b = behind f (slice_get xs p.0) y (sym p.1 ∙ slice_get-map f xs p.0) in
    (b.0, contained xs p.0 b.0 b.1, b.2)

makes : {X Y : Type 0} → (f : X → Y) (xs : List X) (x : X) → Contains xs x → Contains (map f xs) (f x)
makes f xs x c = let p = place_in xs x c in contained (map f xs) p.0 (f x) (slice_get-map f xs p.0 ∙ ap (option_map f) p.1)

-- each passes, in the one order and so in the other
pub all_pass : {X Y : Type 0} → (f : X → Y) (P : Y → Type 0) (xs : List X) (ys : List Y) → IsPermutation (map f xs) ys → All P ys → All (λ x. P (f x)) xs
all_pass f P xs ys same all =
    λ k d lt. at_place P (map f xs) k (f (get_or xs k d)) (slice_get-map f xs k ∙ ap (option_map f) (slice_get-get_or xs k d lt)) (All-permutation P ys (map f xs) (IsPermutation-sym (map f xs) ys same) all)

-- one that fails, and none before it in order does
pub record FirstFail {X Y : Type 0} (f : X → Y) (P : Y → Type 0) (R : Y → Y → Type 0) (xs : List X) (y : Y) : Type 0 where
  pub x : X
  pub held : Contains xs x
  pub is : y ≡ f x
  pub fails : P (f x) → ⊥
  pub first : (other : X) → Contains xs other → (P (f other) → ⊥) → R (f x) (f other)

pub first_fail : {X Y : Type 0} → (f : X → Y) (P : Y → Type 0) (R : Y → Y → Type 0) (xs : List X) (ys : List Y) (k : ℕ) (y : Y) → ((z : Y) → R z z) → IsPermutation (map f xs) ys → AllPairs R ys
    → slice_get ys k ≡ Some y → All P (take k ys) → (P y → ⊥) → FirstFail f P R xs y
first_fail {X} {Y} f P R xs ys k y same_R same order at passed fails =
    let c = Contains-permutation ys (map f xs) y (IsPermutation-sym (map f xs) ys same) (contained ys k y at) in
    let b = made_of f xs y c in
    record {
      x = b.0;
      held = b.1;
      is = b.2;
      fails = λ p. fails (subst P (sym b.2) p);
      first = λ other held bad.
          let o = Contains-permutation (map f xs) ys (f other) same (makes f xs other held) in
          let p = place_in ys (f other) o in
          let Q : Y → Type 0 = λ (z : Y). R z (f other) in
          subst Q b.2 (elim (cases_order p.0 k) [
            | inl e ↦ (let h : Some (f other) ≡ Some y = sym p.1 ∙ ap (slice_get ys) e ∙ at in let s : f other ≡ y = cc h in subst (R y) (sym s) (same_R y))
            | inr r ↦ elim r [
              | inl lt ↦ absurd (bad (before_place P ys k p.0 (f other) p.1 lt passed))
              | inr gt ↦ later p.0 (f other) p.1 gt
            ]
          ]);
    }
  where
    later : (j : ℕ) (z : Y) → slice_get ys j ≡ Some z → k < j → R y z
    later j z e lt = subst (R y) (get_or_from_slice_get ys j z y e) (subst (λ (w : Y). R w (get_or ys j y)) (get_or_from_slice_get ys k y y at) (order k j y lt (slice_get_within ys j z e)))
