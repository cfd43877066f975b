-- Sums over a list of which one element is set.
use Rattle.std.proofs.Common.{◌≡◌, ◌≢◌, ℕ, zero, suc, ◌+◌, ◌≤◌, List, [], ◌∷◌, set, sym, refl, ap, arith, sum_by}
use Rattle.std.proofs.lemmas.List.Sums.{sum_by-cons}
use mathlib.Core.Option.{some, some-injective, some-ne-none}
use lib.ListN.{get_elem?}

module _ {V : Type 0} where
  pub sum_set : (f : V → ℕ) (l : List V) (i : ℕ) (v w : V) → get_elem? l i ≡ some v → sum_by f (set l i w) + f v ≡ sum_by f l + f w
  sum_set f [] i v w e = absurd (some-ne-none v (sym e))
  sum_set f (x ∷ xs) zero v w e = let is : f x ≡ f v = ap f (some-injective x v e) in let a = sum_by-cons f x xs in let b = sum_by-cons f w xs in omega arith
  sum_set f (x ∷ xs) (suc i) v w e = let r = sum_set f xs i v w e in let a = sum_by-cons f x xs in let b = sum_by-cons f x (set xs i w) in omega arith

  pub sum_below : (f g : V → ℕ) (l : List V) → ((i : ℕ) (v : V) → get_elem? l i ≡ some v → f v ≤ g v) → sum_by f l ≤ sum_by g l
  sum_below f g [] h = omega arith
  sum_below f g (x ∷ xs) h = let r = sum_below f g xs (λ i v e. h (suc i) v e) in let here = h 0 x refl in let a = sum_by-cons f x xs in let b = sum_by-cons g x xs in omega arith

  pub sum_of_one : (f : V → ℕ) (l : List V) (i : ℕ) (v : V) → get_elem? l i ≡ some v → f v ≤ sum_by f l
  sum_of_one f [] i v e = absurd (some-ne-none v (sym e))
  sum_of_one f (x ∷ xs) zero v e = let is : f x ≡ f v = ap f (some-injective x v e) in let a = sum_by-cons f x xs in omega arith
  sum_of_one f (x ∷ xs) (suc i) v e = let r = sum_of_one f xs i v e in let a = sum_by-cons f x xs in omega arith

  pub sum_of_two : (f : V → ℕ) (l : List V) (i j : ℕ) (v w : V) → j ≢ i → get_elem? l i ≡ some v → get_elem? l j ≡ some w → f v + f w ≤ sum_by f l
  sum_of_two f [] i j v w n e g = absurd (some-ne-none v (sym e))
  sum_of_two f (x ∷ xs) zero zero v w n e g = absurd (n refl)
  sum_of_two f (x ∷ xs) zero (suc j) v w n e g = let is : f x ≡ f v = ap f (some-injective x v e) in let r = sum_of_one f xs j w g in let a = sum_by-cons f x xs in omega arith
  sum_of_two f (x ∷ xs) (suc i) zero v w n e g = let is : f x ≡ f w = ap f (some-injective x w g) in let r = sum_of_one f xs i v e in let a = sum_by-cons f x xs in omega arith
  sum_of_two f (x ∷ xs) (suc i) (suc j) v w n e g = let r = sum_of_two f xs i j v w (λ h. n (ap suc h)) e g in let a = sum_by-cons f x xs in omega arith

  pub set_there : (l : List V) (i : ℕ) (v w : V) → get_elem? l i ≡ some v → get_elem? (set l i w) i ≡ some w
  set_there [] i v w e = absurd (some-ne-none v (sym e))
  set_there (x ∷ xs) zero v w e = refl
  set_there (x ∷ xs) (suc i) v w e = set_there xs i v w e
