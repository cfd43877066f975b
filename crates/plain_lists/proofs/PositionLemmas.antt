-- The first place that passes, and what is found, changed or removed there.
use Rattle.std.proofs.Common.{◌≡◌, ◌<◌, ◌≤◌, ℕ, zero, suc, Bool, true, false, cond, List, [], ◌∷◌, length, get_or, set, map, Option, Some, None, refl, ap, arith}
use Rattle.std.specs.Prelude.{nat_lt}
use Rattle.std.specs.List.{find, position, position_or_len, remove}
use Rattle.std.proofs.lemmas.Grind.{common_steps}
use Rattle.std.proofs.lemmas.List.Quantifiers.{position-Some}
use Rattle.std.proofs.lemmas.List.Sums.{fails_before_first}
use Rattle.list_machine.specs.Machine.{without_first}
use Rattle.model_lists.specs.Lists.{change_first}

-- the first place of a list whose element, seen through a view, passes a test
pub record IsFirstPlace {X Y : Type 0} (view : X → Y) (test : Y → Bool) (xs : List X) (i : ℕ) : Type 0 where
  pub within : i < length xs
  pub passes : (d : X) → test (view (get_or xs i d)) ≡ true
  pub before : (k : ℕ) (d : X) → k < i → test (view (get_or xs k d)) ≡ false

-- the place of the first that passes, or none where none does
abbrev pub IsPlace : {X Y : Type 0} → (X → Y) → (Y → Bool) → List X → Option ℕ → Type 0
IsPlace view test xs None = find test (map view xs) ≡ None
IsPlace view test xs (Some i) = IsFirstPlace view test xs i

-- nothing is found where none passes
none_found : {X Y : Type 0} → (view : X → Y) (test : Y → Bool) (xs : List X) → ((k : ℕ) (d : X) → k < length xs → test (view (get_or xs k d)) ≡ false) → find test (map view xs) ≡ None
none_found view test [] fails = refl
none_found view test (x ∷ xs) fails = rw (fails 0 x (omega arith)) (none_found view test xs (λ k d h. fails (suc k) d (omega (arith, h))))

position_none : {X : Type 0} → (p : X → Bool) (xs : List X) → position p xs ≡ None → length xs ≤ position_or_len p xs
position_none p xs e = by_test (nat_lt (position_or_len p xs) (length xs)) refl e
  where
    by_test : (b : Bool) → nat_lt (position_or_len p xs) (length xs) ≡ b → cond b (Some (position_or_len p xs)) None ≡ None → length xs ≤ position_or_len p xs
    by_test true h e = absurd (let z : Some (position_or_len p xs) ≡ None = e in cc z)
    by_test false h e = grind (arith, common_steps, h)

-- what `position` answers is the first place
pub position_is_place : {X Y : Type 0} → (view : X → Y) (test : Y → Bool) (xs : List X) (o : Option ℕ) → position (λ x. test (view x)) xs ≡ o → IsPlace view test xs o
position_is_place view test xs None e =
    let most = position_none (λ x. test (view x)) xs e in
    none_found view test xs (λ k d h. fails_before_first (λ x. test (view x)) xs k d (omega (arith, h, most)))
position_is_place view test [] (Some i) e = absurd (let z : None ≡ Some i = e in cc z)
position_is_place view test (x ∷ xs) (Some i) e = record {
  within = (position-Some (λ x. test (view x)) (x ∷ xs) i x e).0;
  passes = λ d. (position-Some (λ x. test (view x)) (x ∷ xs) i d e).1;
  before = λ k d lt. (position-Some (λ x. test (view x)) (x ∷ xs) i d e).2 k lt;
}

later : {X Y : Type 0} → (view : X → Y) (test : Y → Bool) (x : X) (xs : List X) (i : ℕ) → IsFirstPlace view test (x ∷ xs) (suc i) → IsFirstPlace view test xs i
later view test x xs i h = record { within = omega (arith, h.within); passes = λ d. h.passes d; before = λ k d lt. h.before (suc k) d (omega (arith, lt)) }

-- the element there is found
pub found_at : {X Y : Type 0} → (view : X → Y) (test : Y → Bool) (xs : List X) (i : ℕ) (d : X) → IsFirstPlace view test xs i → find test (map view xs) ≡ Some (view (get_or xs i d))
found_at view test [] i d h = absurd (omega (arith, h.within))
found_at view test (x ∷ xs) zero d h = rw (h.passes d) refl
found_at view test (x ∷ xs) (suc i) d h = rw (h.before 0 d (omega arith)) (found_at view test xs i d (later view test x xs i h))

-- a change there is the change of the first
pub changed_at : {X Y : Type 0} → (view : X → Y) (test : Y → Bool) (change : Y → Y) (xs : List X) (i : ℕ) (y d : X) → IsFirstPlace view test xs i → view y ≡ change (view (get_or xs i d)) →
    map view (set xs i y) ≡ change_first test change (map view xs)
changed_at view test change [] i y d h e = absurd (omega (arith, h.within))
changed_at view test change (x ∷ xs) zero y d h e = rw (h.passes d) (ap (λ (z : _). z ∷ map view xs) e)
changed_at view test change (x ∷ xs) (suc i) y d h e = rw (h.before 0 d (omega arith)) (ap (λ (zs : List _). view x ∷ zs) (changed_at view test change xs i y d (later view test x xs i h) e))

-- without it the first leaves
pub removed_at : {X Y : Type 0} → (view : X → Y) (test : Y → Bool) (xs : List X) (i : ℕ) → IsFirstPlace view test xs i → map view (remove xs i) ≡ without_first test (map view xs)
removed_at view test [] i h = absurd (omega (arith, h.within))
removed_at view test (x ∷ xs) zero h = rw (h.passes x) refl
removed_at view test (x ∷ xs) (suc i) h = rw (h.before 0 x (omega arith)) (ap (λ (zs : List _). view x ∷ zs) (removed_at view test xs i (later view test x xs i h)))
