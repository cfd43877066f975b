-- Walks along a list, by places.
use Rattle.std.proofs.Common.{◌≡◌, ◌<◌, ◌≤◌, ◌+◌, ◌==◌, ℕ, suc, zero, Bool, cond, List, [], ◌∷◌, ◌++◌, length, map, take, drop, get_or, slice_get, Option, Some, None, All, AllPairs, find, refl, sym, ◌∙◌, ap, subst, arith, take_all, eq-eqb, ne_eqb, append_assoc, add-one}
use Rattle.std.proofs.lemmas.List.{take_more, map-append}
use Rattle.model_octets.proofs.PairLemmas.{pairs_head, pairs_tail}
use Rattle.std.proofs.lemmas.Option.{slice_get_within, get_or_from_slice_get, slice_get-get_or}
use Rattle.std.proofs.lemmas.List.Elements.{All-nil, All-cons, All-more}
use Rattle.std.specs.Prelude.{IsSome, Contains}
use Rattle.std.specs.Option.{option_map}

-- there is something at a place within the list
pub there : {A B : Type 0} → (f : A → B) (o : Option A) (xs : List B) (k n : ℕ) → option_map f o ≡ slice_get xs k → n ≡ length xs → k < n → IsSome o
there f (Some x) xs k n e is lt = refl
there f None xs k n e is lt = absurd (none xs k e (omega (arith, is, lt)))
  where
    none : {B : Type 0} → (xs : List B) (k : ℕ) → None ≡ slice_get xs k → k < length xs → ⊥
    none [] k e lt = omega (arith, lt)
    none (x ∷ xs) zero e lt = cc e
    none (x ∷ xs) (suc k) e lt = none xs k e (omega (arith, lt))

-- the same, where what is seen is made of what is there
pub there_seen : {A B : Type 0} → (f : A → B) (o : Option B) (xs : List A) (k n : ℕ) → o ≡ option_map f (slice_get xs k) → n ≡ length xs → k < n → IsSome o
there_seen f o xs k n e is lt = subst IsSome (sym e) (some xs k (omega (arith, is, lt)))
  where
    some : (xs : _) (k : ℕ) → k < length xs → IsSome (option_map f (slice_get xs k))
    some [] k lt = absurd (omega (arith, lt))
    some (x ∷ xs) zero lt = refl
    some (x ∷ xs) (suc k) lt = some xs k (omega (arith, lt))

-- what is there, behind what is seen
pub behind : {A B : Type 0} → (f : A → B) (o : Option A) (y : B) → Some y ≡ option_map f o → (x : A) × (o ≡ Some x) × (y ≡ f x)
behind f None y e = absurd (cc e)
behind f (Some x) y e = (x, refl, let h : y ≡ f x = cc e in h)

-- one place more
pub all_next : {X : Type 0} → (P : X → Type 0) (xs : List X) (k : ℕ) (x : X) → slice_get xs k ≡ Some x → All P (take k xs) → P x → All P (take (k + 1) xs)
all_next P xs k x e a p = All-more P xs k x (slice_get_within xs k x e) a (subst P (sym (get_or_from_slice_get xs k x x e)) p)

-- no place yet
pub none_of : {X : Type 0} → (P : X → Type 0) (xs : List X) → All P (take 0 xs)
none_of P [] = All-nil P
none_of P (x ∷ xs) = All-nil P

-- all places
pub all_places : {X : Type 0} → (P : X → Type 0) (xs : List X) (n : ℕ) → All P (take n xs) → length xs ≤ n → All P xs
all_places P xs n a le = subst (All P) (take_all n xs le) a

pub at_place : {X : Type 0} → (P : X → Type 0) (xs : List X) (k : ℕ) (x : X) → slice_get xs k ≡ Some x → All P xs → P x
at_place P xs k x e a = subst P (get_or_from_slice_get xs k x x e) (a k x (slice_get_within xs k x e))

-- what holds of those before a place
pub before_place : {X : Type 0} → (P : X → Type 0) (xs : List X) (n k : ℕ) (x : X) → slice_get xs k ≡ Some x → k < n → All P (take n xs) → P x
before_place P xs n k x e lt a = at_place P (take n xs) k x (taken xs n k e lt) a
  where
    taken : (xs : List _) (n k : ℕ) → slice_get xs k ≡ Some x → k < n → slice_get (take n xs) k ≡ Some x
    taken [] n k e lt = absurd (let h : None ≡ Some x = e in cc h)
    taken (y ∷ ys) zero k e lt = absurd (omega (arith, lt))
    taken (y ∷ ys) (suc n) zero e lt = e
    taken (y ∷ ys) (suc n) (suc k) e lt = taken ys n k e (omega (arith, lt))

pub contained : {X : Type 0} → (xs : List X) (k : ℕ) (x : X) → slice_get xs k ≡ Some x → Contains xs x
contained xs k x e = (k, slice_get_within xs k x e, get_or_from_slice_get xs k x x e)

pub place_in : {X : Type 0} → (xs : List X) (x : X) → Contains xs x → (k : ℕ) × (slice_get xs k ≡ Some x)
place_in xs x c = (c.0, slice_get-get_or xs c.0 x c.1 ∙ ap Some c.2)

-- what was found there, as it is seen
pub seen : {A B : Type 0} → (f : A → B) (o : Option A) (x : A) (xs : List B) (k : ℕ) → option_map f o ≡ slice_get xs k → o ≡ Some x → slice_get xs k ≡ Some (f x)
seen f o x xs k e is = sym e ∙ ap (option_map f) is

pub take_next : {X : Type 0} → (xs : List X) (k : ℕ) (x : X) → slice_get xs k ≡ Some x → take (k + 1) xs ≡ take k xs ++ x ∷ []
take_next xs k x e = take_more xs k x (slice_get_within xs k x e) ∙ ap (λ (y : _). take k xs ++ y ∷ []) (get_or_from_slice_get xs k x x e)

-- a list that is made of another, by one item more
pub map_next : {X Y : Type 0} → (f : X → Y) (xs : List X) (k : ℕ) (x : X) (y : Y) (ys zs : List Y) → slice_get xs k ≡ Some x → y ≡ f x → ys ≡ map f (take k xs) → zs ≡ ys ++ y ∷ [] → zs ≡ map f (take (k + 1) xs)
map_next f xs k x y ys zs at e is more =
    more ∙ ap (λ (l : List _). l ++ y ∷ []) is ∙ ap (λ (z : _). map f (take k xs) ++ z ∷ []) e ∙ sym (map-append f (take k xs) (x ∷ [])) ∙ ap (map f) (sym (take_next xs k x at))

-- items with rising keys are found by them
pub find_self : {X : Type 0} → (key : X → ℕ) (xs : List X) → AllPairs (λ a b. key a < key b) xs → All (λ x. find (λ r. key r == key x) xs ≡ Some x) xs
find_self {X} key [] p = All-nil (λ (x : X). find (λ (r : X). key r == key x) [] ≡ Some x)
find_self {X} key (x ∷ xs) p =
    All-cons (λ (y : X). find (λ (r : X). key r == key y) (x ∷ xs) ≡ Some y) x xs
    (ap (λ (b : Bool). cond b (Some x) (find (λ (r : X). key r == key x) xs)) (eq-eqb (key x) (key x) refl))
    (λ k d lt. other (get_or xs k d) (pairs_head (λ (a b : X). key a < key b) x xs p k d lt) (find_self key xs (pairs_tail (λ (a b : X). key a < key b) x xs p) k d lt))
  where
    other : (y : X) → key x < key y → find (λ r. key r == key y) xs ≡ Some y → cond (key x == key y) (Some x) (find (λ r. key r == key y) xs) ≡ Some y
    other y less h = ap (λ (b : Bool). cond b (Some x) (find (λ (r : X). key r == key y) xs)) (ne_eqb (key x) (key y) (λ e. omega (arith, less, e))) ∙ h

-- a list that grows by what is made of the items of another
pub grown : {X Y : Type 0} → (f : X → Y) (items : List X) (k : ℕ) (d : X) (y : Y) (front old new : List Y) → k < length items → y ≡ f (get_or items k d) → old ≡ front ++ map f (take k items) → new ≡ old ++ y ∷ [] → new ≡ front ++ map f (take (k + 1) items)
grown f items k d y front old new lt e is more =
    more ∙ ap (λ (l : List _). l ++ y ∷ []) is ∙ append_assoc front (map f (take k items)) (y ∷ []) ∙ ap (λ (l : List _). front ++ l)
    (ap (λ (z : _). map f (take k items) ++ z ∷ []) e ∙ sym (map-append f (take k items) (get_or items k d ∷ [])) ∙ ap (map f) (sym (take_more items k d lt)))

-- what a list has at a place, with what is before it and behind it
pub split_at : {X : Type 0} → (xs : List X) (k : ℕ) (x : X) → slice_get xs k ≡ Some x → xs ≡ take k xs ++ x ∷ drop (k + 1) xs
split_at [] k x e = absurd (let h : None ≡ Some x = e in cc h)
split_at (y ∷ ys) zero x e = let h : y ≡ x = cc e in ap (λ (z : _). z ∷ ys) h
split_at (y ∷ ys) (suc k) x e = simp add-one (ap (λ (zs : _). y ∷ zs) (simp add-one at (split_at ys k x e)))
