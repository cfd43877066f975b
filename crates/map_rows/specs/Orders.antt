-- Keys in order of their numbers.
use Rattle.std.specs.Prelude.{◌≡◌, ◌+◌, ◌<◌, ◌≤◌, ◌++◌, [], ◌∷◌, if◌then◌else◌, ℕ, Bool, List, length, filter, fold, nat_lt, slice_index_or, AllPairs, Option, Some, None}
use Rattle.map_rows.specs.declared.order.OrderKey.{OrderKey}

abbrev pub NumbersRise : List OrderKey → Type 0
NumbersRise keys = AllPairs (λ a b. a.number < b.number) keys

-- the key of a number stands there
pub record IsFoundAt (keys : List OrderKey) (number place : ℕ) : Type 0 where
  pub within : place < length keys
  pub is : (d : OrderKey) → (slice_index_or keys place d).number ≡ number

-- no key has the number: those before this place have lesser ones, and the others greater ones
pub record IsPlaceFor (keys : List OrderKey) (number place : ℕ) : Type 0 where
  pub within : place ≤ length keys
  pub before : (k : ℕ) (d : OrderKey) → k < place → (slice_index_or keys k d).number < number
  pub behind : (k : ℕ) (d : OrderKey) → place ≤ k → k < length keys → number < (slice_index_or keys k d).number

-- where the first key stands whose number is at least this
pub record IsFirstFrom (keys : List OrderKey) (number place : ℕ) : Type 0 where
  pub within : place ≤ length keys
  pub before : (k : ℕ) (d : OrderKey) → k < place → (slice_index_or keys k d).number < number
  pub behind : (k : ℕ) (d : OrderKey) → place ≤ k → k < length keys → number ≤ (slice_index_or keys k d).number

abbrev pub last_of : List OrderKey → Option OrderKey
last_of keys = fold (λ last key. Some key) None keys

-- one key more, at its place
abbrev pub with_key : OrderKey → List OrderKey → List OrderKey
with_key key keys = filter (λ k. nat_lt k.number key.number) keys ++ key ∷ filter (λ k. nat_lt key.number k.number) keys

-- how many items pass
abbrev pub times : {X : Type 0} → (X → Bool) → List X → ℕ
times p [] = 0
times p (x ∷ xs) = if p x then 1 + times p xs else times p xs

-- the keys of an order are those of these rows
abbrev pub AreKeysOf : {R : Type 0} → (R → OrderKey) → List OrderKey → List R → Type 0
AreKeysOf key keys rows = (p : OrderKey → Bool) → times p keys ≡ times (λ r. p (key r)) rows
