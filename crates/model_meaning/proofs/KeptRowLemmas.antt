-- What holds of the rows of a log with one entry more.
use Rattle.std.specs.Prelude.{◌≡◌, ◌≤◌, Bool, true, false, not, cond, List, [], ◌∷◌, length, map, filter, All, AllPairs, refl}
use Rattle.std.proofs.Common.{arith}
use Rattle.std.proofs.lemmas.List.Elements.{All-filter}
use Rattle.std.proofs.lemmas.List.Kept.{AllPairs-filter}
use Rattle.model_octets.proofs.PairLemmas.{pairs_map, all_map}
use Rattle.model_meaning.specs.Rows.{Rules}

-- The rows that an entry keeps, as it changes them.
abbrev pub kept_rows : {E R : Type 0} → Rules E R → E → List R → List R
kept_rows rules entry rows = map (rules.changed entry) (filter (λ row. not (rules.removes entry row)) rows)

pub kept_all : {E R : Type 0} → (rules : Rules E R) (entry : E) (rows : List R) (P Q : R → Type 0) → ((a : R) → P a → Q (rules.changed entry a)) → All P rows → All Q (kept_rows rules entry rows)
kept_all rules entry rows P Q keeps p = all_map P Q (rules.changed entry) keeps _ (All-filter (λ row. not (rules.removes entry row)) P rows p)

pub kept_pairs : {E R : Type 0} → (rules : Rules E R) (entry : E) (rows : List R) (P : R → R → Type 0) → ((a b : R) → P a b → P (rules.changed entry a) (rules.changed entry b)) → AllPairs P rows → AllPairs P (kept_rows rules entry rows)
kept_pairs rules entry rows P keeps p = pairs_map P P (rules.changed entry) keeps _ (AllPairs-filter P (λ row. not (rules.removes entry row)) rows p)

-- no more rows are kept than there were
filter_le : {X : Type 0} → (p : X → Bool) (xs : List X) → length (filter p xs) ≤ length xs
filter_le p [] = omega arith
filter_le p (x ∷ xs) = one (p x) (filter p xs) xs x (filter_le p xs)
  where
    one : {X : Type 0} → (b : Bool) (fs xs : List X) (x : X) → length fs ≤ length xs → length (cond b (x ∷ fs) fs) ≤ length (x ∷ xs)
    one true fs xs x h = omega (arith, h)
    one false fs xs x h = omega (arith, h)

length_map : {X Y : Type 0} → (f : X → Y) (xs : List X) → length (map f xs) ≡ length xs
length_map f [] = refl
length_map f (x ∷ xs) = let h = length_map f xs in omega (arith, h)

pub kept_length : {E R : Type 0} → (rules : Rules E R) (entry : E) (rows : List R) → length (kept_rows rules entry rows) ≤ length rows
kept_length rules entry rows = let h = length_map (rules.changed entry) (filter (λ row. not (rules.removes entry row)) rows) in let k = filter_le (λ row. not (rules.removes entry row)) rows in omega (arith, h, k)

-- a relation that holds of two rows as the entry changes them
pub kept_pairs_from : {E R : Type 0} → (rules : Rules E R) (entry : E) (rows : List R) (P : R → R → Type 0) → AllPairs (λ a b. P (rules.changed entry a) (rules.changed entry b)) rows → AllPairs P (kept_rows rules entry rows)
kept_pairs_from rules entry rows P p =
    pairs_map (λ a b. P (rules.changed entry a) (rules.changed entry b)) P (rules.changed entry) (λ a b h. h) _
    (AllPairs-filter (λ a b. P (rules.changed entry a) (rules.changed entry b)) (λ row. not (rules.removes entry row)) rows p)
