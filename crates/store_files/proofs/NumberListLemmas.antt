-- The numbers of files, gathered, sorted, and each once.
use Rattle.std.proofs.Common.{◌≡◌, ◌<◌, ◌+◌, ◌==◌, ℕ, true, List, [], ◌∷◌, ◌++◌, map, take, slice_get, Option, Some, AllPairs, IsPermutation, sym, ◌∙◌, ap, subst, arith, append_assoc}
use Rattle.std.specs.Prelude.{Contains}
use Rattle.std.specs.Option.{option_map}
use Rattle.std.specs.List.{list_any, dedup}
use Rattle.std.specs.List.Sorted.{IsSorted}
use Rattle.std.specs.Ordering.{nat_cmp}
use Rattle.std.proofs.lemmas.Grind.{common_steps}
use Rattle.std.proofs.lemmas.List.{map-append, map-id}
use Rattle.std.proofs.lemmas.List.Elements.{Contains-append_left, Contains-append_right}
use Rattle.std.proofs.lemmas.List.Folds.{Any-from_list_any}
use Rattle.std.proofs.lemmas.List.Kept.{AllPairs-from_increasing, Contains-dedup_nat}
use Rattle.std.proofs.lemmas.List.Sorted.{Contains-permutation}
use Rattle.std.proofs.lemmas.Map.Keys.{IsStrictlyIncreasing-dedup}
use Rattle.std.proofs.lemmas.Option.{slice_get-map, slice_get-get_or, slice_get_within, get_or_from_slice_get}
use Rattle.mdbox_base.specs.declared.ids.FileNo.{FileNo}
use Rattle.map_index.specs.Shown.{shown_record, shown_file}
use Rattle.map_index.specs.Shown.{MapRow}
use Rattle.model_meaning.specs.MapMeaning.{MapRecord}
use Rattle.store_files.proofs.PlaceLemmas.{seen_next}

abbrev pub file_of_row : MapRecord → ℕ
file_of_row row = row.file

-- one record more
pub region_file_next : (records : List MapRecord) (place : ℕ) (o : Option MapRow) (row : MapRow) (numbers more : List ℕ) → o ≡ option_map shown_record (slice_get records place) → o ≡ Some row
    → numbers ≡ map file_of_row (take place records) → more ≡ numbers ++ row.file.0 ∷ [] → more ≡ map file_of_row (take (place + 1) records)
region_file_next records place o row numbers more look is same push =
    let b = seen_next shown_record records place o row look is in
    let number : row.file.0 ≡ b.0.file = ap (λ (r : MapRow). r.file.0) b.1 in
    push ∙ ap (λ (ns : List ℕ). ns ++ row.file.0 ∷ []) same ∙ ap (λ (n : ℕ). map file_of_row (take place records) ++ n ∷ []) number
    ∙ sym (map-append file_of_row (take place records) (b.0 ∷ [])) ∙ ap (map file_of_row) (sym b.2)

-- one sealed file more
pub sealed_file_next : (sealed : List ℕ) (place : ℕ) (o : Option FileNo) (file : FileNo) (first numbers more : List ℕ) → o ≡ option_map shown_file (slice_get sealed place) → o ≡ Some file
    → numbers ≡ first ++ take place sealed → more ≡ numbers ++ file.0 ∷ [] → more ≡ first ++ take (place + 1) sealed
sealed_file_next sealed place o file first numbers more look is same push =
    let b = seen_next shown_file sealed place o file look is in
    let number : file.0 ≡ b.0 = ap (λ (f : FileNo). f.0) b.1 in
    push ∙ ap (λ (ns : List ℕ). ns ++ file.0 ∷ []) same ∙ append_assoc first (take place sealed) (file.0 ∷ [])
    ∙ ap (λ (n : ℕ). first ++ (take place sealed ++ n ∷ [])) number ∙ ap (λ (ns : List ℕ). first ++ ns) (sym b.2)

-- ---- what is in the list

same_number : (a b : ℕ) → (a == b) ≡ true → a ≡ b
same_number a b h = grind (arith, common_steps, h)

-- a number that a test finds is in the list of the numbers
tested_in : {X : Type 0} → (f : X → ℕ) (xs : List X) (n : ℕ) → list_any (λ x. f x == n) xs ≡ true → Contains (map f xs) n
tested_in f xs n any =
    let a = Any-from_list_any (λ x. f x == n) xs any in
    let number : f a.1 ≡ n = same_number (f a.1) n a.4 in
    let at : slice_get (map f xs) a.0 ≡ Some n = slice_get-map f xs a.0 ∙ ap (option_map f) (slice_get-get_or xs a.0 a.1 a.2 ∙ ap Some a.3) ∙ ap Some number in
    (a.0, slice_get_within (map f xs) a.0 n at, get_or_from_slice_get (map f xs) a.0 n n at)

kept : (xs ys zs : List ℕ) (n : ℕ) → IsPermutation xs ys → zs ≡ dedup (λ a b. a == b) ys → Contains xs n → Contains zs n
kept xs ys zs n same is c = subst (λ (ns : List ℕ). Contains ns n) (sym is) (Contains-dedup_nat ys n (Contains-permutation xs ys n same c))

pub region_kept : (records : List MapRecord) (sealed xs ys zs : List ℕ) (n : ℕ) → xs ≡ map file_of_row records ++ sealed → IsPermutation xs ys → zs ≡ dedup (λ a b. a == b) ys → list_any (λ row. row.file == n) records ≡ true → Contains zs n
region_kept records sealed xs ys zs n all same is any =
    kept xs ys zs n same is (subst (λ (ns : List ℕ). Contains ns n) (sym all) (Contains-append_left (map file_of_row records) sealed n (tested_in file_of_row records n any)))

pub sealed_kept : (first sealed xs ys zs : List ℕ) (n : ℕ) → xs ≡ first ++ sealed → IsPermutation xs ys → zs ≡ dedup (λ a b. a == b) ys → list_any (λ f. f == n) sealed ≡ true → Contains zs n
sealed_kept first sealed xs ys zs n all same is any =
    kept xs ys zs n same is
    (subst (λ (ns : List ℕ). Contains ns n) (sym all) (Contains-append_right first sealed n (subst (λ (ns : List ℕ). Contains ns n) (map-id sealed) (tested_in (λ f. f) sealed n any))))

-- each stands once, in order
pub numbers_rise : (ys zs : List ℕ) → IsSorted nat_cmp ys → zs ≡ dedup (λ a b. a == b) ys → AllPairs (λ a b. a < b) zs
numbers_rise ys zs sorted is = subst (AllPairs (λ a b. a < b)) (sym is) (AllPairs-from_increasing (dedup (λ a b. a == b) ys) (IsStrictlyIncreasing-dedup ys sorted))
