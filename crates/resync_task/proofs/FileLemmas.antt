-- The files in which records have their regions, in order, and each once.
use Rattle.resync_task.proofs.Common.{◌≡◌, ◌≤◌, ◌<◌, ◌+◌, ◌==◌, ◌⊎◌, ℕ, Bool, true, false, List, [], ◌∷◌, map, length, append-nil, refl, sym, ◌∙◌, ap, subst, arith, inl, inr, All, Contains, eq-eqb, eqb-true, All-head, All-map, All-tail, All-weaker, All-contains_itself, MapMeaning, MapRecord}
use Rattle.resync_task.proofs.Common.{IsSoundMap, IsSoundRecord, AreRecordFiles, region_file}
use Rattle.std.proofs.Common.{◌||◌, AllPairs, IsPermutation}
use Rattle.std.specs.List.{list_any, dedup}
use Rattle.std.specs.List.Sorted.{IsSorted}
use Rattle.std.specs.Ordering.{nat_cmp}
use Rattle.std.proofs.lemmas.List.Filters.{All-dedup}
use Rattle.std.proofs.lemmas.List.Sorted.{All-permutation}
use Rattle.model_octets.proofs.PairLemmas.{pairs_head, pairs_tail}
use Rattle.model_octets.proofs.SearchLemmas.{among}
use Rattle.journal.specs.Found.{is_named_file}
use Rattle.store_files.proofs.NumberListLemmas.{numbers_rise, region_kept}

any_at : (p : MapRecord → Bool) (rows : List MapRecord) (row : MapRecord) → Contains rows row → p row ≡ true → list_any p rows ≡ true
any_at p [] row c e = absurd (let k = c.1 in omega (arith, k))
any_at p (x ∷ xs) row c e = by_place (among x xs row c) (λ d. any_at p xs row d e)
  where
    or_right : (a b : Bool) → b ≡ true → (a || b) ≡ true
    or_right true b h = refl
    or_right false b h = h

    or_left : (a b : Bool) → a ≡ true → (a || b) ≡ true
    or_left true b h = refl
    or_left false b h = absurd (let k : false ≡ true = h in cc k)

    by_place : (x ≡ row) ⊎ Contains xs row → (Contains xs row → list_any p xs ≡ true) → list_any p (x ∷ xs) ≡ true
    by_place (inl same) rest = or_left (p x) (list_any p xs) (ap p same ∙ e)
    by_place (inr d) rest = or_right (p x) (list_any p xs) (rest d)

own_named : (m : MapMeaning) → All (λ row. is_named_file m row.file ≡ true) m.records
own_named m = All-weaker (Contains m.records) (λ (row : MapRecord). is_named_file m row.file ≡ true) (λ row c. any_at (λ (r : MapRecord). r.file == row.file) m.records row c (eq-eqb row.file row.file refl)) m.records (All-contains_itself m.records)

pub are_record_files : (m : MapMeaning) (xs ys zs : List ℕ) → xs ≡ map region_file m.records → IsPermutation xs ys → IsSorted nat_cmp ys → zs ≡ dedup (λ a b. a == b) ys → AreRecordFiles m zs
are_record_files m xs ys zs is same sorted once = record {
  rising = numbers_rise ys zs sorted once;
  named = subst (All (λ (file : ℕ). is_named_file m file ≡ true)) (sym once)
      (All-dedup (λ a b. a == b) (λ (file : ℕ). is_named_file m file ≡ true) ys
      (All-permutation (λ (file : ℕ). is_named_file m file ≡ true) xs ys same (subst (All (λ (file : ℕ). is_named_file m file ≡ true)) (sym is) (All-map (λ (file : ℕ). is_named_file m file ≡ true) region_file m.records (own_named m)))));
  every = All-weaker (λ (row : MapRecord). is_named_file m row.file ≡ true) (λ (row : MapRecord). Contains zs row.file) (λ row named. region_kept m.records [] xs ys zs row.file (is ∙ sym (append-nil (map region_file m.records))) same once named) m.records (own_named m);
}

-- ---- how many there are

any_gives : (p : MapRecord → Bool) (Q : Type 0) (rows : List MapRecord) → All (λ row. p row ≡ true → Q) rows → list_any p rows ≡ true → Q
any_gives p Q [] h e = absurd (let k : false ≡ true = e in cc k)
any_gives p Q (x ∷ xs) h e = by_test (p x) refl e (any_gives p Q xs (All-tail (λ (row : MapRecord). p row ≡ true → Q) x xs h))
  where
    by_test : (b : Bool) → p x ≡ b → (b || list_any p xs) ≡ true → (list_any p xs ≡ true → Q) → Q
    by_test true t k rest = All-head (λ (row : MapRecord). p row ≡ true → Q) x xs h t
    by_test false t k rest = rest k

-- rising numbers above one and up to another
few_rising : (most low : ℕ) (xs : List ℕ) → low ≤ most → AllPairs (λ a b. a < b) xs → All (λ x. low < x) xs → All (λ x. x ≤ most) xs → length xs + low ≤ most
few_rising most low [] within rising above below = omega (arith, within)
few_rising most low (x ∷ xs) within rising above below =
    let first = All-head (λ (k : ℕ). low < k) x xs above in
    let last = All-head (λ (k : ℕ). k ≤ most) x xs below in
    let rest = few_rising most x xs last (pairs_tail (λ (a b : ℕ). a < b) x xs rising) (pairs_head (λ (a b : ℕ). a < b) x xs rising) (All-tail (λ (k : ℕ). k ≤ most) x xs below) in
    omega (arith, first, rest)

abbrev IsInRange : ℕ → Type 0
IsInRange file = (0 < file) × (file ≤ 4294967294)

file_in_range : (m : MapMeaning) (file : ℕ) → IsSoundMap m → is_named_file m file ≡ true → IsInRange file
file_in_range m file s named =
    any_gives (λ row. row.file == file) (IsInRange file) m.records
    (All-weaker (IsSoundRecord m.highest.map) (λ (row : MapRecord). (row.file == file) ≡ true → IsInRange file) (λ row sound t. let e = eqb-true row.file file t in let low = sound.file.low in let high = sound.file.high in (omega (arith, e, low), omega (arith, e, high))) m.records s.records) named

pub few_files : (m : MapMeaning) (files : List ℕ) → IsSoundMap m → AreRecordFiles m files → length files ≤ 4294967295
few_files m files s are =
    let each = All-weaker (λ (file : ℕ). is_named_file m file ≡ true) IsInRange (λ file named. file_in_range m file s named) files are.named in
    let k = few_rising 4294967294 0 files (omega arith) are.rising (All-weaker IsInRange (λ (x : ℕ). 0 < x) (λ x h. h.0) files each) (All-weaker IsInRange (λ (x : ℕ). x ≤ 4294967294) (λ x h. h.1) files each) in
    omega (arith, k)
