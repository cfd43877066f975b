-- Records in a storage file that stay in it: what holds of their map uids holds still.
use Rattle.purge_task.proofs.Common.{◌≡◌, ◌==◌, ℕ, Bool, true, false, List, [], ◌∷◌, map, refl, ◌∙◌, ap, subst, arith, All, inl, inr, Contains, filter, if◌then◌else◌, eq-eqb, All-contains, All-contains_itself, All-head, All-weaker, Contains-append_right, MapMeaning, MapRecord, among, but_count}
use Rattle.purge_task.proofs.Common.{records_within}
use Rattle.std.proofs.Common.{◌⊎◌}
use Rattle.purge_task.proofs.CopyLemmas.{kept_of}

none_contained : {X : Type 0} → (x : X) → Contains [] x → ⊥
none_contained x c = let l = c.1 in omega (arith, l)

behind_first : {X : Type 0} → (y : X) (ys : List X) (x : X) → Contains ys x → Contains (y ∷ ys) x
behind_first y ys x c = Contains-append_right (y ∷ []) ys x c

first_of : {X : Type 0} → (x : X) (xs : List X) → Contains (x ∷ xs) x
first_of x xs = All-head (λ (y : _). Contains (x ∷ xs) y) x xs (All-contains_itself (x ∷ xs))

pub mapped_of : {X Y : Type 0} → (f : X → Y) (xs : List X) (x : X) → Contains xs x → Contains (map f xs) (f x)
mapped_of f [] x c = absurd (none_contained x c)
mapped_of f (y ∷ ys) x c = by_case (among y ys x c) (mapped_of f ys x)
  where
    by_case : (y ≡ x) ⊎ Contains ys x → (Contains ys x → Contains (map f ys) (f x)) → Contains (map f (y ∷ ys)) (f x)
    by_case (inl same) rest = subst (λ (z : _). Contains (map f (y ∷ ys)) (f z)) same (first_of (f y) (map f ys))
    by_case (inr later) rest = behind_first (f y) (map f ys) (f x) (rest later)

pub of_mapped : {X Y : Type 0} → (f : X → Y) (xs : List X) (y : Y) → Contains (map f xs) y → (x : X) × Contains xs x × (f x ≡ y)
of_mapped f [] y c = absurd (none_contained y c)
of_mapped f (x ∷ xs) y c = by_case (among (f x) (map f xs) y c) (of_mapped f xs y)
  where
    by_case : (f x ≡ y) ⊎ Contains (map f xs) y → (Contains (map f xs) y → (z : _) × Contains xs z × (f z ≡ y)) → (z : _) × Contains (x ∷ xs) z × (f z ≡ y)
    by_case (inl same) rest = (x, first_of x xs, same)
    by_case (inr later) rest = let r = rest later in (r.0, behind_first x xs r.0 r.1, r.2)

pub of_kept : {X : Type 0} → (p : X → Bool) (xs : List X) (x : X) → Contains (filter p xs) x → Contains xs x
of_kept p [] x c = absurd (none_contained x c)
of_kept p (y ∷ ys) x c = by_test (p y) refl (of_kept p ys x)
  where
    by_case : (y ≡ x) ⊎ Contains (filter p ys) x → (Contains (filter p ys) x → Contains ys x) → Contains (y ∷ ys) x
    by_case (inl same) rest = subst (λ (z : _). Contains (y ∷ ys) z) same (first_of y ys)
    by_case (inr later) rest = behind_first y ys x (rest later)

    by_test : (b : Bool) → p y ≡ b → (Contains (filter p ys) x → Contains ys x) → Contains (y ∷ ys) x
    by_test true e rest = by_case (among y (filter p ys) x (subst (λ (b : Bool). Contains (if b then y ∷ filter p ys else filter p ys) x) e c)) rest
    by_test false e rest = behind_first y ys x (rest (subst (λ (b : Bool). Contains (if b then y ∷ filter p ys else filter p ys) x) e c))

-- a record in the file was there, with another count at the most
pub was_within : (file : ℕ) (m n : MapMeaning) (row : MapRecord) → records_within file n ≡ records_within file m → Contains n.records row → row.file ≡ file → (was : MapRecord) × Contains m.records was × (but_count was ≡ but_count row)
was_within file m n row same there here =
    let now : Contains (records_within file n) (but_count row) = kept_of (λ (r : MapRecord). r.file == file) (map but_count n.records) (but_count row) (mapped_of but_count n.records row there) (eq-eqb row.file file here) in
    let before : Contains (records_within file m) (but_count row) = subst (λ (rs : List MapRecord). Contains rs (but_count row)) same now in
    of_mapped but_count m.records (but_count row) (of_kept (λ (r : MapRecord). r.file == file) (map but_count m.records) (but_count row) before)

-- what holds of each record's map uid holds of it still
pub uids_within : (file : ℕ) (m n : MapMeaning) (P : ℕ → Type 0) → records_within file n ≡ records_within file m → All (λ row. row.file ≡ file → P row.uid) m.records → All (λ row. row.file ≡ file → P row.uid) n.records
uids_within file m n P same h = All-weaker (Contains n.records) (λ row. row.file ≡ file → P row.uid) one n.records (All-contains_itself n.records)
  where
    one : (row : MapRecord) → Contains n.records row → row.file ≡ file → P row.uid
    one row there here =
        let was = was_within file m n row same there here in
        let uid : was.0.uid ≡ row.uid = ap (λ (r : MapRecord). r.uid) was.2 in
        let at : was.0.file ≡ row.file = ap (λ (r : MapRecord). r.file) was.2 in
        subst P uid (All-contains (λ (r : MapRecord). r.file ≡ file → P r.uid) m.records was.0 h was.1 (at ∙ here))
