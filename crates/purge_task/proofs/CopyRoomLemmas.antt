-- There is room in a source's list for one copy more: it has no more copies than the file has records.
use Rattle.purge_task.proofs.Common.{◌≡◌, ◌≢◌, ◌≤◌, ◌<◌, ◌+◌, ◌==◌, ℕ, Bool, true, false, not, cond, List, [], ◌∷◌, ◌++◌, length, refl, sym, ◌∙◌, ap, subst, arith, All, inl, inr, AllPairs, Contains, count_by, filter, if◌then◌else◌, eq-eqb, eqb-true, ne_eqb, All-cons, All-head, All-nil, All-tail}
use Rattle.purge_task.proofs.Common.{All-weaker, sum_by-cons, MapPlace, HasRecord, MapMeaning, MapRecord, IsSoundMap, pairs_head, pairs_tail, among, found_one, MapRow, IsNextWanted, messages_in, AreCopiedUpTo, Source}
use Rattle.std.specs.Prelude.{vec_capacity}
use Rattle.std.proofs.lemmas.List.{length-append}
use Rattle.purge_task.proofs.CopiedMoreLemmas.{copied_more}
use Rattle.purge_task.proofs.CopyLemmas.{kept_of}

-- a record of another map uid
abbrev has_other_uid : ℕ → MapRecord → Bool
has_other_uid uid r = not (r.uid == uid)

step_up : (b : Bool) (n : ℕ) → n ≤ cond b 1 0 + n
step_up true n = omega arith
step_up false n = omega arith

-- no more pass of some than of all
fewer : (p q : MapRecord → Bool) (rows : List MapRecord) → count_by p (filter q rows) ≤ count_by p rows
fewer p q [] = omega arith
fewer p q (x ∷ xs) = by_test (q x) (fewer p q xs)
  where
    by_test : (b : Bool) → count_by p (filter q xs) ≤ count_by p xs → count_by p (if b then x ∷ filter q xs else filter q xs) ≤ count_by p (x ∷ xs)
    by_test true l = let a = sum_by-cons (λ o. cond (p o) 1 0) x xs in let b = sum_by-cons (λ o. cond (p o) 1 0) x (filter q xs) in omega (arith, a, b, l)
    by_test false l = let a = sum_by-cons (λ o. cond (p o) 1 0) x xs in let s = step_up (p x) (count_by p xs) in omega (arith, a, s, l)

none_contained : (x : MapRecord) → Contains [] x → ⊥
none_contained x c = let l = c.1 in omega (arith, l)

-- without the records of a map uid, one of which passes
one_fewer : (p : MapRecord → Bool) (uid : ℕ) (rows : List MapRecord) (r : MapRecord) → Contains rows r → r.uid ≡ uid → p r ≡ true → count_by p (filter (has_other_uid uid) rows) + 1 ≤ count_by p rows
one_fewer p uid [] r there is passes = absurd (none_contained r there)
one_fewer p uid (x ∷ xs) r there is passes = elim (among x xs r there) [
  | inl same ↦ here same
  | inr later ↦ by_test (x.uid == uid) (one_fewer p uid xs r later is passes)
]
  where
    by_test : (b : Bool) → count_by p (filter (has_other_uid uid) xs) + 1 ≤ count_by p xs → count_by p (if not b then x ∷ filter (has_other_uid uid) xs else filter (has_other_uid uid) xs) + 1 ≤ count_by p (x ∷ xs)
    by_test true l = let a = sum_by-cons (λ o. cond (p o) 1 0) x xs in let s = step_up (p x) (count_by p xs) in omega (arith, a, s, l)
    by_test false l = let a = sum_by-cons (λ o. cond (p o) 1 0) x xs in let b = sum_by-cons (λ o. cond (p o) 1 0) x (filter (has_other_uid uid) xs) in omega (arith, a, b, l)

    here : x ≡ r → count_by p (filter (has_other_uid uid) (x ∷ xs)) + 1 ≤ count_by p (x ∷ xs)
    here same =
        let a = sum_by-cons (λ o. cond (p o) 1 0) x xs in
        let one : ◌≡◌ {A = ℕ} (cond (p x) 1 0) 1 = ap (λ (b : Bool). cond b 1 0) (ap p same ∙ passes) in
        let rest = fewer p (has_other_uid uid) xs in
        subst (λ (b : Bool). count_by p (if not b then x ∷ filter (has_other_uid uid) xs else filter (has_other_uid uid) xs) + 1 ≤ count_by p (x ∷ xs)) (sym (eq-eqb x.uid uid (ap (λ (o : MapRecord). o.uid) same ∙ is))) (omega (arith, a, one, rest))

-- ---- copies

-- the place is that of a record of the file
abbrev IsOfRecord : List MapRecord → ℕ → MapPlace → Type 0
IsOfRecord rows file place = (r : MapRecord) × Contains rows r × (r.uid ≡ place.uid.0) × (r.file ≡ file)

-- places of records of a file, each another's, are no more than these
few_places : (file : ℕ) (rows : List MapRecord) (places : List MapPlace) → AllPairs (λ a b. a.uid.0 ≢ b.uid.0) places → All (IsOfRecord rows file) places → length places ≤ count_by (λ row. row.file == file) rows
few_places file rows [] once there = omega arith
few_places file rows (place ∷ places) once there =
    let h = All-head (IsOfRecord rows file) place places there in
    let one = one_fewer (λ (row : MapRecord). row.file == file) place.uid.0 rows h.0 h.1 h.2 (eq-eqb h.0.file file h.3) in
    let rest = few_places file (filter (has_other_uid place.uid.0) rows) places (pairs_tail (λ (a b : MapPlace). a.uid.0 ≢ b.uid.0) place places once)
    (each places (pairs_head (λ (a b : MapPlace). a.uid.0 ≢ b.uid.0) place places once) (All-tail (IsOfRecord rows file) place places there)) in
    omega (arith, one, rest)
  where
    still : (p : MapPlace) → place.uid.0 ≢ p.uid.0 → IsOfRecord rows file p → IsOfRecord (filter (has_other_uid place.uid.0) rows) file p
    still p apart h = (h.0, kept_of (has_other_uid place.uid.0) rows h.0 h.1 (ap (λ (b : Bool). not b) (ne_eqb h.0.uid place.uid.0 (λ same. apart (sym same ∙ h.2)))), h.2, h.3)

    each : (ps : List MapPlace) → All (λ b. place.uid.0 ≢ b.uid.0) ps → All (IsOfRecord rows file) ps → All (IsOfRecord (filter (has_other_uid place.uid.0) rows) file) ps
    each [] a b = All-nil _
    each (p ∷ ps) a b = All-cons (IsOfRecord (filter (has_other_uid place.uid.0) rows) file) p ps (still p (All-head (λ (b : MapPlace). place.uid.0 ≢ b.uid.0) p ps a) (All-head (IsOfRecord rows file) p ps b))
        (each ps (All-tail (λ (b : MapPlace). place.uid.0 ≢ b.uid.0) p ps a) (All-tail (IsOfRecord rows file) p ps b))

copied_few : (m : MapMeaning) (source from end : ℕ) (copied : List MapPlace) → AreCopiedUpTo source from end copied m → length copied ≤ messages_in m source
copied_few m source from end copied h = few_places source m.records copied h.once
    (All-weaker (λ (p : MapPlace). HasRecord m p.uid.0 (λ r. (r.file ≡ source) × (r.offset + r.size ≤ from) × (p.offset + r.size ≤ end))) (IsOfRecord m.records source)
    (λ p r. let f = found_one (λ (x : MapRecord). x.uid == p.uid.0) m.records r.0 r.1 in (r.0, f.0, eqb-true r.0.uid p.uid.0 f.1, r.2.0)) copied h.there)

pub room_for_copy : (m : MapMeaning) (source : Source) (from end : ℕ) (row : MapRow) → IsSoundMap m → AreCopiedUpTo source.file.0 from end source.copied.items m → IsNextWanted m source.file.0 from row → messages_in m source.file.0 ≤ vec_capacity source.copied → length source.copied.items < vec_capacity source.copied
room_for_copy m source from end row sound copied wanted room =
    let place : MapPlace = record { uid = record { 0 = wanted.r.uid }; offset = end } in
    let few = copied_few m source.file.0 (wanted.r.offset + wanted.r.size) (end + wanted.r.size) (source.copied.items ++ place ∷ []) (copied_more m source.file.0 from end source.copied.items row place sound copied wanted refl refl) in
    let long = length-append source.copied.items (place ∷ []) in
    let one : length (place ∷ []) ≡ 1 = refl in
    omega (arith, few, long, one, room)
