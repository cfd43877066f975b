-- Namings of instances: how many there are after a change, and what is named.
use Rattle.map_rows.proofs.Common.{AllPairs, ◌⊎◌, nat_le, ◌↔◌, IsTrue, Bor, list_any, option_map, option_copied, bytes_eq, IsSearchInRange, IsBinarySearchResult, nat_cmp, ranked, IsOctets, Result, Ok, Err, ◌≡◌, ◌+◌, ◌-◌, ◌<◌, ◌≤◌, ◌==◌, ◌&&◌, ◌||◌, ◌++◌, ℕ, zero, suc, Bool, true, false, not, cond}
use Rattle.map_rows.proofs.Common.{Option, Some, None, List, [], ◌∷◌, length, get_or, take, drop, find, filter, map, All, refl, sym, ◌∙◌, ap, subst, inl, inr, arith, cases_lt, nat_tests, All-nil, All-cons, All-head, All-tail, All-weaker, AllPairs-cons, AllPairs-filter, AllPairs-from_increasing}
use Rattle.map_rows.proofs.Common.{InstRow, pairs_head, pairs_tail, pairs_nil, found_among, found_holds, found_none, text_is, text_yes, MapRecord, AgreesOn, MapUid, has_map_uid, Record, meant_record, NamedInstance, namings_of, all_namings, AreNamesOf, AreNumbered, AreNamings, instances_of, times}
use Rattle.std.specs.Prelude.{insert, remove, flat_map, is_some, slice_get}
use Rattle.std.specs.Prelude.{IfOk, IfErr}
use Rattle.std.specs.List.Sorted.{IsStrictlyIncreasing}
use Rattle.std.proofs.Common.{set, add-one}
use Rattle.std.proofs.lemmas.List.Elements.{All-append, All-take, All-drop, All-filter, filter_passes, Contains-get_or}
use Rattle.std.proofs.lemmas.List.Folds.{list_any_none}
use Rattle.mdbox_base.specs.declared.ids.Hash.{Hash}
use Rattle.mdbox_base.specs.declared.ids.InstId.{InstId}
use Rattle.model_octets.proofs.PairLemmas.{NotBoth, pairs_map, found_only}
use Rattle.model_octets.proofs.SearchLemmas.{found_is}
use Rattle.map_rows.proofs.DerivedListLemmas.{list_any-flat_map, find-map}
use Rattle.map_rows.proofs.LookupLemmas.{uid_once}
use Rattle.map_rows.specs.Keys.{guid_number}
use Rattle.map_rows.specs.Named.{is_instance, IsOnlyNaming, IsNumbered, IsNaming, IsNamedAt, IsGapFor}
use Rattle.map_rows.proofs.KeyLemmas.{guid_only}
use Rattle.map_rows.proofs.NearLemmas.{none_found}
use Rattle.map_rows.proofs.SearchLemmas.{answers_rise, below_last, pairs_unmap}
use Rattle.map_rows.proofs.MemberLemmas.{find_counted, none_counted, count_append, both, equal_is, same_number}

-- ---- one instance

-- some instance, for lists that have none
abbrev pub no_row : InstRow
no_row = record { hash = record { 0 = [] }; id = record { 0 = [] }; size = 0 }

abbrev pub worth : (InstRow → Bool) → NamedInstance → ℕ
worth p n = cond (p n.row) n.namings 0

abbrev row_of : Hash → InstId → ℕ → InstRow
row_of hash id size = record { hash = hash; id = id; size = size }

abbrev hash_of : List ℕ → Hash
hash_of octets = record { 0 = octets }

abbrev id_of : List ℕ → InstId
id_of octets = record { 0 = octets }

same_parts : (a b : InstRow) → b.hash ≡ a.hash → b.id ≡ a.id → b.size ≡ a.size → b ≡ a
same_parts a b h i s = ap (λ (x : Hash). row_of x b.id b.size) h ∙ ap (λ (x : InstId). row_of a.hash x b.size) i ∙ ap (λ (x : ℕ). row_of a.hash a.id x) s

pub instance_is : (a b : InstRow) → is_instance a b ≡ true → b ≡ a
instance_is a b h =
    let p = both (bytes_eq b.id.0 a.id.0) (bytes_eq b.hash.0 a.hash.0 && (b.size == a.size)) h in
    let q = both (bytes_eq b.hash.0 a.hash.0) (b.size == a.size) p.1 in
    let i : b.id.0 ≡ a.id.0 = text_is b.id.0 a.id.0 p.0 in
    let k : b.hash.0 ≡ a.hash.0 = text_is b.hash.0 a.hash.0 q.0 in
    let s : b.size ≡ a.size = equal_is b.size a.size q.1 in
    same_parts a b (ap hash_of k) (ap id_of i) s

pub is_itself : (a : InstRow) → is_instance a a ≡ true
is_itself a = rw (text_yes a.id.0 a.id.0 refl) (rw (text_yes a.hash.0 a.hash.0 refl) (same_number a.size))

-- ---- namings after a change

namings_append : (p : InstRow → Bool) (xs ys : List NamedInstance) → namings_of p (xs ++ ys) ≡ namings_of p xs + namings_of p ys
namings_append p [] ys = omega arith
namings_append p (x ∷ xs) ys = let h = namings_append p xs ys in omega (arith, h)

pub namings_set : (p : InstRow → Bool) (named : List NamedInstance) (at : ℕ) (new d : NamedInstance) → at < length named → namings_of p (set named at new) + worth p (get_or named at d) ≡ namings_of p named + worth p new
namings_set p [] at new d lt = absurd (omega (arith, lt))
namings_set p (x ∷ named) zero new d lt = omega arith
namings_set p (x ∷ named) (suc at) new d lt = let h = namings_set p named at new d (omega (arith, lt)) in omega (arith, h)

split_at : (p : InstRow → Bool) (named : List NamedInstance) (at : ℕ) → namings_of p (take at named) + namings_of p (drop at named) ≡ namings_of p named
split_at p [] zero = refl
split_at p [] (suc at) = refl
split_at p (x ∷ named) zero = omega arith
split_at p (x ∷ named) (suc at) = let h = split_at p named at in omega (arith, h)

pub namings_insert : (p : InstRow → Bool) (named : List NamedInstance) (at : ℕ) (new : NamedInstance) → namings_of p (insert named at new) ≡ namings_of p named + worth p new
namings_insert p named at new =
    let a = namings_append p (take at named) (new ∷ drop at named) in
    let s = split_at p named at in
    omega (arith, a, s)

pub namings_remove : (p : InstRow → Bool) (named : List NamedInstance) (at : ℕ) (d : NamedInstance) → at < length named → namings_of p (remove named at) + worth p (get_or named at d) ≡ namings_of p named
namings_remove p [] at d lt = absurd (omega (arith, lt))
namings_remove p (x ∷ named) zero d lt = first named
  where
    first : (ys : List NamedInstance) → namings_of p (drop 0 ys) + worth p x ≡ worth p x + namings_of p ys
    first [] = omega arith
    first (y ∷ ys) = omega arith
namings_remove p (x ∷ named) (suc at) d lt = let h = namings_remove p named at d (omega (arith, lt)) in omega (arith, h)

-- ---- what is named

naming_step : (p : InstRow → Bool) (n : NamedInstance) (named : List NamedInstance) (b : Bool) → p n.row ≡ b → (1 ≤ namings_of p named → (m : NamedInstance) × (find (λ x. p x.row) named ≡ Some m) × (p m.row ≡ true)) → 1 ≤ cond b n.namings 0 + namings_of p named
    → (m : NamedInstance) × (cond b (Some n) (find (λ x. p x.row) named) ≡ Some m) × (p m.row ≡ true)
naming_step p n named true h rest some = (n, refl, h)
naming_step p n named false h rest some = rest (omega (arith, some))

pub naming_found : (p : InstRow → Bool) (named : List NamedInstance) → 1 ≤ namings_of p named → (m : NamedInstance) × (find (λ x. p x.row) named ≡ Some m) × (p m.row ≡ true)
naming_found p [] some = absurd (omega (arith, some))
naming_found p (n ∷ named) some = naming_step p n named (p n.row) refl (naming_found p named) some

head_counts : (b : Bool) (m rest : ℕ) → b ≡ true → 1 ≤ m → 1 ≤ cond b m 0 + rest
head_counts true m rest e l = omega (arith, l)
head_counts false m rest e l = absurd (let w : false ≡ true = e in cc w)

counted_self : (named : List NamedInstance) → All IsNaming named → All (λ n. 1 ≤ namings_of (is_instance n.row) named) named
counted_self [] a = All-nil (λ n. 1 ≤ namings_of (is_instance n.row) [])
counted_self (x ∷ xs) a =
    All-cons (λ n. 1 ≤ namings_of (is_instance n.row) (x ∷ xs)) x xs (head_counts (is_instance x.row x.row) x.namings (namings_of (is_instance x.row) xs) (is_itself x.row) (All-head IsNaming x xs a).some)
    (All-weaker (λ n. 1 ≤ namings_of (is_instance n.row) xs) (λ n. 1 ≤ namings_of (is_instance n.row) (x ∷ xs)) (λ n h. omega (arith, h)) xs (counted_self xs (All-tail IsNaming x xs a)))

one_counts : (b : Bool) (rest : ℕ) → b ≡ true → 1 ≤ cond b (1 + rest) rest
one_counts true rest e = omega arith
one_counts false rest e = absurd (let w : false ≡ true = e in cc w)

more_counts : (b : Bool) (rest : ℕ) → 1 ≤ rest → 1 ≤ cond b (1 + rest) rest
more_counts true rest l = omega arith
more_counts false rest l = l

pub counted_rows : (xs : List InstRow) → All (λ i. 1 ≤ times (is_instance i) xs) xs
counted_rows [] = All-nil (λ i. 1 ≤ times (is_instance i) [])
counted_rows (x ∷ xs) =
    All-cons (λ i. 1 ≤ times (is_instance i) (x ∷ xs)) x xs (one_counts (is_instance x x) (times (is_instance x) xs) (is_itself x))
    (All-weaker (λ i. 1 ≤ times (is_instance i) xs) (λ i. 1 ≤ times (is_instance i) (x ∷ xs)) (λ i h. more_counts (is_instance i x) (times (is_instance i) xs) h) xs (counted_rows xs))

-- what holds of what was named and of these instances holds of each that is named, where no more are
pub all_named : (P : InstRow → Type 0) (named old : List NamedInstance) (xs : List InstRow) → All IsNaming named → ((p : InstRow → Bool) → namings_of p named ≤ namings_of p old + times p xs) → All (λ m. P m.row) old → All P xs → All (λ n. P n.row) named
all_named P named old xs each le a b =
    All-weaker (λ n. 1 ≤ namings_of (is_instance n.row) named) (λ n. P n.row) (λ n some. of_one n.row (le (is_instance n.row)) some) named (counted_self named each)
  where
    of_one : (row : InstRow) → namings_of (is_instance row) named ≤ namings_of (is_instance row) old + times (is_instance row) xs → 1 ≤ namings_of (is_instance row) named → P row
    of_one row most some = elim (cases_lt 0 (namings_of (is_instance row) old)) [
      | inl more ↦
          let m = naming_found (is_instance row) old (omega (arith, more)) in
          subst P (instance_is row m.0.row m.2) (found_among (λ x. is_instance row x.row) old m.0 (λ x. P x.row) m.1 a)
      | inr none ↦
          let i = find_counted (is_instance row) xs (omega (arith, none, most, some)) in
          subst P (instance_is row i.0 i.2) (found_among (is_instance row) xs i.0 P i.1 b)
    ]

-- what holds of each that is named holds of the instances
pub all_instances : (P : InstRow → Type 0) (named : List NamedInstance) (xs : List InstRow) → AreNamesOf named xs → All (λ n. P n.row) named → All P xs
all_instances P named xs are a =
    All-weaker (λ i. 1 ≤ times (is_instance i) xs) P (λ i some. of_one i (subst (λ (n : ℕ). 1 ≤ n) (sym (are (is_instance i))) some)) xs (counted_rows xs)
  where
    of_one : (i : InstRow) → 1 ≤ namings_of (is_instance i) named → P i
    of_one i some =
        let m = naming_found (is_instance i) named some in
        subst P (instance_is i m.0.row m.2) (found_among (λ x. is_instance i x.row) named m.0 (λ x. P x.row) m.1 a)

-- ---- the naming of an id

-- without how often they are named
pub numbered : (named : List NamedInstance) → AreNamings named → AreNumbered named
numbered named are = record { rising = are.rising; each = All-weaker IsNaming IsNumbered (λ n h. h.is) named are.each }

ids_apart : (named : List NamedInstance) (id : List ℕ) → AreNumbered named → AllPairs (NotBoth (λ n. bytes_eq n.row.id.0 id)) named
ids_apart named id are i j d lt le = apart _ _ (are.rising i j d lt le) (are.each i d (omega (arith, lt, le))) (are.each j d le)
  where
    apart : (a b : NamedInstance) → a.number < b.number → IsNumbered a → IsNumbered b → NotBoth (λ n. bytes_eq n.row.id.0 id) a b
    apart a b l ka kb p q =
        let same : guid_number a.row.id.0 ≡ guid_number b.row.id.0 = ap guid_number (text_is a.row.id.0 id p ∙ sym (text_is b.row.id.0 id q)) in
        let m = ka.number in
        let n = kb.number in
        omega (arith, l, same, m, n)

pub only_naming : (named : List NamedInstance) (id : List ℕ) (n : NamedInstance) → AreNumbered named → find (λ m. bytes_eq m.row.id.0 id) named ≡ Some n → All (λ m. bytes_eq m.row.id.0 id ≡ true → m ≡ n) named
only_naming named id n are e = found_only (λ m. bytes_eq m.row.id.0 id) named n e (ids_apart named id are)

-- the instances of the id that was found are the one that was found
pub only_instance : (named : List NamedInstance) (xs : List InstRow) (id : List ℕ) (n : NamedInstance) → AreNamings named → AreNamesOf named xs → find (λ m. bytes_eq m.row.id.0 id) named ≡ Some n → All (λ i. bytes_eq i.id.0 id ≡ true → i ≡ n.row) xs
only_instance named xs id n are names e =
    all_instances (λ i. bytes_eq i.id.0 id ≡ true → i ≡ n.row) named xs names
    (All-weaker (λ m. bytes_eq m.row.id.0 id ≡ true → m ≡ n) (λ m. bytes_eq m.row.id.0 id ≡ true → m.row ≡ n.row) (λ m h p. ap (λ (x : NamedInstance). x.row) (h p)) named (only_naming named id n (numbered named are) e))

pub no_instance : (named : List NamedInstance) (xs : List InstRow) (id : List ℕ) → AreNamesOf named xs → find (λ m. bytes_eq m.row.id.0 id) named ≡ None → All (λ i. bytes_eq i.id.0 id ≡ false) xs
no_instance named xs id names e = all_instances (λ i. bytes_eq i.id.0 id ≡ false) named xs names (found_none (λ m. bytes_eq m.row.id.0 id) named e)

-- it is among them
pub instance_there : (named : List NamedInstance) (xs : List InstRow) (id : List ℕ) (n : NamedInstance) → AreNamings named → AreNamesOf named xs → find (λ m. bytes_eq m.row.id.0 id) named ≡ Some n → find (is_instance n.row) xs ≡ Some n.row
instance_there named xs id n are names e =
    let some = found_among (λ m. bytes_eq m.row.id.0 id) named n (λ m. 1 ≤ namings_of (is_instance m.row) named) e (counted_self named are.each) in
    let i = find_counted (is_instance n.row) xs (subst (λ (c : ℕ). 1 ≤ c) (names (is_instance n.row)) some) in
    subst (λ (x : InstRow). find (is_instance n.row) xs ≡ Some x) (instance_is n.row i.0 i.2) i.1

any_step : (p q : InstRow → Bool) (x y : InstRow) (xs : List InstRow) (b : Bool) → q y ≡ b → p x ≡ true → (find q xs ≡ Some x → list_any p xs ≡ true) → cond b (Some y) (find q xs) ≡ Some x → (p y || list_any p xs) ≡ true
any_step p q x y xs true h hit rest e = let k : y ≡ x = cc e in rw (ap p k ∙ hit) refl
any_step p q x y xs false h hit rest e = or_true (p y) (rest e)
  where
    or_true : (a : Bool) {b : Bool} → b ≡ true → (a || b) ≡ true
    or_true true e = refl
    or_true false e = e

pub any_found : (p q : InstRow → Bool) (xs : List InstRow) (x : InstRow) → find q xs ≡ Some x → p x ≡ true → list_any p xs ≡ true
any_found p q [] x e hit = absurd (let w : None ≡ Some x = e in cc w)
any_found p q (y ∷ xs) x e hit = any_step p q x y xs (q y) refl hit (λ f. any_found p q xs x f hit) e

-- ---- what a look-up answers

pub record IsNamingOf (o : Option NamedInstance) (row : InstRow) : Type 0 where
  pub naming : NamedInstance
  pub is : o ≡ Some naming
  pub row_is : naming.row ≡ row

pub naming_of : (o : Option NamedInstance) (row : InstRow) → Some row ≡ option_map (λ n. n.row) o → IsNamingOf o row
naming_of None row e = absurd (let w : Some row ≡ None = e in cc w)
naming_of (Some n) row e = record { naming = n; is = refl; row_is = (let w : Some row ≡ Some n.row = e in sym (same w)) }
  where
    same : Some row ≡ Some n.row → row ≡ n.row
    same w = cc w

pub no_naming : (o : Option NamedInstance) → None ≡ option_map (λ (n : NamedInstance). n.row) o → o ≡ None
no_naming None e = refl
no_naming (Some n) e = absurd (let w : None ≡ Some n.row = e in cc w)

-- whether an id is named
pub id_named : (named : List NamedInstance) (xs : List InstRow) (id : List ℕ) (o : Option (Bor InstRow)) (b : Bool) → AreNamings named → AreNamesOf named xs → option_copied o ≡ option_map (λ n. n.row) (find (λ m. bytes_eq m.row.id.0 id) named) → b ≡ is_some o → b ≡ list_any (λ i. bytes_eq i.id.0 id) xs
id_named named xs id None b are names e h = h ∙ sym (list_any_none (λ i. bytes_eq i.id.0 id) xs (no_instance named xs id names (no_naming (find (λ m. bytes_eq m.row.id.0 id) named) e)))
id_named named xs id (Some x) b are names e h =
    let n = naming_of (find (λ m. bytes_eq m.row.id.0 id) named) x.now e in
    let hit = (found_holds (λ m. bytes_eq m.row.id.0 id) named n.naming (λ m. Unit {0}) n.is (λ i d lt. tt)).1 in
    h ∙ sym (any_found (λ i. bytes_eq i.id.0 id) (is_instance n.naming.row) xs n.naming.row (instance_there named xs id n.naming are names n.is) hit)

-- whether the instance of an id has a hash
passes_neither : (a b : Bool) → (b ≡ true → a ≡ false) → (a && b) ≡ false
passes_neither a true h = let e : a ≡ false = h refl in rw e refl
passes_neither true false h = refl
passes_neither false false h = refl

file_step : (named : List NamedInstance) (xs : List InstRow) (id hash : List ℕ) (n : NamedInstance) (b : Bool) → bytes_eq n.row.hash.0 hash ≡ b → AreNamings named → AreNamesOf named xs → find (λ m. bytes_eq m.row.id.0 id) named ≡ Some n → b ≡ list_any (λ i. bytes_eq i.hash.0 hash && bytes_eq i.id.0 id) xs
file_step named xs id hash n true h are names e =
    let hit = (found_holds (λ m. bytes_eq m.row.id.0 id) named n (λ m. Unit {0}) e (λ i d lt. tt)).1 in
    sym (any_found (λ i. bytes_eq i.hash.0 hash && bytes_eq i.id.0 id) (is_instance n.row) xs n.row (instance_there named xs id n are names e) (rw h hit))
file_step named xs id hash n false h are names e =
    sym (list_any_none (λ i. bytes_eq i.hash.0 hash && bytes_eq i.id.0 id) xs
    (All-weaker (λ i. bytes_eq i.id.0 id ≡ true → i ≡ n.row) (λ i. (bytes_eq i.hash.0 hash && bytes_eq i.id.0 id) ≡ false)
    (λ i only. passes_neither (bytes_eq i.hash.0 hash) (bytes_eq i.id.0 id) (λ t. ap (λ (x : InstRow). bytes_eq x.hash.0 hash) (only t) ∙ h)) xs (only_instance named xs id n are names e)))

pub file_named : (named : List NamedInstance) (xs : List InstRow) (id hash : List ℕ) (x : InstRow) → AreNamings named → AreNamesOf named xs → Some x ≡ option_map (λ n. n.row) (find (λ m. bytes_eq m.row.id.0 id) named) → bytes_eq x.hash.0 hash ≡ list_any (λ i. bytes_eq i.hash.0 hash && bytes_eq i.id.0 id) xs
file_named named xs id hash x are names e =
    let n = naming_of (find (λ m. bytes_eq m.row.id.0 id) named) x e in
    subst (λ (r : InstRow). bytes_eq r.hash.0 hash ≡ list_any (λ i. bytes_eq i.hash.0 hash && bytes_eq i.id.0 id) xs) n.row_is
    (file_step named xs id hash n.naming (bytes_eq n.naming.row.hash.0 hash) refl are names n.is)

pub no_file_named : (named : List NamedInstance) (xs : List InstRow) (id hash : List ℕ) → AreNamesOf named xs → None ≡ option_map (λ (n : NamedInstance). n.row) (find (λ m. bytes_eq m.row.id.0 id) named) → false ≡ list_any (λ i. bytes_eq i.hash.0 hash && bytes_eq i.id.0 id) xs
no_file_named named xs id hash names e =
    sym (list_any_none (λ i. bytes_eq i.hash.0 hash && bytes_eq i.id.0 id) xs
    (All-weaker (λ i. bytes_eq i.id.0 id ≡ false) (λ i. (bytes_eq i.hash.0 hash && bytes_eq i.id.0 id) ≡ false)
    (λ i no. passes_neither (bytes_eq i.hash.0 hash) (bytes_eq i.id.0 id) (λ t. absurd (let w : true ≡ false = sym t ∙ no in cc w))) xs
    (no_instance named xs id names (no_naming (find (λ m. bytes_eq m.row.id.0 id) named) e))))

-- whether an instance agrees with all that are named
pub agrees_some : (named : List NamedInstance) (xs : List InstRow) (i x : InstRow) (b : Bool) → AreNamings named → AreNamesOf named xs → Some x ≡ option_map (λ n. n.row) (find (λ m. bytes_eq m.row.id.0 i.id.0) named) → (IsTrue b ↔ AgreesOn i x) → (IsTrue b ↔ All (AgreesOn i) xs)
agrees_some named xs i x b are names e h =
    let n = naming_of (find (λ m. bytes_eq m.row.id.0 i.id.0) named) x e in
    let only = subst (λ (r : InstRow). All (λ j. bytes_eq j.id.0 i.id.0 ≡ true → j ≡ r) xs) n.row_is (only_instance named xs i.id.0 n.naming are names n.is) in
    let there = subst (λ (r : InstRow). find (is_instance r) xs ≡ Some r) n.row_is (instance_there named xs i.id.0 n.naming are names n.is) in (
      (λ t. All-weaker (λ j. bytes_eq j.id.0 i.id.0 ≡ true → j ≡ x) (AgreesOn i) (λ j one same. subst (λ (r : InstRow). (i.hash ≡ r.hash) × (i.size ≡ r.size)) (sym (one (text_yes j.id.0 i.id.0 (ap (λ (d : InstId). d.0) (sym same))))) (h.0 t (same ∙ ap (λ (r : InstRow). r.id) (one (text_yes j.id.0 i.id.0 (ap (λ (d : InstId). d.0) (sym same))))))) xs only),
      (λ a. h.1 (found_among (is_instance x) xs x (AgreesOn i) there a)),
    )

pub agrees_none : (named : List NamedInstance) (xs : List InstRow) (i : InstRow) → AreNamesOf named xs → None ≡ option_map (λ (n : NamedInstance). n.row) (find (λ m. bytes_eq m.row.id.0 i.id.0) named) → All (AgreesOn i) xs
agrees_none named xs i names e =
    All-weaker (λ j. bytes_eq j.id.0 i.id.0 ≡ false) (AgreesOn i)
    (λ j no same. absurd (let w : false ≡ true = sym no ∙ text_yes j.id.0 i.id.0 (ap (λ (d : InstId). d.0) (sym same)) in cc w)) xs
    (no_instance named xs i.id.0 names (no_naming (find (λ m. bytes_eq m.row.id.0 i.id.0) named) e))

-- ---- instances of all records

all_flat : {X Y : Type 0} → (P : Y → Type 0) (f : X → List Y) (xs : List X) → All (λ x. All P (f x)) xs → All P (flat_map f xs)
all_flat P f [] a = All-nil P
all_flat P f (x ∷ xs) a = All-append P (f x) (flat_map f xs) (All-head (λ y. All P (f y)) x xs a) (all_flat P f xs (All-tail (λ y. All P (f y)) x xs a))

front_of : {Y : Type 0} → (P : Y → Type 0) (ys zs : List Y) → All P (ys ++ zs) → All P ys
front_of P [] zs a = All-nil P
front_of P (y ∷ ys) zs a = All-cons P y ys (All-head P y (ys ++ zs) a) (front_of P ys zs (All-tail P y (ys ++ zs) a))

back_of : {Y : Type 0} → (P : Y → Type 0) (ys zs : List Y) → All P (ys ++ zs) → All P zs
back_of P [] zs a = a
back_of P (y ∷ ys) zs a = back_of P ys zs (All-tail P y (ys ++ zs) a)

all_parts : {X Y : Type 0} → (P : Y → Type 0) (f : X → List Y) (xs : List X) → All P (flat_map f xs) → All (λ x. All P (f x)) xs
all_parts P f [] a = All-nil (λ x. All P (f x))
all_parts P f (x ∷ xs) a = All-cons (λ y. All P (f y)) x xs (front_of P (f x) (flat_map f xs) a) (all_parts P f xs (back_of P (f x) (flat_map f xs) a))

-- each of these instances agrees with each record, or each record with each of these instances
pub agree_turned : (rows : List MapRecord) (is : List InstRow) (b : Bool) → (IsTrue b ↔ All (λ i. All (AgreesOn i) (instances_of rows)) is) → (IsTrue b ↔ All (λ row. All (λ i. All (AgreesOn i) row.instances) is) rows)
agree_turned rows is b h = (
  (λ t k d lt m e le. all_parts (AgreesOn _) (λ (row : MapRecord). row.instances) rows (h.0 t m e le) k d lt),
  (λ a. h.1 (λ m e le. all_flat (AgreesOn _) (λ (row : MapRecord). row.instances) rows (λ k d lt. a k d lt m e le))),
)

flat_append : {X Y : Type 0} → (p : Y → Bool) (f : X → List Y) (xs : List X) (x : X) → times p (flat_map f (xs ++ x ∷ [])) ≡ times p (flat_map f xs) + times p (f x)
flat_append p f [] x = let a = count_append p (f x) [] in omega (arith, a)
flat_append p f (y ∷ xs) x =
    let a = count_append p (f y) (flat_map f (xs ++ x ∷ [])) in
    let b = count_append p (f y) (flat_map f xs) in
    let h = flat_append p f xs x in
    omega (arith, a, b, h)

pub names_added : (named new : List NamedInstance) (rows : List MapRecord) (r : MapRecord) → AreNamesOf named (instances_of rows) → ((p : InstRow → Bool) → namings_of p new ≡ namings_of p named + times p r.instances) → AreNamesOf new (instances_of (rows ++ r ∷ []))
names_added named new rows r names more p =
    let a = more p in
    let b = names p in
    let c = flat_append p (λ (row : MapRecord). row.instances) rows r in
    omega (arith, a, b, c)

kept_whole : {X : Type 0} → (q : X → Bool) (xs : List X) → All (λ x. q x ≡ false) xs → filter (λ x. not (q x)) xs ≡ xs
kept_whole q [] a = refl
kept_whole q (x ∷ xs) a = let h : q x ≡ false = All-head (λ y. q y ≡ false) x xs a in rw h (ap (λ (ys : List _). x ∷ ys) (kept_whole q xs (All-tail (λ y. q y ≡ false) x xs a)))

without_step : {X Y : Type 0} → (p : Y → Bool) (q : X → Bool) (f : X → List Y) (y x : X) (xs : List X) (b : Bool) → q y ≡ b → cond b (1 + times q xs) (times q xs) ≤ 1 → (times q xs ≤ 1 → find q xs ≡ Some x → times p (flat_map f (filter (λ z. not (q z)) xs)) + times p (f x) ≡ times p (flat_map f xs))
    → cond b (Some y) (find q xs) ≡ Some x → times p (flat_map f (cond (not b) (y ∷ filter (λ z. not (q z)) xs) (filter (λ z. not (q z)) xs))) + times p (f x) ≡ times p (f y ++ flat_map f xs)
without_step p q f y x xs true h few rest e =
    let k : y ≡ x = cc e in
    let none = kept_whole q xs (found_none q xs (none_counted q xs (omega (arith, few)))) in
    let a = ap (λ (zs : List _). times p (flat_map f zs)) none in
    let b = ap (λ (z : _). times p (f z)) k in
    let c = count_append p (f y) (flat_map f xs) in
    omega (arith, a, b, c)
without_step p q f y x xs false h few rest e =
    let a = count_append p (f y) (flat_map f (filter (λ z. not (q z)) xs)) in
    let b = count_append p (f y) (flat_map f xs) in
    let c = rest few e in
    omega (arith, a, b, c)

without_found : {X Y : Type 0} → (p : Y → Bool) (q : X → Bool) (f : X → List Y) (xs : List X) (x : X) → times q xs ≤ 1 → find q xs ≡ Some x → times p (flat_map f (filter (λ z. not (q z)) xs)) + times p (f x) ≡ times p (flat_map f xs)
without_found p q f [] x few e = absurd (let w : None ≡ Some x = e in cc w)
without_found p q f (y ∷ xs) x few e = without_step p q f y x xs (q y) refl few (without_found p q f xs x) e

-- a record's instances are named
pub names_there : (named : List NamedInstance) (rows : List MapRecord) (u : ℕ) (r : MapRecord) → AreNamesOf named (instances_of rows) → times (λ x. x.uid == u) rows ≤ 1 → find (λ x. x.uid == u) rows ≡ Some r → (p : InstRow → Bool) → times p r.instances ≤ namings_of p named
names_there named rows u r names few e p =
    let a = names p in
    let b = without_found p (λ (x : MapRecord). x.uid == u) (λ (x : MapRecord). x.instances) rows r few e in
    omega (arith, a, b)

pub names_dropped : (named new : List NamedInstance) (rows : List MapRecord) (u : ℕ) (r : MapRecord) → AreNamesOf named (instances_of rows) → times (λ x. x.uid == u) rows ≤ 1 → find (λ x. x.uid == u) rows ≡ Some r → ((p : InstRow → Bool) → namings_of p new + times p r.instances ≡ namings_of p named)
    → AreNamesOf new (instances_of (filter (λ x. not (x.uid == u)) rows))
names_dropped named new rows u r names few e less p =
    let a = names p in
    let b = without_found p (λ (x : MapRecord). x.uid == u) (λ (x : MapRecord). x.instances) rows r few e in
    let c = less p in
    omega (arith, a, b, c)

-- a change that keeps what each record names
pub names_kept : (change : MapRecord → MapRecord) (rows : List MapRecord) → ((r : MapRecord) → (change r).instances ≡ r.instances) → instances_of (map change rows) ≡ instances_of rows
names_kept change [] same = refl
names_kept change (r ∷ rows) same = let h = same r in let t = names_kept change rows same in cc (h, t)

only_one_id : (i j : InstRow) → AgreesOn i j → j.id.0 ≡ i.id.0 → j ≡ i
only_one_id i j agree e =
    let id : i.id ≡ j.id = ap id_of (sym e) in
    let a = agree id in
    same_parts i j (sym a.0) (sym id) (sym a.1)

-- the instances of a record that fits have no other's id
pub names_new : (named : List NamedInstance) (rows : List MapRecord) (is : List InstRow) → AreNamings named → AreNamesOf named (instances_of rows) → All (λ other. All (λ i. All (AgreesOn i) other.instances) is) rows → All (λ i. All (IsOnlyNaming i) named) is
names_new named rows is are names known = λ k d lt.
    all_named (λ j. j.id.0 ≡ (get_or is k d).id.0 → j ≡ get_or is k d) named [] (instances_of rows) are.each (λ p. let a = names p in omega (arith, a)) (All-nil (λ m. m.row.id.0 ≡ (get_or is k d).id.0 → m.row ≡ get_or is k d))
    (All-weaker (AgreesOn (get_or is k d)) (λ j. j.id.0 ≡ (get_or is k d).id.0 → j ≡ get_or is k d) (λ j agree. only_one_id (get_or is k d) j agree) (instances_of rows)
    (all_flat (AgreesOn (get_or is k d)) (λ (row : MapRecord). row.instances) rows (λ m e le. known m e le k d lt)))

pub none_named : (named : List NamedInstance) → named ≡ [] → AreNamings named × (all_namings named ≡ 0)
none_named named e = subst (λ (xs : List NamedInstance). AreNamings xs × (all_namings xs ≡ 0)) (sym e) (record { rising = pairs_nil (λ a b. a.number < b.number); each = All-nil IsNaming }, refl)

-- ---- places

pub searched_names : (named : List NamedInstance) (n : ℕ) → AllPairs (λ a b. a.number < b.number) named → (r : Result ℕ ℕ) → IsSearchInRange r (length named) → IsBinarySearchResult (λ (k : NamedInstance). nat_cmp k.number n) named r
    → IfOk r (IsNamedAt named n) × IfErr r (IsGapFor named n)
searched_names named n rise (Ok at) within equal = (record { within = within; is = λ d. ranked _ n _ (sym (equal d)) }, tt)
searched_names named n rise (Err at) within parted = (
  tt,
  record {
    within = within;
    before = λ k d lt. ranked _ n _ (sym ((parted (answers_rise (λ (k : NamedInstance). k.number) named n rise)).0 k d (omega arith) lt));
    behind = λ k d le lt. ranked _ n _ (sym ((parted (answers_rise (λ (k : NamedInstance). k.number) named n rise)).1 k d le lt));
  },
)

-- a number that is greater than the last naming's stands behind all
pub gap_behind : (named : List NamedInstance) (last : NamedInstance) (n : ℕ) → AllPairs (λ a b. a.number < b.number) named → Some last ≡ slice_get named (length named - 1) → last.number < n → IsGapFor named n (length named)
gap_behind named last n rise is lt = record {
  within = omega arith;
  before = λ k d below. below_last (λ (k : NamedInstance). k.number) named last n k d rise is lt below;
  behind = λ k d le within. absurd (omega (arith, le, within));
}

-- the naming at the place of an id has this id
id_at : (id : List ℕ) (n : NamedInstance) → IsNumbered n → length id ≡ 16 → IsOctets id → n.number ≡ guid_number id → n.row.id.0 ≡ id
id_at id n k long octets e = guid_only n.row.id.0 id k.long k.octets long octets (sym k.number ∙ e)

pub named_at : (named : List NamedInstance) (id : List ℕ) (at : ℕ) (d : NamedInstance) → AreNumbered named → length id ≡ 16 → IsOctets id → IsNamedAt named (guid_number id) at → find (λ m. bytes_eq m.row.id.0 id) named ≡ Some (get_or named at d)
named_at named id at d are long octets there =
    found_is (λ m. bytes_eq m.row.id.0 id) named (get_or named at d) (Contains-get_or named at d there.within)
    (text_yes (get_or named at d).row.id.0 id (id_at id (get_or named at d) (are.each at d there.within) long octets (there.is d)))
    (ids_apart named id are)

pub named_gap : (named : List NamedInstance) (id : List ℕ) (at : ℕ) → AreNumbered named → IsGapFor named (guid_number id) at → find (λ m. bytes_eq m.row.id.0 id) named ≡ None
named_gap named id at are gap =
    none_found (λ m. bytes_eq m.row.id.0 id) named
    (λ k d lt. not_true (bytes_eq (get_or named k d).row.id.0 id) (λ e.
    let same : (get_or named k d).number ≡ guid_number id = (are.each k d lt).number ∙ ap guid_number (text_is (get_or named k d).row.id.0 id e) in
    elim (cases_lt k at) [
      | inl before ↦ let l = gap.before k d before in omega (arith, l, same)
      | inr behind ↦ let l = gap.behind k d behind lt in omega (arith, l, same)
    ]))
  where
    not_true : (b : Bool) → (b ≡ true → ⊥) → b ≡ false
    not_true true h = absurd (h refl)
    not_true false h = refl

pub row_there : (named : List NamedInstance) (row : InstRow) (at : ℕ) → AreNumbered named → 1 ≤ namings_of (is_instance row) named → IsGapFor named (guid_number row.id.0) at → ⊥
row_there named row at are some gap =
    let m = naming_found (is_instance row) named some in
    let is : m.0.row ≡ row = instance_is row m.0.row m.2 in
    let no = found_among (λ x. is_instance row x.row) named m.0 (λ x. bytes_eq x.row.id.0 row.id.0 ≡ false) m.1 (found_none (λ x. bytes_eq x.row.id.0 row.id.0) named (named_gap named row.id.0 at are gap)) in
    (let w : false ≡ true = sym no ∙ text_yes m.0.row.id.0 row.id.0 (ap (λ (r : InstRow). r.id.0) is) in cc w)

-- ---- in order after a change

rises_insert : (named : List NamedInstance) (at : ℕ) (new : NamedInstance) → IsGapFor named new.number at → AllPairs (λ a b. a.number < b.number) named → AllPairs (λ a b. a.number < b.number) (insert named at new)
rises_insert [] zero new gap rise = AllPairs-cons (λ a b. a.number < b.number) new [] (All-nil (λ b. new.number < b.number)) (pairs_nil (λ a b. a.number < b.number))
rises_insert [] (suc at) new gap rise = absurd (let w = gap.within in omega (arith, w))
rises_insert (x ∷ named) zero new gap rise = AllPairs-cons (λ a b. a.number < b.number) new (x ∷ named) (λ k d lt. gap.behind k d (omega arith) lt) rise
rises_insert (x ∷ named) (suc at) new gap rise =
    let above = pairs_head (λ a b. a.number < b.number) x named rise in
    let l : x.number < new.number = gap.before 0 x (omega arith) in
    AllPairs-cons (λ a b. a.number < b.number) x (insert named at new)
    (All-append (λ b. x.number < b.number) (take at named) (new ∷ drop at named) (All-take (λ b. x.number < b.number) at named above) (All-cons (λ b. x.number < b.number) new (drop at named) l (All-drop (λ b. x.number < b.number) at named above)))
    (rises_insert named at new (shifted x named new.number at gap) (pairs_tail (λ a b. a.number < b.number) x named rise))
  where
    shifted : (x : NamedInstance) (named : List NamedInstance) (n at : ℕ) → IsGapFor (x ∷ named) n (suc at) → IsGapFor named n at
    shifted x named n at gap = record {
      within = (let w = gap.within in omega (arith, w));
      before = λ k d lt. gap.before (suc k) d (omega (arith, lt));
      behind = λ k d le lt. gap.behind (suc k) d (omega (arith, le)) (omega (arith, lt));
    }

pub insert_are : (named : List NamedInstance) (at : ℕ) (new : NamedInstance) → AreNamings named → IsGapFor named new.number at → IsNaming new → AreNamings (insert named at new)
insert_are named at new are gap naming = record {
  rising = rises_insert named at new gap are.rising;
  each = All-append IsNaming (take at named) (new ∷ drop at named) (All-take IsNaming at named are.each) (All-cons IsNaming new (drop at named) naming (All-drop IsNaming at named are.each));
}

-- ---- for the calls

-- one naming more of what is named already
pub one_more : (p : InstRow → Bool) (named : List NamedInstance) (at : ℕ) (old new : NamedInstance) (row : InstRow) → at < length named → old ≡ get_or named at old → old.row ≡ row → new.row ≡ old.row → new.namings ≡ old.namings + 1 → namings_of p (set named at new) ≡ namings_of p named + times p (row ∷ [])
one_more p named at old new row lt is same kept more =
    let h = namings_set p named at new old lt in
    let a : worth p (get_or named at old) ≡ worth p old = ap (worth p) (sym is) in
    let b : worth p old ≡ cond (p row) old.namings 0 = ap (λ (r : InstRow). cond (p r) old.namings 0) same in
    let c : worth p new ≡ cond (p row) new.namings 0 = ap (λ (r : InstRow). cond (p r) new.namings 0) (kept ∙ same) in
    joined (p row) _ _ _ _ old.namings new.namings h (a ∙ b) c more
  where
    joined : (b : Bool) (x y w v m n : ℕ) → x + w ≡ y + v → w ≡ cond b m 0 → v ≡ cond b n 0 → n ≡ m + 1 → x ≡ y + cond b (1 + 0) 0
    joined true x y w v m n h i j k = omega (arith, h, i, j, k)
    joined false x y w v m n h i j k = omega (arith, h, i, j, k)

pub first_naming : (p : InstRow → Bool) (named : List NamedInstance) (at : ℕ) (new : NamedInstance) → new.namings ≡ 1 → namings_of p (insert named at new) ≡ namings_of p named + times p (new.row ∷ [])
first_naming p named at new one = joined (p new.row) _ _ _ new.namings (namings_insert p named at new) refl one
  where
    joined : (b : Bool) (x y w n : ℕ) → x ≡ y + w → w ≡ cond b n 0 → n ≡ 1 → x ≡ y + cond b (1 + 0) 0
    joined true x y w n h i j = omega (arith, h, i, j)
    joined false x y w n h i j = omega (arith, h, i, j)

pub one_less : (p : InstRow → Bool) (named : List NamedInstance) (at : ℕ) (old new : NamedInstance) (row : InstRow) → at < length named → old ≡ get_or named at old → old.row ≡ row → new.row ≡ old.row → old.namings ≡ new.namings + 1 → namings_of p (set named at new) + times p (row ∷ []) ≡ namings_of p named
one_less p named at old new row lt is same kept less =
    let h = namings_set p named at new old lt in
    let a : worth p (get_or named at old) ≡ worth p old = ap (worth p) (sym is) in
    let b : worth p old ≡ cond (p row) old.namings 0 = ap (λ (r : InstRow). cond (p r) old.namings 0) same in
    let c : worth p new ≡ cond (p row) new.namings 0 = ap (λ (r : InstRow). cond (p r) new.namings 0) (kept ∙ same) in
    joined (p row) _ _ _ _ old.namings new.namings h (a ∙ b) c less
  where
    joined : (b : Bool) (x y w v m n : ℕ) → x + w ≡ y + v → w ≡ cond b m 0 → v ≡ cond b n 0 → m ≡ n + 1 → x + cond b (1 + 0) 0 ≡ y
    joined true x y w v m n h i j k = omega (arith, h, i, j, k)
    joined false x y w v m n h i j k = omega (arith, h, i, j, k)

some_worth : (p : InstRow → Bool) (named : List NamedInstance) (at : ℕ) (d : NamedInstance) → at < length named → worth p (get_or named at d) ≤ namings_of p named
some_worth p [] at d lt = absurd (omega (arith, lt))
some_worth p (x ∷ named) zero d lt = omega arith
some_worth p (x ∷ named) (suc at) d lt = let h = some_worth p named at d (omega (arith, lt)) in omega (arith, h)

-- no instance has more namings than there are
pub namings_within : (named : List NamedInstance) (at : ℕ) (old : NamedInstance) → at < length named → old ≡ get_or named at old → old.namings ≤ all_namings named
namings_within named at old lt is = let h = some_worth (λ row. true) named at old lt in let e : (get_or named at old).namings ≡ old.namings = ap (λ (n : NamedInstance). n.namings) (sym is) in omega (arith, h, e)

pub same_at : (named : List NamedInstance) (row : InstRow) (at : ℕ) (old : NamedInstance) → AreNamings named → All (IsOnlyNaming row) named → length row.id.0 ≡ 16 → IsOctets row.id.0 → IsNamedAt named (guid_number row.id.0) at → old ≡ get_or named at old → old.row ≡ row
same_at named row at old are only long octets there is =
    ap (λ (n : NamedInstance). n.row) is ∙ only at old there.within (id_at row.id.0 (get_or named at old) (are.each at old there.within).is long octets (there.is old))

-- ---- one after another

times_more : (p : InstRow → Bool) (xs : List InstRow) (k : ℕ) (d : InstRow) → k < length xs → times p (take (suc k) xs) ≡ times p (take k xs) + times p (get_or xs k d ∷ [])
times_more p [] k d lt = absurd (omega (arith, lt))
times_more p (x ∷ xs) zero d lt = omega arith
times_more p (x ∷ xs) (suc k) d lt = step (p x) _ _ _ (times_more p xs k d (omega (arith, lt)))
  where
    step : (b : Bool) (m n o : ℕ) → m ≡ n + o → cond b (1 + m) m ≡ cond b (1 + n) n + o
    step true m n o e = omega (arith, e)
    step false m n o e = e

pub one_further : (p : InstRow → Bool) (xs : List InstRow) (k : ℕ) (d : InstRow) → k < length xs → times p (take (k + 1) xs) ≡ times p (take k xs) + times p (get_or xs k d ∷ [])
one_further p xs k d lt = rw add-one (times_more p xs k d lt)

times_within : (p : InstRow → Bool) (xs : List InstRow) (k : ℕ) → times p (take k xs) ≤ times p xs
times_within p xs zero = omega arith
times_within p [] (suc k) = omega arith
times_within p (x ∷ xs) (suc k) = step (p x) _ _ (times_within p xs k)
  where
    step : (b : Bool) (m n : ℕ) → m ≤ n → cond b (1 + m) m ≤ cond b (1 + n) n
    step true m n e = omega (arith, e)
    step false m n e = e

pub all_taken : (xs : List InstRow) (k : ℕ) → length xs ≤ k → take k xs ≡ xs
all_taken [] zero le = refl
all_taken [] (suc k) le = refl
all_taken (x ∷ xs) zero le = absurd (omega (arith, le))
all_taken (x ∷ xs) (suc k) le = ap (λ (ys : List InstRow). x ∷ ys) (all_taken xs k (omega (arith, le)))

front_alike : (rows : List InstRow) (k : ℕ) (d : InstRow) → AllPairs AgreesOn rows → k < length rows → All (λ j. j.id.0 ≡ (get_or rows k d).id.0 → j ≡ get_or rows k d) (take k rows)
front_alike [] k d agree lt = absurd (omega (arith, lt))
front_alike (x ∷ rows) zero d agree lt = All-nil (λ j. j.id.0 ≡ x.id.0 → j ≡ x)
front_alike (x ∷ rows) (suc k) d agree lt =
    All-cons (λ j. j.id.0 ≡ (get_or rows k d).id.0 → j ≡ get_or rows k d) x (take k rows) (λ e. sym (only_one_id x (get_or rows k d) (pairs_head AgreesOn x rows agree k d (omega (arith, lt))) (sym e)))
    (front_alike rows k d (pairs_tail AgreesOn x rows agree) (omega (arith, lt)))

-- the next of these instances has no other's id
pub next_only : (named old : List NamedInstance) (rows : List InstRow) (k : ℕ) (d : InstRow) → AreNamings named → ((p : InstRow → Bool) → namings_of p named ≡ namings_of p old + times p (take k rows)) → All (λ row. All (IsOnlyNaming row) old) rows → AllPairs AgreesOn rows → k < length rows → All (IsOnlyNaming (get_or rows k d)) named
next_only named old rows k d are names only agree lt =
    all_named (λ j. j.id.0 ≡ (get_or rows k d).id.0 → j ≡ get_or rows k d) named old (take k rows) are.each (λ p. let e = names p in omega (arith, e)) (only k d lt) (front_alike rows k d agree lt)

-- the next of these instances is still named
pub next_there : (named old : List NamedInstance) (rows : List InstRow) (k : ℕ) (d : InstRow) → ((p : InstRow → Bool) → namings_of p named + times p (take k rows) ≡ namings_of p old) → ((p : InstRow → Bool) → times p rows ≤ namings_of p old) → k < length rows → 1 ≤ namings_of (is_instance (get_or rows k d)) named
next_there named old rows k d names within lt =
    let p = is_instance (get_or rows k d) in
    let a = names p in
    let b = within p in
    let c = times_more p rows k d lt in
    let e = times_within p rows (suc k) in
    let one : times p (get_or rows k d ∷ []) ≡ 1 = rw (is_itself (get_or rows k d)) refl in
    omega (arith, a, b, c, e, one)

-- ---- for the table

pub no_names : (named : List NamedInstance) (records : List Record) → named ≡ [] → records ≡ [] → AreNamesOf named (instances_of (map meant_record records))
no_names named records e f p = ap (namings_of p) e ∙ sym (ap (λ (rs : List Record). times p (instances_of (map meant_record rs))) f)

-- a change that keeps what each record names
pub names_changed : (named : List NamedInstance) (rows new : List MapRecord) (change : MapRecord → MapRecord) → new ≡ map change rows → ((r : MapRecord) → (change r).instances ≡ r.instances) → AreNamesOf named (instances_of rows) → AreNamesOf named (instances_of new)
names_changed named rows new change e same names = subst (AreNamesOf named) (sym (ap instances_of e ∙ names_kept change rows same)) names

pub id_in_records : (named : List NamedInstance) (rows ms : List MapRecord) (id : List ℕ) (o : Option (Bor InstRow)) (b : Bool) → rows ≡ ms → AreNamings named → AreNamesOf named (instances_of rows) → option_copied o ≡ option_map (λ n. n.row) (find (λ m. bytes_eq m.row.id.0 id) named) → b ≡ is_some o → b ≡ list_any (λ row. list_any (λ i. bytes_eq i.id.0 id) row.instances) ms
id_in_records named rows ms id o b view are names e h =
    id_named named (instances_of rows) id o b are names e h ∙ list_any-flat_map (λ (i : InstRow). bytes_eq i.id.0 id) (λ (row : MapRecord). row.instances) rows
    ∙ ap (list_any (λ (row : MapRecord). list_any (λ (i : InstRow). bytes_eq i.id.0 id) row.instances)) view

pub file_in_records : (named : List NamedInstance) (rows ms : List MapRecord) (hash id : List ℕ) (x : InstRow) → rows ≡ ms → AreNamings named → AreNamesOf named (instances_of rows) → Some x ≡ option_map (λ n. n.row) (find (λ m. bytes_eq m.row.id.0 id) named)
    → bytes_eq x.hash.0 hash ≡ list_any (λ row. list_any (λ i. bytes_eq i.hash.0 hash && bytes_eq i.id.0 id) row.instances) ms
file_in_records named rows ms hash id x view are names e =
    file_named named (instances_of rows) id hash x are names e ∙ list_any-flat_map (λ (i : InstRow). bytes_eq i.hash.0 hash && bytes_eq i.id.0 id) (λ (row : MapRecord). row.instances) rows
    ∙ ap (list_any (λ (row : MapRecord). list_any (λ (i : InstRow). bytes_eq i.hash.0 hash && bytes_eq i.id.0 id) row.instances)) view

pub no_file_in_records : (named : List NamedInstance) (rows ms : List MapRecord) (hash id : List ℕ) → rows ≡ ms → AreNamesOf named (instances_of rows) → None ≡ option_map (λ (n : NamedInstance). n.row) (find (λ m. bytes_eq m.row.id.0 id) named)
    → false ≡ list_any (λ row. list_any (λ i. bytes_eq i.hash.0 hash && bytes_eq i.id.0 id) row.instances) ms
no_file_in_records named rows ms hash id view names e =
    no_file_named named (instances_of rows) id hash names e ∙ list_any-flat_map (λ (i : InstRow). bytes_eq i.hash.0 hash && bytes_eq i.id.0 id) (λ (row : MapRecord). row.instances) rows
    ∙ ap (list_any (λ (row : MapRecord). list_any (λ (i : InstRow). bytes_eq i.hash.0 hash && bytes_eq i.id.0 id) row.instances)) view

-- ---- namings of the records that a list names

times_all : (xs : List InstRow) → times (λ i. true) xs ≡ length xs
times_all [] = refl
times_all (x ∷ xs) = let e = times_all xs in omega (arith, e)

-- so many namings are fewer
pub fewer : (named old : List NamedInstance) (rows : List InstRow) → ((p : InstRow → Bool) → namings_of p named + times p rows ≡ namings_of p old) → all_namings named + length rows ≡ all_namings old
fewer named old rows names = let a = names (λ i. true) in let b = times_all rows in omega (arith, a, b)

nothing_named : (m : ℕ) → nat_le 1 m ≡ false → m ≡ 0
nothing_named m h = grind (arith, nat_tests, h)

swept_step : (p : InstRow → Bool) (n : NamedInstance) (kept named : List NamedInstance) (b : Bool) → nat_le 1 n.namings ≡ b → namings_of p kept ≡ namings_of p named → namings_of p (cond b (n ∷ kept) kept) ≡ namings_of p (n ∷ named)
swept_step p n kept named true e h = ap (λ (k : ℕ). worth p n + k) h
swept_step p n kept named false e h = h ∙ none (p n.row) n.namings (namings_of p named) (nothing_named n.namings e)
  where
    none : (b : Bool) (m k : ℕ) → m ≡ 0 → k ≡ cond b m 0 + k
    none true m k z = omega (arith, z)
    none false m k z = omega arith

-- instances that are named no more are left out
pub swept_names : (p : InstRow → Bool) (named : List NamedInstance) → namings_of p (filter (λ n. nat_le 1 n.namings) named) ≡ namings_of p named
swept_names p [] = refl
swept_names p (n ∷ named) = swept_step p n (filter (λ m. nat_le 1 m.namings) named) named (nat_le 1 n.namings) refl (swept_names p named)

pub swept_are : (named : List NamedInstance) → AreNumbered named → AreNamings (filter (λ n. nat_le 1 n.namings) named)
swept_are named are = record {
  rising = AllPairs-filter (λ a b. a.number < b.number) (λ n. nat_le 1 n.namings) named are.rising;
  each = both_all (filter (λ n. nat_le 1 n.namings) named) (All-filter (λ n. nat_le 1 n.namings) IsNumbered named are.each) (filter_passes (λ n. nat_le 1 n.namings) named);
}
  where
    at_least : (m : ℕ) → nat_le 1 m ≡ true → 1 ≤ m
    at_least m h = grind (arith, nat_tests, h)

    both_all : (ns : List NamedInstance) → All IsNumbered ns → All (λ n. nat_le 1 n.namings ≡ true) ns → All IsNaming ns
    both_all ns a b = λ k d lt. record { is = a k d lt; some = at_least _ (b k d lt) }

abbrev named_in : List MapUid → MapRecord → Bool
named_in uids row = has_map_uid row.uid uids

has_more : (u : ℕ) (uids : List MapUid) (k : ℕ) (d : MapUid) → k < length uids → has_map_uid u (take (suc k) uids) ≡ (has_map_uid u (take k uids) || ((get_or uids k d).0 == u))
has_more u [] k d lt = absurd (omega (arith, lt))
has_more u (v ∷ uids) zero d lt = at_end (v.0 == u)
  where
    at_end : (b : Bool) → (b || false) ≡ (false || b)
    at_end true = refl
    at_end false = refl
has_more u (v ∷ uids) (suc k) d lt = ap (λ (b : Bool). (v.0 == u) || b) (has_more u uids k d (omega (arith, lt))) ∙ turned (v.0 == u) _ _
  where
    turned : (a b c : Bool) → (a || (b || c)) ≡ ((a || b) || c)
    turned true b c = refl
    turned false b c = refl

-- a record that no list names so far
not_before : (uids : List MapUid) (k : ℕ) (d : MapUid) → AllPairs (λ a b. a.0 < b.0) uids → k < length uids → has_map_uid (get_or uids k d).0 (take k uids) ≡ false
not_before [] k d rise lt = absurd (omega (arith, lt))
not_before (v ∷ uids) zero d rise lt = refl
not_before (v ∷ uids) (suc k) d rise lt =
    let less = pairs_head (λ a b. a.0 < b.0) v uids rise k d (omega (arith, lt)) in
    rw (unequal v.0 (get_or uids k d).0 less) (not_before uids k d (pairs_tail (λ a b. a.0 < b.0) v uids rise) (omega (arith, lt)))
  where
    unequal : (a b : ℕ) → a < b → (a == b) ≡ false
    unequal a b h = grind (arith, nat_tests, h)

left_step : (q : MapRecord → Bool) (row : MapRecord) (kept all : List MapRecord) (now before hit : Bool) → now ≡ (before || hit) → q row ≡ not hit → filter q kept ≡ all → filter q (cond (not before) (row ∷ kept) kept) ≡ cond (not now) (row ∷ all) all
left_step q row kept all now true hit e h f = rw e f
left_step q row kept all now false true e h f = rw (e, h) f
left_step q row kept all now false false e h f = rw (e, h) (ap (λ (rows : List MapRecord). row ∷ rows) f)

turned : (a b : ℕ) → (b == a) ≡ (a == b)
turned a b = grind (arith, nat_tests)

left_twice : (uids : List MapUid) (k : ℕ) (d : MapUid) (rows : List MapRecord) → k < length uids
    → filter (λ x. not (x.uid == (get_or uids k d).0)) (filter (λ x. not (named_in (take k uids) x)) rows) ≡ filter (λ x. not (named_in (take (suc k) uids) x)) rows
left_twice uids k d [] lt = refl
left_twice uids k d (row ∷ rows) lt =
    left_step (λ x. not (x.uid == (get_or uids k d).0)) row (filter (λ x. not (named_in (take k uids) x)) rows) (filter (λ x. not (named_in (take (suc k) uids) x)) rows) (has_map_uid row.uid (take (suc k) uids)) (has_map_uid row.uid (take k uids)) ((get_or uids k d).0 == row.uid)
    (has_more row.uid uids k d lt) (ap not (turned (get_or uids k d).0 row.uid)) (left_twice uids k d rows lt)

-- a look-up among records that pass, where all that it finds pass
passing_step : (p q : MapRecord → Bool) (row : MapRecord) (kept rows : List MapRecord) (b c : Bool) → p row ≡ b → q row ≡ c → (q row ≡ true → p row ≡ true) → find q kept ≡ find q rows → find q (cond b (row ∷ kept) kept) ≡ cond c (Some row) (find q rows)
passing_step p q row kept rows true true e f h g = rw f refl
passing_step p q row kept rows true false e f h g = rw f g
passing_step p q row kept rows false true e f h g = absurd (let w : false ≡ true = sym e ∙ h f in cc w)
passing_step p q row kept rows false false e f h g = g

find_passing : (p q : MapRecord → Bool) (rows : List MapRecord) → ((r : MapRecord) → q r ≡ true → p r ≡ true) → find q (filter p rows) ≡ find q rows
find_passing p q [] h = refl
find_passing p q (row ∷ rows) h = passing_step p q row (filter p rows) rows (p row) (q row) refl refl (h row) (find_passing p q rows h)

-- the records of the map uids so far are left out, and the next one is there if and only if it was
found_left : (uids : List MapUid) (k : ℕ) (d : MapUid) (rows : List MapRecord) → AllPairs (λ a b. a.0 < b.0) uids → k < length uids
    → find (λ x. x.uid == (get_or uids k d).0) (filter (λ x. not (named_in (take k uids) x)) rows) ≡ find (λ x. x.uid == (get_or uids k d).0) rows
found_left uids k d rows rise lt =
    find_passing (λ x. not (named_in (take k uids) x)) (λ x. x.uid == (get_or uids k d).0) rows
    (λ r e. ap not (ap (λ (u : ℕ). has_map_uid u (take k uids)) (equal_is r.uid (get_or uids k d).0 e) ∙ not_before uids k d rise lt))

abbrev pub left_of : List MapUid → ℕ → List MapRecord → List MapRecord
left_of uids k rows = filter (λ row. not (has_map_uid row.uid (take k uids))) rows

nothing_taken : (uids : List MapUid) → take 0 uids ≡ []
nothing_taken [] = refl
nothing_taken (u ∷ uids) = refl

none_left_out : (rows : List MapRecord) → filter (λ row. not (has_map_uid row.uid [])) rows ≡ rows
none_left_out [] = refl
none_left_out (row ∷ rows) = ap (λ (rs : List MapRecord). row ∷ rs) (none_left_out rows)

pub left_first : (uids : List MapUid) (rows : List MapRecord) → left_of uids 0 rows ≡ rows
left_first uids rows = ap (λ (us : List MapUid). filter (λ row. not (has_map_uid row.uid us)) rows) (nothing_taken uids) ∙ none_left_out rows

whole_taken : (uids : List MapUid) (k : ℕ) → length uids ≤ k → take k uids ≡ uids
whole_taken [] zero le = refl
whole_taken [] (suc k) le = refl
whole_taken (u ∷ uids) zero le = absurd (omega (arith, le))
whole_taken (u ∷ uids) (suc k) le = ap (λ (us : List MapUid). u ∷ us) (whole_taken uids k (omega (arith, le)))

pub left_last : (uids : List MapUid) (k : ℕ) (rows : List MapRecord) → length uids ≤ k → left_of uids k rows ≡ filter (λ row. not (has_map_uid row.uid uids)) rows
left_last uids k rows le = ap (λ (us : List MapUid). filter (λ row. not (has_map_uid row.uid us)) rows) (whole_taken uids k le)

abbrev Rise : List Record → Type 0
Rise records = AllPairs (λ a b. a.row.uid.0 < b.row.uid.0) records

rows_rise : (records : List Record) → Rise records → AllPairs (λ a b. a.uid < b.uid) (map meant_record records)
rows_rise records rise = pairs_map (λ a b. a.row.uid.0 < b.row.uid.0) (λ a b. a.uid < b.uid) meant_record (λ a b l. l) records rise

left_rise : (uids : List MapUid) (k : ℕ) (records : List Record) → Rise records → AllPairs (λ a b. a.uid < b.uid) (left_of uids k (map meant_record records))
left_rise uids k records rise = AllPairs-filter (λ a b. a.uid < b.uid) (λ x. not (named_in (take k uids) x)) (map meant_record records) (rows_rise records rise)

uids_rise : (uids : List MapUid) → IsStrictlyIncreasing (map (λ (u : MapUid). u.0) uids) → AllPairs (λ a b. a.0 < b.0) uids
uids_rise uids rise = pairs_unmap (λ (a b : ℕ). a < b) (λ (u : MapUid). u.0) uids (AllPairs-from_increasing _ rise)

-- the record of the next map uid is among those that are left
next_found : (uids : List MapUid) (k : ℕ) (d : MapUid) (records : List Record) (o : Option Record) → IsStrictlyIncreasing (map (λ (u : MapUid). u.0) uids) → k < length uids → o ≡ find (λ r. r.row.uid.0 == (get_or uids k d).0) records
    → find (λ x. x.uid == (get_or uids k d).0) (left_of uids k (map meant_record records)) ≡ option_map meant_record o
next_found uids k d records o rise lt e =
    found_left uids k d (map meant_record records) (uids_rise uids rise) lt ∙ find-map (λ (row : MapRecord). row.uid == (get_or uids k d).0) meant_record records ∙ sym (ap (option_map meant_record) e)

pub next_named : (named : List NamedInstance) (uids : List MapUid) (k : ℕ) (d : MapUid) (records : List Record) (r : Record) → Rise records → IsStrictlyIncreasing (map (λ (u : MapUid). u.0) uids) → k < length uids
    → AreNamesOf named (instances_of (left_of uids k (map meant_record records))) → Some r ≡ find (λ x. x.row.uid.0 == (get_or uids k d).0) records → (p : InstRow → Bool) → times p r.instances ≤ namings_of p named
next_named named uids k d records r rising rise lt names e =
    names_there named (left_of uids k (map meant_record records)) (get_or uids k d).0 (meant_record r) names (uid_once (get_or uids k d).0 (left_of uids k (map meant_record records)) (left_rise uids k records rising)) (next_found uids k d records (Some r) rise lt e)

pub next_dropped : (named new : List NamedInstance) (uids : List MapUid) (k : ℕ) (d : MapUid) (records : List Record) (r : Record) → Rise records → IsStrictlyIncreasing (map (λ (u : MapUid). u.0) uids) → k < length uids
    → AreNamesOf named (instances_of (left_of uids k (map meant_record records))) → Some r ≡ find (λ x. x.row.uid.0 == (get_or uids k d).0) records → ((p : InstRow → Bool) → namings_of p new + times p r.instances ≡ namings_of p named)
    → AreNamesOf new (instances_of (left_of uids (k + 1) (map meant_record records)))
next_dropped named new uids k d records r rising rise lt names e less =
    rw add-one
    (subst (λ (ms : List MapRecord). AreNamesOf new (instances_of ms)) (left_twice uids k d (map meant_record records) lt)
    (names_dropped named new (left_of uids k (map meant_record records)) (get_or uids k d).0 (meant_record r) names (uid_once (get_or uids k d).0 (left_of uids k (map meant_record records)) (left_rise uids k records rising)) (next_found uids k d records (Some r) rise lt e) less))

pub next_missing : (named : List NamedInstance) (uids : List MapUid) (k : ℕ) (d : MapUid) (records : List Record) → IsStrictlyIncreasing (map (λ (u : MapUid). u.0) uids) → k < length uids
    → AreNamesOf named (instances_of (left_of uids k (map meant_record records))) → None ≡ find (λ x. x.row.uid.0 == (get_or uids k d).0) records → AreNamesOf named (instances_of (left_of uids (k + 1) (map meant_record records)))
next_missing named uids k d records rise lt names e =
    let left = left_of uids k (map meant_record records) in
    let whole = kept_whole (λ x. x.uid == (get_or uids k d).0) left (found_none (λ x. x.uid == (get_or uids k d).0) left (next_found uids k d records None rise lt e)) in
    rw add-one (subst (λ (ms : List MapRecord). AreNamesOf named (instances_of ms)) (sym whole ∙ left_twice uids k d (map meant_record records) lt) names)

-- ---- an instance that is named

abbrev IsSomewhere : (InstRow → Bool) → List NamedInstance → Type 0
IsSomewhere p named = (k : ℕ) × (k < length named) × ((d : NamedInstance) → (p (get_or named k d).row ≡ true) × (1 ≤ (get_or named k d).namings))

somewhere_step : (p : InstRow → Bool) (n : NamedInstance) (named : List NamedInstance) (b : Bool) → p n.row ≡ b → (0 < n.namings) ⊎ (n.namings ≤ 0) → (1 ≤ namings_of p named → IsSomewhere p named) → 1 ≤ cond b n.namings 0 + namings_of p named → IsSomewhere p (n ∷ named)
somewhere_step p n named true e (inl l) rest some = (0, omega arith, λ d. (e, omega (arith, l)))
somewhere_step p n named true e (inr z) rest some = let r = rest (omega (arith, some, z)) in (suc r.0, (let w = r.1 in omega (arith, w)), λ d. r.2 d)
somewhere_step p n named false e c rest some = let r = rest (omega (arith, some)) in (suc r.0, (let w = r.1 in omega (arith, w)), λ d. r.2 d)

somewhere : (p : InstRow → Bool) (named : List NamedInstance) → 1 ≤ namings_of p named → IsSomewhere p named
somewhere p [] some = absurd (omega (arith, some))
somewhere p (n ∷ named) some = somewhere_step p n named (p n.row) refl (cases_lt 0 n.namings) (somewhere p named) some

one_place : (named : List NamedInstance) (i j : ℕ) (d : NamedInstance) → AllPairs (λ a b. a.number < b.number) named → i < length named → j < length named → (get_or named i d).number ≡ (get_or named j d).number → i ≡ j
one_place named i j d rise li lj e =
    elim (cases_lt i j) [
      | inl l ↦ absurd (let h : (get_or named i d).number < (get_or named j d).number = rise i j d l lj in omega (arith, h, e))
      | inr ge ↦ elim (cases_lt j i) [
        | inl l ↦ absurd (let h : (get_or named j d).number < (get_or named i d).number = rise j i d l li in omega (arith, h, e))
        | inr le ↦ omega (arith, ge, le)
      ]
    ]

-- an instance that is named stands at the place of its id
pub named_there : (named : List NamedInstance) (row : InstRow) (at : ℕ) (d : NamedInstance) → AreNumbered named → 1 ≤ namings_of (is_instance row) named → IsNamedAt named (guid_number row.id.0) at → ((get_or named at d).row ≡ row) × (1 ≤ (get_or named at d).namings)
named_there named row at d are some there =
    let s = somewhere (is_instance row) named some in
    let is : (get_or named s.0 d).row ≡ row = instance_is row (get_or named s.0 d).row (s.2 d).0 in
    let here : (get_or named s.0 d).number ≡ guid_number (get_or named s.0 d).row.id.0 = (are.each s.0 d s.1).number in
    let same : (get_or named s.0 d).number ≡ (get_or named at d).number = here ∙ ap (λ (r : InstRow). guid_number r.id.0) is ∙ sym (there.is d) in
    subst (λ (k : ℕ). ((get_or named k d).row ≡ row) × (1 ≤ (get_or named k d).namings)) (one_place named s.0 at d are.rising s.1 there.within same) (is, (s.2 d).1)
