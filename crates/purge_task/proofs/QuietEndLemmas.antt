-- What a purge beside no other task has done in the end.
use Rattle.purge_task.proofs.Common.{◌≡◌, ◌≤◌, ◌==◌, ◌&&◌, ◌||◌, ℕ, Bool, true, false, not, List, [], ◌∷◌, length, map, Option, Some, None, refl, sym, ◌∙◌, ap, subst, arith, inl, inr, All, Contains, filter, find, if◌then◌else◌, option_map, list_any, bytes_eq, eqb-true, append-nil, All-cons, All-nil}
use Rattle.purge_task.proofs.Common.{All-contains, All-contains_itself, All-head, All-tail, All-weaker, Contains-append_right, DiskState, Files, HasSameOctets, apart_from_place, is_one_of, InstRow, InstId, is_instance_named, MapMeaning, MapRecord, is_sealed, named_instances, equal_yes, found_none}
use Rattle.purge_task.proofs.Common.{text_is, LiesInFile, files_of, instance_in, instance_file, KnownInstance, is_useless, useless_past, IsKnownRow, StoreValue, at_stage, PurgeValue, IsQuietSoFar, stays_beside, fall}
use Rattle.disk_model.specs.declared.name.FileName.TheVariants as file
use Rattle.journal.specs.QuietPurge.{AllHaveSameOctets, PurgesQuietly, goes}
use Rattle.store_core.specs.StoreInstances.{AreInstancesThere}
use Rattle.purge_task.specs.declared.task.PurgeStage.TheVariants as stage
use Rattle.purge_task.proofs.CopyLemmas.{kept_of}
use Rattle.purge_task.proofs.QuietLemmas.{emptied_dropped, emptied_rows, emptied_stay}
use Rattle.purge_task.proofs.WithinLemmas.{mapped_of}

-- ---- numbers in a list

pub none_within : {X : Type 0} → (x : X) → Contains [] x → ⊥
none_within x c = let l = c.1 in omega (arith, l)

pub one_within : (ns : List ℕ) (n : ℕ) → Contains ns n → is_one_of ns n ≡ true
one_within ns n c = All-contains (λ (m : ℕ). is_one_of ns m ≡ true) ns n (all ns) c
  where
    later : (m k : ℕ) (ks : List ℕ) → is_one_of ks m ≡ true → is_one_of (k ∷ ks) m ≡ true
    later m k ks e = or_true (k == m) (is_one_of ks m) e
      where
        or_true : (a b : Bool) → b ≡ true → (a || b) ≡ true
        or_true true b e = refl
        or_true false b e = e

    all : (ks : List ℕ) → All (λ (m : ℕ). is_one_of ks m ≡ true) ks
    all [] = All-nil (λ (m : ℕ). is_one_of [] m ≡ true)
    all (k ∷ ks) = All-cons (λ (m : ℕ). is_one_of (k ∷ ks) m ≡ true) k ks (ap (λ (b : Bool). b || is_one_of ks k) (equal_yes k k refl)) (All-weaker (λ (m : ℕ). is_one_of ks m ≡ true) (λ (m : ℕ). is_one_of (k ∷ ks) m ≡ true) (λ m e. later m k ks e) ks (all ks))

pub within_one : (ns : List ℕ) (n : ℕ) → is_one_of ns n ≡ true → Contains ns n
within_one [] n e = absurd (let k : false ≡ true = e in cc k)
within_one (m ∷ ns) n e = by_test (m == n) refl (within_one ns n)
  where
    by_test : (b : Bool) → (m == n) ≡ b → (is_one_of ns n ≡ true → Contains ns n) → Contains (m ∷ ns) n
    by_test true is there = subst (λ (k : ℕ). Contains (m ∷ ns) k) (eqb-true m n is) (All-head (λ (k : ℕ). Contains (m ∷ ns) k) m ns (All-contains_itself (m ∷ ns)))
    by_test false is there = Contains-append_right (m ∷ []) ns n (there (sym (ap (λ (b : Bool). b || is_one_of ns n) is) ∙ e))

-- ---- records

-- each record that stays has its octets
pub regions_of : (old new : Files) (placed : MapRecord → MapRecord) (rows : List MapRecord) → All (λ row. HasSameOctets old new row (placed row)) rows → AllHaveSameOctets old new rows (map placed rows)
regions_of old new placed [] h = tt
regions_of old new placed (row ∷ rows) h = (All-head (λ (r : MapRecord). HasSameOctets old new r (placed r)) row rows h, regions_of old new placed rows (All-tail (λ (r : MapRecord). HasSameOctets old new r (placed r)) row rows h))

all_kept : {X : Type 0} → (p : X → Bool) (P : X → Type 0) (xs : List X) → ((x : X) → Contains xs x → p x ≡ true → P x) → All P (filter p xs)
all_kept p P [] h = All-nil P
all_kept p P (x ∷ xs) h = by_test (p x) refl (all_kept p P xs (λ y c. h y (Contains-append_right (x ∷ []) xs y c)))
  where
    by_test : (b : Bool) → p x ≡ b → All P (filter p xs) → All P (if b then x ∷ filter p xs else filter p xs)
    by_test true e rest = All-cons P x (filter p xs) (h x (All-head (λ (y : _). Contains (x ∷ xs) y) x xs (All-contains_itself (x ∷ xs))) e) rest
    by_test false e rest = rest

-- ---- instances

-- Where nobody holds an instance, and the store finds none of no use, a record names each that is there.
pub only_named : {D : Type 0} → (store : StoreValue D) (now : DiskState) → All (IsKnownRow store.instances.known) (named_instances store.map) → AreInstancesThere store.instances.known now → All (λ k. instance_in k.row.id store.instances.known ≡ Some k) store.instances.known → All (λ k. k.holders ≡ 0) store.instances.known
    → useless_past None store.map store.instances.known ≡ None → (hash id octets : List ℕ) → files_of now (file.Inst hash id) ≡ Some octets → (inst : InstRow) × Contains (named_instances store.map) inst × (inst.hash.0 ≡ hash) × (inst.id.0 ≡ id)
only_named store now known there each unheld none hash id octets reads = (named.0, named.1, ap (λ (r : InstRow). r.hash.0) same ∙ (let e : file.Inst k.row.hash.0 k.row.id.0 ≡ file.Inst hash id = one.2 in cc e), ap (λ (r : InstRow). r.id.0) same ∙ (let e : file.Inst k.row.hash.0 k.row.id.0 ≡ file.Inst hash id = one.2 in cc e))
  where
    one : (k : KnownInstance) × Contains store.instances.known k × (instance_file k.row ≡ file.Inst hash id)
    one = there.only hash id octets reads

    k : KnownInstance
    k = one.0

    useful : (is_useless store.map k && true) ≡ false
    useful = All-contains (λ (j : KnownInstance). (is_useless store.map j && true) ≡ false) store.instances.known k (found_none (λ (j : KnownInstance). is_useless store.map j && true) store.instances.known (none_found (find (λ (j : KnownInstance). is_useless store.map j && true) store.instances.known) none)) one.1
      where
        none_found : (o : Option KnownInstance) → option_map (λ j. j.row.id) o ≡ None → o ≡ None
        none_found None e = refl
        none_found (Some j) e = absurd (let w : Some j.row.id ≡ None = e in cc w)

    is_named : is_instance_named store.map k.row.id.0 ≡ true
    is_named = by_flags (k.holders == 0) (is_instance_named store.map k.row.id.0) (equal_yes k.holders 0 (All-contains (λ (j : KnownInstance). j.holders ≡ 0) store.instances.known k unheld one.1)) useful
      where
        by_flags : (a b : Bool) → a ≡ true → ((a && not b) && true) ≡ false → b ≡ true
        by_flags true true e u = refl
        by_flags true false e u = absurd (let w : true ≡ false = u in cc w)
        by_flags false b e u = absurd (let w : false ≡ true = e in cc w)

    named : (inst : InstRow) × Contains (named_instances store.map) inst × (inst.id.0 ≡ k.row.id.0)
    named = named_one (named_instances store.map) is_named
      where
        named_one : (rows : List InstRow) → list_any (λ i. bytes_eq i.id.0 k.row.id.0) rows ≡ true → (inst : InstRow) × Contains rows inst × (inst.id.0 ≡ k.row.id.0)
        named_one [] e = absurd (let w : false ≡ true = e in cc w)
        named_one (row ∷ rows) e = by_test (bytes_eq row.id.0 k.row.id.0) refl (named_one rows)
          where
            by_test : (b : Bool) → bytes_eq row.id.0 k.row.id.0 ≡ b → (list_any (λ i. bytes_eq i.id.0 k.row.id.0) rows ≡ true → (inst : InstRow) × Contains rows inst × (inst.id.0 ≡ k.row.id.0)) → (inst : InstRow) × Contains (row ∷ rows) inst × (inst.id.0 ≡ k.row.id.0)
            by_test true is later = (row, All-head (λ (r : InstRow). Contains (row ∷ rows) r) row rows (All-contains_itself (row ∷ rows)), text_is row.id.0 k.row.id.0 is)
            by_test false is later = let r = later (sym (ap (λ (b : Bool). b || list_any (λ i. bytes_eq i.id.0 k.row.id.0) rows) is) ∙ e) in (r.0, Contains-append_right (row ∷ []) rows r.0 r.1, r.2)

    -- the row that a record names is the known one's
    same : named.0 ≡ k.row
    same =
        let is_known : option_map (λ j. j.row) (instance_in named.0.id store.instances.known) ≡ Some named.0 = All-contains (IsKnownRow store.instances.known) (named_instances store.map) named.0 known named.1 in
        let ids : named.0.id ≡ k.row.id = ap (λ (o : List ℕ). let i : InstId = record { 0 = o } in i) named.2 in
        let mine : option_map (λ j. j.row) (instance_in k.row.id store.instances.known) ≡ Some k.row = ap (λ (o : Option KnownInstance). option_map (λ j. j.row) o) (All-contains (λ (j : KnownInstance). instance_in j.row.id store.instances.known ≡ Some j) store.instances.known k each one.1) in
        let e : Some named.0 ≡ Some k.row = sym is_known ∙ (ap (λ (i : InstId). option_map (λ j. j.row) (instance_in i store.instances.known)) ids ∙ mine) in
        cc e

-- ---- all of it

-- Behind its last event a purge beside no other task has purged quietly.
pub quiet_ends : {D : Type 0} → (began files : Files) (first : MapMeaning) (t : PurgeValue) (store : StoreValue D) → IsQuietSoFar began first (at_stage stage.Instances t) store files → ((hash id octets : List ℕ) → files (file.Inst hash id) ≡ Some octets → (inst : InstRow) × Contains (named_instances store.map) inst × (inst.hash.0 ≡ hash) × (inst.id.0 ≡ id))
    → PurgesQuietly began files first store.map t.dropped t.files t.instances
quiet_ends began files first t store h named = record {
  clean = λ n octets reads unsealed. elim (h.clean n octets reads unsealed) [
    | inl left ↦ absurd (none_within n left)
    | inr more ↦ elim more [
      | inl hand ↦ absurd hand
      | inr clean ↦ clean
    ]
  ];
  only_named = named;
  stay = stay;
  regions = subst (λ (rs : List MapRecord). AllHaveSameOctets began files (filter (λ row. not (goes first row)) first.records) rs) (sym (h.emptied.records ∙ ap (map h.emptied.placed) staying))
      (regions_of began files h.emptied.placed (filter (λ row. not (goes first row)) first.records) (subst (λ (rs : List MapRecord). All (λ row. HasSameOctets began files row (h.emptied.placed row)) rs) staying (all_kept (stays_beside (is_one_of h.done)) (λ row. HasSameOctets began files row (h.emptied.placed row)) first.records
      (λ row c s. h.regions row (h.emptied.placed row) c (there row c s) (ap (λ (r : MapRecord). r.uid) (h.emptied.same row))))));
  seals = h.drops.seals;
  boxes = h.drops.boxes;
  untouched = h.untouched;
  places = All-weaker (Contains first.records) (λ row. is_sealed first row.file ≡ true → Contains store.map.records row) (λ row c s. h.drops.places row c s) first.records (All-contains_itself first.records);
  dropped_are = emptied_dropped first store.map t.dropped h.drops stay;
  numbers = h.numbers;
  numbers_are = record {
    rising = h.numbers_are.rising;
    exactly = λ n. ((λ c. let u = (h.numbers_are.exactly n).0 c in (u.there, u.unsealed, u.unclean)), λ u. (h.numbers_are.exactly n).1 (record { there = u.0; unsealed = u.1; unclean = u.2 }));
  };
  files_are = h.counted ∙ sym (ap (λ (ns : List ℕ). length ns) all_done);
  gone = h.gone;
  gone_once = h.gone_are.once;
  gone_are = h.gone_are.are;
  instances_are = h.removed;
}
  where
    all_done : h.numbers ≡ h.done
    all_done = h.parted ∙ append-nil h.done

    sealed_not : (n : ℕ) → is_sealed first n ≡ true → (b : Bool) → is_one_of h.done n ≡ b → b ≡ false
    sealed_not n sealed false e = refl
    sealed_not n sealed true e =
        let u = (h.numbers_are.exactly n).0 (subst (λ (ns : List ℕ). Contains ns n) (sym all_done) (within_one h.done n e)) in
        absurd (fall (is_sealed first n) sealed u.unsealed)

    unclean : (row : MapRecord) → Contains first.records row → row.count ≡ 0 → is_sealed first row.file ≡ false → is_one_of h.done row.file ≡ true
    unclean row c uncounted unsealed =
        let lies : LiesInFile began row = All-contains (LiesInFile began) first.records row h.whole c in
        one_within h.done row.file (subst (λ (ns : List ℕ). Contains ns row.file) all_done ((h.numbers_are.exactly row.file).1 (record {
          there = λ gone. (let e : Some lies.octets ≡ None = sym lies.there ∙ gone in cc e);
          unsealed = unsealed;
          unclean = λ clean. (let in_rows = All-contains (λ (r : MapRecord). r.file ≡ row.file → Contains clean.2.rows r) first.records row clean.2.every c refl in
              let m = All-contains (λ (r : MapRecord). Contains first.records r × (r.file ≡ row.file) × (1 ≤ r.count)) clean.2.rows row clean.2.mapped in_rows in
              let some = m.2 in
              omega (arith, some, uncounted));
        })))

    each : (row : MapRecord) → Contains first.records row → row.count ≡ 0 → is_one_of h.done row.file ≡ not (is_sealed first row.file)
    each row c uncounted = by_seal (is_sealed first row.file) refl
      where
        by_seal : (b : Bool) → is_sealed first row.file ≡ b → is_one_of h.done row.file ≡ not b
        by_seal true e = sealed_not row.file e (is_one_of h.done row.file) refl
        by_seal false e = unclean row c uncounted e

    stay : map apart_from_place store.map.records ≡ map apart_from_place (filter (λ row. not (goes first row)) first.records)
    stay = emptied_stay first store.map (is_one_of h.done) (is_one_of []) h.emptied each

    staying : filter (stays_beside (is_one_of h.done)) first.records ≡ filter (λ row. not (goes first row)) first.records
    staying = emptied_rows first (is_one_of h.done) each

    there : (row : MapRecord) → Contains first.records row → stays_beside (is_one_of h.done) row ≡ true → Contains store.map.records (h.emptied.placed row)
    there row c s = subst (λ (rs : List MapRecord). Contains rs (h.emptied.placed row)) (sym h.emptied.records) (mapped_of h.emptied.placed (filter (stays_beside (is_one_of h.done)) first.records) row (kept_of (stays_beside (is_one_of h.done)) first.records row c s))
