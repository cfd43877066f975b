-- The instances that a message names which an entry of the map log stores: they are there, a crash leaves them, their numbers
-- were drawn, and each attachment is stored once.
use Rattle.store_core.proofs.Common.{◌⊎◌, ◌&&◌, Contains, flat_map, option_map, nat_cmp, slice_cmp, bytes_eq, Less, inl, inr, ◌≡◌, ◌==◌, ℕ, Bool, true, List, [], ◌∷◌, ◌++◌, length, Option, Some, None, All, refl, sym, ◌∙◌, ap, subst, arith, append-nil, nat_tests, All-nil, All-cons, All-head}
use Rattle.store_core.proofs.Common.{All-tail, All-append, All-contains, All-contains_itself, All-weaker, bytes_eq-Decides, Files, DiskState, History, IfTold, IsImage, reading, InstRow, MapEntry, Hash, stored_row, MapRecord, MapMeaning, record_made, named_instances, IsThereWhole, files_of}
use Rattle.store_core.proofs.Common.{HasSameInstance, turned, same_id, lt_less, found-among, instance_in, is_of_kind, instance_file, KnownInstance, NamesFirm, NamesKnown, IsOtherThan, IsFirstKnown, IsFirmInstance, IsKnownRow, AreInstancesThere}
use Rattle.std.specs.declared.cmp.Ordering.{Ordering}
use Rattle.std.specs.declared.cmp.Ordering.TheVariants.{Equal, Greater}
use Rattle.std.proofs.lemmas.List.Elements.{Contains-append_cases}
use Rattle.sha1.specs.Sha1.{sha1}
use Rattle.mdbox_base.specs.declared.entries.MapEntry.TheVariants as entry
use Rattle.model_octets.proofs.SearchLemmas.{among}
use Rattle.model_store.specs.Stands.{IsLess, NamesOwn, NamesAny, StoredOnce}
use Rattle.sis_store.proofs.IdLemmas.{same_octets, less_lt}
use Rattle.store_core.specs.MapAppend.{HasItsHash}

-- ---- instances that are known

known_at : (known : List KnownInstance) (inst : InstRow) → IsKnownRow known inst → (k : KnownInstance) × Contains known k × (k.row ≡ inst)
known_at known inst is = by_found (instance_in inst.id known) refl is
  where
    by_found : (o : Option KnownInstance) → instance_in inst.id known ≡ o → option_map (λ k. k.row) o ≡ Some inst → (k : KnownInstance) × Contains known k × (k.row ≡ inst)
    by_found None e found = absurd (let w : None ≡ Some inst = found in cc w)
    by_found (Some k) e found = (k, (found-among inst.id known k e).0, let w : Some k.row ≡ Some inst = found in cc w)

-- what holds of all known instances holds of this one
pub of_known : (P : InstRow → Type 0) (known : List KnownInstance) (inst : InstRow) → All (λ k. P k.row) known → IsKnownRow known inst → P inst
of_known P known inst all is = let k = known_at known inst is in subst P k.2 (All-contains (λ (j : KnownInstance). P j.row) known k.0 all k.1)

-- and so of those that an entry names
pub rows_made : (P : InstRow → Type 0) (e : MapEntry) (known : List KnownInstance) → All (λ k. P k.row) known → NamesKnown e known → All (λ row. All P row.instances) (record_made e)
rows_made P (entry.S o c u f p z g is) known all names =
    All-cons (λ (row : MapRecord). All P row.instances) (stored_row o c u f p z g is) [] (All-weaker (IsKnownRow known) P (λ inst h. of_known P known inst all h) is names) (All-nil (λ (row : MapRecord). All P row.instances))
rows_made P (entry.U u) known all names = All-nil (λ (row : MapRecord). All P row.instances)
rows_made P (entry.D us) known all names = All-nil (λ (row : MapRecord). All P row.instances)
rows_made P (entry.T cs) known all names = All-nil (λ (row : MapRecord). All P row.instances)
rows_made P (entry.H h) known all names = All-nil (λ (row : MapRecord). All P row.instances)
rows_made P (entry.B b g n) known all names = All-nil (λ (row : MapRecord). All P row.instances)
rows_made P (entry.G b g) known all names = All-nil (λ (row : MapRecord). All P row.instances)
rows_made P (entry.P f t ms us) known all names = All-nil (λ (row : MapRecord). All P row.instances)
rows_made P (entry.E f) known all names = All-nil (λ (row : MapRecord). All P row.instances)
rows_made P (entry.X b cs) known all names = All-nil (λ (row : MapRecord). All P row.instances)
rows_made P (entry.V b n) known all names = All-nil (λ (row : MapRecord). All P row.instances)

-- of all instances that records name
pub of_named : (P : InstRow → Type 0) (rows : List MapRecord) → All (λ row. All P row.instances) rows → All P (flat_map (λ row. row.instances) rows)
of_named P [] all = All-nil P
of_named P (row ∷ rows) all =
    All-append P row.instances (flat_map (λ (r : MapRecord). r.instances) rows) (All-head (λ (r : MapRecord). All P r.instances) row rows all) (of_named P rows (All-tail (λ (r : MapRecord). All P r.instances) row rows all))

-- those that the entry names are known
pub names_made : (e : MapEntry) (known : List KnownInstance) → NamesKnown e known → All (IsKnownRow known) (flat_map (λ row. row.instances) (record_made e))
names_made (entry.S o c u f p z g is) known names = subst (All (IsKnownRow known)) (sym (append-nil is)) names
names_made (entry.U u) known names = All-nil (IsKnownRow known)
names_made (entry.D us) known names = All-nil (IsKnownRow known)
names_made (entry.T cs) known names = All-nil (IsKnownRow known)
names_made (entry.H h) known names = All-nil (IsKnownRow known)
names_made (entry.B b g n) known names = All-nil (IsKnownRow known)
names_made (entry.G b g) known names = All-nil (IsKnownRow known)
names_made (entry.P f t ms us) known names = All-nil (IsKnownRow known)
names_made (entry.E f) known names = All-nil (IsKnownRow known)
names_made (entry.X b cs) known names = All-nil (IsKnownRow known)
names_made (entry.V b n) known names = All-nil (IsKnownRow known)

-- where none is named, nothing is asked
pub names_none : (is : List InstRow) (known : List KnownInstance) → is ≡ [] → All (IsKnownRow known) is
names_none is known none = subst (All (IsKnownRow known)) (sym none) (All-nil (IsKnownRow known))

pub first_none : (is : List InstRow) (known : List KnownInstance) (history : Option History) → is ≡ [] → IfTold history (λ now. All (IsFirstKnown known now) is)
first_none is known None none = tt
first_none is known (Some h) none = subst (All (IsFirstKnown known h.now)) (sym none) (All-nil (IsFirstKnown known h.now))

-- ---- a crash leaves them

-- those that the entry names
pub left_firm : (e : MapEntry) (m : MapMeaning) (h : History) (image : Files) → NamesFirm e m (Some h) → IsImage h.now image → All (λ row. All (HasSameInstance (files_of h.now) image) row.instances) (record_made e)
left_firm (entry.S o c u f p z g is) m h image firm i =
    All-cons (λ (row : MapRecord). All (HasSameInstance (files_of h.now) image) row.instances) (stored_row o c u f p z g is) []
    (All-weaker (IsFirmInstance m h.now) (HasSameInstance (files_of h.now) image) (λ inst k. k.left (image (instance_file inst)) (i (instance_file inst))) is firm) (All-nil (λ (row : MapRecord). All (HasSameInstance (files_of h.now) image) row.instances))
left_firm (entry.U u) m h image firm i = All-nil (λ (row : MapRecord). All (HasSameInstance (files_of h.now) image) row.instances)
left_firm (entry.D us) m h image firm i = All-nil (λ (row : MapRecord). All (HasSameInstance (files_of h.now) image) row.instances)
left_firm (entry.T cs) m h image firm i = All-nil (λ (row : MapRecord). All (HasSameInstance (files_of h.now) image) row.instances)
left_firm (entry.H x) m h image firm i = All-nil (λ (row : MapRecord). All (HasSameInstance (files_of h.now) image) row.instances)
left_firm (entry.B b g n) m h image firm i = All-nil (λ (row : MapRecord). All (HasSameInstance (files_of h.now) image) row.instances)
left_firm (entry.G b g) m h image firm i = All-nil (λ (row : MapRecord). All (HasSameInstance (files_of h.now) image) row.instances)
left_firm (entry.P f t ms us) m h image firm i = All-nil (λ (row : MapRecord). All (HasSameInstance (files_of h.now) image) row.instances)
left_firm (entry.E f) m h image firm i = All-nil (λ (row : MapRecord). All (HasSameInstance (files_of h.now) image) row.instances)
left_firm (entry.X b cs) m h image firm i = All-nil (λ (row : MapRecord). All (HasSameInstance (files_of h.now) image) row.instances)
left_firm (entry.V b n) m h image firm i = All-nil (λ (row : MapRecord). All (HasSameInstance (files_of h.now) image) row.instances)

-- ---- each attachment once

-- what a store has of its instances, which records of this map name
pub record KnowsNamed (known : List KnownInstance) (m : MapMeaning) (disk : DiskState) : Type 0 where
  pub named : All (IsKnownRow known) (named_instances m)
  pub there : AreInstancesThere known disk

-- two whole instances of one hash and the same octets are of one kind
same_kind : (files : Files) (a b : InstRow) (octets : List ℕ) → IsThereWhole files a → IsThereWhole files b → files (instance_file a) ≡ Some octets → files (instance_file b) ≡ Some octets → b.hash ≡ a.hash → is_of_kind a.hash a.size b ≡ true
same_kind files a b octets w v in_a in_b same =
    let x : length octets ≡ a.size = ap length (let e : Some octets ≡ Some w.octets = sym in_a ∙ w.there in cc e) ∙ w.size in
    let y : length octets ≡ b.size = ap length (let e : Some octets ≡ Some v.octets = sym in_b ∙ v.there in cc e) ∙ v.size in
    let sizes : b.size ≡ a.size = sym y ∙ x in
    let size : (b.size == a.size) ≡ true = grind (arith, nat_tests, sizes) in
    let hash : bytes_eq b.hash.0 a.hash.0 ≡ true = (bytes_eq-Decides b.hash.0 a.hash.0).1 (ap (λ (h : Hash). h.0) same) in
    ap (λ (t : Bool). t && (b.size == a.size)) hash ∙ size

-- so one that is other than a later instance doesn't have its octets
other_octets : (known : List KnownInstance) (disk : DiskState) (a b : InstRow) (octets : List ℕ) → All (λ k. IsThereWhole (files_of disk) k.row) known → IsKnownRow known a → IsKnownRow known b → IsOtherThan disk a b
    → reading (disk (instance_file a)) ≡ Some octets → reading (disk (instance_file b)) ≡ Some octets → b.hash ≡ a.hash → IsLess b.id.0 a.id.0 → ⊥
other_octets known disk a b octets whole ka kb other in_a in_b same less =
    other (same_kind (files_of disk) a b octets (of_known (IsThereWhole (files_of disk)) known a whole ka) (of_known (IsThereWhole (files_of disk)) known b whole kb) in_a in_b same)
    (less_lt (slice_cmp nat_cmp b.id.0 a.id.0) less) (in_b ∙ sym in_a)

-- what a named instance is named by
pub named_by : (files : Files) (m : MapMeaning) (inst : InstRow) (octets : List ℕ) → Contains (named_instances m) inst → files (instance_file inst) ≡ Some octets → NamesAny files m inst octets
named_by files m inst octets c there =
    All-contains (λ (i : InstRow). files (instance_file i) ≡ Some octets → NamesAny files m i octets) (named_instances m) inst
    (of_named (λ (i : InstRow). files (instance_file i) ≡ Some octets → NamesAny files m i octets) m.records
    (All-weaker (Contains m.records) (λ (row : MapRecord). All (λ i. files (instance_file i) ≡ Some octets → NamesAny files m i octets) row.instances) (λ row is.
    All-weaker (Contains row.instances) (λ (i : InstRow). files (instance_file i) ≡ Some octets → NamesAny files m i octets) (λ i n t. record { row = row; is_record = is; is_named = n; there = t }) row.instances (All-contains_itself row.instances))
    m.records (All-contains_itself m.records))) c there

pub parts_of : (P : InstRow → Type 0) (rows : List MapRecord) → All P (flat_map (λ row. row.instances) rows) → All (λ row. All P row.instances) rows
parts_of P [] a = All-nil (λ (row : MapRecord). All P row.instances)
parts_of P (row ∷ rows) a = All-cons (λ (r : MapRecord). All P r.instances) row rows (front row.instances a) (parts_of P rows (behind row.instances a))
  where
    front : (ys : List InstRow) → All P (ys ++ flat_map (λ row. row.instances) rows) → All P ys
    front [] b = All-nil P
    front (y ∷ ys) b = All-cons P y ys (All-head P y (ys ++ flat_map (λ (r : MapRecord). r.instances) rows) b) (front ys (All-tail P y (ys ++ flat_map (λ (r : MapRecord). r.instances) rows) b))

    behind : (ys : List InstRow) → All P (ys ++ flat_map (λ row. row.instances) rows) → All P (flat_map (λ row. row.instances) rows)
    behind [] b = b
    behind (y ∷ ys) b = behind ys (All-tail P y (ys ++ flat_map (λ (r : MapRecord). r.instances) rows) b)

known_any : (known : List KnownInstance) (files : Files) (m : MapMeaning) (inst : InstRow) (octets : List ℕ) → All (IsKnownRow known) (named_instances m) → NamesAny files m inst octets → IsKnownRow known inst
known_any known files m inst octets named h =
    All-contains (IsKnownRow known) h.row.instances inst (All-contains (λ (row : MapRecord). All (IsKnownRow known) row.instances) m.records h.row (parts_of (IsKnownRow known) m.records named) h.is_record) h.is_named

any_own : (files : Files) (m : MapMeaning) (inst : InstRow) (octets : List ℕ) → NamesOwn files m inst octets → NamesAny files m inst octets
any_own files m inst octets h = record { row = h.row; is_record = h.is_record; is_named = h.is_named; there = h.there }

-- none with a lesser id that a record may name has the octets of one that an own save names
none_less : (known : List KnownInstance) (m : MapMeaning) (disk : DiskState) (a b : InstRow) (octets : List ℕ) → KnowsNamed known m disk → IsFirmInstance m disk b → NamesOwn (files_of disk) m a octets → IsKnownRow known b
    → reading (disk (instance_file b)) ≡ Some octets → b.hash ≡ a.hash → IsLess b.id.0 a.id.0 → ⊥
none_less known m disk a b octets k firm own kb there same less =
    let ka : IsKnownRow known a = known_any known (files_of disk) m a octets k.named (any_own (files_of disk) m a octets own) in
    let others : All (λ inst. IsOtherThan disk inst b) own.row.instances =
    All-contains (λ (row : MapRecord). row.origin ≡ 0 → All (λ inst. IsOtherThan disk inst b) row.instances) m.records own.row firm.other own.is_record own.own in
    other_octets known disk a b octets k.there.whole ka kb (All-contains (λ (inst : InstRow). IsOtherThan disk inst b) own.row.instances a others own.is_named) own.there there same less

-- ---- with a record more

nothing_in : {X : Type 0} → (x : X) → Contains [] x → ⊥
nothing_in x c = All-contains (λ (y : _). ⊥) [] x (All-nil (λ (y : _). ⊥)) c

pub was_there : (m n : MapMeaning) (row other : MapRecord) → n.records ≡ m.records ++ row ∷ [] → Contains n.records other → Contains m.records other ⊎ (other ≡ row)
was_there m n row other records there = elim (Contains-append_cases m.records (row ∷ []) other (subst (λ (rows : List MapRecord). Contains rows other) records there)) [
  | inl before ↦ inl before
  | inr last ↦ elim (among row [] other last) [
    | inl is ↦ inr (sym is)
    | inr none ↦ absurd (nothing_in other none)
  ]
]

-- what the record names beside the others
pub record NamesMore (known : List KnownInstance) (m : MapMeaning) (disk : DiskState) (row : MapRecord) : Type 0 where
  pub known_rows : All (IsKnownRow known) row.instances
  pub firm : All (IsFirmInstance m disk) row.instances
  pub first : row.origin ≡ 0 → All (IsFirstKnown known disk) row.instances
  pub hashes : row.origin ≡ 0 → All (HasItsHash (files_of disk)) row.instances

own_named : (files : Files) (m n : MapMeaning) (row : MapRecord) (inst : InstRow) (octets : List ℕ) → n.records ≡ m.records ++ row ∷ [] → NamesOwn files n inst octets → NamesOwn files m inst octets ⊎ ((row.origin ≡ 0) × Contains row.instances inst)
own_named files m n row inst octets records h = elim (was_there m n row h.row records h.is_record) [
  | inl there ↦ inl (record { row = h.row; is_record = there; own = h.own; is_named = h.is_named; there = h.there })
  | inr is ↦ inr (subst (λ (r : MapRecord). r.origin ≡ 0) is h.own, subst (λ (r : MapRecord). Contains r.instances inst) is h.is_named)
]

any_named : (known : List KnownInstance) (files : Files) (m n : MapMeaning) (row : MapRecord) (inst : InstRow) (octets : List ℕ) → n.records ≡ m.records ++ row ∷ [] → All (IsKnownRow known) (named_instances m) → All (IsKnownRow known) row.instances → NamesAny files n inst octets
    → IsKnownRow known inst
any_named known files m n row inst octets records named more h = elim (was_there m n row h.row records h.is_record) [
  | inl there ↦ known_any known files m inst octets named (record { row = h.row; is_record = there; is_named = h.is_named; there = h.there })
  | inr is ↦ All-contains (IsKnownRow known) row.instances inst more (subst (λ (r : MapRecord). Contains r.instances inst) is h.is_named)
]

least_with : (known : List KnownInstance) (disk : DiskState) (m n : MapMeaning) (row : MapRecord) → n.records ≡ m.records ++ row ∷ [] → KnowsNamed known m disk → NamesMore known m disk row → StoredOnce (files_of disk) m → (a b : InstRow) (octets : List ℕ) → NamesOwn (files_of disk) n a octets
    → NamesAny (files_of disk) n b octets → b.hash ≡ a.hash → IsLess b.id.0 a.id.0 → ⊥
least_with known disk m n row records k more once a b octets own any same less =
    let kb : IsKnownRow known b = any_named known (files_of disk) m n row b octets records k.named more.known_rows any in
    elim (own_named (files_of disk) m n row a octets records own) [
      | inl before ↦ elim (was_there m n row any.row records any.is_record) [
        | inl there ↦ once.least a b octets before (record { row = any.row; is_record = there; is_named = any.is_named; there = any.there }) same less
        | inr is ↦ none_less known m disk a b octets k (All-contains (IsFirmInstance m disk) row.instances b more.firm (subst (λ (r : MapRecord). Contains r.instances b) is any.is_named)) before kb any.there same less
      ]
      | inr new ↦
          let ka : IsKnownRow known a = All-contains (IsKnownRow known) row.instances a more.known_rows new.1 in
          let first : IsFirstKnown known disk a = All-contains (IsFirstKnown known disk) row.instances a (more.first new.0) new.1 in
          other_octets known disk a b octets k.there.whole ka kb (of_known (IsOtherThan disk a) known b first kb) own.there any.there same less
    ]

hash_with : (known : List KnownInstance) (disk : DiskState) (m n : MapMeaning) (row : MapRecord) → n.records ≡ m.records ++ row ∷ [] → NamesMore known m disk row → StoredOnce (files_of disk) m → (a : InstRow) (octets : List ℕ) → NamesOwn (files_of disk) n a octets → a.hash.0 ≡ sha1 octets
hash_with known disk m n row records more once a octets own = elim (own_named (files_of disk) m n row a octets records own) [
  | inl before ↦ once.hash a octets before
  | inr new ↦ All-contains (HasItsHash (files_of disk)) row.instances a (more.hashes new.0) new.1 octets own.there
]

abbrev hash_made : List ℕ → Hash
hash_made octets = record { 0 = octets }

same_hash : (a b : Hash) → a.0 ≡ b.0 → a ≡ b
same_hash a b e = ap hash_made e

-- two that own saves name with the same octets have one hash, and neither is less
once_by : (disk : DiskState) (n : MapMeaning) → ((a b : InstRow) (octets : List ℕ) → NamesOwn (files_of disk) n a octets → NamesAny (files_of disk) n b octets → b.hash ≡ a.hash → IsLess b.id.0 a.id.0 → ⊥)
    → ((a : InstRow) (octets : List ℕ) → NamesOwn (files_of disk) n a octets → a.hash.0 ≡ sha1 octets) → (a b : InstRow) (octets : List ℕ) → NamesOwn (files_of disk) n a octets → NamesOwn (files_of disk) n b octets → a.id ≡ b.id
once_by disk n least hash a b octets p q =
    let same : a.hash ≡ b.hash = same_hash a.hash b.hash (hash a octets p ∙ sym (hash b octets q)) in
    by_order same (slice_cmp nat_cmp a.id.0 b.id.0) refl
  where
    by_order : a.hash ≡ b.hash → (o : Ordering) → slice_cmp nat_cmp a.id.0 b.id.0 ≡ o → a.id ≡ b.id
    by_order same Less e = absurd (least b a octets q (any_own (files_of disk) n a octets p) same (lt_less (slice_cmp nat_cmp a.id.0 b.id.0) e))
    by_order same Equal e = same_id a.id b.id (same_octets a.id.0 b.id.0 e)
    by_order same Greater e = absurd (least a b octets p (any_own (files_of disk) n b octets q) (sym same) (lt_less (slice_cmp nat_cmp b.id.0 a.id.0) (turned a.id.0 b.id.0 Greater e)))

pub once_with : (known : List KnownInstance) (disk : DiskState) (m n : MapMeaning) (row : MapRecord) → n.records ≡ m.records ++ row ∷ [] → KnowsNamed known m disk → NamesMore known m disk row → StoredOnce (files_of disk) m → StoredOnce (files_of disk) n
once_with known disk m n row records k more once = record {
  once = once_by disk n (least_with known disk m n row records k more once) (hash_with known disk m n row records more once);
  least = least_with known disk m n row records k more once;
  hash = hash_with known disk m n row records more once;
}
