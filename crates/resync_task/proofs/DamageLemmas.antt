-- Reading the regions of a file's records, one after another in order of offset.
use Rattle.resync_task.proofs.Common.{◌≡◌, ◌≤◌, ◌<◌, ◌+◌, ◌⊎◌, ℕ, Bool, true, false, List, [], ◌∷◌, ◌++◌, length, Option, Some, None, refl, sym, ◌∙◌, ap, subst, arith, inl, inr, length-append, All, AllPairs, Contains, ◌≢◌, All-nil, All-cons, All-weaker, All-contains, All-contains_itself, History}
use Rattle.resync_task.proofs.Common.{MapRow, shown_record, HasRecord, MapMeaning, MapRecord, record_at, IsSoundMap, IsSoundRecord, map_sound, IsStore, StoreValue, HasDamagedRegion, TellsWhole}
use Rattle.std.specs.Prelude.{filter}
use Rattle.std.specs.Option.{option_map}
use Rattle.std.proofs.lemmas.List.Elements.{All-append, Contains-append_left, Contains-append_right}
use Rattle.map_index.proofs.ShownLemmas.{shown_behind, none_behind}
use Rattle.map_rows.specs.Lookups.{is_from, least}
use Rattle.model_octets.proofs.PairLemmas.{pairs_nil, pairs_push}
use Rattle.model_store.proofs.OpeningSafeLemmas.{at_uid}
use Rattle.resync_task.specs.Damage.{AreDamaged, HasWholeRegion}
use Rattle.resync_task.proofs.WalkLemmas.{nearest_there, walk_end, walk_on}

-- the map of a store is sound
pub store_sound : {D : Type 0} → (history : Option History) (store : StoreValue D) → IsStore history store → IsSoundMap store.map
store_sound history store s = subst IsSoundMap (sym s.map_is) (map_sound store.map.store s.entries s.good.map_entries.1 s.good.map_entries.0)

-- Of the records before this offset the damaged are these.
pub record Walked (history : Option History) (m : MapMeaning) (file from : ℕ) (uids : List ℕ) : Type 0 where
  pub once : AllPairs (λ a b. a ≢ b) uids
  pub bad : All (λ uid. HasRecord m uid (λ row. (row.file ≡ file) × (row.offset < from) × HasDamagedRegion history row)) uids
  pub every : All (λ row. row.file ≡ file → row.offset < from → Contains uids row.uid ⊎ HasWholeRegion history row) m.records
  pub few : length uids ≤ from

pub walk_begins : (history : Option History) (m : MapMeaning) (file : ℕ) → Walked history m file 0 []
walk_begins history m file = record {
  once = pairs_nil (λ (a b : ℕ). a ≢ b);
  bad = All-nil _;
  every = λ k d lt same before. absurd (omega (arith, before));
  few = omega arith;
}

-- the record that a row shows
pub record IsNext (m : MapMeaning) (file from : ℕ) (row : MapRow) : Type 0 where
  pub own : MapRecord
  pub nearest : least (filter (is_from file from) m.records) ≡ Some own
  pub shown : row ≡ shown_record own
  pub there : Contains m.records own
  pub of_file : own.file ≡ file
  pub behind : from ≤ own.offset
  pub some : 1 ≤ own.size
  pub ends : own.offset + own.size ≤ 4294967295

pub next_row : (m : MapMeaning) (file from : ℕ) (row : MapRow) → IsSoundMap m → Some row ≡ option_map shown_record (least (filter (is_from file from) m.records)) → IsNext m file from row
next_row m file from row s e =
    let b = shown_behind (least (filter (is_from file from) m.records)) row e in
    let there = nearest_there m.records file from b.0 b.1 in
    let sound = All-contains (IsSoundRecord m.highest.map) m.records b.0 s.records there.0 in
    record { own = b.0; nearest = b.1; shown = b.2; there = there.0; of_file = there.1; behind = there.2; some = sound.size; ends = sound.ends }

sizes : (m : MapMeaning) → IsSoundMap m → All (λ r. 1 ≤ r.size) m.records
sizes m s = All-weaker (IsSoundRecord m.highest.map) (λ (r : MapRecord). 1 ≤ r.size) (λ r sound. sound.size) m.records s.records

-- ---- a region that is whole

pub walk_whole : (history : Option History) (m : MapMeaning) (file from : ℕ) (row : MapRow) (uids : List ℕ) → IsSoundMap m → (n : IsNext m file from row) → HasWholeRegion history n.own → Walked history m file from uids → Walked history m file (n.own.offset + n.own.size) uids
walk_whole history m file from row uids s n whole w = record {
  once = w.once;
  bad = All-weaker (λ (uid : ℕ). HasRecord m uid (λ r. (r.file ≡ file) × (r.offset < from) × HasDamagedRegion history r)) (λ (uid : ℕ). HasRecord m uid (λ r. (r.file ≡ file) × (r.offset < n.own.offset + n.own.size) × HasDamagedRegion history r))
      (λ uid h. (h.0, h.1, (h.2.0, further h.0 h.2.1, h.2.2))) uids w.bad;
  every = walk_on m.records file from n.own (λ r. Contains uids r.uid ⊎ HasWholeRegion history r) s.apart (sizes m s) n.nearest (inr whole) w.every;
  few = (let a = w.few in let b = n.behind in omega (arith, a, b));
}
  where
    further : (r : MapRecord) → r.offset < from → r.offset < n.own.offset + n.own.size
    further r l = let b = n.behind in omega (arith, l, b)

-- ---- a region that is damaged

pub walk_damaged : (history : Option History) (m : MapMeaning) (file from : ℕ) (row : MapRow) (uids : List ℕ) → IsSoundMap m → (n : IsNext m file from row) → HasDamagedRegion history n.own → Walked history m file from uids → Walked history m file (n.own.offset + n.own.size) (uids ++ n.own.uid ∷ [])
walk_damaged history m file from row uids s n damaged w = record {
  once = pairs_push (λ (a b : ℕ). a ≢ b) uids n.own.uid w.once (All-weaker (λ (uid : ℕ). HasRecord m uid (λ r. (r.file ≡ file) × (r.offset < from) × HasDamagedRegion history r)) (λ (uid : ℕ). uid ≢ n.own.uid) (λ uid h e. other h.0 uid h.1 h.2.1 e) uids w.bad);
  bad = All-append (λ (uid : ℕ). HasRecord m uid (λ r. (r.file ≡ file) × (r.offset < n.own.offset + n.own.size) × HasDamagedRegion history r)) uids (n.own.uid ∷ [])
      (All-weaker (λ (uid : ℕ). HasRecord m uid (λ r. (r.file ≡ file) × (r.offset < from) × HasDamagedRegion history r)) (λ (uid : ℕ). HasRecord m uid (λ r. (r.file ≡ file) × (r.offset < n.own.offset + n.own.size) × HasDamagedRegion history r))
      (λ uid h. (h.0, h.1, (h.2.0, further h.0 h.2.1, h.2.2))) uids w.bad)
      (All-cons (λ (uid : ℕ). HasRecord m uid (λ r. (r.file ≡ file) × (r.offset < n.own.offset + n.own.size) × HasDamagedRegion history r)) n.own.uid [] (n.own, found, (n.of_file, within, damaged)) (All-nil _));
  every = walk_on m.records file from n.own (λ r. Contains (uids ++ n.own.uid ∷ []) r.uid ⊎ HasWholeRegion history r) s.apart (sizes m s) n.nearest (inl (Contains-append_right uids (n.own.uid ∷ []) n.own.uid (only n.own.uid)))
      (All-weaker (λ (r : MapRecord). r.file ≡ file → r.offset < from → Contains uids r.uid ⊎ HasWholeRegion history r) (λ (r : MapRecord). r.file ≡ file → r.offset < from → Contains (uids ++ n.own.uid ∷ []) r.uid ⊎ HasWholeRegion history r)
      (λ r h same before. more r (h same before)) m.records w.every);
  few = (let a = w.few in let b = n.behind in let c = n.some in let l = length-append uids (n.own.uid ∷ []) in omega (arith, a, b, c, l));
}
  where
    further : (r : MapRecord) → r.offset < from → r.offset < n.own.offset + n.own.size
    further r l = let b = n.behind in omega (arith, l, b)

    within : n.own.offset < n.own.offset + n.own.size
    within = let c = n.some in omega (arith, c)

    found : record_at m n.own.uid ≡ Some n.own
    found = at_uid m n.own s n.there

    some_record : (a b : MapRecord) → Some a ≡ Some b → a ≡ b
    some_record a b e = cc e

    other : (r : MapRecord) (uid : ℕ) → record_at m uid ≡ Some r → r.offset < from → uid ≡ n.own.uid → ⊥
    other r uid at l e =
        let same : r ≡ n.own = some_record r n.own (sym at ∙ (ap (record_at m) e ∙ found)) in
        let o : r.offset ≡ n.own.offset = ap (λ (x : MapRecord). x.offset) same in
        let b = n.behind in
        omega (arith, l, o, b)

    only : (uid : ℕ) → Contains (uid ∷ []) uid
    only uid = All-contains_itself (uid ∷ []) 0 0 (omega arith)

    more : (r : MapRecord) → Contains uids r.uid ⊎ HasWholeRegion history r → Contains (uids ++ n.own.uid ∷ []) r.uid ⊎ HasWholeRegion history r
    more r (inl c) = inl (Contains-append_left uids (n.own.uid ∷ []) r.uid c)
    more r (inr h) = inr h

-- ---- one more record, and the end

abbrev pub many_then : ℕ → Bool → ℕ
many_then many true = many
many_then many false = many + 1

abbrev pub AreSoFar : Option History → MapMeaning → ℕ → ℕ → ℕ → Type 0
AreSoFar history m file from many = (uids : List ℕ) × (many ≡ length uids) × Walked history m file from uids

pub begins : (history : Option History) (m : MapMeaning) (file : ℕ) → AreSoFar history m file 0 0
begins history m file = ([], refl, walk_begins history m file)

pub goes_on : (history : Option History) (m : MapMeaning) (file from many : ℕ) (row : MapRow) (whole : Bool) → IsSoundMap m → (n : IsNext m file from row) → TellsWhole whole history n.own → AreSoFar history m file from many → AreSoFar history m file (row.offset + row.size) (many_then many whole)
goes_on history m file from many row true s n tells (uids, is, w) = (uids, is, subst (λ (r : MapRow). Walked history m file (r.offset + r.size) uids) (sym n.shown) (walk_whole history m file from row uids s n tells w))
goes_on history m file from many row false s n tells (uids, is, w) =
    (uids ++ n.own.uid ∷ [], (let l = length-append uids (n.own.uid ∷ []) in omega (arith, is, l)), subst (λ (r : MapRow). Walked history m file (r.offset + r.size) (uids ++ n.own.uid ∷ [])) (sym n.shown) (walk_damaged history m file from row uids s n tells w))

pub ends : (history : Option History) (m : MapMeaning) (file from many : ℕ) → None ≡ option_map shown_record (least (filter (is_from file from) m.records)) → AreSoFar history m file from many → (uids : List ℕ) × (many ≡ length uids) × AreDamaged history m file uids
ends history m file from many e (uids, is, w) = (
  uids,
  is,
  record {
    once = w.once;
    bad = All-weaker (λ (uid : ℕ). HasRecord m uid (λ r. (r.file ≡ file) × (r.offset < from) × HasDamagedRegion history r)) (λ (uid : ℕ). HasRecord m uid (λ r. (r.file ≡ file) × HasDamagedRegion history r)) (λ uid h. (h.0, h.1, (h.2.0, h.2.2))) uids w.bad;
    every = walk_end m.records file from (λ r. Contains uids r.uid ⊎ HasWholeRegion history r) (none_behind _ e) w.every;
  },
)

-- ---- of a store that is only read

-- the map that a look-up was made in is the store's at the beginning
pub next_of : {D : Type 0} → (history : Option History) (store now : StoreValue D) (m : MapMeaning) (file from : ℕ) (row : MapRow) → IsStore history store → now ≡ record store { disk = now.disk } → m ≡ now.map → Some row ≡ option_map shown_record (least (filter (is_from file from) m.records)) → IsNext store.map file from row
next_of history store now m file from row s same is e =
    next_row store.map file from row (store_sound history store s) (subst (λ (x : MapMeaning). Some row ≡ option_map shown_record (least (filter (is_from file from) x.records))) (is ∙ ap (λ (v : StoreValue _). v.map) same) e)

pub none_of : {D : Type 0} → (store now : StoreValue D) (m : MapMeaning) (file from : ℕ) → now ≡ record store { disk = now.disk } → m ≡ now.map → None ≡ option_map shown_record (least (filter (is_from file from) m.records)) → None ≡ option_map shown_record (least (filter (is_from file from) store.map.records))
none_of store now m file from same is e = subst (λ (x : MapMeaning). None ≡ option_map shown_record (least (filter (is_from file from) x.records))) (is ∙ ap (λ (v : StoreValue _). v.map) same) e

-- the numbers of a row
pub row_ends : (m : MapMeaning) (file from : ℕ) (row : MapRow) → IsNext m file from row → (from ≤ row.offset) × (1 ≤ row.size) × (row.offset + row.size ≤ 4294967295)
row_ends m file from row n =
    let offset = ap (λ (r : MapRow). r.offset) n.shown in
    let size = ap (λ (r : MapRow). r.size) n.shown in
    let a = n.behind in
    let b = n.some in
    let c = n.ends in
    (omega (arith, a, offset), omega (arith, b, size), omega (arith, c, offset, size))

pub few_so_far : (history : Option History) (m : MapMeaning) (file from many : ℕ) → AreSoFar history m file from many → many ≤ from
few_so_far history m file from many (uids, is, w) = let a = w.few in omega (arith, is, a)
