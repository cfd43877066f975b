-- What an entry of the map log leaves of the records, and where it moves them.
use Rattle.std.specs.Prelude.{◌≡◌, ◌≢◌, ◌<◌, ◌≤◌, ◌+◌, ◌-◌, ◌==◌, ℕ, Bool, true, false, List, [], ◌∷◌, length, find, Option, Some, None, All, AllPairs, slice_index_or, refl, if◌then◌else◌, ◌⊎◌}
use Rattle.std.specs.Option.{option_map_or}
use Rattle.std.proofs.Common.{◌∙◌, ap, arith, inl, inr, subst, sym}
use Rattle.std.proofs.lemmas.Grind.{common_steps}
use Rattle.std.proofs.lemmas.List.Elements.{All-map, All-filter}
use Rattle.mdbox_base.specs.declared.entries.InstRow.{InstRow}
use Rattle.mdbox_base.specs.declared.entries.MapCount.{MapCount}
use Rattle.mdbox_base.specs.declared.entries.MapPlace.{MapPlace}
use Rattle.mdbox_base.specs.declared.ids.MapUid.{MapUid}
use Rattle.mdbox_base.specs.declared.entries.MapEntry.{MapEntry}
use Rattle.mdbox_base.specs.declared.entries.MapEntry.TheVariants as map
use Rattle.model_meaning.specs.MapMeaning.{MapRecord, MapMeaning, record_changed, record_rules, moved_record, place_given, count_given, has_map_uid, record_at}
use Rattle.model_logs.specs.Entries.{RowInRange}
use Rattle.model_meaning.specs.MapFits.{AgreesOn, ArePlacedApart, FitsPlace, FitsTarget, HasRecord, IsApart, size_at}
use Rattle.mdbox_base.specs.Words.{IsNumber}
use Rattle.model_octets.proofs.PairLemmas.{PassesOne, found_among, found_holds, found_only, found_two}
use Rattle.model_meaning.proofs.KeptRowLemmas.{kept_pairs, kept_rows}
use Rattle.model_meaning.specs.Sound.{AreApart, IsSoundRecord, AgreeOnInstances, IsSoundMap}

-- numbers that a test finds equal
pub equal_is : (a b : ℕ) → (a == b) ≡ true → a ≡ b
equal_is a b h = grind (arith, common_steps, h)

pub equal_yes : (a b : ℕ) → a ≡ b → (a == b) ≡ true
equal_yes a b h = grind (arith, common_steps, h)

-- ---- what an entry keeps of a record

pub record IsSameMessage (a b : MapRecord) : Type 0 where
  pub uid : b.uid ≡ a.uid
  pub origin : b.origin ≡ a.origin
  pub size : b.size ≡ a.size
  pub guid : b.guid ≡ a.guid
  pub instances : b.instances ≡ a.instances

is_itself : (row : MapRecord) → IsSameMessage row row
is_itself row = record { uid = refl; origin = refl; size = refl; guid = refl; instances = refl }

counted : (hit : Bool) (n : ℕ) (row : MapRecord) → IsSameMessage row (if hit then record row { count = n } else row)
counted true n row = record { uid = refl; origin = refl; size = refl; guid = refl; instances = refl }
counted false n row = is_itself row

placed_same : (row : MapRecord) (target : ℕ) (place : Option MapPlace) → IsSameMessage row (moved_record row target place)
placed_same row target None = is_itself row
placed_same row target (Some place) = record { uid = refl; origin = refl; size = refl; guid = refl; instances = refl }

-- An entry changes the count or the place of a record, and nothing else.
pub changed_same : (entry : MapEntry) (row : MapRecord) → IsSameMessage row (record_changed entry row)
changed_same (map.H h) row = is_itself row
changed_same (map.B m g n) row = is_itself row
changed_same (map.G m g) row = is_itself row
changed_same (map.S o c u f a z g is) row = is_itself row
changed_same (map.U u) row = counted (u.0 == row.uid) (row.count + 1) row
changed_same (map.D us) row = counted (has_map_uid row.uid us) (row.count - 1) row
changed_same (map.T cs) row = record { uid = refl; origin = refl; size = refl; guid = refl; instances = refl }
changed_same (map.P f t ms us) row = placed_same row t (place_given row.uid ms)
changed_same (map.E f) row = is_itself row
changed_same (map.X m cs) row = record { uid = refl; origin = refl; size = refl; guid = refl; instances = refl }
changed_same (map.V m n) row = is_itself row

-- a region's place, up to this file, and the count of its record are in range
pub record IsPlaced (most : ℕ) (row : MapRecord) : Type 0 where
  pub file : IsNumber row.file
  pub file_below : row.file ≤ most
  pub ends : row.offset + row.size ≤ 4294967295
  pub count : row.count ≤ 65535

pub with_count : (most n : ℕ) (row : MapRecord) → n ≤ 65535 → IsPlaced most row → IsPlaced most (record row { count = n })
with_count most n row le p = record { file = p.file; file_below = p.file_below; ends = p.ends; count = le }

pub counted_place : (most : ℕ) (hit : Bool) (n : ℕ) (row : MapRecord) → (hit ≡ true → n ≤ 65535) → IsPlaced most row → IsPlaced most (if hit then record row { count = n } else row)
counted_place most true n row le p = with_count most n row (le refl) p
counted_place most false n row le p = p

sound_again : (low high most : ℕ) (a b : MapRecord) → low ≤ high → IsSoundRecord low a → IsSameMessage a b → IsPlaced most b → IsSoundRecord high b
sound_again low high most a b le s same p =
    let uid = same.uid in
    let origin = same.origin in
    let size = same.size in
    let h2 = s.below in
    let h3 = s.origin in
    let h4 = s.size in
    record {
      uid = subst IsNumber (sym uid) s.uid;
      below = omega (arith, uid, h2, le);
      origin = omega (arith, origin, h3);
      count = p.count;
      file = p.file;
      size = omega (arith, size, h4);
      ends = p.ends;
      guid = ap length same.guid ∙ s.guid;
      instances = subst (λ (is : List InstRow). All RowInRange is) (sym same.instances) s.instances;
      agree = subst (λ (is : List InstRow). AllPairs AgreesOn is) (sym same.instances) s.agree;
    }

-- ---- the records that an entry keeps

abbrev pub Rises : MapRecord → MapRecord → Type 0
Rises a b = a.uid < b.uid

abbrev pub GuidsDiffer : MapRecord → MapRecord → Type 0
GuidsDiffer a b = a.guid ≢ b.guid

pub kept_rising : (m : MapMeaning) (entry : MapEntry) → IsSoundMap m → AllPairs Rises (kept_rows record_rules entry m.records)
kept_rising m entry s = kept_pairs record_rules entry m.records Rises (λ a b h. let p = (changed_same entry a).uid in let q = (changed_same entry b).uid in omega (arith, h, p, q)) s.rising

pub kept_guids : (m : MapMeaning) (entry : MapEntry) → IsSoundMap m → AllPairs GuidsDiffer (kept_rows record_rules entry m.records)
kept_guids m entry s = kept_pairs record_rules entry m.records GuidsDiffer (λ a b h e. h (sym (changed_same entry a).guid ∙ e ∙ (changed_same entry b).guid)) s.guids

agree_along : (a b c d : MapRecord) → IsSameMessage a c → IsSameMessage b d → AgreeOnInstances a b → AgreeOnInstances c d
agree_along a b c d p q h =
    subst (λ (is : List InstRow). All (λ j. All (AgreesOn j) c.instances) is) (sym q.instances)
    (subst (λ (is : List InstRow). All (λ j. All (AgreesOn j) is) b.instances) (sym p.instances) h)

pub kept_agree : (m : MapMeaning) (entry : MapEntry) → IsSoundMap m → AllPairs AgreeOnInstances (kept_rows record_rules entry m.records)
kept_agree m entry s = kept_pairs record_rules entry m.records AgreeOnInstances (λ a b h. agree_along a b _ _ (changed_same entry a) (changed_same entry b) h) s.agree

-- a fact of each record as the entry changes it
kept_from : (m : MapMeaning) (entry : MapEntry) (Q : MapRecord → Type 0) → All (λ row. Q (record_changed entry row)) m.records → All Q (kept_rows record_rules entry m.records)
kept_from m entry Q h = All-map Q (record_changed entry) _ (All-filter _ (λ row. Q (record_changed entry row)) m.records h)

-- where places and counts stay in range, the records that an entry keeps are sound
pub kept_sound : (m : MapMeaning) (entry : MapEntry) (high most : ℕ) → m.highest.map ≤ high → IsSoundMap m → All (λ row. IsPlaced most (record_changed entry row)) m.records → All (IsSoundRecord high) (kept_rows record_rules entry m.records)
kept_sound m entry high most le s p =
    kept_from m entry (IsSoundRecord high) (λ k d lt. sound_again m.highest.map high most _ _ le (s.records k d lt) (changed_same entry (slice_index_or m.records k d)) (p k d lt))

pub kept_files : (m : MapMeaning) (entry : MapEntry) (most : ℕ) → All (λ row. IsPlaced most (record_changed entry row)) m.records → All (λ row. row.file ≤ most) (kept_rows record_rules entry m.records)
kept_files m entry most p = kept_from m entry (λ row. row.file ≤ most) (λ k d lt. (p k d lt).file_below)

-- ---- regions apart

-- an entry leaves the region of each record, but for a move
pub record IsSameRegion (a b : MapRecord) : Type 0 where
  pub file : b.file ≡ a.file
  pub offset : b.offset ≡ a.offset
  pub size : b.size ≡ a.size

pub region_itself : (row : MapRecord) → IsSameRegion row row
region_itself row = record { file = refl; offset = refl; size = refl }

pub counted_region : (hit : Bool) (n : ℕ) (row : MapRecord) → IsSameRegion row (if hit then record row { count = n } else row)
counted_region true n row = record { file = refl; offset = refl; size = refl }
counted_region false n row = region_itself row

apart_along : (a b c d : MapRecord) → IsSameRegion a c → IsSameRegion b d → AreApart a b → AreApart c d
apart_along a b c d p q h e =
    let pf = p.file in
    let po = p.offset in
    let pz = p.size in
    let qf = q.file in
    let qo = q.offset in
    let qz = q.size in
    elim (h (sym pf ∙ e ∙ qf)) [
      | inl l ↦ inl (omega (arith, l, po, pz, qo))
      | inr r ↦ inr (omega (arith, r, qo, qz, po))
    ]

pub kept_apart : (m : MapMeaning) (entry : MapEntry) → ((row : MapRecord) → IsSameRegion row (record_changed entry row)) → IsSoundMap m → AllPairs AreApart (kept_rows record_rules entry m.records)
kept_apart m entry same s = kept_pairs record_rules entry m.records AreApart (λ a b h. apart_along a b _ _ (same a) (same b) h) s.apart

-- ---- places

pub all_places : (m : MapMeaning) (most : ℕ) → m.highest.file ≤ most → IsSoundMap m → All (IsPlaced most) m.records
all_places m most le s = λ k d lt.
    let file = s.files k d lt in
    record { file = (s.records k d lt).file; file_below = omega (arith, file, le); ends = (s.records k d lt).ends; count = (s.records k d lt).count }

moved_place : (m : MapMeaning) (target most : ℕ) (row : MapRecord) (place : MapPlace) → IsNumber target → target ≤ most → FitsPlace m target place → IsPlaced most row → ((r : MapRecord) → record_at m place.uid.0 ≡ Some r → row ≡ r) → IsPlaced most (moved_record row target (Some place))
moved_place m target most row place n le f p is =
    let e : row ≡ f.0 = is f.0 f.1 in
    let size : row.size ≡ f.0.size = ap (λ (r : MapRecord). r.size) e in
    let fits = f.2 in
    record { file = n; file_below = le; ends = omega (arith, size, fits.0); count = p.count }

-- the record of a row's own map uid is that row
pub own_record : (m : MapMeaning) → IsSoundMap m → All (λ row. (uid : ℕ) (r : MapRecord) → (row.uid == uid) ≡ true → record_at m uid ≡ Some r → row ≡ r) m.records
own_record m s = λ k d lt uid r hit found.
    found_only (λ row. row.uid == uid) m.records r found (λ i j e l le p q. let a = equal_is _ uid p in let b = equal_is _ uid q in let h = s.rising i j e l le in omega (arith, a, b, h)) k d lt hit

places_after : (target most : ℕ) (row : MapRecord) (given : Option MapPlace) → IsPlaced most row
    → ((place : MapPlace) → given ≡ Some place → IsPlaced most (moved_record row target (Some place))) → IsPlaced most (moved_record row target given)
places_after target most row None p h = p
places_after target most row (Some place) p h = h place refl

pub target_places : (m : MapMeaning) (file target most : ℕ) (moved : List MapPlace) → m.highest.file ≤ most → target ≤ most → IsSoundMap m → FitsTarget m file target moved
    → All (λ row. IsPlaced most (moved_record row target (place_given row.uid moved))) m.records
target_places m file target most [] le lt s f = all_places m most le s
target_places m file target most (p ∷ ps) le below s f = λ k d lt.
    places_after target most (slice_index_or m.records k d) (place_given (slice_index_or m.records k d).uid (p ∷ ps)) (all_places m most le s k d lt)
    (λ place e.
    let r = found_holds (λ (q : MapPlace). q.uid.0 == (slice_index_or m.records k d).uid) (p ∷ ps) place (FitsPlace m target) e f.2 in
    let hit : ((slice_index_or m.records k d).uid == place.uid.0) ≡ true = equal_yes _ _ (sym (equal_is _ _ r.1)) in
    moved_place m target most (slice_index_or m.records k d) place f.0 below r.0 (all_places m most le s k d lt) (λ x found. own_record m s k d lt place.uid.0 x hit found))

-- ---- counts

-- a record that a `U` names has one count more
pub raised_places : (m : MapMeaning) (most uid : ℕ) → m.highest.file ≤ most → IsSoundMap m → HasRecord m uid (λ row. (1 ≤ row.count) × (row.count ≤ 65534))
    → All (λ row. IsPlaced most (if uid == row.uid then record row { count = row.count + 1 } else row)) m.records
raised_places m most uid le s f = λ k d lt.
    let row : MapRecord = slice_index_or m.records k d in
    counted_place most (uid == row.uid) (row.count + 1) row
    (λ hit.
    let is : row ≡ f.0 = own_record m s k d lt uid f.0 (equal_yes row.uid uid (sym (equal_is uid row.uid hit))) f.1 in
    let same : row.count ≡ f.0.count = ap (λ (r : MapRecord). r.count) is in
    let fits = f.2 in
    omega (arith, same, fits.1))
    (all_places m most le s k d lt)

-- those that a `D` names have one less
pub lowered_places : (m : MapMeaning) (most : ℕ) (uids : List MapUid) → m.highest.file ≤ most → IsSoundMap m
    → All (λ row. IsPlaced most (if has_map_uid row.uid uids then record row { count = row.count - 1 } else row)) m.records
lowered_places m most uids le s = λ k d lt.
    let row : MapRecord = slice_index_or m.records k d in
    let fits = (s.records k d lt).count in
    counted_place most (has_map_uid row.uid uids) (row.count - 1) row (λ hit. omega (arith, fits)) (all_places m most le s k d lt)

count_fits : (found : Option MapCount) (old : ℕ) → old ≤ 65535 → ((c : MapCount) → found ≡ Some c → c.count ≤ 65535) → option_map_or (λ c. c.count) found old ≤ 65535
count_fits None old h f = h
count_fits (Some c) old h f = f c refl

-- those that a `T` names have the counts that it gives
pub given_places : (m : MapMeaning) (most : ℕ) (counts : List MapCount) → m.highest.file ≤ most → IsSoundMap m → All (λ c. c.count ≤ 65535) counts
    → All (λ row. IsPlaced most (record row { count = count_given row.uid counts row.count })) m.records
given_places m most counts le s fit = λ k d lt.
    let row : MapRecord = slice_index_or m.records k d in
    with_count most (count_given row.uid counts row.count) row
    (count_fits (find (λ (c : MapCount). c.uid.0 == row.uid) counts) row.count (s.records k d lt).count (λ c e. found_among (λ (x : MapCount). x.uid.0 == row.uid) counts c (λ x. x.count ≤ 65535) e fit))
    (all_places m most le s k d lt)

-- those that an `X` names have so much less
pub taken_places : (m : MapMeaning) (most : ℕ) (amounts : List MapCount) → m.highest.file ≤ most → IsSoundMap m
    → All (λ row. IsPlaced most (record row { count = row.count - count_given row.uid amounts 0 })) m.records
taken_places m most amounts le s = λ k d lt.
    let row : MapRecord = slice_index_or m.records k d in
    let fits = (s.records k d lt).count in
    with_count most (row.count - count_given row.uid amounts 0) row (omega (arith, fits)) (all_places m most le s k d lt)

-- ---- moved regions apart

pub turned : (a b c d : ℕ) → (a ≤ b) ⊎ (c ≤ d) → (c ≤ d) ⊎ (a ≤ b)
turned a b c d (inl h) = inr h
turned a b c d (inr h) = inl h

-- two records, each moved or not
pair_apart : (target : ℕ) (a b : MapRecord) (p q : Option MapPlace) → AreApart a b
    → ((x : MapPlace) → p ≡ Some x → b.file ≡ target → IsApart x.offset a.size b)
    → ((x : MapPlace) → q ≡ Some x → a.file ≡ target → IsApart x.offset b.size a)
    → ((x y : MapPlace) → p ≡ Some x → q ≡ Some y → (x.offset + a.size ≤ y.offset) ⊎ (y.offset + b.size ≤ x.offset))
    → AreApart (moved_record a target p) (moved_record b target q)
pair_apart target a b None None h fa fb both = h
pair_apart target a b (Some p) None h fa fb both = λ e. fa p refl (sym e)
pair_apart target a b None (Some q) h fa fb both = λ e. turned _ _ _ _ (fb q refl e)
pair_apart target a b (Some p) (Some q) h fa fb both = λ e. both p q refl refl

-- a place that is given to a record names its map uid
given_names : (moved : List MapPlace) (uid : ℕ) (place : MapPlace) (P : MapPlace → Type 0) → place_given uid moved ≡ Some place → All P moved → P place × ((uid == place.uid.0) ≡ true)
given_names moved uid place P e a =
    let r = found_holds (λ (q : MapPlace). q.uid.0 == uid) moved place P e a in
    (r.0, equal_yes _ _ (sym (equal_is _ _ r.1)))

-- where a record is moved to, no other region stands
place_free : (m : MapMeaning) (target : ℕ) (moved : List MapPlace) → IsSoundMap m → All (FitsPlace m target) moved → (k : ℕ) (d : MapRecord) → k < length m.records
    → (place : MapPlace) → place_given (slice_index_or m.records k d).uid moved ≡ Some place
    → (n : ℕ) (c : MapRecord) → n < length m.records → (slice_index_or m.records n c).file ≡ target → IsApart place.offset (slice_index_or m.records k d).size (slice_index_or m.records n c)
place_free m target moved s fits k d lt place e n c below same =
    let a : MapRecord = slice_index_or m.records k d in
    let g : FitsPlace m target place × ((a.uid == place.uid.0) ≡ true) = given_names moved a.uid place (FitsPlace m target) e fits in
    let is : a ≡ g.0.0 = own_record m s k d lt place.uid.0 g.0.0 g.1 g.0.1 in
    subst (λ (r : MapRecord). IsApart place.offset r.size (slice_index_or m.records n c)) (sym is) (g.0.2.1 n c below same)

size_of_given : (m : MapMeaning) (uid : ℕ) (r : MapRecord) → record_at m uid ≡ Some r → size_at m uid ≡ r.size
size_of_given m uid r e = ap (λ (o : Option MapRecord). option_map_or (λ row. row.size) o 0) e

-- two moved regions are apart
places_apart : (m : MapMeaning) (target : ℕ) (moved : List MapPlace) → IsSoundMap m → All (FitsPlace m target) moved → AllPairs (ArePlacedApart m) moved
    → (i j : ℕ) (d : MapRecord) → i < j → j < length m.records → (x y : MapPlace) → place_given (slice_index_or m.records i d).uid moved ≡ Some x → place_given (slice_index_or m.records j d).uid moved ≡ Some y
    → (x.offset + (slice_index_or m.records i d).size ≤ y.offset) ⊎ (y.offset + (slice_index_or m.records j d).size ≤ x.offset)
places_apart m target moved s fits apart i j d lt le x y ex ey =
    let a : MapRecord = slice_index_or m.records i d in
    let b : MapRecord = slice_index_or m.records j d in
    let rises : a.uid < b.uid = s.rising i j d lt le in
    let g : FitsPlace m target x × ((a.uid == x.uid.0) ≡ true) = given_names moved a.uid x (FitsPlace m target) ex fits in
    let h : FitsPlace m target y × ((b.uid == y.uid.0) ≡ true) = given_names moved b.uid y (FitsPlace m target) ey fits in
    let isa : a ≡ g.0.0 = own_record m s i d (omega (arith, lt, le)) x.uid.0 g.0.0 g.1 g.0.1 in
    let isb : b ≡ h.0.0 = own_record m s j d le y.uid.0 h.0.0 h.1 h.0.1 in
    let sa : size_at m x.uid.0 ≡ a.size = size_of_given m x.uid.0 g.0.0 g.0.1 ∙ ap (λ (r : MapRecord). r.size) (sym isa) in
    let sb : size_at m y.uid.0 ≡ b.size = size_of_given m y.uid.0 h.0.0 h.0.1 ∙ ap (λ (r : MapRecord). r.size) (sym isb) in
    let one : All (PassesOne (λ (q : MapPlace). q.uid.0 == a.uid) (λ (q : MapPlace). q.uid.0 == b.uid)) moved = (λ k c below p q. let u = equal_is _ _ p in let v = equal_is _ _ q in omega (arith, u, v, rises)) in
    let r : ArePlacedApart m x y = found_two (λ (q : MapPlace). q.uid.0 == a.uid) (λ (q : MapPlace). q.uid.0 == b.uid) (ArePlacedApart m) moved x y one apart (λ u v w. turned _ _ _ _ w) ex ey in
    subst (λ (n : ℕ). (x.offset + a.size ≤ y.offset) ⊎ (y.offset + n ≤ x.offset)) sb (subst (λ (n : ℕ). (x.offset + n ≤ y.offset) ⊎ (y.offset + size_at m y.uid.0 ≤ x.offset)) sa r)

moved_apart : (m : MapMeaning) (target : ℕ) (moved : List MapPlace) → IsSoundMap m → All (FitsPlace m target) moved → AllPairs (ArePlacedApart m) moved
    → AllPairs (λ a b. AreApart (moved_record a target (place_given a.uid moved)) (moved_record b target (place_given b.uid moved))) m.records
moved_apart m target moved s fits apart = λ i j d lt le.
    pair_apart target (slice_index_or m.records i d) (slice_index_or m.records j d) (place_given (slice_index_or m.records i d).uid moved) (place_given (slice_index_or m.records j d).uid moved)
    (s.apart i j d lt le)
    (λ x e same. place_free m target moved s fits i d (omega (arith, lt, le)) x e j d le same)
    (λ x e same. place_free m target moved s fits j d le x e i d (omega (arith, lt, le)) same)
    (λ x y ex ey. places_apart m target moved s fits apart i j d lt le x y ex ey)

pub target_apart : (m : MapMeaning) (file target : ℕ) (moved : List MapPlace) → IsSoundMap m → FitsTarget m file target moved
    → AllPairs (λ a b. AreApart (moved_record a target (place_given a.uid moved)) (moved_record b target (place_given b.uid moved))) m.records
target_apart m file target [] s f = s.apart
target_apart m file target (p ∷ ps) s f = moved_apart m target (p ∷ ps) s f.2 f.3
