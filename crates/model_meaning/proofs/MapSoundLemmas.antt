-- The meaning of a map log whose entries fit is sound.
use Rattle.std.specs.Prelude.{◌≡◌, ◌≢◌, ◌<◌, ◌≤◌, ◌==◌, ◌^◌, ℕ, max, Bool, true, false, List, [], ◌∷◌, ◌++◌, length, fold, slice_index_or, Some, All, AllPairs, refl, if◌then◌else◌}
use Rattle.std.specs.List.{AllByRecursion}
use Rattle.std.proofs.Common.{◌∙◌, append-nil, append_assoc, arith, length-append, subst, sym}
use Rattle.std.proofs.lemmas.List.Elements.{All-nil, All-head, All-tail, All-weaker, All-push, All-from_recursion}
use Rattle.mdbox_base.specs.declared.ids.BoxNo.{BoxNo}
use Rattle.mdbox_base.specs.declared.ids.MapUid.{MapUid}
use Rattle.mdbox_base.specs.declared.entries.MapCount.{MapCount}
use Rattle.mdbox_base.specs.declared.entries.MapPlace.{MapPlace}
use Rattle.mdbox_base.specs.declared.entries.MapEntry.{MapEntry}
use Rattle.mdbox_base.specs.declared.entries.MapEntry.TheVariants as map
use Rattle.model_meaning.specs.MapMeaning.{MapRecord, MapBox, MapMeaning, map_meaning, map_applied, record_at, record_made, record_changed, record_rules, box_at, box_made, box_changed, box_rules, greatest, guid_file}
use Rattle.model_meaning.specs.MapFits.{AgreesOn, AllMapFit, FitsRenamed, HasRecord, IsApart, IsKnown, MapFits}
use Rattle.mdbox_base.specs.Words.{IsName, IsNumber}
use Rattle.model_meaning.proofs.MapLemmas.{map_more}
use Rattle.model_logs.specs.Entries.{MapInRange, RowInRange}
use Rattle.model_octets.proofs.PairLemmas.{found_holds, pairs_nil, pairs_push}
use Rattle.model_meaning.proofs.KeptRowLemmas.{kept_all, kept_length, kept_pairs, kept_pairs_from, kept_rows}
use Rattle.model_meaning.specs.Sound.{AreApart, IsSoundRecord, AgreeOnInstances, IsSoundMapBox, IsSoundMap}
use Rattle.model_meaning.proofs.MapPlaceLemmas.{GuidsDiffer, IsPlaced, Rises, all_places, counted_region, equal_is, equal_yes, given_places, kept_agree, kept_apart, kept_files, kept_guids, kept_rising, kept_sound, lowered_places, raised_places, region_itself, taken_places, target_apart, target_places, turned}
use Rattle.model_meaning.proofs.SealedLemmas.{all_with}

-- ---- mailboxes

with_generation : (hit : Bool) (high g : ℕ) (box : MapBox) → IsNumber g → IsSoundMapBox high box → IsSoundMapBox high (if hit then record box { generation = g } else box)
with_generation true high g box n b = record { number = b.number; below = b.below; generation = n; name = b.name }
with_generation false high g box n b = b

with_name : (hit : Bool) (high : ℕ) (name : List ℕ) (box : MapBox) → IsName name → IsSoundMapBox high box → IsSoundMapBox high (if hit then record box { name = name } else box)
with_name true high name box n b = record { number = b.number; below = b.below; generation = b.generation; name = n }
with_name false high name box n b = b

-- what an entry that gives a mailbox a generation or a name needs
abbrev ChangeFits : MapEntry → Type 0
ChangeFits (map.G mailbox generation) = IsNumber generation
ChangeFits (map.V mailbox name) = IsName name
ChangeFits entry = Unit {0}

box_stays : (entry : MapEntry) (high : ℕ) (box : MapBox) → ChangeFits entry → IsSoundMapBox high box → IsSoundMapBox high (box_changed entry box)
box_stays (map.H h) high box f b = b
box_stays (map.B m g n) high box f b = b
box_stays (map.G m g) high box f b = with_generation (m.0 == box.number) high g box f b
box_stays (map.S o c u f2 a z g is) high box f b = b
box_stays (map.U u) high box f b = b
box_stays (map.D us) high box f b = b
box_stays (map.T cs) high box f b = b
box_stays (map.P f2 t ms us) high box f b = b
box_stays (map.E f2) high box f b = b
box_stays (map.X m cs) high box f b = b
box_stays (map.V m n) high box f b = with_name (m.0 == box.number) high n box f b

-- a mailbox keeps its number
number_same : (hit : Bool) (box other : MapBox) → other.number ≡ box.number → (if hit then other else box).number ≡ box.number
number_same true box other e = e
number_same false box other e = refl

pub box_number : (entry : MapEntry) (box : MapBox) → (box_changed entry box).number ≡ box.number
box_number (map.G m g) box = number_same (m.0 == box.number) box (record box { generation = g }) refl
box_number (map.V m n) box = number_same (m.0 == box.number) box (record box { name = n }) refl
box_number (map.H h) box = refl
box_number (map.B m g n) box = refl
box_number (map.S o c u f2 a z g is) box = refl
box_number (map.U u) box = refl
box_number (map.D us) box = refl
box_number (map.T cs) box = refl
box_number (map.P f2 t ms us) box = refl
box_number (map.E f2) box = refl
box_number (map.X m cs) box = refl

-- and its name, but of an entry that gives it another
abbrev pub KeepsNames : MapEntry → Type 0
KeepsNames (map.V mailbox name) = ⊥
KeepsNames entry = Unit {0}

generation_named : (hit : Bool) (g : ℕ) (box : MapBox) → (if hit then record box { generation = g } else box).name ≡ box.name
generation_named true g box = refl
generation_named false g box = refl

pub box_name : (entry : MapEntry) (box : MapBox) → KeepsNames entry → (box_changed entry box).name ≡ box.name
box_name (map.G m g) box k = generation_named (m.0 == box.number) g box
box_name (map.H h) box k = refl
box_name (map.B m g n) box k = refl
box_name (map.S o c u f2 a z g is) box k = refl
box_name (map.U u) box k = refl
box_name (map.D us) box k = refl
box_name (map.T cs) box k = refl
box_name (map.P f2 t ms us) box k = refl
box_name (map.E f2) box k = refl
box_name (map.X m cs) box k = refl
box_name (map.V m n) box k = absurd k

abbrev BoxRises : MapBox → MapBox → Type 0
BoxRises a b = a.number < b.number

abbrev NamesDiffer : MapBox → MapBox → Type 0
NamesDiffer a b = a.name ≢ b.name

box_higher : (low high : ℕ) → low ≤ high → (box : MapBox) → IsSoundMapBox low box → IsSoundMapBox high box
box_higher low high le box b = record { number = b.number; below = (let h = b.below in omega (arith, h, le)); generation = b.generation; name = b.name }

kept_boxes : (m : MapMeaning) (entry : MapEntry) (high : ℕ) → m.highest.mailbox ≤ high → ChangeFits entry → IsSoundMap m → All (IsSoundMapBox high) (kept_rows box_rules entry m.boxes)
kept_boxes m entry high le f s = kept_all box_rules entry m.boxes (IsSoundMapBox m.highest.mailbox) (IsSoundMapBox high) (λ box b. box_higher m.highest.mailbox high le _ (box_stays entry m.highest.mailbox box f b)) s.boxes

kept_box_rising : (m : MapMeaning) (entry : MapEntry) → IsSoundMap m → AllPairs BoxRises (kept_rows box_rules entry m.boxes)
kept_box_rising m entry s = kept_pairs box_rules entry m.boxes BoxRises (λ a b h. let p = box_number entry a in let q = box_number entry b in omega (arith, h, p, q)) s.boxes_rising

kept_names : (m : MapMeaning) (entry : MapEntry) → KeepsNames entry → IsSoundMap m → AllPairs NamesDiffer (kept_rows box_rules entry m.boxes)
kept_names m entry k s = kept_pairs box_rules entry m.boxes NamesDiffer (λ a b h e. h (sym (box_name entry a k) ∙ e ∙ box_name entry b k)) s.names

-- two mailboxes, one of which may have another name
pub pair_named : (p q : Bool) (number : ℕ) (name : List ℕ) (a b : MapBox) → (a.number == number) ≡ p → (b.number == number) ≡ q → a.number < b.number → a.name ≢ name → b.name ≢ name → a.name ≢ b.name
    → (if p then record a { name = name } else a).name ≢ (if q then record b { name = name } else b).name
pair_named true true number name a b p q lt x y h = λ e. absurd (let u = equal_is a.number number p in let v = equal_is b.number number q in omega (arith, u, v, lt))
pair_named true false number name a b p q lt x y h = λ e. y (sym e)
pair_named false true number name a b p q lt x y h = λ e. x e
pair_named false false number name a b p q lt x y h = h

pub turned_equal : (a b : ℕ) (p : Bool) → (a == b) ≡ p → (b == a) ≡ p
turned_equal a b true e = equal_yes b a (sym (equal_is a b e))
turned_equal a b false e = by_test (b == a) refl
  where
    by_test : (t : Bool) → (b == a) ≡ t → t ≡ false
    by_test true k = absurd (let z : true ≡ false = sym (equal_yes a b (sym (equal_is b a k))) ∙ e in cc z)
    by_test false k = refl

renamed_names : (m : MapMeaning) (mailbox : BoxNo) (name : List ℕ) → FitsRenamed m mailbox.0 name → IsSoundMap m → AllPairs NamesDiffer (kept_rows box_rules (map.V mailbox name) m.boxes)
renamed_names m mailbox name f s = kept_pairs_from box_rules (map.V mailbox name) m.boxes NamesDiffer (λ i j d lt le.
    let a : MapBox = slice_index_or m.boxes i d in
    let b : MapBox = slice_index_or m.boxes j d in
    pair_named (mailbox.0 == a.number) (mailbox.0 == b.number) mailbox.0 name a b (turned_equal mailbox.0 a.number _ refl) (turned_equal mailbox.0 b.number _ refl) (s.boxes_rising i j d lt le)
    (f.name_new i d (omega (arith, lt, le))) (f.name_new j d le) (s.names i j d lt le))

-- ---- one entry more

-- the facts of records, and of mailboxes
record AreSoundRecords (high most : ℕ) (rows : List MapRecord) : Type 0 where
  rising : AllPairs Rises rows
  each : All (IsSoundRecord high) rows
  files : All (λ row. row.file ≤ most) rows
  guids : AllPairs GuidsDiffer rows
  agree : AllPairs AgreeOnInstances rows
  apart : AllPairs AreApart rows

record AreSoundBoxes (high : ℕ) (boxes : List MapBox) : Type 0 where
  rising : AllPairs BoxRises boxes
  each : All (IsSoundMapBox high) boxes
  names : AllPairs NamesDiffer boxes
  room : length boxes ≤ 1024

records_kept : (m : MapMeaning) (entry : MapEntry) (high most : ℕ) → m.highest.map ≤ high → IsSoundMap m → All (λ row. IsPlaced most (record_changed entry row)) m.records → AllPairs AreApart (kept_rows record_rules entry m.records)
    → AreSoundRecords high most (kept_rows record_rules entry m.records)
records_kept m entry high most le s p a = record {
  rising = kept_rising m entry s;
  each = kept_sound m entry high most le s p;
  files = kept_files m entry most p;
  guids = kept_guids m entry s;
  agree = kept_agree m entry s;
  apart = a;
}

boxes_kept : (m : MapMeaning) (entry : MapEntry) (high : ℕ) → m.highest.mailbox ≤ high → ChangeFits entry → AllPairs NamesDiffer (kept_rows box_rules entry m.boxes) → IsSoundMap m → AreSoundBoxes high (kept_rows box_rules entry m.boxes)
boxes_kept m entry high le f names s = record {
  rising = kept_box_rising m entry s;
  each = kept_boxes m entry high le f s;
  names = names;
  room = (let h = kept_length box_rules entry m.boxes in let k = s.room in omega (arith, h, k));
}

records_nil : (high most : ℕ) (rows : List MapRecord) → AreSoundRecords high most rows → AreSoundRecords high most (rows ++ [])
records_nil high most rows r = subst (AreSoundRecords high most) (sym (append-nil rows)) r

boxes_nil : (high : ℕ) (boxes : List MapBox) → AreSoundBoxes high boxes → AreSoundBoxes high (boxes ++ [])
boxes_nil high boxes b = subst (AreSoundBoxes high) (sym (append-nil boxes)) b

-- the highest map uid and mailbox number are in range
record AreHighest (uid number : ℕ) : Type 0 where
  map_uid : uid ≤ 4294967294
  mailbox : number ≤ 4294967294

-- numbers up to a bound
greatest_from : {X : Type 0} → (f : X → ℕ) (first n : ℕ) (xs : List X) → first ≤ n → All (λ x. f x ≤ n) xs → fold (λ most x. max most (f x)) first xs ≤ n
greatest_from f first n [] le a = le
greatest_from f first n (x ∷ xs) le a =
    let h = All-head (λ x. f x ≤ n) x xs a in
    greatest_from f (max first (f x)) n xs (omega (arith, le, h)) (All-tail (λ x. f x ≤ n) x xs a)

pub greatest_fits : {X : Type 0} → (f : X → ℕ) (n : ℕ) (xs : List X) → All (λ x. f x ≤ n) xs → greatest f xs ≤ n
greatest_fits f n xs a = greatest_from f 0 n xs (omega arith) a

-- the map uid of a record is in range
known_fits : (m : MapMeaning) (uid : ℕ) (row : MapRecord) → IsSoundMap m → record_at m uid ≡ Some row → uid ≤ 4294967294
known_fits m uid row s e =
    let r = found_holds (λ (x : MapRecord). x.uid == uid) m.records row (IsSoundRecord m.highest.map) e s.records in
    let same : row.uid ≡ uid = equal_is row.uid uid r.1 in
    let high = r.0.uid.high in
    omega (arith, same, high)

joined : (m : MapMeaning) (entry : MapEntry) → AreSoundRecords (map_applied entry m).highest.map (map_applied entry m).highest.file (map_applied entry m).records → AreSoundBoxes (map_applied entry m).highest.mailbox (map_applied entry m).boxes
    → All IsNumber (map_applied entry m).sealed → AreHighest (map_applied entry m).highest.map (map_applied entry m).highest.mailbox → IsSoundMap (map_applied entry m)
joined m entry r b sealed h = record {
  rising = r.rising;
  records = r.each;
  files = r.files;
  guids = r.guids;
  agree = r.agree;
  apart = r.apart;
  boxes_rising = b.rising;
  boxes = b.each;
  names = b.names;
  room = b.room;
  sealed = sealed;
  map_high = h.map_uid;
  mailbox_high = h.mailbox;
}

-- an entry that makes no record and no mailbox
changed : (m : MapMeaning) (entry : MapEntry) → record_made entry ≡ [] → box_made entry ≡ [] → ChangeFits entry → AllPairs NamesDiffer (kept_rows box_rules entry m.boxes) → IsSoundMap m → All (λ row. IsPlaced (map_applied entry m).highest.file (record_changed entry row)) m.records
    → AllPairs AreApart (kept_rows record_rules entry m.records) → All IsNumber (map_applied entry m).sealed → AreHighest (map_applied entry m).highest.map (map_applied entry m).highest.mailbox → IsSoundMap (map_applied entry m)
changed m entry none no_box g names s p a sealed h =
    let records = records_nil _ _ _ (records_kept m entry (map_applied entry m).highest.map (map_applied entry m).highest.file (omega arith) s p a) in
    let boxes = boxes_nil _ _ (boxes_kept m entry (map_applied entry m).highest.mailbox (omega arith) g names s) in
    joined m entry
    (subst (λ (made : List MapRecord). AreSoundRecords (map_applied entry m).highest.map (map_applied entry m).highest.file (kept_rows record_rules entry m.records ++ made)) (sym none) records)
    (subst (λ (made : List MapBox). AreSoundBoxes (map_applied entry m).highest.mailbox (kept_rows box_rules entry m.boxes ++ made)) (sym no_box) boxes) sealed h

-- the highest numbers, where an entry names map uids up to a bound alone
as_high : (m : MapMeaning) (n : ℕ) → IsSoundMap m → n ≤ 4294967294 → AreHighest (max m.highest.map n) (max m.highest.mailbox 0)
as_high m n s h = let a = s.map_high in let b = s.mailbox_high in record { map_uid = omega (arith, a, h); mailbox = omega (arith, b) }

-- and where it names a mailbox too
both_high : (m : MapMeaning) (number n : ℕ) → IsSoundMap m → n ≤ 4294967294 → number ≤ 4294967294 → AreHighest (max m.highest.map n) (max m.highest.mailbox number)
both_high m number n s h k = let a = s.map_high in let b = s.mailbox_high in record { map_uid = omega (arith, a, h); mailbox = omega (arith, b, k) }

-- the number of a mailbox is in range
box_fits : (m : MapMeaning) (number : ℕ) (box : MapBox) → IsSoundMap m → box_at m number ≡ Some box → number ≤ 4294967294
box_fits m number box s e =
    let r = found_holds (λ (x : MapBox). x.number == number) m.boxes box (IsSoundMapBox m.highest.mailbox) e s.boxes in
    let same : box.number ≡ number = equal_is box.number number r.1 in
    let high = r.0.number.high in
    omega (arith, same, high)

-- One entry more that fits keeps the meaning sound.
pub map_sound_more : (m : MapMeaning) (entry : MapEntry) → IsSoundMap m → MapFits m entry → MapInRange entry → IsSoundMap (map_applied entry m)
map_sound_more m (map.H h) s f r =
    changed m (map.H h) refl refl tt (kept_names m (map.H h) tt s) s (all_places m _ (omega arith) s) (kept_apart m (map.H h) (λ row. region_itself row) s) s.sealed
    (let a = s.map_high in let b = s.mailbox_high in let c = f.1.high in let d = f.3.high in record { map_uid = omega (arith, a, c); mailbox = omega (arith, b, d) })
map_sound_more m (map.G b g) s f r =
    changed m (map.G b g) refl refl f.1 (kept_names m (map.G b g) tt s) s (all_places m _ (omega arith) s) (kept_apart m (map.G b g) (λ row. region_itself row) s) s.sealed
    (let a = s.map_high in let c = s.mailbox_high in let d = f.0.high in record { map_uid = omega (arith, a); mailbox = omega (arith, c, d) })
map_sound_more m (map.U u) s f r =
    changed m (map.U u) refl refl tt (kept_names m (map.U u) tt s) s (raised_places m _ u.0 (omega arith) s f) (kept_apart m (map.U u) (λ row. counted_region _ _ row) s) s.sealed
    (as_high m u.0 s (known_fits m u.0 f.0 s f.1))
map_sound_more m (map.D us) s f r =
    changed m (map.D us) refl refl tt (kept_names m (map.D us) tt s) s (lowered_places m _ us (omega arith) s) (kept_apart m (map.D us) (λ row. counted_region _ _ row) s) s.sealed
    (as_high m _ s (greatest_fits (λ (u : MapUid). u.0) 4294967294 us (All-weaker (λ (u : MapUid). HasRecord m u.0 (λ row. 1 ≤ row.count)) (λ (u : MapUid). u.0 ≤ 4294967294) (λ u k. known_fits m u.0 k.0 s k.1) us f.1)))
map_sound_more m (map.T cs) s f r =
    changed m (map.T cs) refl refl tt (kept_names m (map.T cs) tt s) s
    (given_places m _ cs (omega arith) s (All-weaker (λ (c : MapCount). (c.uid.0 < 2 ^ 32) × (c.count < 2 ^ 16)) (λ (c : MapCount). c.count ≤ 65535) (λ c k. let h = k.1 in omega (arith, h)) cs (All-from_recursion (λ (c : MapCount). (c.uid.0 < 2 ^ 32) × (c.count < 2 ^ 16)) cs r.1)))
    (kept_apart m (map.T cs) (λ row. record { file = refl; offset = refl; size = refl }) s) s.sealed
    (as_high m _ s (greatest_fits (λ (c : MapCount). c.uid.0) 4294967294 cs (All-weaker (λ (c : MapCount). IsKnown m c.uid.0) (λ (c : MapCount). c.uid.0 ≤ 4294967294) (λ c k. known_fits m c.uid.0 k.0 s k.1) cs f.1)))
map_sound_more m (map.P file t ms us) s f r =
    let moved = greatest_fits (λ (p : MapPlace). p.uid.0) 4294967294 ms (All-weaker (λ (p : MapPlace). HasRecord m p.uid.0 (λ row. row.file ≡ file.0)) (λ (p : MapPlace). p.uid.0 ≤ 4294967294) (λ p k. known_fits m p.uid.0 k.0 s k.1) ms f.moved_here) in
    let dropped = greatest_fits (λ (u : MapUid). u.0) 4294967294 us (All-weaker (λ (u : MapUid). HasRecord m u.0 (λ row. (row.file ≡ file.0) × (row.count ≡ 0))) (λ (u : MapUid). u.0 ≤ 4294967294) (λ u k. known_fits m u.0 k.0 s k.1) us f.dropped_here) in
    changed m (map.P file t ms us) refl refl tt (kept_names m (map.P file t ms us) tt s) s (target_places m file.0 t _ ms (omega arith) (omega arith) s f.target_fits)
    (kept_pairs_from record_rules (map.P file t ms us) m.records AreApart (target_apart m file.0 t ms s f.target_fits)) s.sealed
    (as_high m _ s (omega (arith, moved, dropped)))
map_sound_more m (map.E file) s f r =
    changed m (map.E file) refl refl tt (kept_names m (map.E file) tt s) s (all_places m _ (omega arith) s) (kept_apart m (map.E file) (λ row. region_itself row) s) (all_with IsNumber file.0 m.sealed f s.sealed)
    (as_high m 0 s (omega arith))
map_sound_more m (map.X b cs) s f r =
    changed m (map.X b cs) refl refl tt (kept_names m (map.X b cs) tt s) s (taken_places m _ cs (omega arith) s)
    (kept_apart m (map.X b cs) (λ row. record { file = refl; offset = refl; size = refl }) s) s.sealed
    (both_high m b.0 _ s
    (greatest_fits (λ (c : MapCount). c.uid.0) 4294967294 cs (All-weaker (λ (c : MapCount). HasRecord m c.uid.0 (λ row. (1 ≤ c.count) × (c.count ≤ row.count))) (λ (c : MapCount). c.uid.0 ≤ 4294967294) (λ c k. known_fits m c.uid.0 k.0 s k.1) cs f.counts))
    (box_fits m b.0 f.there.0 s f.there.1))
map_sound_more m (map.V b n) s f r =
    changed m (map.V b n) refl refl r.1 (renamed_names m b n f s) s (all_places m _ (omega arith) s) (kept_apart m (map.V b n) (λ row. region_itself row) s) s.sealed
    (both_high m b.0 0 s (omega arith) (box_fits m b.0 f.there.0 s f.there.1))
map_sound_more m (map.B b g n) s f r =
    let entry : MapEntry = map.B b g n in
    let kept = boxes_kept m entry (max m.highest.mailbox b.0) (omega arith) tt (kept_names m entry tt s) s in
    let boxes : List MapBox = kept_rows box_rules entry m.boxes in
    let box : MapBox = record { number = b.0; generation = g; name = n } in
    let high = f.box_new in
    let old : All (λ (x : MapBox). x.number ≤ m.highest.mailbox) boxes = kept_all box_rules entry m.boxes (IsSoundMapBox m.highest.mailbox) (λ (x : MapBox). x.number ≤ m.highest.mailbox) (λ x h. h.below) s.boxes in
    let short = kept_length box_rules entry m.boxes in
    joined m entry (records_nil _ _ _ (records_kept m entry _ _ (omega arith) s (all_places m _ (omega arith) s) (kept_apart m entry (λ row. region_itself row) s)))
    (record {
      rising = pairs_push BoxRises boxes box kept.rising (All-weaker (λ (x : MapBox). x.number ≤ m.highest.mailbox) (λ (x : MapBox). x.number < b.0) (λ x h. omega (arith, h, high)) boxes old);
      each = All-push (IsSoundMapBox (max m.highest.mailbox b.0)) boxes box kept.each (record { number = f.box_number; below = omega arith; generation = f.first; name = r.2 });
      names = pairs_push NamesDiffer boxes box kept.names (kept_all box_rules entry m.boxes (λ (x : MapBox). x.name ≢ n) (λ (x : MapBox). x.name ≢ n) (λ x h. h) f.name_new);
      room = (let l = length-append boxes (box ∷ []) in let k = f.room in omega (arith, l, k, short));
    })
    s.sealed
    (let a = s.map_high in let c = s.mailbox_high in let d = f.box_number.high in record { map_uid = omega (arith, a); mailbox = omega (arith, c, d) })
map_sound_more m (map.S o c u file a z g is) s f r =
    let entry : MapEntry = map.S o c u file a z g is in
    let most = max m.highest.file (max file.0 (guid_file m.store g.0)) in
    let kept = records_kept m entry (max m.highest.map u.0) most (omega arith) s (all_places m most (omega arith) s) (kept_apart m entry (λ row. region_itself row) s) in
    let rows : List MapRecord = kept_rows record_rules entry m.records in
    let row : MapRecord = record { uid = u.0; origin = o; count = c; file = file.0; offset = a; size = z; guid = g.0; instances = is } in
    let high = f.uid_new in
    let count = r.1 in
    let old : All (λ (x : MapRecord). x.uid ≤ m.highest.map) rows = kept_all record_rules entry m.records (IsSoundRecord m.highest.map) (λ (x : MapRecord). x.uid ≤ m.highest.map) (λ x h. h.below) s.records in
    joined m entry
    (record {
      rising = pairs_push Rises rows row kept.rising (All-weaker (λ (x : MapRecord). x.uid ≤ m.highest.map) (λ (x : MapRecord). x.uid < u.0) (λ x h. omega (arith, h, high)) rows old);
      each = All-push (IsSoundRecord (max m.highest.map u.0)) rows row kept.each (record {
        uid = f.uid_number;
        below = omega arith;
        origin = f.known_origin;
        count = omega (arith, count);
        file = f.region.file_number;
        size = f.region.some;
        ends = f.region.ends;
        guid = r.6;
        instances = All-from_recursion RowInRange is r.8;
        agree = f.earlier;
      });
      files = All-push (λ (x : MapRecord). x.file ≤ most) rows row kept.files (omega arith);
      guids = pairs_push GuidsDiffer rows row kept.guids (kept_all record_rules entry m.records (λ (x : MapRecord). x.guid ≢ g.0) (λ (x : MapRecord). x.guid ≢ g.0) (λ x h. h) f.guid_new);
      agree = pairs_push AgreeOnInstances rows row kept.agree (kept_all record_rules entry m.records (λ (x : MapRecord). All (λ i. All (AgreesOn i) x.instances) is) (λ (x : MapRecord). All (λ i. All (AgreesOn i) x.instances) is) (λ x h. h) f.known);
      apart = pairs_push AreApart rows row kept.apart (kept_all record_rules entry m.records (λ (x : MapRecord). x.file ≡ file.0 → IsApart a z x) (λ (x : MapRecord). AreApart x row) (λ x h e. turned _ _ _ _ (h e)) f.region.free);
    })
    (boxes_nil _ _ (boxes_kept m entry _ (omega arith) tt (kept_names m entry tt s) s))
    s.sealed
    (as_high m u.0 s f.uid_number.high)

-- no entries
pub map_sound_empty : (store : List ℕ) → IsSoundMap (map_meaning store [])
map_sound_empty store = record {
  rising = pairs_nil Rises;
  records = All-nil (IsSoundRecord 0);
  files = All-nil (λ (row : MapRecord). row.file ≤ 0);
  guids = pairs_nil GuidsDiffer;
  agree = pairs_nil AgreeOnInstances;
  apart = pairs_nil AreApart;
  boxes_rising = pairs_nil BoxRises;
  boxes = All-nil (IsSoundMapBox 0);
  names = pairs_nil NamesDiffer;
  room = omega arith;
  sealed = All-nil IsNumber;
  map_high = omega arith;
  mailbox_high = omega arith;
}

sound_from : (store : List ℕ) (before entries : List MapEntry) → IsSoundMap (map_meaning store before) → AllMapFit store before entries → AllByRecursion MapInRange entries → IsSoundMap (map_meaning store (before ++ entries))
sound_from store before [] s f r = subst (λ (es : List MapEntry). IsSoundMap (map_meaning store es)) (sym (append-nil before)) s
sound_from store before (entry ∷ entries) s f r =
    let one : IsSoundMap (map_meaning store (before ++ entry ∷ [])) = subst IsSoundMap (sym (map_more store before entry)) (map_sound_more (map_meaning store before) entry s f.0 r.0) in
    subst (λ (es : List MapEntry). IsSoundMap (map_meaning store es)) (append_assoc before (entry ∷ []) entries) (sound_from store (before ++ entry ∷ []) entries one f.1 r.1)

-- The meaning of entries that fit is sound.
pub map_sound : (store : List ℕ) (entries : List MapEntry) → AllMapFit store [] entries → AllByRecursion MapInRange entries → IsSoundMap (map_meaning store entries)
map_sound store entries f r = sound_from store [] entries (map_sound_empty store) f r
