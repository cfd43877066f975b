-- The highest numbers of a map log whose entries fit, and whose texts are octets, are in range.
use Rattle.std.specs.Prelude.{◌≡◌, ◌<◌, ◌≤◌, ◌+◌, ◌==◌, ◌^◌, ◌++◌, ◌∷◌, [], ℕ, max, Bool, true, false, not, ◌&&◌, if◌then◌else◌, List, length, take, drop, flat_map, slice_index, All, refl}
use Rattle.std.specs.List.{AllByRecursion}
use Rattle.std.specs.Int.{w16, w32, to_be_bytes, from_be_bytes}
use Rattle.std.proofs.Common.{sym, arith, subst, append-nil, append_assoc, length-drop, length-take}
use Rattle.std.proofs.lemmas.Grind.{common_steps}
use Rattle.std.proofs.lemmas.List.Elements.{All-nil, All-cons, All-head, All-tail, All-take, All-drop}
use Rattle.mdbox_base.specs.Words.{IsOctets}
use Rattle.mdbox_base.specs.declared.entries.InstRow.{InstRow}
use Rattle.mdbox_base.specs.declared.entries.MapPlace.{MapPlace}
use Rattle.mdbox_base.specs.declared.entries.MapEntry.{MapEntry}
use Rattle.mdbox_base.specs.declared.entries.MapEntry.TheVariants as map
use Rattle.model_meaning.specs.MapMeaning.{MapMeaning, map_meaning, map_applied, number_at, is_own, own_number, guid_file, instance_number}
use Rattle.model_meaning.specs.MapFits.{AllMapFit, FitsTarget, MapFits}
use Rattle.model_meaning.proofs.MapLemmas.{map_more}
use Rattle.model_logs.specs.Entries.{MapInRange, RowInRange, four, instance_row_text}
use Rattle.model_meaning.specs.Sound.{AreInRange, HasOctets, IsSoundMap}
use Rattle.model_meaning.proofs.MapSoundLemmas.{greatest_fits, map_sound_empty, map_sound_more}

-- ---- octets of a text

split_octets : (xs ys : List ℕ) → IsOctets (xs ++ ys) → IsOctets xs × IsOctets ys
split_octets [] ys h = (All-nil (λ octet. octet < 256), h)
split_octets (x ∷ xs) ys h =
    let r = split_octets xs ys (All-tail (λ octet. octet < 256) x (xs ++ ys) h) in
    (All-cons (λ octet. octet < 256) x xs (All-head (λ octet. octet < 256) x (xs ++ ys) h) r.0, r.1)

behind : (xs ys : List ℕ) → IsOctets (xs ++ ys) → IsOctets ys
behind xs ys h = (split_octets xs ys h).1

behind_five : (a b c d e rest : List ℕ) → IsOctets (a ++ (b ++ (c ++ (d ++ (e ++ rest))))) → IsOctets rest
behind_five a b c d e rest h = behind e rest (behind d (e ++ rest) (behind c (d ++ (e ++ rest)) (behind b (c ++ (d ++ (e ++ rest))) (behind a (b ++ (c ++ (d ++ (e ++ rest)))) h))))

-- the ids of instances
ids_octets : (rows : List InstRow) → IsOctets (flat_map instance_row_text rows) → All (λ row. IsOctets row.id.0) rows
ids_octets [] h = All-nil (λ (row : InstRow). IsOctets row.id.0)
ids_octets (row ∷ rows) h =
    let r = split_octets (instance_row_text row) (flat_map instance_row_text rows) h in
    let id = split_octets row.id.0 (four row.size) (behind row.hash.0 (row.id.0 ++ four row.size) r.0) in
    All-cons (λ (x : InstRow). IsOctets x.id.0) row rows id.0 (ids_octets rows r.1)

-- ---- numbers in ids

four_fit : (bs : List ℕ) → length bs ≡ 4 → IsOctets bs → from_be_bytes w32 bs < 2 ^ 32
four_fit bs l o =
    let a : slice_index bs 0 < 256 = o 0 0 (omega (arith, l)) in
    let b : slice_index bs 1 < 256 = o 1 0 (omega (arith, l)) in
    let c : slice_index bs 2 < 256 = o 2 0 (omega (arith, l)) in
    let d : slice_index bs 3 < 256 = o 3 0 (omega (arith, l)) in
    omega (arith, a, b, c, d)

number_fits : (place : ℕ) (octets : List ℕ) → place + 4 ≤ length octets → IsOctets octets → number_at place octets < 2 ^ 32
number_fits place octets le o =
    four_fit (take 4 (drop place octets)) (omega (arith, le, length-take 4 (drop place octets), length-drop place octets))
    (All-take (λ octet. octet < 256) 4 (drop place octets) (All-drop (λ octet. octet < 256) place octets o))

not_last : (n last : ℕ) → (n == last) ≡ false → n ≤ last → n < last
not_last n last e h = grind (arith, common_steps, e, h)

own_fits : (own : Bool) (n : ℕ) → n < 2 ^ 32 → own_number own n ≤ 4294967294
own_fits false n h = omega arith
own_fits true n h = by_test (n == 4294967295) refl
  where
    by_test : (b : Bool) → (n == 4294967295) ≡ b → (if true && not b then n else 0) ≤ 4294967294
    by_test true e = omega arith
    by_test false e = let k : n < 4294967295 = not_last n 4294967295 e (omega (arith, h)) in omega (arith, k)

guid_fits : (store guid : List ℕ) → length guid ≡ 16 → IsOctets guid → guid_file store guid ≤ 4294967294
guid_fits store guid l o = own_fits (is_own store guid) (number_at 8 guid) (number_fits 8 guid (omega (arith, l)) o)

instance_fits : (store id : List ℕ) → length id ≡ 16 → IsOctets id → instance_number store id ≤ 4294967294
instance_fits store id l o = own_fits (is_own store id && (number_at 8 id == 4294967295)) (number_at 12 id) (number_fits 12 id (omega (arith, l)) o)

instances_fit : (store : List ℕ) (rows : List InstRow) → AllByRecursion RowInRange rows → All (λ row. IsOctets row.id.0) rows → All (λ row. instance_number store row.id.0 ≤ 4294967294) rows
instances_fit store [] r o = All-nil (λ (row : InstRow). instance_number store row.id.0 ≤ 4294967294)
instances_fit store (row ∷ rows) r o =
    All-cons (λ (x : InstRow). instance_number store x.id.0 ≤ 4294967294) row rows
    (instance_fits store row.id.0 r.0.1 (All-head (λ (x : InstRow). IsOctets x.id.0) row rows o))
    (instances_fit store rows r.1 (All-tail (λ (x : InstRow). IsOctets x.id.0) row rows o))

target_fits : (m : MapMeaning) (file target : ℕ) (moved : List MapPlace) → FitsTarget m file target moved → target ≤ 4294967294
target_fits m file target [] f = omega (arith, f)
target_fits m file target (place ∷ moved) f = f.0.high

-- ---- one entry more

-- the highest file number and the highest instance number are in range
record AreOthers (file instance : ℕ) : Type 0 where
  file_high : file ≤ 4294967294
  instance_high : instance ≤ 4294967294

raised : (file instance n : ℕ) → file ≤ 4294967294 → instance ≤ 4294967294 → n ≤ 4294967294 → AreOthers (max file n) (max instance 0)
raised file instance n a b c = record { file_high = omega (arith, a, c); instance_high = omega (arith, b) }

others_more : (m : MapMeaning) (entry : MapEntry) → AreInRange m.highest → MapFits m entry → MapInRange entry → HasOctets entry → AreOthers (map_applied entry m).highest.file (map_applied entry m).highest.instance
others_more m (map.H h) a f r o =
    let p = a.file in
    let q = a.instance in
    let x = f.0.high in
    let y = f.2.high in
    record { file_high = omega (arith, p, x); instance_high = omega (arith, q, y) }
others_more m (map.B b g n) a f r o = raised _ _ 0 a.file a.instance (omega arith)
others_more m (map.G b g) a f r o = raised _ _ 0 a.file a.instance (omega arith)
others_more m (map.S origin count uid file offset size guid rows) a f r o =
    let ids : IsOctets (guid.0 ++ (to_be_bytes w16 (length rows) ++ flat_map instance_row_text rows)) =
    behind_five (83 ∷ origin ∷ to_be_bytes w16 count) (four uid.0) (four file.0) (four offset) (four size) (guid.0 ++ (to_be_bytes w16 (length rows) ++ flat_map instance_row_text rows)) o in
    let parts = split_octets guid.0 (to_be_bytes w16 (length rows) ++ flat_map instance_row_text rows) ids in
    let p = a.file in
    let q = a.instance in
    let x = f.region.file_number.high in
    let y = guid_fits m.store guid.0 r.6 parts.0 in
    let z = greatest_fits (λ (row : InstRow). instance_number m.store row.id.0) 4294967294 rows (instances_fit m.store rows r.8 (ids_octets rows (behind (to_be_bytes w16 (length rows)) (flat_map instance_row_text rows) parts.1))) in
    record { file_high = omega (arith, p, x, y); instance_high = omega (arith, q, z) }
others_more m (map.U u) a f r o = raised _ _ 0 a.file a.instance (omega arith)
others_more m (map.D us) a f r o = raised _ _ 0 a.file a.instance (omega arith)
others_more m (map.T cs) a f r o = raised _ _ 0 a.file a.instance (omega arith)
others_more m (map.P file target ms us) a f r o =
    let x = f.file_number.high in
    let y = target_fits m file.0 target ms f.target_fits in
    raised _ _ (max file.0 target) a.file a.instance (omega (arith, x, y))
others_more m (map.X b cs) a f r o = raised _ _ 0 a.file a.instance (omega arith)
others_more m (map.V b n) a f r o = raised _ _ 0 a.file a.instance (omega arith)
others_more m (map.E file) a f r o = raised _ _ file.0 a.file a.instance f.high

-- One entry more that fits, and whose text is octets, keeps the highest numbers in range.
pub highest_more : (m : MapMeaning) (entry : MapEntry) → IsSoundMap m → AreInRange m.highest → MapFits m entry → MapInRange entry → HasOctets entry → AreInRange (map_applied entry m).highest
highest_more m entry s a f r o =
    let others = others_more m entry a f r o in
    let sound = map_sound_more m entry s f r in
    record { file = others.file_high; map = sound.map_high; instance = others.instance_high; mailbox = sound.mailbox_high }

highest_from : (store : List ℕ) (before entries : List MapEntry) → IsSoundMap (map_meaning store before) → AreInRange (map_meaning store before).highest → AllMapFit store before entries → AllByRecursion MapInRange entries → AllByRecursion HasOctets entries
    → AreInRange (map_meaning store (before ++ entries)).highest
highest_from store before [] s a f r o = subst (λ (es : List MapEntry). AreInRange (map_meaning store es).highest) (sym (append-nil before)) a
highest_from store before (entry ∷ entries) s a f r o =
    let more = sym (map_more store before entry) in
    let sound : IsSoundMap (map_meaning store (before ++ entry ∷ [])) = subst IsSoundMap more (map_sound_more (map_meaning store before) entry s f.0 r.0) in
    let one : AreInRange (map_meaning store (before ++ entry ∷ [])).highest =
    subst (λ (m : MapMeaning). AreInRange m.highest) more (highest_more (map_meaning store before) entry s a f.0 r.0 o.0) in
    subst (λ (es : List MapEntry). AreInRange (map_meaning store es).highest) (append_assoc before (entry ∷ []) entries) (highest_from store (before ++ entry ∷ []) entries sound one f.1 r.1 o.1)

-- The highest numbers of entries that fit, and whose texts are octets, are in range.
pub highest_in_range : (store : List ℕ) (entries : List MapEntry) → AllMapFit store [] entries → AllByRecursion MapInRange entries → AllByRecursion HasOctets entries → AreInRange (map_meaning store entries).highest
highest_in_range store entries f r o =
    highest_from store [] entries (map_sound_empty store) (record { file = omega arith; map = omega arith; instance = omega arith; mailbox = omega arith }) f r o
