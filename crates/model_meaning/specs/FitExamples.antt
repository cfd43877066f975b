-- Which entries fit behind the map log of the example.
use Rattle.std.specs.Prelude.{◌≡◌, ◌≢◌, ◌<◌, ◌≤◌, ◌+◌, ℕ, zero, suc, true, false, slice_index, List, [], ◌∷◌, ◌++◌, Option, Some, None, All, ◌⊎◌, refl}
use Rattle.std.proofs.Common.{ap, arith, lit≤, inl, inr}
use Rattle.std.proofs.lemmas.List.Elements.{All-nil, All-cons, All-head}
use Rattle.std.proofs.lemmas.List.Kept.{AllPairs-cons}
use Rattle.mdbox_base.specs.declared.ids.MapUid.{MapUid}
use Rattle.mdbox_base.specs.declared.entries.MapPlace.{MapPlace}
use Rattle.mdbox_base.specs.declared.entries.MapEntry.{MapEntry}
use Rattle.mdbox_base.specs.declared.entries.MapEntry.TheVariants as map
use Rattle.model_meaning.specs.MapMeaning.{MapRecord, MapMeaning, map_meaning}
use Rattle.model_meaning.specs.MapFits.{AgreesOn, ArePlacedApart, FitsPlace, HasRecord, IsApart, IsFree, IsMovedOrDropped, MapFits}
use Rattle.mdbox_base.specs.Words.{IsNumber}
use Rattle.model_octets.proofs.PairLemmas.{pairs_nil}
use Rattle.model_logs.specs.LogExamples.{example_store}
use Rattle.model_meaning.specs.MeaningExamples.{example_guid, example_map, example_stored}

abbrev pub example_meaning : MapMeaning
example_meaning = map_meaning example_store example_map

abbrev pub first : MapUid
first = record { 0 = 1 }

example_record : MapRecord
example_record = record { uid = 1; origin = 0; count = 1; file = 1; offset = 16; size = 89; guid = example_guid; instances = [] }

-- the record's count can be raised and lowered
pub raise_fits : MapFits example_meaning (map.U first)
unfolding example_record
raise_fits = (example_record, refl, (lit≤ tt, lit≤ tt))

pub lower_fits : MapFits example_meaning (map.D (first ∷ []))
unfolding example_record
lower_fits = ((λ k lt. absurd (omega (arith, lt))), All-cons (λ (u : MapUid). HasRecord example_meaning u.0 (λ row. 1 ≤ row.count)) first [] (example_record, refl, lit≤ tt) (All-nil _))

-- not below 0
pub lowered_stays : MapFits (map_meaning example_store (example_map ++ map.D (first ∷ []) ∷ [])) (map.D (first ∷ [])) → ⊥
lowered_stays (rising, counts) =
    let h = All-head (λ (u : MapUid). HasRecord (map_meaning example_store (example_map ++ map.D (first ∷ []) ∷ [])) u.0 (λ row. 1 ≤ row.count)) first [] counts in
    let e : 0 ≡ h.0.count = ap count_in h.1 in
    let k = h.2 in
    omega (arith, e, k)
  where
    count_in : Option MapRecord → ℕ
    count_in None = 0
    count_in (Some row) = row.count

-- the same message can't be stored again
pub stored_once : MapFits example_meaning example_stored → ⊥
stored_once f = let h = f.uid_new in omega (arith, h)

-- empty lists fit
pub nothing_lowered : MapFits example_meaning (map.D [])
nothing_lowered = ((λ k lt. absurd (omega (arith, lt))), All-nil _)

pub nothing_counted : MapFits example_meaning (map.T [])
nothing_counted = ((λ k lt. absurd (omega (arith, lt))), All-nil _)

-- ---- a second message

abbrev pub second : MapUid
second = record { 0 = 2 }

-- the store's id, file 1, offset 105
abbrev pub other_guid : List ℕ
other_guid = example_store ++ (0 ∷ 0 ∷ 0 ∷ 1 ∷ 0 ∷ 0 ∷ 0 ∷ 0x69 ∷ [])

-- a region of file 1 with this GUID, from this offset on
abbrev pub other_stored : ℕ → List ℕ → MapEntry
other_stored offset guid = map.S 0 1 second (record { 0 = 1 }) offset 0x59 (record { 0 = guid }) []

-- directly behind the first it can be stored
number_two : IsNumber 2
number_two = record { low = lit≤ tt; high = lit≤ tt }

number_one : IsNumber 1
number_one = record { low = lit≤ tt; high = lit≤ tt }

pub other_fits : MapFits example_meaning (other_stored 0x69 other_guid)
unfolding example_record
other_fits = record {
  known_origin = lit≤ tt;
  uid_number = number_two;
  uid_new = lit≤ tt;
  region = record {
    file_number = number_one;
    some = lit≤ tt;
    ends = lit≤ tt;
    free = All-cons (λ (row : MapRecord). row.file ≡ 1 → IsApart 0x69 0x59 row) example_record [] (λ e. inr (lit≤ tt)) (All-nil _);
  };
  guid_new = All-cons (λ (row : MapRecord). row.guid ≢ other_guid) example_record [] (λ e. absurd (cc e)) (All-nil _);
  known = All-cons (λ (row : MapRecord). All (λ i. All (AgreesOn i) row.instances) []) example_record [] (All-nil _) (All-nil _);
  earlier = pairs_nil AgreesOn;
}

-- not over the first, and not with its GUID
pub overlapping_stays : MapFits example_meaning (other_stored 0x20 other_guid) → ⊥
unfolding example_record
overlapping_stays f = by_place (f.region.free 0 example_record (lit≤ tt) refl)
  where
    by_place : (0x20 + 0x59 ≤ 0x10) ⊎ (0x10 + 0x59 ≤ 0x20) → ⊥
    by_place (inl h) = omega (arith, h)
    by_place (inr h) = omega (arith, h)

pub same_guid_stays : MapFits example_meaning (other_stored 0x69 example_guid) → ⊥
unfolding example_record
same_guid_stays f = f.guid_new 0 example_record (lit≤ tt) refl

-- ---- a purge of the file with both

abbrev pub two_stored : MapMeaning
two_stored = map_meaning example_store (example_map ++ other_stored 0x69 other_guid ∷ [])

abbrev pub first_place : MapPlace
first_place = record { uid = first; offset = 0x10 }

abbrev pub second_place : MapPlace
second_place = record { uid = second; offset = 0x69 }

abbrev pub purge : List MapPlace → MapEntry
purge moved = map.P (record { 0 = 1 }) 2 moved []

other_record : MapRecord
other_record = record { uid = 2; origin = 0; count = 1; file = 1; offset = 0x69; size = 0x59; guid = other_guid; instances = [] }

abbrev HasFile : MapPlace → Type 0
HasFile p = HasRecord two_stored p.uid.0 (λ row. row.file ≡ 1)

abbrev IsPurged : MapRecord → Type 0
IsPurged row = row.file ≡ 1 → IsMovedOrDropped (first_place ∷ second_place ∷ []) [] row

abbrev IsApartIn : ℕ → MapRecord → Type 0
IsApartIn offset row = row.file ≡ 2 → IsApart offset 0x59 row

elsewhere : (offset : ℕ) → IsFree two_stored 2 offset 0x59
unfolding example_record other_record
elsewhere offset =
    All-cons (IsApartIn offset) example_record (other_record ∷ []) (λ e. absurd (omega (arith, e))) (All-cons (IsApartIn offset) other_record [] (λ e. absurd (omega (arith, e))) (All-nil _))

one_two : (k : ℕ) → k + 1 < 2 → slice_index (1 ∷ 2 ∷ []) k < slice_index (1 ∷ 2 ∷ []) (k + 1)
one_two zero h = lit≤ tt
one_two (suc k) h = absurd (omega (arith, h))

-- a purge can move both
pub whole_fits : MapFits two_stored (purge (first_place ∷ second_place ∷ []))
unfolding example_record other_record
whole_fits = record {
  file_number = number_one;
  moved_rising = one_two;
  dropped_rising = λ k lt. absurd (omega (arith, lt));
  moved_here = All-cons HasFile first_place (second_place ∷ []) (example_record, refl, refl) (All-cons HasFile second_place [] (other_record, refl, refl) (All-nil _));
  dropped_here = All-nil _;
  each = All-cons IsPurged example_record (other_record ∷ []) (λ e. refl) (All-cons IsPurged other_record [] (λ e. refl) (All-nil _));
  target_fits = (
    number_two,
    λ e. omega (arith, e),
    All-cons (FitsPlace two_stored 2) first_place (second_place ∷ []) (example_record, refl, (lit≤ tt, elsewhere 0x10))
        (All-cons (FitsPlace two_stored 2) second_place [] (other_record, refl, (lit≤ tt, elsewhere 0x69)) (All-nil _)),
    AllPairs-cons (ArePlacedApart two_stored) first_place (second_place ∷ []) (All-cons (ArePlacedApart two_stored first_place) second_place [] (inl (lit≤ tt)) (All-nil _))
        (AllPairs-cons (ArePlacedApart two_stored) second_place [] (All-nil _) (pairs_nil (ArePlacedApart two_stored))),
  );
}

-- a purge moves or drops each record of its file
pub part_stays : MapFits two_stored (purge (first_place ∷ [])) → ⊥
unfolding example_record
part_stays f = let h : false ≡ true = f.each 1 example_record (lit≤ tt) refl in cc h

-- ---- counts at their ends

abbrev pub example_counted : ℕ → MapMeaning
example_counted n = map_meaning example_store (example_map ++ map.T (record { uid = first; count = n } ∷ []) ∷ [])

count_in : Option MapRecord → ℕ
count_in None = 0
count_in (Some row) = row.count

pub full_stays : MapFits (example_counted 65535) (map.U first) → ⊥
unfolding count_in
full_stays f =
    let e : 65535 ≡ f.0.count = ap count_in f.1 in
    let k = f.2.1 in
    omega (arith, e, k)

pub none_stays : MapFits (example_counted 0) (map.U first) → ⊥
unfolding count_in
none_stays f =
    let e : 0 ≡ f.0.count = ap count_in f.1 in
    let k = f.2.0 in
    omega (arith, e, k)
