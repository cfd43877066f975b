-- What each change leaves of a table: its records in order, and the keys of its orders.
use Rattle.map_rows.proofs.Common.{AllPairs, ◌≡◌, ◌≢◌, ◌+◌, ◌<◌, ◌≤◌, ◌==◌, ◌++◌, ◌-◌, ℕ, Bool, true, false, cond, Option, Some, None, List, [], ◌∷◌, length, map, filter, find, All, refl, sym, ◌∙◌, ap, subst, inl, inr, arith, nat_tests, All-nil, All-weaker, AllPairs-filter, IsOctets, MapUid}
use Rattle.map_rows.proofs.Common.{MapPlace, pairs_nil, MapRecord, record_changed, has_map_uid, place_given, moved_record, IsApart, AgreesOn, OrderKey, Record, lowered_by, meant_record, guid_key, place_number, place_key, times, AreKeysOf, with_key, IsTableRow, LieApart, AreTableRows, AreIndexed}
use Rattle.map_rows.proofs.Common.{TableValue}
use Rattle.std.proofs.lemmas.List.Elements.{All-filter, All-push}
use Rattle.mdbox_base.specs.declared.entries.MapCount.{MapCount}
use Rattle.mdbox_base.specs.declared.entries.MapEntry.TheVariants as entry
use Rattle.model_octets.proofs.PairLemmas.{pairs_push, pairs_map, all_map}
use Rattle.map_rows.specs.Keys.{guid_number}
use Rattle.map_rows.specs.TableKept.{NameAlike, FitsBehind}
use Rattle.map_rows.proofs.KeyLemmas.{guid_only, place_only}
use Rattle.map_rows.proofs.LookupLemmas.{uid_only}
use Rattle.map_rows.proofs.NearLemmas.{none_found}
use Rattle.map_rows.proofs.MemberLemmas.{keys_added, keys_mapped, key_missing, equal_is}

equal : (a b : ℕ) → a ≡ b → (a == b) ≡ true
equal a b h = grind (arith, nat_tests, h)

unequal : (a b : ℕ) → a ≢ b → (a == b) ≡ false
unequal a b h = grind (arith, nat_tests, h)

-- ---- no records

pub empty_indexed : AreIndexed [] [] []
empty_indexed = record {
  kept = record {
    rising = pairs_nil (λ a b. a.uid < b.uid);
    each = All-nil IsTableRow;
    guids = pairs_nil (λ a b. a.guid ≢ b.guid);
    apart = pairs_nil LieApart;
    alike = pairs_nil NameAlike;
  };
  by_guid = λ p. refl;
  by_place = λ p. refl;
}

-- ---- a record that is added

new_guid : (rows : List MapRecord) (r : MapRecord) → All IsTableRow rows → All (λ other. other.guid ≢ r.guid) rows → length r.guid ≡ 16 → IsOctets r.guid → find (λ x. guid_number x.guid == guid_number r.guid) rows ≡ None
new_guid rows r each new long octets =
    none_found (λ x. guid_number x.guid == guid_number r.guid) rows
    (λ i d lt. differs _ (each i d lt) (new i d lt))
  where
    differs : (x : MapRecord) → IsTableRow x → x.guid ≢ r.guid → (guid_number x.guid == guid_number r.guid) ≡ false
    differs x row apart = unequal (guid_number x.guid) (guid_number r.guid) (λ e. apart (guid_only x.guid r.guid row.guid row.octets long octets e))

-- no record begins where a free region does
new_place : (rows : List MapRecord) (file offset size : ℕ) → All IsTableRow rows → All (λ other. other.file ≡ file → IsApart offset size other) rows → 1 ≤ size → offset < 4294967296 → find (λ x. place_number x.file x.offset == place_number file offset) rows ≡ None
new_place rows file offset size each free some fits =
    none_found (λ x. place_number x.file x.offset == place_number file offset) rows
    (λ i d lt. differs _ (each i d lt) (free i d lt))
  where
    overlaps : (x : MapRecord) → IsTableRow x → x.offset ≡ offset → IsApart offset size x → ⊥
    overlaps x row e (inl l) = omega (arith, e, l, some)
    overlaps x row e (inr l) = let more = row.some in omega (arith, e, l, more)

    differs : (x : MapRecord) → IsTableRow x → (x.file ≡ file → IsApart offset size x) → (place_number x.file x.offset == place_number file offset) ≡ false
    differs x row apart =
        let ends = row.ends in
        let more = row.some in
        unequal (place_number x.file x.offset) (place_number file offset) (λ e.
        let same = place_only x.file x.offset file offset (omega (arith, ends, more)) fits e in
        overlaps x row same.1 (apart same.0))

pub guid_key_new : (rows : List MapRecord) (keys : List OrderKey) (r : MapRecord) → AreTableRows rows → AreKeysOf guid_key keys rows → FitsBehind rows r → length r.guid ≡ 16 → IsOctets r.guid → find (λ k. k.number == guid_number r.guid) keys ≡ None
guid_key_new rows keys r kept are fits long octets = key_missing guid_key keys rows (guid_number r.guid) are (new_guid rows r kept.each fits.guid_new long octets)

pub place_key_new : (rows : List MapRecord) (keys : List OrderKey) (r : MapRecord) → AreTableRows rows → AreKeysOf place_key keys rows → FitsBehind rows r → find (λ k. k.number == place_number r.file r.offset) keys ≡ None
place_key_new rows keys r kept are fits =
    let ends = fits.ends in
    let some = fits.some in
    key_missing place_key keys rows (place_number r.file r.offset) are (new_place rows r.file r.offset r.size kept.each fits.free some (omega (arith, ends, some)))

apart_turned : (a b : MapRecord) → (a.file ≡ b.file → IsApart b.offset b.size a) → LieApart a b
apart_turned a b h same = turn (h same)
  where
    turn : IsApart b.offset b.size a → IsApart a.offset a.size b
    turn (inl l) = inr l
    turn (inr l) = inl l

pub added_rows : (rows : List MapRecord) (r : MapRecord) → AreTableRows rows → FitsBehind rows r → length r.guid ≡ 16 → IsOctets r.guid → AreTableRows (rows ++ r ∷ [])
added_rows rows r kept fits long octets = record {
  rising = pairs_push (λ a b. a.uid < b.uid) rows r kept.rising fits.uid_new;
  each = All-push IsTableRow rows r kept.each (record { some = fits.some; ends = fits.ends; guid = long; octets = octets; agree = fits.earlier });
  guids = pairs_push (λ a b. a.guid ≢ b.guid) rows r kept.guids fits.guid_new;
  apart = pairs_push LieApart rows r kept.apart (All-weaker (λ other. other.file ≡ r.file → IsApart r.offset r.size other) (λ other. LieApart other r) (λ other h. apart_turned other r h) rows fits.free);
  alike = pairs_push NameAlike rows r kept.alike fits.known;
}

pub added_indexed : (rows : List MapRecord) (guids places : List OrderKey) (r : MapRecord) → AreIndexed rows guids places → FitsBehind rows r → length r.guid ≡ 16 → IsOctets r.guid → AreIndexed (rows ++ r ∷ []) (with_key (guid_key r) guids) (with_key (place_key r) places)
added_indexed rows guids places r are fits long octets = record {
  kept = added_rows rows r are.kept fits long octets;
  by_guid = keys_added guid_key guids rows r are.by_guid (guid_key_new rows guids r are.kept are.by_guid fits long octets);
  by_place = keys_added place_key places rows r are.by_place (place_key_new rows places r are.kept are.by_place fits);
}

-- ---- counts that change

-- what changes nothing of a record but its count
abbrev pub ChangesCount : (MapRecord → MapRecord) → Type 0
ChangesCount change = (r : MapRecord) → change r ≡ record r { count = (change r).count }

kept_pair : (R : MapRecord → MapRecord → Type 0) → ((a b : MapRecord) (m n : ℕ) → R a b → R (record a { count = m }) (record b { count = n })) → (change : MapRecord → MapRecord) → ChangesCount change → (a b : MapRecord) → R a b → R (change a) (change b)
kept_pair R free change only a b h = subst (λ x. R (change a) x) (sym (only b)) (subst (λ x. R x (record b { count = (change b).count })) (sym (only a)) (free a b (change a).count (change b).count h))

counted_row : (change : MapRecord → MapRecord) → ChangesCount change → (r : MapRecord) → IsTableRow r → IsTableRow (change r)
counted_row change only r row = subst IsTableRow (sym (only r)) (record { some = row.some; ends = row.ends; guid = row.guid; octets = row.octets; agree = row.agree })

counted_rows : (change : MapRecord → MapRecord) → ChangesCount change → (rows : List MapRecord) → AreTableRows rows → AreTableRows (map change rows)
counted_rows change only rows kept = record {
  rising = pairs_map (λ a b. a.uid < b.uid) (λ a b. a.uid < b.uid) change (kept_pair (λ a b. a.uid < b.uid) (λ a b m n h. h) change only) rows kept.rising;
  each = all_map IsTableRow IsTableRow change (counted_row change only) rows kept.each;
  guids = pairs_map (λ a b. a.guid ≢ b.guid) (λ a b. a.guid ≢ b.guid) change (kept_pair (λ a b. a.guid ≢ b.guid) (λ a b m n h. h) change only) rows kept.guids;
  apart = pairs_map LieApart LieApart change (kept_pair LieApart (λ a b m n h. h) change only) rows kept.apart;
  alike = pairs_map NameAlike NameAlike change (kept_pair NameAlike (λ a b m n h. h) change only) rows kept.alike;
}

pub counted_indexed : (change : MapRecord → MapRecord) → ChangesCount change → (rows : List MapRecord) (guids places : List OrderKey) → AreIndexed rows guids places → AreIndexed (map change rows) guids places
counted_indexed change only rows guids places are = record {
  kept = counted_rows change only rows are.kept;
  by_guid = keys_mapped guid_key guid_key change guids rows (λ r. ap guid_key (only r)) are.by_guid;
  by_place = keys_mapped place_key place_key change places rows (λ r. ap place_key (only r)) are.by_place;
}

counts_chosen : (b : Bool) (n : ℕ) (r : MapRecord) → cond b (record r { count = n }) r ≡ record r { count = (cond b (record r { count = n }) r).count }
counts_chosen true n r = refl
counts_chosen false n r = refl

pub raises_count : (uid : MapUid) → ChangesCount (record_changed (entry.U uid))
raises_count uid r = counts_chosen (uid.0 == r.uid) (r.count + 1) r

pub lowers_count : (uids : List MapUid) → ChangesCount (record_changed (entry.D uids))
lowers_count uids r = counts_chosen (has_map_uid r.uid uids) (r.count - 1) r

pub sets_count : (counts : List MapCount) → ChangesCount (record_changed (entry.T counts))
sets_count counts r = refl

pub lowers_by_count : (counts : List MapCount) → ChangesCount (lowered_by counts)
lowers_by_count counts r = refl

-- ---- records that are dropped

pub filtered_rows : (p : MapRecord → Bool) (rows : List MapRecord) → AreTableRows rows → AreTableRows (filter p rows)
filtered_rows p rows kept = record {
  rising = AllPairs-filter (λ a b. a.uid < b.uid) p rows kept.rising;
  each = All-filter p IsTableRow rows kept.each;
  guids = AllPairs-filter (λ a b. a.guid ≢ b.guid) p rows kept.guids;
  apart = AllPairs-filter LieApart p rows kept.apart;
  alike = AllPairs-filter NameAlike p rows kept.alike;
}

-- ---- a record that is moved

abbrev moves : ℕ → MapPlace → MapRecord → MapRecord
moves target given r = moved_record r target (place_given r.uid (given ∷ []))

-- what holds of each record before the move
pub record IsBeforeMove (target : ℕ) (given : MapPlace) (r x : MapRecord) : Type 0 where
  pub row : IsTableRow x
  pub only : (x.uid == given.uid.0) ≡ true → x ≡ r
  pub free : x.file ≡ target → IsApart given.offset r.size x

pub before_move : (rows : List MapRecord) (target : ℕ) (given : MapPlace) (r : MapRecord) → AreTableRows rows → find (λ x. x.uid == given.uid.0) rows ≡ Some r → All (λ x. x.file ≡ target → IsApart given.offset r.size x) rows → All (IsBeforeMove target given r) rows
before_move rows target given r kept e free =
    let only = uid_only rows given.uid.0 r kept.rising e in
    λ i d lt. record { row = kept.each i d lt; only = only i d lt; free = free i d lt }

pub uid_stays : (target : ℕ) (o : Option MapPlace) (r : MapRecord) → (moved_record r target o).uid ≡ r.uid
uid_stays target None r = refl
uid_stays target (Some place) r = refl

guid_stays : (target : ℕ) (o : Option MapPlace) (r : MapRecord) → (moved_record r target o).guid ≡ r.guid
guid_stays target None r = refl
guid_stays target (Some place) r = refl

pub names_stay : (target : ℕ) (o : Option MapPlace) (r : MapRecord) → (moved_record r target o).instances ≡ r.instances
names_stay target None r = refl
names_stay target (Some place) r = refl

moved_row : (target : ℕ) (given : MapPlace) (r x : MapRecord) (b : Bool) → given.offset + r.size ≤ 4294967295 → (given.uid.0 == x.uid) ≡ b → IsBeforeMove target given r x → IsTableRow (moved_record x target (cond b (Some given) None))
moved_row target given r x true ends h before =
    let same = before.only (equal x.uid given.uid.0 (sym (equal_is given.uid.0 x.uid h))) in
    let row = before.row in
    let size : x.size ≡ r.size = ap (λ (y : MapRecord). y.size) same in
    record { some = row.some; ends = omega (arith, size, ends); guid = row.guid; octets = row.octets; agree = row.agree }
moved_row target given r x false ends h before = before.row

-- two records, of which the first has the lesser map uid
record ArePair (target : ℕ) (given : MapPlace) (r a b : MapRecord) : Type 0 where
  pub rising : a.uid < b.uid
  pub apart : LieApart a b
  pub first : IsBeforeMove target given r a
  pub second : IsBeforeMove target given r b

still_apart : (target : ℕ) (given : MapPlace) (r a b : MapRecord) (f g : Bool) → (given.uid.0 == a.uid) ≡ f → (given.uid.0 == b.uid) ≡ g → ArePair target given r a b → LieApart (moved_record a target (cond f (Some given) None)) (moved_record b target (cond g (Some given) None))
still_apart target given r a b true true hf hg pair = absurd (let l = pair.rising in let p = equal_is given.uid.0 a.uid hf in let q = equal_is given.uid.0 b.uid hg in omega (arith, l, p, q))
still_apart target given r a b true false hf hg pair =
    λ same. subst (λ (n : ℕ). IsApart given.offset n b) (sym (ap (λ (y : MapRecord). y.size) (pair.first.only (equal a.uid given.uid.0 (sym (equal_is given.uid.0 a.uid hf)))))) (pair.second.free (sym same))
still_apart target given r a b false true hf hg pair =
    λ same. turn (subst (λ (n : ℕ). IsApart given.offset n a) (sym (ap (λ (y : MapRecord). y.size) (pair.second.only (equal b.uid given.uid.0 (sym (equal_is given.uid.0 b.uid hg)))))) (pair.first.free same))
  where
    turn : IsApart given.offset b.size a → IsApart a.offset a.size (record b { file = target; offset = given.offset })
    turn (inl l) = inr l
    turn (inr l) = inl l
still_apart target given r a b false false hf hg pair = pair.apart

pub moved_rows : (rows : List MapRecord) (target : ℕ) (given : MapPlace) (r : MapRecord) → AreTableRows rows → given.offset + r.size ≤ 4294967295 → All (IsBeforeMove target given r) rows → AreTableRows (map (moves target given) rows)
moved_rows rows target given r kept ends before = record {
  rising = pairs_map (λ a b. a.uid < b.uid) (λ a b. a.uid < b.uid) (moves target given) (λ a b l. let p = uid_stays target (place_given a.uid (given ∷ [])) a in let q = uid_stays target (place_given b.uid (given ∷ [])) b in omega (arith, p, q, l)) rows kept.rising;
  each = all_map (IsBeforeMove target given r) IsTableRow (moves target given) (λ x h. moved_row target given r x (given.uid.0 == x.uid) ends refl h) rows before;
  guids = pairs_map (λ a b. a.guid ≢ b.guid) (λ a b. a.guid ≢ b.guid) (moves target given) (λ a b h e. h (sym (guid_stays target (place_given a.uid (given ∷ [])) a) ∙ e ∙ guid_stays target (place_given b.uid (given ∷ [])) b)) rows kept.guids;
  apart = pairs_map (ArePair target given r) LieApart (moves target given) (λ a b h. still_apart target given r a b (given.uid.0 == a.uid) (given.uid.0 == b.uid) refl refl h) rows pairs;
  alike = pairs_map NameAlike NameAlike (moves target given) (λ a b h. alike a b (names_stay target (place_given a.uid (given ∷ [])) a) (names_stay target (place_given b.uid (given ∷ [])) b) h) rows kept.alike;
}
  where
    pairs : AllPairs (ArePair target given r) rows
    pairs i j d lt le = record { rising = kept.rising i j d lt le; apart = kept.apart i j d lt le; first = before i d (omega (arith, lt, le)); second = before j d le }

    alike : (a b : MapRecord) → (moves target given a).instances ≡ a.instances → (moves target given b).instances ≡ b.instances → NameAlike a b → NameAlike (moves target given a) (moves target given b)
    alike a b p q h = subst (λ (is : List _). All (λ i. All (AgreesOn i) (moves target given a).instances) is) (sym q) (subst (λ (is : List _). All (λ i. All (AgreesOn i) is) b.instances) (sym p) h)

-- counts of what is changed
pub times-map : {X Y : Type 0} → (p : Y → Bool) (f : X → Y) (xs : List X) → times p (map f xs) ≡ times (λ x. p (f x)) xs
times-map p f [] = refl
times-map p f (x ∷ xs) = ap (λ (n : ℕ). cond (p (f x)) (1 + n) n) (times-map p f xs)

pub times_same : {X : Type 0} → (p q : X → Bool) → ((x : X) → p x ≡ q x) → (xs : List X) → times p xs ≡ times q xs
times_same p q same [] = refl
times_same p q same (x ∷ xs) = let h = same x in let t = times_same p q same xs in cc (h, t)

pub guid_key_stays : (target : ℕ) (o : Option MapPlace) (r : MapRecord) → guid_key (moved_record r target o) ≡ guid_key r
guid_key_stays target None r = refl
guid_key_stays target (Some place) r = refl

-- ---- for the calls

pub same_indexed : (rows rows' : List MapRecord) (guids guids' places places' : List OrderKey) → rows ≡ rows' → guids ≡ guids' → places ≡ places' → AreIndexed rows' guids' places' → AreIndexed rows guids places
same_indexed rows rows' guids guids' places places' p q r are =
    subst (λ (xs : List MapRecord). AreIndexed xs guids places) (sym p) (subst (λ (xs : List OrderKey). AreIndexed rows' xs places) (sym q) (subst (λ (xs : List OrderKey). AreIndexed rows' guids' xs) (sym r) are))

pub mapped_push : (records : List Record) (r : Record) → map meant_record (records ++ r ∷ []) ≡ map meant_record records ++ meant_record r ∷ []
mapped_push [] r = refl
mapped_push (x ∷ records) r = ap (λ (rows : List MapRecord). meant_record x ∷ rows) (mapped_push records r)

abbrev of_table : List MapRecord → ℕ → ℕ → TableValue
of_table records room instances = record { records = records; record_room = room; instance_room = instances }

pub same_table : (rs ss : List MapRecord) (a b c d : ℕ) → rs ≡ ss → a ≡ b → c ≡ d → of_table rs a c ≡ of_table ss b d
same_table rs ss a b c d p q r = cc (p, q, r)
