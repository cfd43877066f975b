-- One entry more in the map log that moves and drops the records of a file.
use Rattle.model_appends.proofs.Common.{◌≡◌, ◌≤◌, ◌<◌, ◌==◌, ℕ, Bool, true, false, not, cond, List, [], ◌∷◌, ◌++◌, take, drop, map, filter, find, flat_map, Option, Some, None, All, Contains, refl, option_map_or, bytes_eq, sym, ◌∙◌, subst, ap, arith, inl, inr, false≢true, All-nil, All-cons, All-head}
use Rattle.model_appends.proofs.Common.{All-tail, All-append, All-contains, All-contains_itself, Files, DiskState, FileNo, MapUid, InstRow, MapEntry, Lists, refs_of, MapInRange, each_more, map_fit_more, map_more, equal_is, map_sound, MapFits, MapRecord, MapBox, MapMeaning, map_meaning, record_rules}
use Rattle.model_appends.proofs.Common.{record_changed, record_at, record_of, count_of, has_map_uid, IsSoundMap, found_one, text_is, at_uid, count_is, LiesInFile, IsThereWhole, SafeBy, files_of, HasSameRegion, HasSameInstance, AreAlike, IsSettled, StoresMessage, NamesOwn, NamesAny, StoredOnce}
use Rattle.model_appends.proofs.Common.{AreMailboxes, IsMapStep, LeavesAlike}
use Rattle.std.specs.Prelude.{◌||◌}
use Rattle.std.proofs.Common.{◌⊎◌}
use Rattle.std.proofs.lemmas.Bool.{cases_lt}
use Rattle.disk_model.specs.declared.name.FileName.TheVariants as file
use Rattle.mdbox_base.specs.declared.entries.MapEntry.TheVariants as entry
use Rattle.mdbox_base.specs.declared.entries.MapPlace.{MapPlace}
use Rattle.model_attach.specs.Detached.{AreDetached}
use Rattle.model_meaning.proofs.AppliedLemmas.{records_by_purged, boxes_by_purged}
use Rattle.model_meaning.proofs.KeptRowLemmas.{kept_all}
use Rattle.model_meaning.proofs.MapPlaceLemmas.{IsSameMessage, changed_same}
use Rattle.model_meaning.specs.MapFits.{HasRecord}
use Rattle.model_meaning.specs.MapMeaning.{record_dropped, place_given, moved_record}
use Rattle.model_storage.specs.StorageFile.{IsMessage}
use Rattle.model_store.specs.Stands.{HoldsMessage}
use Rattle.model_appends.proofs.AppendMapLemmas.{mailboxes_still}
use Rattle.model_appends.specs.MapAppending.{IsMapAppend, IsCopiedTo, AreCopied, AreCopiesSynced}

some_same : {X : Type 0} → (o : Option X) (a b : X) → o ≡ Some a → o ≡ Some b → a ≡ b
some_same o a b p q = let h : Some a ≡ Some b = sym p ∙ q in cc h

-- ---- a message that is moved

unfoldable message_moved : (a : Files) (target offset : ℕ) (row : MapRecord) → IsCopiedTo a target offset row → HoldsMessage a row → HoldsMessage a (record row { file = target; offset = offset })
message_moved a target offset row c h =
    let e : h.octets_there ≡ c.first = some_same (a (file.Mail row.file)) h.octets_there c.first h.there c.in_first in
    record {
      octets_there = c.second;
      message = h.message;
      meta = h.meta;
      there = c.in_second;
      inside = c.second_holds;
      region = subst (λ (o : List ℕ). IsMessage o h.message) (sym c.same) (subst (λ (o : List ℕ). IsMessage (take row.size (drop row.offset o)) h.message) e h.region);
      says = h.says;
      guid = h.guid;
    }

unfoldable message_unmoved : (a : Files) (target offset : ℕ) (row : MapRecord) → IsCopiedTo a target offset row → HoldsMessage a (record row { file = target; offset = offset }) → HoldsMessage a row
message_unmoved a target offset row c h =
    let e : h.octets_there ≡ c.second = some_same (a (file.Mail target)) h.octets_there c.second h.there c.in_second in
    record {
      octets_there = c.first;
      message = h.message;
      meta = h.meta;
      there = c.in_first;
      inside = c.first_holds;
      region = subst (λ (o : List ℕ). IsMessage o h.message) c.same (subst (λ (o : List ℕ). IsMessage (take row.size (drop offset o)) h.message) e h.region);
      says = h.says;
      guid = h.guid;
    }

-- a record, where it is placed, stores what it stored
text_placed : (a : Files) (target : ℕ) (row : MapRecord) (o : Option MapPlace) (octets : List ℕ) → ((place : MapPlace) → o ≡ Some place → IsCopiedTo a target place.offset row) → StoresMessage a row octets → StoresMessage a (moved_record row target o) octets
unfolding message_moved
text_placed a target row None octets c k = k
text_placed a target row (Some place) octets c k = record { stored = message_moved a target place.offset row (c place refl) k.stored; instances = k.instances; names = k.names; found = k.found; whole = k.whole; size = k.size }

-- and what it stores there in its detached form it stored so
detached_placed : (a : Files) (target : ℕ) (row : MapRecord) (o : Option MapPlace) → ((place : MapPlace) → o ≡ Some place → IsCopiedTo a target place.offset row)
    → ((octets : List ℕ) → (kept : StoresMessage a row octets) → AreDetached octets kept.stored.message.body kept.stored.meta.refs kept.instances)
    → (octets : List ℕ) → (kept : StoresMessage a (moved_record row target o) octets) → AreDetached octets kept.stored.message.body kept.stored.meta.refs kept.instances
unfolding message_unmoved
detached_placed a target row None c h octets k = h octets k
detached_placed a target row (Some place) c h octets k =
    h octets (record { stored = message_unmoved a target place.offset row (c place refl) k.stored; instances = k.instances; names = k.names; found = k.found; whole = k.whole; size = k.size })

pub placed_count : (row : MapRecord) (target : ℕ) (o : Option MapPlace) → (moved_record row target o).count ≡ row.count
placed_count row target None = refl
placed_count row target (Some place) = refl

pub lies_placed : (a : Files) (target : ℕ) (row : MapRecord) (o : Option MapPlace) → ((place : MapPlace) → o ≡ Some place → IsCopiedTo a target place.offset row) → LiesInFile a row → LiesInFile a (moved_record row target o)
lies_placed a target row None c h = h
lies_placed a target row (Some place) c h = record { octets = (c place refl).second; there = (c place refl).in_second; inside = (c place refl).second_holds }

-- ---- the records

-- the copy of a record that is placed
pub place_found : (m : MapMeaning) (P : MapPlace → MapRecord → Type 0) (moved : List MapPlace) (row : MapRecord) → IsSoundMap m → Contains m.records row → All (λ place. HasRecord m place.uid.0 (P place)) moved → (place : MapPlace) → place_given row.uid moved ≡ Some place → P place row
place_found m P moved row sound c all place given =
    let one = found_one (λ (p : MapPlace). p.uid.0 == row.uid) moved place given in
    let has = All-contains (λ (p : MapPlace). HasRecord m p.uid.0 (P p)) moved place all one.0 in
    let uid : place.uid.0 ≡ row.uid = equal_is place.uid.0 row.uid one.1 in
    let same : has.0 ≡ row = some_same (record_at m row.uid) has.0 row (subst (λ (u : ℕ). record_at m u ≡ Some has.0) uid has.1) (at_uid m row sound c) in
    subst (P place) same has.2

-- a record that is referred to isn't dropped
not_dropped : (m : MapMeaning) (file_no : ℕ) (uids : List MapUid) (row : MapRecord) → record_at m row.uid ≡ Some row → 1 ≤ row.count → All (λ u. HasRecord m u.0 (λ r. (r.file ≡ file_no) × (r.count ≡ 0))) uids → has_map_uid row.uid uids ≡ false
not_dropped m file_no [] row found some all = refl
not_dropped m file_no (u ∷ us) row found some all = by_test (u.0 == row.uid) refl (not_dropped m file_no us row found some (All-tail (λ (u : MapUid). HasRecord m u.0 (λ r. (r.file ≡ file_no) × (r.count ≡ 0))) u us all))
  where
    by_test : (t : Bool) → (u.0 == row.uid) ≡ t → has_map_uid row.uid us ≡ false → (t || has_map_uid row.uid us) ≡ false
    by_test false is rest = rest
    by_test true is rest =
        let has = All-head (λ (u : MapUid). HasRecord m u.0 (λ r. (r.file ≡ file_no) × (r.count ≡ 0))) u us all in
        let same : has.0 ≡ row = some_same (record_at m row.uid) has.0 row (subst (λ (n : ℕ). record_at m n ≡ Some has.0) (equal_is u.0 row.uid is) has.1) found in
        let none : has.0.count ≡ 0 = has.2.1 in
        let count : has.0.count ≡ row.count = ap (λ (r : MapRecord). r.count) same in
        absurd (omega (arith, none, count, some))

find_kept : (p q : MapRecord → Bool) (rows : List MapRecord) (row : MapRecord) → find p rows ≡ Some row → q row ≡ true → find p (filter q rows) ≡ Some row
find_kept p q [] row h k = absurd (cc (let e : None ≡ Some row = h in e))
find_kept p q (x ∷ xs) row h k = by_test (p x) (q x) refl refl h (λ e. find_kept p q xs row e k)
  where
    by_test : (s t : Bool) → p x ≡ s → q x ≡ t → cond s (Some x) (find p xs) ≡ Some row → (find p xs ≡ Some row → find p (filter q xs) ≡ Some row) → find p (cond t (x ∷ filter q xs) (filter q xs)) ≡ Some row
    by_test true true ps qs e rest = ap (λ (b : Bool). cond b (Some x) (find p (filter q xs))) ps ∙ e
    by_test true false ps qs e rest =
        let f : Some x ≡ Some row = e in
        let same : x ≡ row = cc f in
        absurd (false≢true (sym qs ∙ ap q same ∙ k))
    by_test false true ps qs e rest = ap (λ (b : Bool). cond b (Some x) (find p (filter q xs))) ps ∙ rest e
    by_test false false ps qs e rest = rest e

find_mapped : (f : MapRecord → MapRecord) → ((row : MapRecord) → (f row).uid ≡ row.uid) → (uid : ℕ) (rows : List MapRecord) (row : MapRecord) → find (λ r. r.uid == uid) rows ≡ Some row → find (λ r. r.uid == uid) (map f rows) ≡ Some (f row)
find_mapped f same uid [] row h = absurd (cc (let k : None ≡ Some row = h in k))
find_mapped f same uid (x ∷ xs) row h =
    ap (λ (n : ℕ). cond (n == uid) (Some (f x)) (find (λ (r : MapRecord). r.uid == uid) (map f xs))) (same x) ∙ by_test (x.uid == uid) (find (λ (r : MapRecord). r.uid == uid) xs) h (find_mapped f same uid xs row)
  where
    by_test : (t : Bool) (found : Option MapRecord) → cond t (Some x) found ≡ Some row → (found ≡ Some row → find (λ (r : MapRecord). r.uid == uid) (map f xs) ≡ Some (f row)) → cond t (Some (f x)) (find (λ (r : MapRecord). r.uid == uid) (map f xs)) ≡ Some (f row)
    by_test true found h rest = let e : Some x ≡ Some row = h in ap (λ (r : MapRecord). Some (f r)) (cc e)
    by_test false found h rest = rest h

-- ---- the step

-- a record of the new meaning is an old one, placed
abbrev IsFrom : MapEntry → MapMeaning → MapRecord → Type 0
IsFrom e m row = (old : MapRecord) × Contains m.records old × (record_changed e old ≡ row)

purged_records : (store : List ℕ) (entries : List MapEntry) (file_no : FileNo) (target : ℕ) (moved : List MapPlace) (dropped : List MapUid) → (map_meaning store (entries ++ entry.P file_no target moved dropped ∷ [])).records
    ≡ map (record_changed (entry.P file_no target moved dropped)) (filter (λ row. not (record_dropped (entry.P file_no target moved dropped) row)) (map_meaning store entries).records)
purged_records store entries file_no target moved dropped =
    ap (λ (k : MapMeaning). k.records) (map_more store entries (entry.P file_no target moved dropped)) ∙ records_by_purged file_no target moved dropped (map_meaning store entries).records

pub purged_boxes : (store : List ℕ) (entries : List MapEntry) (file_no : FileNo) (target : ℕ) (moved : List MapPlace) (dropped : List MapUid) → (map_meaning store (entries ++ entry.P file_no target moved dropped ∷ [])).boxes ≡ (map_meaning store entries).boxes
purged_boxes store entries file_no target moved dropped =
    ap (λ (k : MapMeaning). k.boxes) (map_more store entries (entry.P file_no target moved dropped)) ∙ boxes_by_purged file_no target moved dropped (map_meaning store entries).boxes

-- what holds of each old record that is placed holds of the new ones
pub each_placed : (store : List ℕ) (entries : List MapEntry) (file_no : FileNo) (target : ℕ) (moved : List MapPlace) (dropped : List MapUid) (P Q : MapRecord → Type 0)
    → ((row : MapRecord) → P row → Q (moved_record row target (place_given row.uid moved))) → All P (map_meaning store entries).records → All Q (map_meaning store (entries ++ entry.P file_no target moved dropped ∷ [])).records
each_placed store entries file_no target moved dropped P Q f all =
    subst (λ (rows : List MapRecord). All Q rows) (sym (purged_records store entries file_no target moved dropped)) (kept_all record_rules (entry.P file_no target moved dropped) (map_meaning store entries).records P Q f all)

all_from : (store : List ℕ) (entries : List MapEntry) (file_no : FileNo) (target : ℕ) (moved : List MapPlace) (dropped : List MapUid)
    → All (IsFrom (entry.P file_no target moved dropped) (map_meaning store entries)) (map_meaning store (entries ++ entry.P file_no target moved dropped ∷ [])).records
all_from store entries file_no target moved dropped =
    each_placed store entries file_no target moved dropped (Contains (map_meaning store entries).records) (IsFrom (entry.P file_no target moved dropped) (map_meaning store entries)) (λ row c. (row, c, refl)) (All-contains_itself (map_meaning store entries).records)

-- a record that is referred to is found, placed
pub found_purged : (store : List ℕ) (entries : List MapEntry) (file_no : FileNo) (target : ℕ) (moved : List MapPlace) (dropped : List MapUid) (uid : ℕ) (row : MapRecord) → IsSoundMap (map_meaning store entries) → MapFits (map_meaning store entries) (entry.P file_no target moved dropped)
    → record_at (map_meaning store entries) uid ≡ Some row → 1 ≤ row.count → record_at (map_meaning store (entries ++ entry.P file_no target moved dropped ∷ [])) uid ≡ Some (moved_record row target (place_given row.uid moved))
found_purged store entries file_no target moved dropped uid row sound fits found some =
    let m : MapMeaning = map_meaning store entries in
    let e : MapEntry = entry.P file_no target moved dropped in
    let one = found_one (λ (r : MapRecord). r.uid == uid) m.records row found in
    let stays : not (has_map_uid row.uid dropped) ≡ true = ap not (not_dropped m file_no.0 dropped row (at_uid m row sound one.0) some fits.dropped_here) in
    ap (find (λ (r : MapRecord). r.uid == uid)) (purged_records store entries file_no target moved dropped)
    ∙ find_mapped (record_changed e) (λ r. (changed_same e r).uid) uid (filter (λ (r : MapRecord). not (record_dropped e r)) m.records) row
    (find_kept (λ (r : MapRecord). r.uid == uid) (λ (r : MapRecord). not (record_dropped e r)) m.records row found stays)

own_from : (files : Files) (e : MapEntry) (m n : MapMeaning) (inst : InstRow) (octets : List ℕ) → All (IsFrom e m) n.records → NamesOwn files n inst octets → NamesOwn files m inst octets
own_from files e m n inst octets from h =
    let o = All-contains (IsFrom e m) n.records h.row from h.is_record in
    let s : IsSameMessage o.0 h.row = subst (IsSameMessage o.0) o.2 (changed_same e o.0) in
    record { row = o.0; is_record = o.1; own = sym s.origin ∙ h.own; is_named = subst (λ (rows : List InstRow). Contains rows inst) s.instances h.is_named; there = h.there }

any_from : (files : Files) (e : MapEntry) (m n : MapMeaning) (inst : InstRow) (octets : List ℕ) → All (IsFrom e m) n.records → NamesAny files n inst octets → NamesAny files m inst octets
any_from files e m n inst octets from h =
    let o = All-contains (IsFrom e m) n.records h.row from h.is_record in
    let s : IsSameMessage o.0 h.row = subst (IsSameMessage o.0) o.2 (changed_same e o.0) in
    record { row = o.0; is_record = o.1; is_named = subst (λ (rows : List InstRow). Contains rows inst) s.instances h.is_named; there = h.there }

once_from : (files : Files) (e : MapEntry) (m n : MapMeaning) → All (IsFrom e m) n.records → StoredOnce files m → StoredOnce files n
once_from files e m n from h = record {
  once = λ i j octets p q. h.once i j octets (own_from files e m n i octets from p) (own_from files e m n j octets from q);
  least = λ i j octets p q same less. h.least i j octets (own_from files e m n i octets from p) (any_from files e m n j octets from q) same less;
  hash = λ i octets p. h.hash i octets (own_from files e m n i octets from p);
}

abbrev Detaches : Files → MapRecord → Type 0
Detaches files row = row.origin ≡ 0 → (octets : List ℕ) → (kept : StoresMessage files row octets) → AreDetached octets kept.stored.message.body kept.stored.meta.refs kept.instances

-- the instances of each record
pub rows_instances : (P : InstRow → Type 0) (rows : List MapRecord) → All P (flat_map (λ row. row.instances) rows) → All (λ row. All P row.instances) rows
rows_instances P [] h = All-nil (λ (row : MapRecord). All P row.instances)
rows_instances P (row ∷ rows) h =
    let r = split row.instances (flat_map (λ (r : MapRecord). r.instances) rows) h in
    All-cons (λ (row : MapRecord). All P row.instances) row rows r.0 (rows_instances P rows r.1)
  where
    split : (xs ys : List InstRow) → All P (xs ++ ys) → All P xs × All P ys
    split [] ys a = (All-nil P, a)
    split (x ∷ xs) ys a = let r = split xs ys (All-tail P x (xs ++ ys) a) in (All-cons P x xs (All-head P x (xs ++ ys) a) r.0, r.1)

pub instances_of : (P : InstRow → Type 0) (rows : List MapRecord) → All (λ row. All P row.instances) rows → All P (flat_map (λ row. row.instances) rows)
instances_of P [] h = All-nil P
instances_of P (row ∷ rows) h =
    All-append P row.instances (flat_map (λ (r : MapRecord). r.instances) rows) (All-head (λ (r : MapRecord). All P r.instances) row rows h) (instances_of P rows (All-tail (λ (r : MapRecord). All P r.instances) row rows h))

-- The purge is a step, where what it moves stands in its target.
purged_step : (a : Files) (store : List ℕ) (entries : List MapEntry) (lists : Lists) (file_no : FileNo) (target : ℕ) (moved : List MapPlace) (dropped : List MapUid) → SafeBy a store entries lists → MapFits (map_meaning store entries) (entry.P file_no target moved dropped)
    → AreCopied a (map_meaning store entries) target moved → IsMapStep a (map_meaning store entries) (map_meaning store (entries ++ entry.P file_no target moved dropped ∷ []))
purged_step a store entries lists file_no target moved dropped s fits copied =
    let e : MapEntry = entry.P file_no target moved dropped in
    let m : MapMeaning = map_meaning store entries in
    let n : MapMeaning = map_meaning store (entries ++ e ∷ []) in
    let sound : IsSoundMap m = map_sound store entries s.stands.map_log.fit s.stands.map_log.in_range in
    let copies : (row : MapRecord) → Contains m.records row → (place : MapPlace) → place_given row.uid moved ≡ Some place → IsCopiedTo a target place.offset row =
    λ row c place given. place_found m (λ p r. IsCopiedTo a target p.offset r) moved row sound c copied place given in
    record {
      found = λ uid row h some. (
        moved_record row target (place_given row.uid moved),
        found_purged store entries file_no target moved dropped uid row sound fits h some,
        (
          (changed_same e row).guid,
          λ octets k. text_placed a target row (place_given row.uid moved) octets (copies row (found_one (λ (r : MapRecord). r.uid == uid) m.records row h).0) k,
        ),
      );
      once = once_from a e m n (all_from store entries file_no target moved dropped) s.stands.once;
      detached = λ row octets c own kept.
          All-contains (Detaches a) n.records row
          (each_placed store entries file_no target moved dropped (Contains m.records) (Detaches a)
          (λ old c own. detached_placed a target old (place_given old.uid moved) (copies old c) (λ octets k. s.stands.detached old octets c (sym (changed_same e old).origin ∙ own) k)) (All-contains_itself m.records)) c own octets kept;
    }

-- A purge can be appended, where what it moves stands in its target. It keeps the lists.
pub purged_append : (a : Files) (store : List ℕ) (entries : List MapEntry) (lists : Lists) (file_no : FileNo) (target : ℕ) (moved : List MapPlace) (dropped : List MapUid) → SafeBy a store entries lists → MapInRange (entry.P file_no target moved dropped)
    → MapFits (map_meaning store entries) (entry.P file_no target moved dropped) → AreCopied a (map_meaning store entries) target moved → IsMapAppend a store entries lists lists (entry.P file_no target moved dropped)
purged_append a store entries lists file_no target moved dropped s in_range fits copied = record {
  in_range = in_range;
  fits = fits;
  step = purged_step a store entries lists file_no target moved dropped s fits copied;
  mailboxes = subst (λ (bs : List MapBox). AreMailboxes a n bs lists) (sym (purged_boxes store entries file_no target moved dropped))
      (mailboxes_still a m n m.boxes lists sound refl (purged_step a store entries lists file_no target moved dropped s fits copied) s.has_all.counts s.stands.mailboxes);
  all = record {
    counts = λ guid. by_found guid (record_of m guid) refl (s.has_all.counts guid);
    regions = each_placed store entries file_no target moved dropped (λ row. Contains m.records row × LiesInFile a row) (LiesInFile a)
        (λ row h. lies_placed a target row (place_given row.uid moved) (λ place given. place_found m (λ p r. IsCopiedTo a target p.offset r) moved row sound h.0 copied place given) h.1) (λ i d lt. (All-contains_itself m.records i d lt, s.has_all.regions i d lt));
    instances = instances_of (IsThereWhole a) n.records
        (each_placed store entries file_no target moved dropped (λ row. All (IsThereWhole a) row.instances) (λ row. All (IsThereWhole a) row.instances)
        (λ row h. subst (λ (is : List InstRow). All (IsThereWhole a) is) (sym (changed_same e row).instances) h) (rows_instances (IsThereWhole a) m.records s.has_all.instances));
  };
}
  where
    e : MapEntry
    e = entry.P file_no target moved dropped

    m : MapMeaning
    m = map_meaning store entries

    n : MapMeaning
    n = map_meaning store (entries ++ e ∷ [])

    sound : IsSoundMap m
    sound = map_sound store entries s.stands.map_log.fit s.stands.map_log.in_range

    new : IsSoundMap n
    new = map_sound store (entries ++ e ∷ []) (map_fit_more store [] entries e s.stands.map_log.fit fits) (each_more MapInRange entries e s.stands.map_log.in_range in_range)

    by_count : (guid : List ℕ) (r : MapRecord) → Contains m.records r → r.guid ≡ guid → (0 < r.count) ⊎ (r.count ≤ 0) → refs_of lists guid ≤ count_of m guid → refs_of lists guid ≤ count_of n guid
    by_count guid r c is (inr none) h = let k : count_of m guid ≡ r.count = ap (count_of m) (sym is) ∙ count_is m r sound c in omega (arith, h, k, none)
    by_count guid r c is (inl some) h =
        let later : MapRecord = moved_record r target (place_given r.uid moved) in
        let there : Contains n.records later = (found_one (λ (x : MapRecord). x.uid == r.uid) n.records later (found_purged store entries file_no target moved dropped r.uid r sound fits (at_uid m r sound c) (omega (arith, some)))).0 in
        let k : count_of m guid ≡ r.count = ap (count_of m) (sym is) ∙ count_is m r sound c in
        let l : count_of n guid ≡ later.count = ap (count_of n) (sym ((changed_same e r).guid ∙ is)) ∙ count_is n later new there in
        let same : later.count ≡ r.count = placed_count r target (place_given r.uid moved) in
        omega (arith, h, k, l, same)

    by_found : (guid : List ℕ) (found : Option MapRecord) → record_of m guid ≡ found → refs_of lists guid ≤ count_of m guid → refs_of lists guid ≤ count_of n guid
    by_found guid None is h = let k : count_of m guid ≡ 0 = ap (λ (o : Option MapRecord). option_map_or (λ (row : MapRecord). row.count) o 0) is in omega (arith, h, k)
    by_found guid (Some r) is h =
        let one = found_one (λ (r : MapRecord). bytes_eq r.guid guid) m.records r is in
        by_count guid r one.0 (text_is r.guid guid one.1) (cases_lt 0 r.count) h

-- ---- afterwards

region_placed : (a b : Files) (target : ℕ) (row : MapRecord) (o : Option MapPlace) → ((place : MapPlace) → o ≡ Some place → HasSameRegion a b (record row { file = target; offset = place.offset })) → HasSameRegion a b row → HasSameRegion a b (moved_record row target o)
region_placed a b target row None c h = h
region_placed a b target row (Some place) c h = c place refl

-- what a crash may leave agrees by the new meaning, where the copies are synced
pub leaves_purged : (disk : DiskState) (lists : Lists) (file_no : FileNo) (target : ℕ) (moved : List MapPlace) (dropped : List MapUid) → (s : IsSettled disk lists) → AreCopiesSynced disk (map_meaning s.store s.entries) target moved
    → LeavesAlike s.safe.stands.map_log.generation (map_meaning s.store (s.entries ++ entry.P file_no target moved dropped ∷ [])) disk
leaves_purged disk lists file_no target moved dropped s synced image held =
    let a : Files = files_of disk in
    let m : MapMeaning = map_meaning s.store s.entries in
    let sound : IsSoundMap m = map_sound s.store s.entries s.safe.stands.map_log.fit s.safe.stands.map_log.in_range in
    let alike : AreAlike s.safe.stands.map_log.generation m a image = s.alike image held in
    record {
      root = alike.root;
      map = alike.map;
      boxes = subst (λ (bs : List MapBox). All (λ (box : MapBox). image (file.Box box.number box.generation) ≡ a (file.Box box.number box.generation)) bs) (sym (purged_boxes s.store s.entries file_no target moved dropped)) alike.boxes;
      regions = each_placed s.store s.entries file_no target moved dropped (λ row. Contains m.records row × HasSameRegion a image row) (HasSameRegion a image)
          (λ row h. region_placed a image target row (place_given row.uid moved)
          (λ place given. place_found m (λ p r. HasSameRegion a image (record r { file = target; offset = p.offset })) moved row sound h.0 (synced image held) place given) h.1) (λ i d lt. (All-contains_itself m.records i d lt, alike.regions i d lt));
      instances = each_placed s.store s.entries file_no target moved dropped (λ row. All (HasSameInstance a image) row.instances) (λ row. All (HasSameInstance a image) row.instances)
          (λ row h. subst (λ (is : List InstRow). All (HasSameInstance a image) is) (sym (changed_same (entry.P file_no target moved dropped) row).instances) h) alike.instances;
    }
