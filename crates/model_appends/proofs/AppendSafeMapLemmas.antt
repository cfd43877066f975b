-- Safe, with one entry more in the map log.
use Rattle.model_appends.proofs.Common.{◌≡◌, ◌≤◌, ◌+◌, ◌==◌, ℕ, Bool, true, false, if◌then◌else◌, List, [], ◌∷◌, ◌++◌, length, take, drop, map, flat_map, filter, not, cond, sum_by, Option, All, refl, find, count_by, sym, ◌∙◌, subst, ap, arith, option_map_or, bytes_eq, sum_by-append, sum_by-cons}
use Rattle.model_appends.proofs.Common.{All-nil, All-cons, All-append, All-head, FileNo, BoxNo, Guid, empty_mailbox, ListedMessage, Mailbox, Lists, refs_of, Files, DiskState, IsImage, reading, FileName, InstRow, MapCount, MapEntry, MapUid, boxes_by_deleted, boxes_by_renamed, only_changes, MapRecord}
use Rattle.model_appends.proofs.Common.{MapBox, MapMeaning, map_meaning, box_changed, record_changed, record_made, box_made, has_map_uid, count_of, map_more, MapFits, map_text, MapInRange, all_map, LiesInFile, IsThereWhole, SafeBy, HasBox, IsMailbox, AreMailboxes, StoredOnce, KeepsDetached}
use Rattle.model_appends.proofs.Common.{IsSoundMap, map_sound, LeavesAsRead, SameBut, HasOneMore, CarryMore, LeavesAlike, OnlyAdds, IsMapStep, files_of, HasSameRegion, HasSameInstance, AreAlike, IsSettled, CarriesOver}
use Rattle.std.specs.Prelude.{◌-◌}
use Rattle.std.proofs.Common.{append-nil}
use Rattle.std.proofs.lemmas.List.Concat.{flat_map-append}
use Rattle.disk_model.specs.declared.name.FileName.TheVariants as file
use Rattle.mdbox_base.specs.declared.entries.MapEntry.TheVariants as entry
use Rattle.model_meaning.proofs.AppliedLemmas.{records_by_deleted, records_by_renamed, records_by_stored, boxes_by_stored, records_by_mailbox, boxes_by_mailbox, records_by_raised, records_by_lowered, records_by_counted, boxes_by_raised, boxes_by_lowered, boxes_by_counted, boxes_by_highest, boxes_by_sealed}
use Rattle.model_meaning.specs.MapMeaning.{map_applied, named_instances}
use Rattle.model_store.specs.Safe.{Safe}
use Rattle.model_store.proofs.SettledLemmas.{has_all_carried}
use Rattle.model_store.specs.Stands.{HasRoot}
use Rattle.model_appends.specs.Appending.{LeftBut, StatesBut}
use Rattle.model_appends.specs.MapAppending.{IsMapAppend, AddsSynced, ChangesCounts, lists_changed, named_anew, stored_row}
use Rattle.model_appends.proofs.AppendFileLemmas.{log_as, SameButCount, count_itself, mixed, mixed-other, map_stored, carry_back}
use Rattle.model_store.proofs.StandsLemmas.{root_same}
use Rattle.model_appends.proofs.AppendSafeLemmas.{has_all_as, carries_alike, mixed_image, left_before, settled_but}
use Rattle.model_appends.proofs.AppendMapLemmas.{stands_by_map_entry, mailboxes_append, mailboxes_still, made_mailbox, counts_step, stored_step, made_step}

-- Files that carry over what a store reads by the new meaning, but for the map log, which has one entry more, are safe for the
-- lists that it gives, where the first files have all that these need.
pub safe_by_map_append : (a b : Files) (store : List ℕ) (entries : List MapEntry) (lists later : Lists) (e : MapEntry) → (s : SafeBy a store entries lists) → IsMapAppend a store entries lists later e
    → CarryMore (file.Map s.stands.map_log.generation) (map_text e) s.stands.map_log.generation (map_meaning store (entries ++ e ∷ [])) a b → SafeBy b store (entries ++ e ∷ []) later
safe_by_map_append a b store entries lists later e s h carry =
    let g : ℕ = s.stands.map_log.generation in
    let n : MapMeaning = map_meaning store (entries ++ e ∷ []) in
    let c : Files = mixed (file.Map g) b a in
    let same : SameBut (file.Map g) a c = λ other apart. mixed-other (file.Map g) other b a apart in
    record {
      stands = stands_by_map_entry a b store entries lists later e s.stands h.in_range h.fits h.step h.mailboxes h.all.counts carry;
      has_all = has_all_carried g n c b later (carry_back g g n a b carry.others) (has_all_as a c n later later (map_stored g a c same) h.all.counts h.all);
    }

-- the meaning of a safe store's map log
sound_of : (a : Files) (store : List ℕ) (entries : List MapEntry) (lists : Lists) → SafeBy a store entries lists → IsSoundMap (map_meaning store entries)
sound_of a store entries lists s = map_sound store entries s.stands.map_log.fit s.stands.map_log.in_range

-- ---- an entry that changes counts alone

recounted : (t : Bool) (n : ℕ) (row : MapRecord) → SameButCount row (if t then record row { count = n } else row)
recounted true n row = record { uid = refl; origin = refl; file = refl; offset = refl; size = refl; guid = refl; instances = refl }
recounted false n row = count_itself row

pub same_but_count : (e : MapEntry) → ChangesCounts e → (row : MapRecord) → SameButCount row (record_changed e row)
same_but_count (entry.U u) c row = recounted (u.0 == row.uid) (row.count + 1) row
same_but_count (entry.D us) c row = recounted (has_map_uid row.uid us) (row.count - 1) row
same_but_count (entry.T cs) c row = record { uid = refl; origin = refl; file = refl; offset = refl; size = refl; guid = refl; instances = refl }
same_but_count (entry.H h) c row = count_itself row
same_but_count (entry.B m g n) c row = absurd c
same_but_count (entry.G m g) c row = absurd c
same_but_count (entry.S o c u f a z g is) d row = absurd d
same_but_count (entry.P f t ms us) c row = absurd c
same_but_count (entry.E f) c row = count_itself row
same_but_count (entry.X m cs) c row = absurd c
same_but_count (entry.V m n) c row = absurd c

records_changed : (e : MapEntry) → ChangesCounts e → (m : MapMeaning) → (map_applied e m).records ≡ map (record_changed e) m.records
records_changed (entry.U u) c m = records_by_raised u m.records
records_changed (entry.D us) c m = records_by_lowered us m.records
records_changed (entry.T cs) c m = records_by_counted cs m.records
records_changed (entry.H h) c m = only_changes (record_changed (entry.H h)) m.records
records_changed (entry.B k g n) c m = absurd c
records_changed (entry.G k g) c m = absurd c
records_changed (entry.S o c u f a z g is) d m = absurd d
records_changed (entry.P f t ms us) c m = absurd c
records_changed (entry.E f) c m = only_changes (record_changed (entry.E f)) m.records
records_changed (entry.X k cs) c m = absurd c
records_changed (entry.V k n) c m = absurd c

boxes_stay : (e : MapEntry) → ChangesCounts e → (m : MapMeaning) → (map_applied e m).boxes ≡ m.boxes
boxes_stay (entry.U u) c m = boxes_by_raised u m.boxes
boxes_stay (entry.D us) c m = boxes_by_lowered us m.boxes
boxes_stay (entry.T cs) c m = boxes_by_counted cs m.boxes
boxes_stay (entry.H h) c m = boxes_by_highest h m.boxes
boxes_stay (entry.B k g n) c m = absurd c
boxes_stay (entry.G k g) c m = absurd c
boxes_stay (entry.S o c u f a z g is) d m = absurd d
boxes_stay (entry.P f t ms us) c m = absurd c
boxes_stay (entry.E f) c m = boxes_by_sealed f m.boxes
boxes_stay (entry.X k cs) c m = absurd c
boxes_stay (entry.V k n) c m = absurd c

pub named_same : (f : MapRecord → MapRecord) → ((row : MapRecord) → SameButCount row (f row)) → (rows : List MapRecord) → flat_map (λ (r : MapRecord). r.instances) (map f rows) ≡ flat_map (λ (r : MapRecord). r.instances) rows
named_same f same [] = refl
named_same f same (row ∷ rows) =
    ap (λ (is : List InstRow). is ++ flat_map (λ (r : MapRecord). r.instances) (map f rows)) (same row).instances ∙ ap (λ (is : List InstRow). row.instances ++ is) (named_same f same rows)

pub lies_same : (a : Files) (row other : MapRecord) → SameButCount row other → LiesInFile a row → LiesInFile a other
lies_same a row other s h = record { octets = h.octets; there = ap (λ (n : ℕ). a (file.Mail n)) s.file ∙ h.there; inside = let e = s.offset in let f = s.size in let i = h.inside in omega (arith, e, f, i) }

-- An entry that changes counts of records at most can be appended, where the mailboxes by the old meaning are the new lists.
changes_append : (a : Files) (store : List ℕ) (entries : List MapEntry) (lists later : Lists) (e : MapEntry) → SafeBy a store entries lists → MapInRange e → MapFits (map_meaning store entries) e
    → ((row : MapRecord) → SameButCount row (record_changed e row)) → (map_meaning store (entries ++ e ∷ [])).records ≡ map (record_changed e) (map_meaning store entries).records
    → ((guid : List ℕ) → refs_of later guid ≤ count_of (map_meaning store entries) guid) → AreMailboxes a (map_meaning store entries) (map_meaning store (entries ++ e ∷ [])).boxes later
    → ((guid : List ℕ) → refs_of later guid ≤ count_of (map_meaning store (entries ++ e ∷ [])) guid) → IsMapAppend a store entries lists later e
changes_append a store entries lists later e s in_range fits same records before mailboxes counts =
    let m : MapMeaning = map_meaning store entries in
    let n : MapMeaning = map_meaning store (entries ++ e ∷ []) in
    let step : IsMapStep a m n = counts_step a m n (record_changed e) same records s.stands.once s.stands.detached in
    record {
      in_range = in_range;
      fits = fits;
      step = step;
      mailboxes = mailboxes_still a m n n.boxes later (sound_of a store entries lists s) refl step before mailboxes;
      all = record {
        counts = counts;
        regions = subst (λ (rows : List MapRecord). All (LiesInFile a) rows) (sym records) (all_map (LiesInFile a) (LiesInFile a) (record_changed e) (λ row h. lies_same a row (record_changed e row) (same row) h) m.records s.has_all.regions);
        instances = subst (λ (is : List InstRow). All (IsThereWhole a) is) (sym (ap (flat_map (λ (r : MapRecord). r.instances)) records ∙ named_same (record_changed e) same m.records)) s.has_all.instances;
      };
    }

-- An entry that changes counts at most can be appended, where each count is still at least its references.
pub counts_append : (a : Files) (store : List ℕ) (entries : List MapEntry) (lists : Lists) (e : MapEntry) → SafeBy a store entries lists → ChangesCounts e → MapInRange e → MapFits (map_meaning store entries) e
    → ((guid : List ℕ) → refs_of lists guid ≤ count_of (map_meaning store (entries ++ e ∷ [])) guid) → IsMapAppend a store entries lists lists e
counts_append a store entries lists e s kind in_range fits counts =
    let m : MapMeaning = map_meaning store entries in
    let n : MapMeaning = map_meaning store (entries ++ e ∷ []) in
    let is : n ≡ map_applied e m = map_more store entries e in
    let records : n.records ≡ map (record_changed e) m.records = ap (λ (k : MapMeaning). k.records) is ∙ records_changed e kind m in
    let boxes : n.boxes ≡ m.boxes = ap (λ (k : MapMeaning). k.boxes) is ∙ boxes_stay e kind m in
    changes_append a store entries lists lists e s in_range fits (same_but_count e kind) records s.has_all.counts (subst (λ (bs : List MapBox). AreMailboxes a m bs lists) (sym boxes) s.stands.mailboxes) counts

-- ---- a message that is stored

pub all_more : {X : Type 0} → (P : X → Type 0) (xs : List X) (x : X) → All P xs → P x → All P (xs ++ x ∷ [])
all_more P xs x h p = All-append P xs (x ∷ []) h (All-cons P x [] p (All-nil P))

-- An `S` can be appended, where its region and its instances are there, and what own saves ask holds with the new record too.
pub stored_append : (a : Files) (store : List ℕ) (entries : List MapEntry) (lists : Lists) (origin count : ℕ) (uid : MapUid) (file_no : FileNo) (offset size : ℕ) (guid : Guid) (instances : List InstRow) → SafeBy a store entries lists
    → MapInRange (entry.S origin count uid file_no offset size guid instances) → MapFits (map_meaning store entries) (entry.S origin count uid file_no offset size guid instances)
    → LiesInFile a (stored_row origin count uid file_no offset size guid instances) → All (IsThereWhole a) instances
    → StoredOnce a (map_meaning store (entries ++ entry.S origin count uid file_no offset size guid instances ∷ [])) → KeepsDetached a (map_meaning store (entries ++ entry.S origin count uid file_no offset size guid instances ∷ []))
    → ((other : List ℕ) → refs_of lists other ≤ count_of (map_meaning store (entries ++ entry.S origin count uid file_no offset size guid instances ∷ [])) other)
    → IsMapAppend a store entries lists lists (entry.S origin count uid file_no offset size guid instances)
stored_append a store entries lists origin count uid file_no offset size guid instances s in_range fits lies there once detached counts =
    let e : MapEntry = entry.S origin count uid file_no offset size guid instances in
    let row : MapRecord = stored_row origin count uid file_no offset size guid instances in
    let m : MapMeaning = map_meaning store entries in
    let n : MapMeaning = map_meaning store (entries ++ e ∷ []) in
    let is : n ≡ map_applied e m = map_more store entries e in
    let records : n.records ≡ m.records ++ row ∷ [] = ap (λ (k : MapMeaning). k.records) is ∙ records_by_stored origin count uid file_no offset size guid instances m.records in
    let boxes : n.boxes ≡ m.boxes = ap (λ (k : MapMeaning). k.boxes) is ∙ boxes_by_stored origin count uid file_no offset size guid instances m.boxes in
    let step : IsMapStep a m n = stored_step a m n row records once detached in
    record {
      in_range = in_range;
      fits = fits;
      step = step;
      mailboxes = subst (λ (bs : List MapBox). AreMailboxes a n bs lists) (sym boxes) (mailboxes_still a m n m.boxes lists (sound_of a store entries lists s) refl step s.has_all.counts s.stands.mailboxes);
      all = record {
        counts = counts;
        regions = subst (λ (rows : List MapRecord). All (LiesInFile a) rows) (sym records) (all_more (LiesInFile a) m.records row s.has_all.regions lies);
        instances = subst (λ (is : List InstRow). All (IsThereWhole a) is) (sym (ap (flat_map (λ (r : MapRecord). r.instances)) records ∙ flat_map-append (λ (r : MapRecord). r.instances) m.records (row ∷ [])))
            (All-append (IsThereWhole a) (named_instances m) (instances ++ []) s.has_all.instances (subst (λ (xs : List InstRow). All (IsThereWhole a) xs) (sym (append-nil instances)) there));
      };
    }

-- ---- a mailbox that is made

-- A `B` can be appended, where its log is there and empty. It gives the lists with an empty mailbox more.
pub made_append : (a : Files) (store : List ℕ) (entries : List MapEntry) (lists : Lists) (mailbox : BoxNo) (generation : ℕ) (name : List ℕ) → SafeBy a store entries lists → MapInRange (entry.B mailbox generation name)
    → MapFits (map_meaning store entries) (entry.B mailbox generation name) → HasBox a store (record { number = mailbox.0; generation = generation; name = name }) []
    → IsMapAppend a store entries lists (lists ++ empty_mailbox mailbox.0 name ∷ []) (entry.B mailbox generation name)
made_append a store entries lists mailbox generation name s in_range fits log =
    let e : MapEntry = entry.B mailbox generation name in
    let box : MapBox = record { number = mailbox.0; generation = generation; name = name } in
    let m : MapMeaning = map_meaning store entries in
    let n : MapMeaning = map_meaning store (entries ++ e ∷ []) in
    let is : n ≡ map_applied e m = map_more store entries e in
    let records : n.records ≡ m.records = ap (λ (k : MapMeaning). k.records) is ∙ records_by_mailbox mailbox generation name m.records in
    let boxes : n.boxes ≡ m.boxes ++ box ∷ [] = ap (λ (k : MapMeaning). k.boxes) is ∙ boxes_by_mailbox mailbox generation name m.boxes in
    let refs : (guid : List ℕ) → refs_of (lists ++ empty_mailbox mailbox.0 name ∷ []) guid ≡ refs_of lists guid = λ guid. let h = sum_by-append (λ (x : Mailbox). count_by (λ (y : ListedMessage). bytes_eq y.guid guid) x.messages) lists (empty_mailbox mailbox.0 name ∷ []) in omega (arith, h) in
    let counts : (guid : List ℕ) → count_of n guid ≡ count_of m guid = λ guid. ap (λ (rows : List MapRecord). option_map_or (λ (row : MapRecord). row.count) (find (λ (row : MapRecord). bytes_eq row.guid guid) rows) 0) records in
    let step : IsMapStep a m n = made_step a m n records s.stands.once s.stands.detached in
    record {
      in_range = in_range;
      fits = fits;
      step = step;
      mailboxes = subst (λ (bs : List MapBox). AreMailboxes a n bs (lists ++ empty_mailbox mailbox.0 name ∷ [])) (sym boxes)
          (mailboxes_append a n m.boxes (box ∷ []) lists (empty_mailbox mailbox.0 name ∷ []) (mailboxes_still a m n m.boxes lists (sound_of a store entries lists s) refl step s.has_all.counts s.stands.mailboxes) (made_mailbox a n box log));
      all = record {
        counts = λ guid. let h = s.has_all.counts guid in let r = refs guid in let c = counts guid in omega (arith, h, r, c);
        regions = subst (λ (rows : List MapRecord). All (LiesInFile a) rows) (sym records) s.has_all.regions;
        instances = subst (λ (is : List InstRow). All (IsThereWhole a) is) (sym (ap (flat_map (λ (r : MapRecord). r.instances)) records)) s.has_all.instances;
      };
    }

-- ---- a mailbox that is deleted, and one that is renamed

refs_without : (k : ℕ) (guid : List ℕ) (xs : Lists) → refs_of (filter (λ (x : Mailbox). not (k == x.number)) xs) guid ≤ refs_of xs guid
refs_without k guid [] = omega arith
refs_without k guid (x ∷ xs) = by_test (k == x.number) (refs_without k guid xs)
  where
    in_box : Mailbox → ℕ
    in_box o = count_by (λ (y : ListedMessage). bytes_eq y.guid guid) o.messages

    by_test : (t : Bool) → sum_by in_box (filter (λ (o : Mailbox). not (k == o.number)) xs) ≤ sum_by in_box xs
        → sum_by in_box (cond (not t) (x ∷ filter (λ (o : Mailbox). not (k == o.number)) xs) (filter (λ (o : Mailbox). not (k == o.number)) xs)) ≤ sum_by in_box (x ∷ xs)
    by_test true h = let a = sum_by-cons in_box x xs in omega (arith, h, a)
    by_test false h = let a = sum_by-cons in_box x xs in let b = sum_by-cons in_box x (filter (λ (o : Mailbox). not (k == o.number)) xs) in omega (arith, h, a, b)

pub mailboxes_without : (a : Files) (m : MapMeaning) (k : ℕ) (boxes : List MapBox) (xs : Lists) → AreMailboxes a m boxes xs → AreMailboxes a m (filter (λ (box : MapBox). not (k == box.number)) boxes) (filter (λ (x : Mailbox). not (k == x.number)) xs)
mailboxes_without a m k [] [] h = tt
mailboxes_without a m k [] (x ∷ xs) h = absurd h
mailboxes_without a m k (box ∷ boxes) [] h = absurd h
mailboxes_without a m k (box ∷ boxes) (x ∷ xs) h =
    subst (λ (n : ℕ). AreMailboxes a m (cond (not (k == box.number)) (box ∷ filter (λ (b : MapBox). not (k == b.number)) boxes) (filter (λ (b : MapBox). not (k == b.number)) boxes))
    (cond (not (k == n)) (x ∷ filter (λ (o : Mailbox). not (k == o.number)) xs) (filter (λ (o : Mailbox). not (k == o.number)) xs))) (sym h.0.number) (by_test (k == box.number) (mailboxes_without a m k boxes xs h.1))
  where
    by_test : (t : Bool) → AreMailboxes a m (filter (λ (b : MapBox). not (k == b.number)) boxes) (filter (λ (o : Mailbox). not (k == o.number)) xs)
        → AreMailboxes a m (cond (not t) (box ∷ filter (λ (b : MapBox). not (k == b.number)) boxes) (filter (λ (b : MapBox). not (k == b.number)) boxes)) (cond (not t) (x ∷ filter (λ (o : Mailbox). not (k == o.number)) xs) (filter (λ (o : Mailbox). not (k == o.number)) xs))
    by_test true rest = rest
    by_test false rest = (h.0, rest)

pub deleted_append : (a : Files) (store : List ℕ) (entries : List MapEntry) (lists : Lists) (mailbox : BoxNo) (amounts : List MapCount) → SafeBy a store entries lists → MapInRange (entry.X mailbox amounts) → MapFits (map_meaning store entries) (entry.X mailbox amounts)
    → ((guid : List ℕ) → refs_of (lists_changed (entry.X mailbox amounts) lists) guid ≤ count_of (map_meaning store (entries ++ entry.X mailbox amounts ∷ [])) guid)
    → IsMapAppend a store entries lists (lists_changed (entry.X mailbox amounts) lists) (entry.X mailbox amounts)
deleted_append a store entries lists mailbox amounts s in_range fits counts =
    let e : MapEntry = entry.X mailbox amounts in
    let m : MapMeaning = map_meaning store entries in
    let n : MapMeaning = map_meaning store (entries ++ e ∷ []) in
    let is : n ≡ map_applied e m = map_more store entries e in
    let boxes : n.boxes ≡ filter (λ (box : MapBox). not (mailbox.0 == box.number)) m.boxes = ap (λ (k : MapMeaning). k.boxes) is ∙ boxes_by_deleted mailbox amounts m.boxes in
    changes_append a store entries lists (lists_changed e lists) e s in_range fits (λ row. record { uid = refl; origin = refl; file = refl; offset = refl; size = refl; guid = refl; instances = refl })
    (ap (λ (k : MapMeaning). k.records) is ∙ records_by_deleted mailbox amounts m.records)
    (λ guid. let h = s.has_all.counts guid in let k = refs_without mailbox.0 guid lists in omega (arith, h, k))
    (subst (λ (bs : List MapBox). AreMailboxes a m bs (lists_changed e lists)) (sym boxes) (mailboxes_without a m mailbox.0 m.boxes lists s.stands.mailboxes)) counts

renamed_mailbox : (a : Files) (m : MapMeaning) (k : ℕ) (name : List ℕ) (t : Bool) (box : MapBox) (x : Mailbox) → IsMailbox a m box x → IsMailbox a m (if t then record box { name = name } else box) (if t then record x { name = name } else x)
renamed_mailbox a m k name true box x h = record { entries = h.entries; log = record { log = h.log.log; in_range = h.log.in_range; fit = h.log.fit }; number = h.number; name = refl; next = h.next; messages = h.messages }
renamed_mailbox a m k name false box x h = h

mailboxes_renamed : (a : Files) (m : MapMeaning) (k : BoxNo) (name : List ℕ) (boxes : List MapBox) (xs : Lists) → AreMailboxes a m boxes xs → AreMailboxes a m (map (box_changed (entry.V k name)) boxes) (map (named_anew k.0 name) xs)
mailboxes_renamed a m k name [] [] h = tt
mailboxes_renamed a m k name [] (x ∷ xs) h = absurd h
mailboxes_renamed a m k name (box ∷ boxes) [] h = absurd h
mailboxes_renamed a m k name (box ∷ boxes) (x ∷ xs) h = (
  subst (λ (n : ℕ). IsMailbox a m (if k.0 == box.number then record box { name = name } else box) (if k.0 == n then record x { name = name } else x)) (sym h.0.number) (renamed_mailbox a m k.0 name (k.0 == box.number) box x h.0),
  mailboxes_renamed a m k name boxes xs h.1,
)

pub renamed_refs : (k : ℕ) (name guid : List ℕ) (xs : Lists) → refs_of (map (named_anew k name) xs) guid ≡ refs_of xs guid
renamed_refs k name guid [] = refl
renamed_refs k name guid (x ∷ xs) =
    let a = sum_by-cons in_box x xs in
    let b = sum_by-cons in_box (named_anew k name x) (map (named_anew k name) xs) in
    let c = one (k == x.number) in
    let h = renamed_refs k name guid xs in
    omega (arith, a, b, c, h)
  where
    in_box : Mailbox → ℕ
    in_box o = count_by (λ (y : ListedMessage). bytes_eq y.guid guid) o.messages

    one : (t : Bool) → in_box (if t then record x { name = name } else x) ≡ in_box x
    one true = refl
    one false = refl

pub renamed_append : (a : Files) (store : List ℕ) (entries : List MapEntry) (lists : Lists) (mailbox : BoxNo) (name : List ℕ) → SafeBy a store entries lists → MapInRange (entry.V mailbox name) → MapFits (map_meaning store entries) (entry.V mailbox name)
    → IsMapAppend a store entries lists (lists_changed (entry.V mailbox name) lists) (entry.V mailbox name)
renamed_append a store entries lists mailbox name s in_range fits =
    let e : MapEntry = entry.V mailbox name in
    let m : MapMeaning = map_meaning store entries in
    let n : MapMeaning = map_meaning store (entries ++ e ∷ []) in
    let is : n ≡ map_applied e m = map_more store entries e in
    let same : n.records ≡ m.records = ap (λ (k : MapMeaning). k.records) is ∙ records_by_renamed mailbox name m.records in
    let boxes : n.boxes ≡ map (box_changed e) m.boxes = ap (λ (k : MapMeaning). k.boxes) is ∙ boxes_by_renamed mailbox name m.boxes in
    let counts : (guid : List ℕ) → count_of n guid ≡ count_of m guid = λ guid. ap (λ (rows : List MapRecord). option_map_or (λ (row : MapRecord). row.count) (find (λ (row : MapRecord). bytes_eq row.guid guid) rows) 0) same in
    changes_append a store entries lists (lists_changed e lists) e s in_range fits (λ row. count_itself row)
    (ap (λ (k : MapMeaning). k.records) is ∙ only_changes (record_changed e) m.records)
    (λ guid. let h = s.has_all.counts guid in let k = renamed_refs mailbox.0 name guid lists in omega (arith, h, k))
    (subst (λ (bs : List MapBox). AreMailboxes a m bs (lists_changed e lists)) (sym boxes) (mailboxes_renamed a m mailbox name m.boxes lists s.stands.mailboxes))
    (λ guid. let h = s.has_all.counts guid in let k = renamed_refs mailbox.0 name guid lists in let c = counts guid in omega (arith, h, k, c))

-- ---- afterwards

-- After an entry of the map log the disk is settled for the lists that it gives, where whatever a crash could leave agreed with
-- what was read by the new meaning too: for an `S` that its region and its instances are synced, with their names.
pub settled_by_map_append : (old new : DiskState) (lists later : Lists) (e : MapEntry) → (s : IsSettled old lists) → IsImage old (files_of old) → IsMapAppend (files_of old) s.store s.entries lists later e
    → ((image : Files) → IsImage old image → AreAlike s.safe.stands.map_log.generation (map_meaning s.store (s.entries ++ e ∷ [])) (files_of old) image)
    → StatesBut (file.Map s.safe.stands.map_log.generation) old new → HasOneMore (map_text e) (reading (old (file.Map s.safe.stands.map_log.generation))) (reading (new (file.Map s.safe.stands.map_log.generation)))
    → LeavesAsRead (file.Map s.safe.stands.map_log.generation) new → IsSettled new later
settled_by_map_append old new lists later e s own h alike states more leaves =
    let g : ℕ = s.safe.stands.map_log.generation in
    let name : FileName = file.Map g in
    let n : MapMeaning = map_meaning s.store (s.entries ++ e ∷ []) in
    let itself : (other : FileName) → CarriesOver g n (files_of old) other (files_of old other) = carries_alike g n (files_of old) (files_of old) (alike (files_of old) own) in
    let carry : CarryMore name (map_text e) g n (files_of old) (files_of new) = record {
      more = more;
      others = λ other apart. subst (λ (o : Option (List ℕ)). CarriesOver g n (files_of old) other o) (sym (ap reading (states other apart))) (itself other);
    } in
    let safe : SafeBy (files_of new) s.store (s.entries ++ e ∷ []) later = safe_by_map_append (files_of old) (files_of new) s.store s.entries lists later e s.safe h carry in
    let root : HasRoot (files_of new) s.store g = record {
      before = s.safe.stands.map_log.root.before;
      log = log_as (files_of old) (files_of new) file.Root _ _ (ap reading (states file.Root (λ p. absurd (cc p)))) s.safe.stands.map_log.root.log;
      in_range = s.safe.stands.map_log.root.in_range;
    } in
    let one : g ≡ safe.stands.map_log.generation = (root_same (files_of new) s.store s.store g safe.stands.map_log.generation root safe.stands.map_log.root).1 in
    settled_but old new lists later name s.store (s.entries ++ e ∷ []) s own refl states leaves safe
    (λ image i. subst (λ (k : ℕ). AreAlike k n (files_of old) (mixed name (files_of old) image)) one (alike (mixed name (files_of old) image) (mixed_image name old image own (left_before name old new image states i))))

-- ---- agreeing by the new meaning

-- files that agree by the old meaning, and on a new record, agree by the new one
pub alike_stored : (g : ℕ) (m n : MapMeaning) (a b : Files) (row : MapRecord) → n.records ≡ m.records ++ row ∷ [] → n.boxes ≡ m.boxes → AreAlike g m a b → HasSameRegion a b row → All (HasSameInstance a b) row.instances → AreAlike g n a b
alike_stored g m n a b row records boxes e region instances = record {
  root = e.root;
  map = e.map;
  boxes = subst (λ (bs : List MapBox). All (λ (box : MapBox). b (file.Box box.number box.generation) ≡ a (file.Box box.number box.generation)) bs) (sym boxes) e.boxes;
  regions = subst (λ (rows : List MapRecord). All (HasSameRegion a b) rows) (sym records) (all_more (HasSameRegion a b) m.records row e.regions region);
  instances = subst (λ (rows : List MapRecord). All (λ (r : MapRecord). All (HasSameInstance a b) r.instances) rows) (sym records) (all_more (λ (r : MapRecord). All (HasSameInstance a b) r.instances) m.records row e.instances instances);
}

pub region_same : (a b : Files) (row other : MapRecord) → SameButCount row other → HasSameRegion a b row → HasSameRegion a b other
region_same a b row other s r =
    let lies : other.offset + other.size ≤ length r.first = let e = s.offset in let f = s.size in let i = r.first_holds in omega (arith, e, f, i) in
    let lies_too : other.offset + other.size ≤ length r.second = let e = s.offset in let f = s.size in let i = r.second_holds in omega (arith, e, f, i) in
    record {
      first = r.first;
      second = r.second;
      in_first = ap (λ (n : ℕ). a (file.Mail n)) s.file ∙ r.in_first;
      in_second = ap (λ (n : ℕ). b (file.Mail n)) s.file ∙ r.in_second;
      first_holds = lies;
      second_holds = lies_too;
      same = subst (λ (n : ℕ). take n (drop other.offset r.second) ≡ take n (drop other.offset r.first)) (sym s.size) (subst (λ (n : ℕ). take row.size (drop n r.second) ≡ take row.size (drop n r.first)) (sym s.offset) r.same);
    }

-- and where only counts change
pub alike_counted : (g : ℕ) (m n : MapMeaning) (a b : Files) (f : MapRecord → MapRecord) → ((row : MapRecord) → SameButCount row (f row)) → n.records ≡ map f m.records → n.boxes ≡ m.boxes → AreAlike g m a b → AreAlike g n a b
alike_counted g m n a b f same records boxes e = record {
  root = e.root;
  map = e.map;
  boxes = subst (λ (bs : List MapBox). All (λ (box : MapBox). b (file.Box box.number box.generation) ≡ a (file.Box box.number box.generation)) bs) (sym boxes) e.boxes;
  regions = subst (λ (rows : List MapRecord). All (HasSameRegion a b) rows) (sym records) (all_map (HasSameRegion a b) (HasSameRegion a b) f (λ row r. region_same a b row (f row) (same row) r) m.records e.regions);
  instances = subst (λ (rows : List MapRecord). All (λ (r : MapRecord). All (HasSameInstance a b) r.instances) rows) (sym records)
      (all_map (λ (r : MapRecord). All (HasSameInstance a b) r.instances) (λ (r : MapRecord). All (HasSameInstance a b) r.instances) f (λ row h. subst (λ (is : List InstRow). All (HasSameInstance a b) is) (sym (same row).instances) h) m.records e.instances);
}

-- what an entry adds is synced: what is left agrees by the new meaning too
pub alike_added : (g : ℕ) (store : List ℕ) (entries : List MapEntry) (e : MapEntry) (disk : DiskState) (image : Files) → OnlyAdds e → AddsSynced disk e → IsImage disk image
    → AreAlike g (map_meaning store entries) (files_of disk) image → AreAlike g (map_meaning store (entries ++ e ∷ [])) (files_of disk) image
alike_added g store entries e disk image only synced held alike = subst (λ (n : MapMeaning). AreAlike g n (files_of disk) image) (sym (map_more store entries e)) (by_kind e only synced)
  where
    m : MapMeaning
    m = map_meaning store entries

    by_kind : (e : MapEntry) → OnlyAdds e → AddsSynced disk e → AreAlike g (map_applied e m) (files_of disk) image
    by_kind (entry.U u) o y = alike_counted g m (map_applied (entry.U u) m) (files_of disk) image (record_changed (entry.U u)) (same_but_count (entry.U u) tt) (records_changed (entry.U u) tt m) (boxes_stay (entry.U u) tt m) alike
    by_kind (entry.D us) o y = alike_counted g m (map_applied (entry.D us) m) (files_of disk) image (record_changed (entry.D us)) (same_but_count (entry.D us) tt) (records_changed (entry.D us) tt m) (boxes_stay (entry.D us) tt m) alike
    by_kind (entry.T cs) o y = alike_counted g m (map_applied (entry.T cs) m) (files_of disk) image (record_changed (entry.T cs)) (same_but_count (entry.T cs) tt) (records_changed (entry.T cs) tt m) (boxes_stay (entry.T cs) tt m) alike
    by_kind (entry.H h) o y = alike_counted g m (map_applied (entry.H h) m) (files_of disk) image (record_changed (entry.H h)) (same_but_count (entry.H h) tt) (records_changed (entry.H h) tt m) (boxes_stay (entry.H h) tt m) alike
    by_kind (entry.E f) o y = alike_counted g m (map_applied (entry.E f) m) (files_of disk) image (record_changed (entry.E f)) (same_but_count (entry.E f) tt) (records_changed (entry.E f) tt m) (boxes_stay (entry.E f) tt m) alike
    by_kind (entry.S a c u f o z k is) p y =
        alike_stored g m (map_applied (entry.S a c u f o z k is) m) (files_of disk) image (stored_row a c u f o z k is) (records_by_stored a c u f o z k is m.records) (boxes_by_stored a c u f o z k is m.boxes) alike
        (All-head (HasSameRegion (files_of disk) image) (stored_row a c u f o z k is) [] (y.regions image held))
        (All-head (λ (row : MapRecord). All (HasSameInstance (files_of disk) image) row.instances) (stored_row a c u f o z k is) [] (y.instances image held))
    by_kind (entry.B k h name) o y = record {
      root = alike.root;
      map = alike.map;
      boxes = subst (λ (bs : List MapBox). All (λ (box : MapBox). image (file.Box box.number box.generation) ≡ files_of disk (file.Box box.number box.generation)) bs) (sym (boxes_by_mailbox k h name m.boxes))
          (All-append (λ (box : MapBox). image (file.Box box.number box.generation) ≡ files_of disk (file.Box box.number box.generation)) m.boxes (record { number = k.0; generation = h; name = name } ∷ []) alike.boxes (y.boxes image held));
      regions = subst (λ (rows : List MapRecord). All (HasSameRegion (files_of disk) image) rows) (sym (records_by_mailbox k h name m.records)) alike.regions;
      instances = subst (λ (rows : List MapRecord). All (λ (r : MapRecord). All (HasSameInstance (files_of disk) image) r.instances) rows) (sym (records_by_mailbox k h name m.records)) alike.instances;
    }
    by_kind (entry.G k h) o y = absurd o
    by_kind (entry.P f t ms us) o y = absurd o
    by_kind (entry.X k cs) o y = absurd o
    by_kind (entry.V k n) o y = absurd o

-- of a settled disk
pub leaves_added : (disk : DiskState) (lists : Lists) (e : MapEntry) → (s : IsSettled disk lists) → OnlyAdds e → AddsSynced disk e → LeavesAlike s.safe.stands.map_log.generation (map_meaning s.store (s.entries ++ e ∷ [])) disk
leaves_added disk lists e s only synced = λ image held. alike_added s.safe.stands.map_log.generation s.store s.entries e disk image only synced held (s.alike image held)

-- an entry that changes counts at most adds nothing that has to be synced
nothing_synced : (disk : DiskState) (e : MapEntry) → record_made e ≡ [] → box_made e ≡ [] → AddsSynced disk e
nothing_synced disk e records boxes = record {
  regions = λ image held. subst (λ (rows : List MapRecord). All (HasSameRegion (files_of disk) image) rows) (sym records) (All-nil (HasSameRegion (files_of disk) image));
  instances = λ image held. subst (λ (rows : List MapRecord). All (λ (row : MapRecord). All (HasSameInstance (files_of disk) image) row.instances) rows) (sym records) (All-nil (λ (row : MapRecord). All (HasSameInstance (files_of disk) image) row.instances));
  boxes = λ image held. subst (λ (bs : List MapBox). All (λ (box : MapBox). image (file.Box box.number box.generation) ≡ files_of disk (file.Box box.number box.generation)) bs) (sym boxes)
      (All-nil (λ (box : MapBox). image (file.Box box.number box.generation) ≡ files_of disk (file.Box box.number box.generation)));
}

pub counts_synced : (disk : DiskState) (e : MapEntry) → ChangesCounts e → AddsSynced disk e
counts_synced disk (entry.U u) c = nothing_synced disk (entry.U u) refl refl
counts_synced disk (entry.D us) c = nothing_synced disk (entry.D us) refl refl
counts_synced disk (entry.T cs) c = nothing_synced disk (entry.T cs) refl refl
counts_synced disk (entry.H h) c = nothing_synced disk (entry.H h) refl refl
counts_synced disk (entry.E f) c = nothing_synced disk (entry.E f) refl refl
counts_synced disk (entry.B k g n) c = absurd c
counts_synced disk (entry.G k g) c = absurd c
counts_synced disk (entry.S o c u f a z g is) d = absurd d
counts_synced disk (entry.P f t ms us) c = absurd c
counts_synced disk (entry.X k cs) c = absurd c
counts_synced disk (entry.V k n) c = absurd c

-- An image with the entry, which has of each other file what a crash may leave, is safe for the lists that it gives.
pub safe_with_map_entry : (disk : DiskState) (lists later : Lists) (e : MapEntry) (image : Files) → (s : IsSettled disk lists) → IsImage disk (files_of disk) → IsMapAppend (files_of disk) s.store s.entries lists later e
    → LeavesAlike s.safe.stands.map_log.generation (map_meaning s.store (s.entries ++ e ∷ [])) disk → LeftBut (file.Map s.safe.stands.map_log.generation) disk image
    → HasOneMore (map_text e) (reading (disk (file.Map s.safe.stands.map_log.generation))) (image (file.Map s.safe.stands.map_log.generation)) → Safe image later
safe_with_map_entry disk lists later e image s own h alike left more =
    let g : ℕ = s.safe.stands.map_log.generation in
    let name : FileName = file.Map g in
    let n : MapMeaning = map_meaning s.store (s.entries ++ e ∷ []) in
    let c : Files = mixed name (files_of disk) image in
    record {
      store = s.store;
      entries = s.entries ++ e ∷ [];
      by = safe_by_map_append (files_of disk) image s.store s.entries lists later e s.safe h (record {
        more = more;
        others = λ other apart. subst (λ (o : Option (List ℕ)). CarriesOver g n (files_of disk) other o) (mixed-other name other (files_of disk) image apart)
            (carries_alike g n (files_of disk) c (alike c (mixed_image name disk image own left)) other);
      });
    }
