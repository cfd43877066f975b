-- Files that are safe open, with the logs that show the lists; and files that open and stand for lists are safe.
use Rattle.std.specs.Prelude.{◌≡◌, ◌≤◌, ◌+◌, ◌==◌, ℕ, Bool, false, cond, List, [], ◌∷◌, length, map, Option, Some, None, All, Contains, sum_by, count_by, refl}
use Rattle.std.specs.Option.{option_map_or}
use Rattle.std.specs.Str.{bytes_eq}
use Rattle.std.proofs.Common.{sym, ◌∙◌, ap, arith, subst}
use Rattle.std.proofs.lemmas.List.Elements.{All-nil, All-cons, All-contains, All-weaker, All-contains_itself}
use Rattle.std.proofs.lemmas.List.Sums.{sum_by-cons}
use Rattle.disk_model.specs.Disk.{Files}
use Rattle.mdbox_base.specs.declared.entries.BoxEntry.{BoxEntry}
use Rattle.mdbox_base.specs.declared.entries.MapEntry.{MapEntry}
use Rattle.mdbox_base.specs.declared.replies.ListRow.{ListRow}
use Rattle.model_lists.specs.Lists.{ListedMessage, Mailbox, Lists, refs_of, listing_row}
use Rattle.model_meaning.specs.BoxMeaning.{LogRow, rows_after, next_after}
use Rattle.model_meaning.specs.MapMeaning.{MapRecord, MapBox, MapMeaning, map_meaning, record_at, record_of, count_of}
use Rattle.model_logs.specs.Entries.{box_text, BoxInRange}
use Rattle.model_logs.proofs.EntryLemmas.{box_one}
use Rattle.model_meaning.proofs.MapPlaceLemmas.{equal_is, equal_yes}
use Rattle.model_meaning.specs.Sound.{IsSoundMap}
use Rattle.model_meaning.proofs.MapSoundLemmas.{map_sound}
use Rattle.model_octets.proofs.SearchLemmas.{found_is, found_one, found_none, both_same, text_is, text_yes}
use Rattle.model_store.specs.Stands.{HasBox, IsListed, AreListed, IsMailbox, AreMailboxes, StandsBy}
use Rattle.model_store.proofs.StandsLemmas.{log_same}
use Rattle.model_store.specs.Safe.{SafeBy}
use Rattle.model_store.specs.Listing.{listed_row, HaveListings}
use Rattle.model_store.specs.Opening.{HasItsRecord, PassBoxes, listed_of, IsCounted, Opens}

some_same : {X : Type 0} → (o : Option X) (a b : X) → o ≡ Some a → o ≡ Some b → a ≡ b
some_same o a b p q = let h : Some a ≡ Some b = sym p ∙ q in cc h

-- ---- mailboxes with their logs

-- a mailbox of the map has a log with these entries and is this one of the lists
pub record IsBy (image : Files) (m : MapMeaning) (box : MapBox) (entries : List BoxEntry) (mailbox : Mailbox) : Type 0 where
  log : HasBox image m.store box entries
  number : mailbox.number ≡ box.number
  name : mailbox.name ≡ box.name
  next : mailbox.next_uid ≡ next_after entries
  messages : AreListed image m (rows_after entries) mailbox.messages

abbrev pub AreBy : Files → MapMeaning → List MapBox → List (List BoxEntry) → Lists → Type 0
AreBy image m [] [] [] = Unit {0}
AreBy image m (box ∷ boxes) (entries ∷ logs) (mailbox ∷ lists) = IsBy image m box entries mailbox × AreBy image m boxes logs lists
AreBy image m boxes logs lists = ⊥

-- the logs of mailboxes for which files stand
logs_there : (image : Files) (m : MapMeaning) (boxes : List MapBox) (lists : Lists) → AreMailboxes image m boxes lists → (logs : List (List BoxEntry)) × AreBy image m boxes logs lists
logs_there image m [] [] h = ([], tt)
logs_there image m [] (x ∷ xs) h = absurd h
logs_there image m (box ∷ boxes) [] h = absurd h
logs_there image m (box ∷ boxes) (x ∷ xs) h =
    let r = logs_there image m boxes xs h.1 in
    (h.0.entries ∷ r.0, (record { log = h.0.log; number = h.0.number; name = h.0.name; next = h.0.next; messages = h.0.messages }, r.1))

-- other logs that pass are these
by_log : (image : Files) (m : MapMeaning) (box : MapBox) (entries : List BoxEntry) (x : Mailbox) → HasBox image m.store box entries → IsMailbox image m box x → IsBy image m box entries x
by_log image m box entries x log h =
    let e : h.entries ≡ entries = (log_same box_text BoxInRange (box_one 2) image _ _ _ h.entries entries h.log.in_range log.in_range h.log.log log.log).1 in
    record {
      log = log;
      number = h.number;
      name = h.name;
      next = h.next ∙ ap next_after e;
      messages = subst (λ (o : List BoxEntry). AreListed image m (rows_after o) x.messages) e h.messages;
    }

pub passed_by : (image : Files) (m : MapMeaning) (boxes : List MapBox) (logs : List (List BoxEntry)) (lists : Lists) → PassBoxes image m boxes logs → AreMailboxes image m boxes lists → AreBy image m boxes logs lists
passed_by image m [] [] [] p h = tt
passed_by image m [] [] (x ∷ xs) p h = absurd h
passed_by image m [] (es ∷ logs) lists p h = absurd p
passed_by image m (box ∷ boxes) [] lists p h = absurd p
passed_by image m (box ∷ boxes) (es ∷ logs) [] p h = absurd h
passed_by image m (box ∷ boxes) (es ∷ logs) (x ∷ xs) p h = (by_log image m box es x p.0.log h.0, passed_by image m boxes logs xs p.1 h.1)

-- ---- they pass, and show the lists

pub have_records : (image : Files) (m : MapMeaning) (rows : List LogRow) (xs : List ListedMessage) → AreListed image m rows xs → All (HasItsRecord m) rows
have_records image m [] [] l = All-nil (HasItsRecord m)
have_records image m [] (x ∷ xs) l = absurd l
have_records image m (row ∷ rows) [] l = absurd l
have_records image m (row ∷ rows) (x ∷ xs) l = All-cons (HasItsRecord m) row rows (l.0.entry, l.0.found, l.0.same) (have_records image m rows xs l.1)

boxes_pass : (image : Files) (m : MapMeaning) (boxes : List MapBox) (logs : List (List BoxEntry)) (lists : Lists) → AreBy image m boxes logs lists → PassBoxes image m boxes logs
boxes_pass image m [] [] [] h = tt
boxes_pass image m [] [] (x ∷ xs) h = absurd h
boxes_pass image m [] (es ∷ logs) [] h = absurd h
boxes_pass image m [] (es ∷ logs) (x ∷ xs) h = absurd h
boxes_pass image m (box ∷ boxes) [] [] h = absurd h
boxes_pass image m (box ∷ boxes) [] (x ∷ xs) h = absurd h
boxes_pass image m (box ∷ boxes) (es ∷ logs) [] h = absurd h
boxes_pass image m (box ∷ boxes) (es ∷ logs) (x ∷ xs) h =
    (record { log = h.0.log; records = have_records image m (rows_after es) x.messages h.0.messages }, boxes_pass image m boxes logs xs h.1)

made_row : ℕ → ℕ → ℕ → ℕ → List ℕ → List (List ℕ) → ListRow
made_row uid flags size time guid words = record { uid = record { 0 = uid }; flags = flags; size = size; time = time; guid = record { 0 = guid }; words = words }

row_shown : (image : Files) (m : MapMeaning) (row : LogRow) (x : ListedMessage) → IsListed image m row x → listed_row row ≡ listing_row x
unfolding made_row
row_shown image m row x l =
    let same : made_row row.uid row.flags row.size row.time row.guid row.words ≡ made_row x.uid x.flags (length x.octets) x.time x.guid x.words = cc (l.uid, l.flags, l.time, l.guid, l.size, l.words) in
    same

rows_shown : (image : Files) (m : MapMeaning) (rows : List LogRow) (xs : List ListedMessage) → AreListed image m rows xs → map listed_row rows ≡ map listing_row xs
rows_shown image m [] [] l = refl
rows_shown image m [] (x ∷ xs) l = absurd l
rows_shown image m (row ∷ rows) [] l = absurd l
rows_shown image m (row ∷ rows) (x ∷ xs) l =
    let h : listed_row row ≡ listing_row x = row_shown image m row x l.0 in
    let t : map listed_row rows ≡ map listing_row xs = rows_shown image m rows xs l.1 in
    cc (h, t)

listings : (image : Files) (m : MapMeaning) (boxes : List MapBox) (logs : List (List BoxEntry)) (lists : Lists) → AreBy image m boxes logs lists → HaveListings boxes logs lists
listings image m [] [] [] h = tt
listings image m [] [] (x ∷ xs) h = absurd h
listings image m [] (es ∷ logs) [] h = absurd h
listings image m [] (es ∷ logs) (x ∷ xs) h = absurd h
listings image m (box ∷ boxes) [] [] h = absurd h
listings image m (box ∷ boxes) [] (x ∷ xs) h = absurd h
listings image m (box ∷ boxes) (es ∷ logs) [] h = absurd h
listings image m (box ∷ boxes) (es ∷ logs) (x ∷ xs) h =
    (record { number = h.0.number; name = h.0.name; next = h.0.next; rows = rows_shown image m (rows_after es) x.messages h.0.messages }, listings image m boxes logs xs h.1)

-- ---- counts

-- a record is found by its map uid, and by its GUID
pub at_uid : (m : MapMeaning) (row : MapRecord) → IsSoundMap m → Contains m.records row → record_at m row.uid ≡ Some row
at_uid m row s c =
    found_is (λ (r : MapRecord). r.uid == row.uid) m.records row c (equal_yes row.uid row.uid refl)
    (λ i j d lt le p q. let a = equal_is _ row.uid p in let b = equal_is _ row.uid q in let h = s.rising i j d lt le in omega (arith, a, b, h))

of_guid : (m : MapMeaning) (row : MapRecord) (guid : List ℕ) → IsSoundMap m → Contains m.records row → row.guid ≡ guid → record_of m guid ≡ Some row
of_guid m row guid s c e =
    found_is (λ (r : MapRecord). bytes_eq r.guid guid) m.records row c (text_yes row.guid guid e)
    (λ i j d lt le p q. s.guids i j d lt le (text_is _ guid p ∙ sym (text_is _ guid q)))

-- the message of a row has a record's GUID where the row has its map uid
pair_same : (image : Files) (m : MapMeaning) (row : LogRow) (x : ListedMessage) (r : MapRecord) → IsSoundMap m → Contains m.records r → IsListed image m row x → (row.map_uid == r.uid) ≡ bytes_eq x.guid r.guid
pair_same image m row x r s c l =
    let f = found_one (λ (o : MapRecord). o.uid == row.map_uid) m.records l.entry l.found in
    let same_uid : l.entry.uid ≡ row.map_uid = equal_is l.entry.uid row.map_uid f.1 in
    let same_guid : l.entry.guid ≡ x.guid = l.same ∙ sym l.guid in
    both_same (row.map_uid == r.uid) (bytes_eq x.guid r.guid)
    (λ p.
    let e : l.entry ≡ r = some_same (record_at m r.uid) l.entry r (subst (λ (u : ℕ). record_at m u ≡ Some l.entry) (equal_is row.map_uid r.uid p) l.found) (at_uid m r s c) in
    text_yes x.guid r.guid (sym same_guid ∙ ap (λ (o : MapRecord). o.guid) e))
    (λ p.
    let e : l.entry ≡ r = some_same (record_of m r.guid) l.entry r (of_guid m l.entry r.guid s f.0 (same_guid ∙ text_is x.guid r.guid p)) (of_guid m r r.guid s c refl) in
    equal_yes row.map_uid r.uid (sym same_uid ∙ ap (λ (o : MapRecord). o.uid) e))

one_more : {X : Type 0} → (f : X → ℕ) (x : X) (xs : List X) → sum_by f (x ∷ xs) ≡ f x + sum_by f xs
one_more f x xs = sum_by-cons f x xs

rows_counted : (image : Files) (m : MapMeaning) (rows : List LogRow) (xs : List ListedMessage) (r : MapRecord) → IsSoundMap m → Contains m.records r → AreListed image m rows xs
    → count_by (λ row. row.map_uid == r.uid) rows ≡ count_by (λ x. bytes_eq x.guid r.guid) xs
rows_counted image m [] [] r s c l = refl
rows_counted image m [] (x ∷ xs) r s c l = absurd l
rows_counted image m (row ∷ rows) [] r s c l = absurd l
rows_counted image m (row ∷ rows) (x ∷ xs) r s c l =
    let h : cond (row.map_uid == r.uid) 1 0 ≡ cond (bytes_eq x.guid r.guid) 1 0 = ap (λ (b : Bool). cond b 1 0) (pair_same image m row x r s c l.0) in
    let t = rows_counted image m rows xs r s c l.1 in
    one_more (λ (o : LogRow). cond (o.map_uid == r.uid) 1 0) row rows ∙ added _ _ _ _ h t ∙ sym (one_more (λ (o : ListedMessage). cond (bytes_eq o.guid r.guid) 1 0) x xs)
  where
    added : (a b c d : ℕ) → a ≡ b → c ≡ d → a + c ≡ b + d
    added a b c d p q = cc (p, q)

-- a record has as many listed messages as its GUID has
pub counted : (image : Files) (m : MapMeaning) (boxes : List MapBox) (logs : List (List BoxEntry)) (lists : Lists) (r : MapRecord) → IsSoundMap m → Contains m.records r → AreBy image m boxes logs lists
    → listed_of logs r.uid ≡ refs_of lists r.guid
counted image m [] [] [] r s c h = refl
counted image m [] [] (x ∷ xs) r s c h = absurd h
counted image m [] (es ∷ logs) [] r s c h = absurd h
counted image m [] (es ∷ logs) (x ∷ xs) r s c h = absurd h
counted image m (box ∷ boxes) [] [] r s c h = absurd h
counted image m (box ∷ boxes) [] (x ∷ xs) r s c h = absurd h
counted image m (box ∷ boxes) (es ∷ logs) [] r s c h = absurd h
counted image m (box ∷ boxes) (es ∷ logs) (x ∷ xs) r s c h =
    let a = rows_counted image m (rows_after es) x.messages r s c h.0.messages in
    let t = counted image m boxes logs xs r s c h.1 in
    one_more (λ (o : List BoxEntry). count_by (λ row. row.map_uid == r.uid) (rows_after o)) es logs ∙ added _ _ _ _ a t
    ∙ sym (one_more (λ (o : Mailbox). count_by (λ (y : ListedMessage). bytes_eq y.guid r.guid) o.messages) x xs)
  where
    added : (a b c d : ℕ) → a ≡ b → c ≡ d → a + c ≡ b + d
    added a b c d p q = cc (p, q)

pub count_is : (m : MapMeaning) (r : MapRecord) → IsSoundMap m → Contains m.records r → count_of m r.guid ≡ r.count
count_is m r s c = ap (λ (o : Option MapRecord). option_map_or (λ (row : MapRecord). row.count) o 0) (of_guid m r r.guid s c refl)

-- ---- safe files open

all_counted : (image : Files) (m : MapMeaning) (logs : List (List BoxEntry)) (lists : Lists) → IsSoundMap m → AreBy image m m.boxes logs lists → ((guid : List ℕ) → refs_of lists guid ≤ count_of m guid) → All (IsCounted logs) m.records
all_counted image m logs lists s h counts = All-weaker (Contains m.records) (IsCounted logs) (λ r c.
    let a = counted image m m.boxes logs lists r s c h in
    let b = count_is m r s c in
    let k = counts r.guid in
    omega (arith, a, b, k)) m.records (All-contains_itself m.records)

pub safe_opens : (files : Files) (store : List ℕ) (entries : List MapEntry) (lists : Lists) → SafeBy files store entries lists
    → (logs : List (List BoxEntry)) × Opens files store entries logs × HaveListings (map_meaning store entries).boxes logs lists
safe_opens files store entries lists safe =
    let m : MapMeaning = map_meaning store entries in
    let s : IsSoundMap m = map_sound store entries safe.stands.map_log.fit safe.stands.map_log.in_range in
    let r = logs_there files m m.boxes lists safe.stands.mailboxes in (
      r.0,
      record {
        passed = record { map_log = safe.stands.map_log; boxes = boxes_pass files m m.boxes r.0 lists r.1 };
        counts = all_counted files m r.0 lists s r.1 safe.has_all.counts;
        regions = safe.has_all.regions;
        instances = safe.has_all.instances;
      },
      listings files m m.boxes r.0 lists r.1,
    )

-- ---- what opens and stands is safe

-- a GUID that no record has is listed nowhere
unlisted_rows : (image : Files) (m : MapMeaning) (guid : List ℕ) (rows : List LogRow) (xs : List ListedMessage) → record_of m guid ≡ None → AreListed image m rows xs → count_by (λ x. bytes_eq x.guid guid) xs ≡ 0
unlisted_rows image m guid [] [] n l = refl
unlisted_rows image m guid [] (x ∷ xs) n l = absurd l
unlisted_rows image m guid (row ∷ rows) [] n l = absurd l
unlisted_rows image m guid (row ∷ rows) (x ∷ xs) n l =
    let f = found_one (λ (o : MapRecord). o.uid == row.map_uid) m.records l.0.entry l.0.found in
    let no : bytes_eq l.0.entry.guid guid ≡ false = All-contains (λ (o : MapRecord). bytes_eq o.guid guid ≡ false) m.records l.0.entry (found_none (λ (o : MapRecord). bytes_eq o.guid guid) m.records n) f.0 in
    let h : bytes_eq x.guid guid ≡ false = ap (λ (g : List ℕ). bytes_eq g guid) (l.0.guid ∙ sym l.0.same) ∙ no in
    let t = unlisted_rows image m guid rows xs n l.1 in
    one_more (λ (o : ListedMessage). cond (bytes_eq o.guid guid) 1 0) x xs ∙ added _ _ (ap (λ (b : Bool). cond b 1 0) h) t
  where
    added : (a b : ℕ) → a ≡ 0 → b ≡ 0 → a + b ≡ 0
    added a b p q = omega (arith, p, q)

pub unlisted : (image : Files) (m : MapMeaning) (guid : List ℕ) (boxes : List MapBox) (lists : Lists) → record_of m guid ≡ None → AreMailboxes image m boxes lists → refs_of lists guid ≡ 0
unlisted image m guid [] [] n h = refl
unlisted image m guid [] (x ∷ xs) n h = absurd h
unlisted image m guid (box ∷ boxes) [] n h = absurd h
unlisted image m guid (box ∷ boxes) (x ∷ xs) n h =
    let a = unlisted_rows image m guid (rows_after h.0.entries) x.messages n h.0.messages in
    let t = unlisted image m guid boxes xs n h.1 in
    one_more (λ (o : Mailbox). count_by (λ (y : ListedMessage). bytes_eq y.guid guid) o.messages) x xs ∙ added _ _ a t
  where
    added : (a b : ℕ) → a ≡ 0 → b ≡ 0 → a + b ≡ 0
    added a b p q = omega (arith, p, q)

guid_counted : (image : Files) (m : MapMeaning) (logs : List (List BoxEntry)) (lists : Lists) (guid : List ℕ) (found : Option MapRecord) → record_of m guid ≡ found → IsSoundMap m → AreMailboxes image m m.boxes lists → AreBy image m m.boxes logs lists
    → All (IsCounted logs) m.records → refs_of lists guid ≤ option_map_or (λ (row : MapRecord). row.count) found 0
guid_counted image m logs lists guid None n s h b counts = let z = unlisted image m guid m.boxes lists n h in omega (arith, z)
guid_counted image m logs lists guid (Some r) f s h b counts =
    let o = found_one (λ (r : MapRecord). bytes_eq r.guid guid) m.records r f in
    let g : r.guid ≡ guid = text_is r.guid guid o.1 in
    let e : listed_of logs r.uid ≡ refs_of lists guid = counted image m m.boxes logs lists r s o.0 b ∙ ap (refs_of lists) g in
    let k : listed_of logs r.uid ≤ r.count = All-contains (IsCounted logs) m.records r counts o.0 in
    omega (arith, e, k)

pub opens_safe : (files : Files) (store : List ℕ) (entries : List MapEntry) (logs : List (List BoxEntry)) (lists : Lists) → Opens files store entries logs → StandsBy files store entries lists → SafeBy files store entries lists
opens_safe files store entries logs lists o stands =
    let m : MapMeaning = map_meaning store entries in
    let s : IsSoundMap m = map_sound store entries stands.map_log.fit stands.map_log.in_range in
    let b = passed_by files m m.boxes logs lists o.passed.boxes stands.mailboxes in
    record {
      stands = stands;
      has_all = record {
        counts = λ guid. guid_counted files m logs lists guid (record_of m guid) refl s stands.mailboxes b o.counts;
        regions = o.regions;
        instances = o.instances;
      };
    }

-- the logs with which files open that stand for lists show these
pub opens_shows : (files : Files) (store : List ℕ) (entries : List MapEntry) (logs : List (List BoxEntry)) (lists : Lists) → Opens files store entries logs → StandsBy files store entries lists
    → HaveListings (map_meaning store entries).boxes logs lists
opens_shows files store entries logs lists o stands =
    let m : MapMeaning = map_meaning store entries in
    listings files m m.boxes logs lists (passed_by files m m.boxes logs lists o.passed.boxes stands.mailboxes)

-- a record has as many listed messages as its GUID has
pub listed_are_refs : (files : Files) (store : List ℕ) (entries : List MapEntry) (logs : List (List BoxEntry)) (lists : Lists) (row : MapRecord) → Opens files store entries logs → StandsBy files store entries lists
    → Contains (map_meaning store entries).records row → listed_of logs row.uid ≡ refs_of lists row.guid
listed_are_refs files store entries logs lists row o stands c =
    let m : MapMeaning = map_meaning store entries in
    counted files m m.boxes logs lists row (map_sound store entries stands.map_log.fit stands.map_log.in_range) c (passed_by files m m.boxes logs lists o.passed.boxes stands.mailboxes)
