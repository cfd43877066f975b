-- References and counts, with an entry more: how many listed messages have a GUID, and that counts stay at least these.
use Rattle.model_appends.proofs.Common.{◌≡◌, ◌≤◌, ◌+◌, ◌==◌, ℕ, Bool, true, false, not, cond, if◌then◌else◌, List, [], ◌∷◌, ◌++◌, map, filter, count_by, sum_by, Option, Some, None, All, Contains, refl, bytes_eq, sym, ◌∙◌, ap, arith, All-contains, All-head, sum_by-cons, sum_by-append, Files, Uid}
use Rattle.model_appends.proofs.Common.{MapUid, Guid, BoxEntry, rows_by, MapEntry, ListedMessage, Mailbox, Lists, refs_of, empty_mailbox, BoxInRange, only_changes, equal_is, equal_yes, map_sound, LogRow, row_made, MapRecord, MapBox, MapMeaning, map_meaning, record_changed, record_of, count_of, box_made}
use Rattle.model_appends.proofs.Common.{IsSoundMap, found_one, text_is, at_uid, count_is, AreGoodLogs, HasItsRecord, IsCounted, Opens, listed_of, AreListed, StandsBy, bit, message_made, lists_by, logs_by, OnlyAdds, logs_made}
use Rattle.std.proofs.Common.{append-nil}
use Rattle.mdbox_base.specs.declared.entries.BoxEntry.TheVariants as entry
use Rattle.model_meaning.proofs.AppliedLemmas.{only_adds, leaves}
use Rattle.model_store.proofs.OpeningSafeLemmas.{have_records, unlisted, opens_safe, listed_are_refs}
use Rattle.model_appends.specs.Appending.{IsBoxAppend, message_changed, message_rules, mailbox_by, FitsIn}
use Rattle.model_appends.specs.MapAppending.{lists_made}
use Rattle.model_appends.proofs.AmountLemmas.{listed_added, listed_made}
use Rattle.model_appends.proofs.AppendFileLemmas.{SameButCount}
use Rattle.model_appends.proofs.AppendOpenLemmas.{log_there}
use Rattle.model_appends.proofs.AppendMapOpenLemmas.{found_added, same_record}

-- ---- references by the entries of a mailbox log

-- An entry behind which each mailbox has as many messages with this GUID.
refs_same : (number : ℕ) (octets : List ℕ) (e : BoxEntry) (lists : Lists) (guid : List ℕ)
    → ((xs : List ListedMessage) → count_by (λ y. bytes_eq y.guid guid) (rows_by (message_rules octets) e xs) ≡ count_by (λ y. bytes_eq y.guid guid) xs) → refs_of (lists_by number octets e lists) guid ≡ refs_of lists guid
refs_same number octets e [] guid same = refl
refs_same number octets e (x ∷ xs) guid same = by_test (x.number == number) (refs_same number octets e xs guid same)
  where
    in_box : Mailbox → ℕ
    in_box m = count_by (λ y. bytes_eq y.guid guid) m.messages

    here : in_box (mailbox_by octets e x) ≡ in_box x
    here = same x.messages

    by_test : (t : Bool) → refs_of (lists_by number octets e xs) guid ≡ refs_of xs guid → refs_of (cond t (mailbox_by octets e x ∷ xs) (x ∷ lists_by number octets e xs)) guid ≡ refs_of (x ∷ xs) guid
    by_test true rest = sum_by-cons in_box (mailbox_by octets e x) xs ∙ ap (λ (n : ℕ). n + sum_by in_box xs) here ∙ sym (sum_by-cons in_box x xs)
    by_test false rest = sum_by-cons in_box x (lists_by number octets e xs) ∙ ap (λ (n : ℕ). in_box x + n) rest ∙ sym (sum_by-cons in_box x xs)

pub refs_next : (number : ℕ) (octets : List ℕ) (next : ℕ) (lists : Lists) (guid : List ℕ) → refs_of (lists_by number octets (entry.N next) lists) guid ≡ refs_of lists guid
refs_next number octets next lists guid = refs_same number octets (entry.N next) lists guid (λ xs. ap (count_by (λ (y : ListedMessage). bytes_eq y.guid guid)) (leaves xs))

-- one that changes messages and keeps their GUIDs
messages_changed_count : (guid : List ℕ) (e : BoxEntry) (xs : List ListedMessage) → ((x : ListedMessage) → (message_changed e x).guid ≡ x.guid) → count_by (λ m. bytes_eq m.guid guid) (map (message_changed e) xs) ≡ count_by (λ m. bytes_eq m.guid guid) xs
messages_changed_count guid e [] same = refl
messages_changed_count guid e (x ∷ xs) same =
    sum_by-cons (λ (m : ListedMessage). cond (bytes_eq m.guid guid) 1 0) (message_changed e x) (map (message_changed e) xs)
    ∙ added _ _ _ _ (ap (λ (own : List ℕ). bit (bytes_eq own guid)) (same x)) (messages_changed_count guid e xs same) ∙ sym (sum_by-cons (λ (m : ListedMessage). cond (bytes_eq m.guid guid) 1 0) x xs)
  where
    added : (a b c d : ℕ) → a ≡ b → c ≡ d → a + c ≡ b + d
    added a b c d p q = cc (p, q)

either_guid : (t : Bool) (x y : ListedMessage) → y.guid ≡ x.guid → (if t then y else x).guid ≡ x.guid
either_guid true x y same = same
either_guid false x y same = refl

pub refs_flagged : (number : ℕ) (octets : List ℕ) (u : Uid) (f : ℕ) (lists : Lists) (guid : List ℕ) → refs_of (lists_by number octets (entry.F u f) lists) guid ≡ refs_of lists guid
refs_flagged number octets u f lists guid =
    refs_same number octets (entry.F u f) lists guid (λ xs. ap (count_by (λ (y : ListedMessage). bytes_eq y.guid guid)) (only_changes (message_changed (entry.F u f)) xs)
    ∙ messages_changed_count guid (entry.F u f) xs (λ x. either_guid (u.0 == x.uid) x (record x { flags = f }) refl))

pub refs_worded : (number : ℕ) (octets : List ℕ) (u : Uid) (words : List (List ℕ)) (lists : Lists) (guid : List ℕ) → refs_of (lists_by number octets (entry.K u words) lists) guid ≡ refs_of lists guid
refs_worded number octets u words lists guid =
    refs_same number octets (entry.K u words) lists guid (λ xs. ap (count_by (λ (y : ListedMessage). bytes_eq y.guid guid)) (only_changes (message_changed (entry.K u words)) xs)
    ∙ messages_changed_count guid (entry.K u words) xs (λ x. either_guid (u.0 == x.uid) x (record x { words = words }) refl))

unchanged : (xs : List ListedMessage) → map (λ m. m) xs ≡ xs
unchanged [] = refl
unchanged (x ∷ xs) = ap (λ (ys : List ListedMessage). x ∷ ys) (unchanged xs)

fewer : (guid : List ℕ) (u : ℕ) (xs : List ListedMessage) → count_by (λ m. bytes_eq m.guid guid) (filter (λ m. not (u == m.uid)) xs) ≤ count_by (λ m. bytes_eq m.guid guid) xs
fewer guid u [] = omega arith
fewer guid u (x ∷ xs) = by_test (u == x.uid) (fewer guid u xs)
  where
    in_list : List ListedMessage → ℕ
    in_list ys = count_by (λ m. bytes_eq m.guid guid) ys

    by_test : (t : Bool) → in_list (filter (λ m. not (u == m.uid)) xs) ≤ in_list xs → in_list (cond (not t) (x ∷ filter (λ m. not (u == m.uid)) xs) (filter (λ m. not (u == m.uid)) xs)) ≤ in_list (x ∷ xs)
    by_test true rest = let b = sum_by-cons (λ (m : ListedMessage). bit (bytes_eq m.guid guid)) x xs in omega (arith, rest, b)
    by_test false rest =
        let a = sum_by-cons (λ (m : ListedMessage). bit (bytes_eq m.guid guid)) x (filter (λ (m : ListedMessage). not (u == m.uid)) xs) in
        let b = sum_by-cons (λ (m : ListedMessage). bit (bytes_eq m.guid guid)) x xs in
        omega (arith, rest, a, b)

pub refs_removed : (number : ℕ) (octets : List ℕ) (u : Uid) (lists : Lists) (guid : List ℕ) → refs_of (lists_by number octets (entry.R u) lists) guid ≤ refs_of lists guid
refs_removed number octets u [] guid = omega arith
refs_removed number octets u (x ∷ xs) guid = by_test (x.number == number) (refs_removed number octets u xs guid)
  where
    in_box : Mailbox → ℕ
    in_box m = count_by (λ y. bytes_eq y.guid guid) m.messages

    here : in_box (mailbox_by octets (entry.R u) x) ≤ in_box x
    here =
        let e : in_box (mailbox_by octets (entry.R u) x) ≡ count_by (λ (y : ListedMessage). bytes_eq y.guid guid) (filter (λ (m : ListedMessage). not (u.0 == m.uid)) x.messages) =
        ap (count_by (λ (y : ListedMessage). bytes_eq y.guid guid)) (append-nil _ ∙ unchanged (filter (λ (m : ListedMessage). not (u.0 == m.uid)) x.messages)) in
        let f = fewer guid u.0 x.messages in
        omega (arith, e, f)

    by_test : (t : Bool) → refs_of (lists_by number octets (entry.R u) xs) guid ≤ refs_of xs guid → refs_of (cond t (mailbox_by octets (entry.R u) x ∷ xs) (x ∷ lists_by number octets (entry.R u) xs)) guid ≤ refs_of (x ∷ xs) guid
    by_test true rest = let a = sum_by-cons in_box (mailbox_by octets (entry.R u) x) xs in let b = sum_by-cons in_box x xs in omega (arith, here, a, b)
    by_test false rest = let a = sum_by-cons in_box x (lists_by number octets (entry.R u) xs) in let b = sum_by-cons in_box x xs in omega (arith, rest, a, b)

pub refs_added : (number : ℕ) (octets : List ℕ) (u : Uid) (flags time size : ℕ) (k : MapUid) (g : Guid) (words : List (List ℕ)) (lists : Lists) (guid : List ℕ) → refs_of (lists_by number octets (entry.A u flags time size k g words) lists) guid ≤ refs_of lists guid + bit (bytes_eq g.0 guid)
refs_added number octets u flags time size k g words [] guid = omega arith
refs_added number octets u flags time size k g words (x ∷ xs) guid = by_test (x.number == number) (refs_added number octets u flags time size k g words xs guid)
  where
    e : BoxEntry
    e = entry.A u flags time size k g words

    made : ListedMessage
    made = record { uid = u.0; flags = flags; time = time; guid = g.0; octets = octets; words = words }

    in_box : Mailbox → ℕ
    in_box m = count_by (λ y. bytes_eq y.guid guid) m.messages

    here : in_box (mailbox_by octets (entry.A u flags time size k g words) x) ≡ in_box x + (0 + bit (bytes_eq g.0 guid))
    here = ap (count_by (λ (y : ListedMessage). bytes_eq y.guid guid)) (only_adds x.messages (made ∷ [])) ∙ sum_by-append (λ (y : ListedMessage). bit (bytes_eq y.guid guid)) x.messages (made ∷ [])

    by_test : (t : Bool) → refs_of (lists_by number octets (entry.A u flags time size k g words) xs) guid ≤ refs_of xs guid + bit (bytes_eq g.0 guid)
        → refs_of (cond t (mailbox_by octets (entry.A u flags time size k g words) x ∷ xs) (x ∷ lists_by number octets (entry.A u flags time size k g words) xs)) guid ≤ refs_of (x ∷ xs) guid + bit (bytes_eq g.0 guid)
    by_test true rest = let a = sum_by-cons in_box (mailbox_by octets (entry.A u flags time size k g words) x) xs in let b = sum_by-cons in_box x xs in omega (arith, here, a, b)
    by_test false rest = let a = sum_by-cons in_box x (lists_by number octets (entry.A u flags time size k g words) xs) in let b = sum_by-cons in_box x xs in omega (arith, rest, a, b)

-- ---- counts are enough for the lists that an entry gives

-- Where each count is at least what the logs list with the entry, it is at least the references of the lists that it gives.
pub counts_by_box_entry : (files : Files) (store : List ℕ) (entries : List MapEntry) (logs : List (List BoxEntry)) (lists : Lists) (number : ℕ) (octets : List ℕ) (e : BoxEntry) → Opens files store entries logs → StandsBy files store entries lists
    → FitsIn number e (map_meaning store entries).boxes logs → All (HasItsRecord (map_meaning store entries)) (row_made e) → All (IsCounted (logs_by number e (map_meaning store entries).boxes logs)) (map_meaning store entries).records
    → (guid : List ℕ) → refs_of (lists_by number octets e lists) guid ≤ count_of (map_meaning store entries) guid
counts_by_box_entry files store entries logs lists number octets (entry.N n) o s fits made counts guid = let a = refs_next number octets n lists guid in let b = (opens_safe files store entries logs lists o s).has_all.counts guid in omega (arith, a, b)
counts_by_box_entry files store entries logs lists number octets (entry.F u f) o s fits made counts guid = let a = refs_flagged number octets u f lists guid in let b = (opens_safe files store entries logs lists o s).has_all.counts guid in omega (arith, a, b)
counts_by_box_entry files store entries logs lists number octets (entry.K u ws) o s fits made counts guid = let a = refs_worded number octets u ws lists guid in let b = (opens_safe files store entries logs lists o s).has_all.counts guid in omega (arith, a, b)
counts_by_box_entry files store entries logs lists number octets (entry.R u) o s fits made counts guid = let a = refs_removed number octets u lists guid in let b = (opens_safe files store entries logs lists o s).has_all.counts guid in omega (arith, a, b)
counts_by_box_entry files store entries logs lists number octets (entry.A u f t z k g ws) o s fits made counts guid = by_test (bytes_eq g.0 guid) refl
  where
    m : MapMeaning
    m = map_meaning store entries

    by_test : (test : Bool) → bytes_eq g.0 guid ≡ test → refs_of (lists_by number octets (entry.A u f t z k g ws) lists) guid ≤ count_of m guid
    by_test false is =
        let a = refs_added number octets u f t z k g ws lists guid in
        let b = (opens_safe files store entries logs lists o s).has_all.counts guid in
        let c : bit (bytes_eq g.0 guid) ≡ 0 = ap bit is in
        omega (arith, a, b, c)
    by_test true is =
        let row : LogRow = record { uid = u.0; flags = f; time = t; size = z; map_uid = k.0; guid = g.0; words = ws } in
        let its = All-head (HasItsRecord m) row [] made in
        let r : MapRecord = its.0 in
        let one = found_one (λ (r : MapRecord). r.uid == k.0) m.records r its.1 in
        let uid : r.uid ≡ k.0 = equal_is r.uid k.0 one.1 in
        let same : r.guid ≡ guid = its.2 ∙ text_is g.0 guid is in
        let sound : IsSoundMap m = map_sound store entries s.map_log.fit s.map_log.in_range in
        let enough : listed_of (logs_by number (entry.A u f t z k g ws) m.boxes logs) r.uid ≤ r.count = All-contains (IsCounted (logs_by number (entry.A u f t z k g ws) m.boxes logs)) m.records r counts one.0 in
        let more = listed_added number u f t z k g ws m.boxes logs fits.0 r.uid fits.1 in
        let b : bit (k.0 == r.uid) ≡ 1 = ap bit (equal_yes k.0 r.uid (sym uid)) in
        let listed : listed_of logs r.uid ≡ refs_of lists guid = listed_are_refs files store entries logs lists r o s one.0 ∙ ap (refs_of lists) same in
        let count : count_of m guid ≡ r.count = ap (count_of m) (sym same) ∙ count_is m r sound one.0 in
        let a = refs_added number octets u f t z k g ws lists guid in
        let c : bit (bytes_eq g.0 guid) ≡ 1 = ap bit is in
        omega (arith, a, c, listed, count, more, b, enough)

-- An entry that fits behind the log of a mailbox of files that open and stand for lists can be appended, where a message that
-- it adds is listed, and each count is at least what the logs list with the entry.
pub box_append : (files : Files) (store : List ℕ) (entries : List MapEntry) (logs : List (List BoxEntry)) (lists : Lists) (box : MapBox) (octets : List ℕ) (e : BoxEntry) → Opens files store entries logs → StandsBy files store entries lists
    → Contains (map_meaning store entries).boxes box → BoxInRange e → FitsIn box.number e (map_meaning store entries).boxes logs → AreListed files (map_meaning store entries) (row_made e) (message_made octets e)
    → All (IsCounted (logs_by box.number e (map_meaning store entries).boxes logs)) (map_meaning store entries).records → IsBoxAppend files store entries lists box octets e
box_append files store entries logs lists box octets e o s there in_range fits added counts =
    let m : MapMeaning = map_meaning store entries in
    let log = log_there files store entries logs box e o there fits in
    record {
      log = log.0;
      is_mailbox = there;
      has = log.1;
      in_range = in_range;
      fits = log.2;
      added = added;
      counts = counts_by_box_entry files store entries logs lists box.number octets e o s fits (have_records files m (row_made e) (message_made octets e) added) counts;
    }

-- no message is listed in a mailbox that is made
refs_empty : (boxes : List MapBox) (guid : List ℕ) → refs_of (map (λ box. empty_mailbox box.number box.name) boxes) guid ≡ 0
refs_empty [] guid = refl
refs_empty (box ∷ boxes) guid =
    let a = sum_by-cons (λ (x : Mailbox). count_by (λ (y : ListedMessage). bytes_eq y.guid guid) x.messages) (empty_mailbox box.number box.name) (map (λ (b : MapBox). empty_mailbox b.number b.name) boxes) in
    let b = refs_empty boxes guid in
    omega (arith, a, b)

pub refs_made : (e : MapEntry) (lists : Lists) (guid : List ℕ) → refs_of (lists_made e lists) guid ≡ refs_of lists guid
refs_made e lists guid =
    let a = sum_by-append (λ (x : Mailbox). count_by (λ (y : ListedMessage). bytes_eq y.guid guid) x.messages) lists (map (λ (b : MapBox). empty_mailbox b.number b.name) (box_made e)) in
    let b = refs_empty (box_made e) guid in
    omega (arith, a, b)

pub counts_by_map_entry : (files : Files) (store : List ℕ) (entries : List MapEntry) (logs : List (List BoxEntry)) (lists : Lists) (e : MapEntry) → Opens files store entries logs → StandsBy files store entries lists → OnlyAdds e
    → AreGoodLogs store (entries ++ e ∷ []) (logs_made e logs) → (guid : List ℕ) → refs_of (lists_made e lists) guid ≤ count_of (map_meaning store (entries ++ e ∷ [])) guid
counts_by_map_entry files store entries logs lists e o s only good guid = by_found (record_of m guid) refl
  where
    m : MapMeaning
    m = map_meaning store entries

    n : MapMeaning
    n = map_meaning store (entries ++ e ∷ [])

    by_found : (found : Option MapRecord) → record_of m guid ≡ found → refs_of (lists_made e lists) guid ≤ count_of n guid
    by_found None is = let a = refs_made e lists guid in let b = unlisted files m guid m.boxes lists is s.mailboxes in omega (arith, a, b)
    by_found (Some r) is =
        let one = found_one (λ (r : MapRecord). bytes_eq r.guid guid) m.records r is in
        let guid_is : r.guid ≡ guid = text_is r.guid guid one.1 in
        let old : IsSoundMap m = map_sound store entries s.map_log.fit s.map_log.in_range in
        let new : IsSoundMap n = map_sound store (entries ++ e ∷ []) good.map_entries.1 good.map_entries.0 in
        let later : MapRecord = record_changed e r in
        let same : SameButCount r later = same_record e only r in
        let there : Contains n.records later = (found_one (λ (x : MapRecord). x.uid == r.uid) n.records later (found_added store entries e only r.uid r (at_uid m r old one.0))).0 in
        let enough : listed_of (logs_made e logs) later.uid ≤ later.count = All-contains (IsCounted (logs_made e logs)) n.records later good.counts there in
        let listed : listed_of (logs_made e logs) later.uid ≡ refs_of lists guid =
        listed_made e logs later.uid only ∙ ap (listed_of logs) same.uid ∙ listed_are_refs files store entries logs lists r o s one.0 ∙ ap (refs_of lists) guid_is in
        let count : count_of n guid ≡ later.count = ap (count_of n) (sym (same.guid ∙ guid_is)) ∙ count_is n later new there in
        let a = refs_made e lists guid in
        omega (arith, a, listed, count, enough)
