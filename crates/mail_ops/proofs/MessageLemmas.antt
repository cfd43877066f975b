-- The message of a row, in the lists that a store shows, and the record that stores it.
use Rattle.mail_ops.proofs.Common.{◌≡◌, ◌==◌, ℕ, Bool, true, false, cond, List, [], ◌∷◌, map, Option, Some, None, refl, sym, ◌∙◌, ap, subst, arith, inl, inr, common_steps, nat_tests, find, ◌⊎◌, is_some, if◌then◌else◌, option_map, option_map_or, bytes_eq, eq-eqb, History, BoxEntry, ListRow, Refusal}
use Rattle.mail_ops.proofs.Common.{ListedMessage, Mailbox, Lists, AreWellFormed, listing_row, LogRow, BoxMeaning, box_meaning, row_at, MapRecord, MapBox, MapMeaning, map_meaning, record_at, record_of, equal_is, listed_row, ShowLists, meaning_named, meaning_numbered, Run, HasMailbox, HasUid, first_refusal}
use Rattle.mail_ops.proofs.Common.{mailbox_named, message_in, IsStore, StoreValue, indexes_of, list_named, number_named, missing_message, IsRowOf}
use Rattle.std.proofs.Common.{All}
use Rattle.std.specs.Prelude.{option_and_then}
use Rattle.std.specs.List.{AllByRecursion}
use Rattle.std.proofs.lemmas.List.Elements.{All-contains}
use Rattle.disk_model.specs.Disk.{Files}
use Rattle.mdbox_base.specs.declared.replies.Refusal.TheVariants as refusal
use Rattle.model_meaning.specs.BoxMeaning.{rows_after}
use Rattle.model_meaning.specs.Sound.{IsSoundMap}
use Rattle.model_meaning.proofs.MapSoundLemmas.{map_sound}
use Rattle.model_octets.proofs.SearchLemmas.{found_is, found_one, text_is, text_yes}
use Rattle.model_store.specs.Opening.{HasItsRecord}
use Rattle.model_store.specs.Stands.{StoresMessage, IsListed, AreListed, IsMailbox, AreMailboxes}
use Rattle.list_machine.specs.Machine.{message_at, message_numbered}
use Rattle.mail_ops.proofs.FlagListLemmas.{numbered, found_row, none_there, some_there}
use Rattle.store_core.specs.Value.{list_numbered}
use Rattle.mail_ops.specs.Messages.{IsRowIn, row_numbered}
use Rattle.mail_ops.proofs.NamedListLemmas.{ShownBox, ShowsBox, shows_box, ShownNumber, ShowsNumber, shows_number}

-- ---- the message that a row shows

pub record ShownRow (name : List ℕ) (uid number : ℕ) (lists : Lists) (row : LogRow) : Type 0 where
  pub mailbox : Mailbox
  pub named : mailbox_named name lists ≡ Some mailbox
  pub number_is : mailbox.number ≡ number
  pub message : ListedMessage
  pub in_box : message_in uid mailbox ≡ Some message
  pub there : message_at name uid lists ≡ Some message
  pub same : listed_row row ≡ listing_row message

pub shown_row : {D : Type 0} → (store : StoreValue D) (name : List ℕ) (uid number : ℕ) (row : LogRow) (lists : Lists) → IsRowOf name uid store number row → ShowLists store.map.boxes (indexes_of store.boxes) lists → ShownRow name uid number lists row
shown_row store name uid number row lists at h =
    let f : ShownBox name lists at.m = subst (ShowsBox name lists) at.box.named (shows_box name store.map.boxes (indexes_of store.boxes) lists h) in
    let n = some_there listing_row (message_in uid f.mailbox) (listed_row row) (sym (ap (option_map listed_row) at.listed) ∙ found_row uid at.m.rows f.mailbox.messages f.rows) in
    record {
      mailbox = f.mailbox;
      named = f.named;
      number_is = numbered name number store.map.boxes (indexes_of store.boxes) lists f.mailbox h at.box.number_is f.named;
      message = n.0;
      in_box = n.1;
      there = rw f.named n.1;
      same = n.2;
    }

pub from_source : {D : Type 0} → (name : List ℕ) (source number at : ℕ) (store : StoreValue D) → number_named store.map name ≡ Some source → number_named store.map name ≡ Some number → at ≡ source → at ≡ number
from_source name source number at store named known is = is ∙ (let k : Some source ≡ Some number = sym named ∙ known in cc k)

-- ---- by the number of the mailbox

pub record ShownIn (number uid : ℕ) (lists : Lists) (row : LogRow) : Type 0 where
  pub message : ListedMessage
  pub there : message_numbered number uid lists ≡ Some message
  pub same : listed_row row ≡ listing_row message

pub shown_in : {D : Type 0} → (store : StoreValue D) (number uid : ℕ) (row : LogRow) (lists : Lists) → IsRowIn number uid store row → ShowLists store.map.boxes (indexes_of store.boxes) lists → ShownIn number uid lists row
shown_in store number uid row lists at h =
    let f : ShownNumber number lists at.m = subst (ShowsNumber number lists) at.numbered (shows_number number store.map.boxes (indexes_of store.boxes) lists h) in
    let n = some_there listing_row (message_in uid f.mailbox) (listed_row row) (sym (ap (option_map listed_row) at.listed) ∙ found_row uid at.m.rows f.mailbox.messages f.rows) in
    record { message = n.0; there = ap (option_and_then (message_in uid)) f.numbered ∙ n.1; same = n.2 }

-- one that isn't listed there isn't in the lists either
pub none_in : {D : Type 0} → (store : StoreValue D) (number uid : ℕ) (lists : Lists) → row_numbered number uid store ≡ None → ShowLists store.map.boxes (indexes_of store.boxes) lists → message_numbered number uid lists ≡ None
none_in store number uid lists none h = by_box (list_numbered store number) (shows_number number store.map.boxes (indexes_of store.boxes) lists h) none
  where
    by_box : (o : Option BoxMeaning) → ShowsNumber number lists o → option_and_then (λ m. row_at m uid) o ≡ None → message_numbered number uid lists ≡ None
    by_box None f k = ap (option_and_then (message_in uid)) f
    by_box (Some m) f k = ap (option_and_then (message_in uid)) f.numbered ∙ none_there listing_row (message_in uid f.mailbox) (sym (ap (option_map listed_row) k) ∙ found_row uid m.rows f.mailbox.messages f.rows)

-- a row that is found by name is found by number
pub row_in : {D : Type 0} → (name : List ℕ) (uid : ℕ) (store : StoreValue D) (number : ℕ) (row : LogRow) → IsRowOf name uid store number row → IsRowIn number uid store row
row_in name uid store number row at = record { m = at.m; numbered = at.box.numbered; listed = at.listed }

-- ---- why there is none

missing_by : (uid : ℕ) (o : Option BoxMeaning) (why : Refusal) → option_map_or (λ m. if is_some (row_at m uid) then None else Some refusal.NoMessage) o (Some refusal.NoMailbox) ≡ Some why → (why ≡ refusal.NoMailbox) ⊎ (why ≡ refusal.NoMessage)
missing_by uid o why e = grind (arith, common_steps, nat_tests)

pub missing_is : {D : Type 0} → (name : List ℕ) (uid : ℕ) (store : StoreValue D) (why : Refusal) → missing_message name uid store ≡ Some why → (why ≡ refusal.NoMailbox) ⊎ (why ≡ refusal.NoMessage)
missing_is name uid store why e = missing_by uid (list_named store name) why e

-- one that is listed is there
pub not_missing : {D : Type 0} → (name : List ℕ) (uid : ℕ) (store : StoreValue D) (number : ℕ) (row : LogRow) → IsRowOf name uid store number row → missing_message name uid store ≡ None
not_missing name uid store number row k =
    ap (λ (o : Option BoxMeaning). option_map_or (λ m. if is_some (row_at m uid) then None else Some refusal.NoMessage) o (Some refusal.NoMailbox)) k.box.named ∙ ap (λ (o : Option LogRow). if is_some o then None else Some refusal.NoMessage) k.listed

-- and there is none in the lists
missing_in : {D : Type 0} → (name : List ℕ) (uid : ℕ) (store : StoreValue D) (why : Refusal) (lists : Lists) → ShowLists store.map.boxes (indexes_of store.boxes) lists → missing_message name uid store ≡ Some why
    → ((why ≡ refusal.NoMailbox) × (mailbox_named name lists ≡ None)) ⊎ ((why ≡ refusal.NoMessage) × ((x : Mailbox) × (mailbox_named name lists ≡ Some x) × (message_in uid x ≡ None)))
missing_in name uid store why lists h e = by_box (list_named store name) (shows_box name store.map.boxes (indexes_of store.boxes) lists h) e
  where
    Missing : Type 0
    Missing = ((why ≡ refusal.NoMailbox) × (mailbox_named name lists ≡ None)) ⊎ ((why ≡ refusal.NoMessage) × ((x : Mailbox) × (mailbox_named name lists ≡ Some x) × (message_in uid x ≡ None)))

    by_row : (m : BoxMeaning) → ShownBox name lists m → (o : Option LogRow) → row_at m uid ≡ o → (if is_some o then None else Some refusal.NoMessage) ≡ Some why → Missing
    by_row m f (Some row) is k = absurd (let w : None ≡ Some why = k in cc w)
    by_row m f None is k =
        inr (let w : Some refusal.NoMessage ≡ Some why = k in sym (cc w), (f.mailbox, f.named, none_there listing_row (message_in uid f.mailbox) (sym (ap (option_map listed_row) is) ∙ found_row uid m.rows f.mailbox.messages f.rows)))

    by_box : (o : Option BoxMeaning) → ShowsBox name lists o → option_map_or (λ m. if is_some (row_at m uid) then None else Some refusal.NoMessage) o (Some refusal.NoMailbox) ≡ Some why → Missing
    by_box None f k = inl (let w : Some refusal.NoMailbox ≡ Some why = k in sym (cc w), f)
    by_box (Some m) f k = by_row m f (row_at m uid) refl k

-- the list machine refuses for the same reason
pub missing_refused : {D : Type 0} → (run : Run) (name : List ℕ) (uid : ℕ) (store : StoreValue D) (why : Refusal) (lists : Lists) → ShowLists store.map.boxes (indexes_of store.boxes) lists → missing_message name uid store ≡ Some why
    → first_refusal run lists (HasMailbox name ∷ HasUid name uid ∷ []) ≡ Some why
missing_refused run name uid store why lists h e = elim (missing_in name uid store why lists h e) [ inl m ↦ rw m.1 (ap Some (sym m.0)) | inr m ↦ rw (m.1.1, m.1.2) (ap Some (sym m.0)) ]

-- ---- records

pub store_is_sound : {D : Type 0} → (history : Option History) (store : StoreValue D) → IsStore history store → IsSoundMap store.map
store_is_sound history store s = subst IsSoundMap (sym s.map_is) (map_sound store.map.store s.entries s.good.map_entries.1 s.good.map_entries.0)

-- a record that is found by its map uid is found by its GUID
pub by_guid : (m : MapMeaning) (uid : ℕ) (entry : MapRecord) (guid : List ℕ) → IsSoundMap m → record_at m uid ≡ Some entry → entry.guid ≡ guid → record_of m guid ≡ Some entry
by_guid m uid entry guid s found e =
    found_is (λ (r : MapRecord). bytes_eq r.guid guid) m.records entry (found_one (λ (r : MapRecord). r.uid == uid) m.records entry found).0 (text_yes entry.guid guid e)
    (λ i j d lt le p q. s.guids i j d lt le (text_is _ guid p ∙ sym (text_is _ guid q)))

row_has_record : (map_is : MapMeaning) (number uid : ℕ) (boxes : List MapBox) (logs : List (List BoxEntry)) (m : BoxMeaning) (row : LogRow) → AllByRecursion (λ log. All (HasItsRecord map_is) (rows_after log)) logs
    → meaning_numbered number boxes (map box_meaning logs) ≡ Some m → row_at m uid ≡ Some row → HasItsRecord map_is row
row_has_record map_is number uid (b ∷ bs) (log ∷ logs) m row each is found = by_test (b.number == number) is (λ e. row_has_record map_is number uid bs logs m row each.1 e found)
  where
    by_test : (t : Bool) → cond t (Some (box_meaning log)) (meaning_numbered number bs (map box_meaning logs)) ≡ Some m → (meaning_numbered number bs (map box_meaning logs) ≡ Some m → HasItsRecord map_is row) → HasItsRecord map_is row
    by_test true e rest =
        let same : box_meaning log ≡ m = cc e in
        All-contains (HasItsRecord map_is) (rows_after log) row each.0 (found_one (λ (r : LogRow). r.uid == uid) (rows_after log) row (ap (λ (k : BoxMeaning). row_at k uid) same ∙ found)).0
    by_test false e rest = rest e
row_has_record map_is number uid boxes logs m row each is found = absurd (let k : None ≡ Some m = is in cc k)

-- the record of a row
pub record RecordOfRow (m : MapMeaning) (row : LogRow) : Type 0 where
  pub entry : MapRecord
  pub found : record_at m row.map_uid ≡ Some entry
  pub guid_is : entry.guid ≡ row.guid
  pub uid_is : entry.uid ≡ row.map_uid
  pub by_guid : (guid : List ℕ) → row.guid ≡ guid → record_of m guid ≡ Some entry

pub record_in : {D : Type 0} → (history : Option History) (store : StoreValue D) (number uid : ℕ) (row : LogRow) → IsStore history store → IsRowIn number uid store row → RecordOfRow store.map row
record_in history store number uid row s at =
    let h : HasItsRecord store.map row = subst (λ (map_is : MapMeaning). HasItsRecord map_is row) (sym s.map_is)
    (row_has_record (map_meaning store.map.store s.entries) number uid store.map.boxes s.logs at.m row s.good.records (sym (ap (λ (ms : List BoxMeaning). meaning_numbered number store.map.boxes ms) s.boxes_are) ∙ at.numbered) at.listed) in
    record {
      entry = h.0;
      found = h.1;
      guid_is = h.2;
      uid_is = equal_is h.0.uid row.map_uid (found_one (λ (r : MapRecord). r.uid == row.map_uid) store.map.records h.0 h.1).1;
      by_guid = λ guid e. by_guid store.map row.map_uid h.0 guid (store_is_sound history store s) h.1 (h.2 ∙ e);
    }

pub record_of_row : {D : Type 0} → (history : Option History) (store : StoreValue D) (name : List ℕ) (uid number : ℕ) (row : LogRow) → IsStore history store → IsRowOf name uid store number row → RecordOfRow store.map row
record_of_row history store name uid number row s at = record_in history store number uid row s (row_in name uid store number row at)

-- the GUID of the message that a row shows
pub shown_guid : (name : List ℕ) (uid number : ℕ) (lists : Lists) (row : LogRow) → (s : ShownRow name uid number lists row) → row.guid ≡ s.message.guid
shown_guid name uid number lists row s = ap (λ (r : ListRow). r.guid.0) s.same

-- ---- what files store

-- a mailbox of lists for which files stand
mailbox_there : (files : Files) (m : MapMeaning) (boxes : List MapBox) (lists : Lists) (name : List ℕ) (x : Mailbox) → AreMailboxes files m boxes lists → mailbox_named name lists ≡ Some x → (box : MapBox) × IsMailbox files m box x
mailbox_there files m [] [] name x h e = absurd (cc (let k : None ≡ Some x = e in k))
mailbox_there files m (b ∷ bs) (l ∷ ls) name x h e = by_test (bytes_eq l.name name) e (λ k. mailbox_there files m bs ls name x h.1 k)
  where
    by_test : (t : Bool) → cond t (Some l) (mailbox_named name ls) ≡ Some x → (mailbox_named name ls ≡ Some x → (box : MapBox) × IsMailbox files m box x) → (box : MapBox) × IsMailbox files m box x
    by_test true k rest = let same : l ≡ x = cc k in (b, subst (λ (o : Mailbox). IsMailbox files m b o) same h.0)
    by_test false k rest = rest k
mailbox_there files m boxes lists name x h e = absurd h

message_there : (files : Files) (m : MapMeaning) (rows : List LogRow) (xs : List ListedMessage) (uid : ℕ) (x : ListedMessage) → AreListed files m rows xs → find (λ y. y.uid == uid) xs ≡ Some x → (row : LogRow) × IsListed files m row x
message_there files m [] [] uid x h e = absurd (cc (let k : None ≡ Some x = e in k))
message_there files m (row ∷ rows) (y ∷ ys) uid x h e = by_test (y.uid == uid) e (λ k. message_there files m rows ys uid x h.1 k)
  where
    by_test : (t : Bool) → cond t (Some y) (find (λ (o : ListedMessage). o.uid == uid) ys) ≡ Some x → (find (λ (o : ListedMessage). o.uid == uid) ys ≡ Some x → (r : LogRow) × IsListed files m r x) → (r : LogRow) × IsListed files m r x
    by_test true k rest = let same : y ≡ x = cc k in (row, subst (λ (o : ListedMessage). IsListed files m row o) same h.0)
    by_test false k rest = rest k
message_there files m rows xs uid x h e = absurd h

-- The record with a listed message's GUID stores its octets.
pub stored_by : (files : Files) (m : MapMeaning) (boxes : List MapBox) (lists : Lists) (name : List ℕ) (uid : ℕ) (x : ListedMessage) (entry : MapRecord) → IsSoundMap m → AreMailboxes files m boxes lists → message_at name uid lists ≡ Some x → record_of m x.guid ≡ Some entry → StoresMessage files entry x.octets
stored_by files m boxes lists name uid x entry s h at found = by_mailbox (mailbox_named name lists) refl at
  where
    by_mailbox : (o : Option Mailbox) → mailbox_named name lists ≡ o → option_and_then (message_in uid) o ≡ Some x → StoresMessage files entry x.octets
    by_mailbox None e k = absurd (cc (let w : None ≡ Some x = k in w))
    by_mailbox (Some mailbox) e k =
        let box = mailbox_there files m boxes lists name mailbox h e in
        let listed = message_there files m (rows_after box.1.entries) mailbox.messages uid x box.1.messages k in
        let l = listed.1 in
        let again = by_guid m listed.0.map_uid l.entry x.guid s l.found (l.same ∙ sym l.guid) in
        let same : l.entry ≡ entry = (let w : Some l.entry ≡ Some entry = sym again ∙ found in cc w) in
        subst (λ (r : MapRecord). StoresMessage files r x.octets) same l.octets
