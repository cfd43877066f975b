-- The message that a store lists and the record that stores it, in the lists that it shows.
use Rattle.mail_fetch.proofs.Common.{◌≡◌, ◌==◌, ℕ, Bool, true, false, cond, List, [], ◌∷◌, map, Option, Some, None, refl, sym, ◌∙◌, ap, subst, All, option_map, bytes_eq, cond-true, All-contains, Files, Uid, Lists, LogRow, BoxMeaning, row_at, MapRecord, MapMeaning, named_instances, record_at}
use Rattle.mail_fetch.proofs.Common.{found_one, IsThereWhole, First, RunEvent, Run, PartAnswers}
use Rattle.std.proofs.Common.{find}
use Rattle.std.specs.Prelude.{option_and_then}
use Rattle.std.specs.List.{AllByRecursion}
use Rattle.std.proofs.lemmas.Bool.{cond-false}
use Rattle.mdbox_base.specs.declared.entries.BoxEntry.{BoxEntry}
use Rattle.mdbox_base.specs.declared.replies.ListRow.{ListRow}
use Rattle.mdbox_base.specs.declared.replies.Refusal.TheVariants as refusal
use Rattle.mdbox_base.specs.declared.replies.Reply.TheVariants as reply
use Rattle.mdbox_base.specs.declared.requests.Request.TheVariants as request
use Rattle.model_lists.specs.Lists.{ListedMessage, Mailbox, listing_row}
use Rattle.model_meaning.specs.BoxMeaning.{box_meaning, rows_after}
use Rattle.model_meaning.specs.MapMeaning.{MapBox, record_of}
use Rattle.model_meaning.specs.Sound.{IsSoundMap}
use Rattle.model_octets.proofs.SearchLemmas.{found_is, text_is, text_yes}
use Rattle.model_store.specs.Listing.{listed_row, ShowLists, meaning_named}
use Rattle.model_store.specs.Opening.{HasItsRecord}
use Rattle.model_store.specs.Stands.{IsListed, AreListed, IsMailbox, AreMailboxes}
use Rattle.list_machine.specs.Machine.{mailbox_named, message_in, message_at}
use Rattle.mail_fetch.specs.Stages.{StoresListed}
use Rattle.mail_fetch.proofs.InstanceLemmas.{named_each}

-- ---- a mailbox by its name

pub record IsNamed (name : List ℕ) (lists : Lists) (m : BoxMeaning) : Type 0 where
  pub mailbox : Mailbox
  pub there : mailbox_named name lists ≡ Some mailbox
  pub rows : map listed_row m.rows ≡ map listing_row mailbox.messages

abbrev pub NamesBox : List ℕ → Lists → Option BoxMeaning → Type 0
NamesBox name lists None = mailbox_named name lists ≡ None
NamesBox name lists (Some m) = IsNamed name lists m

pub names_box : (name : List ℕ) (boxes : List MapBox) (meanings : List BoxMeaning) (lists : Lists) → ShowLists boxes meanings lists → NamesBox name lists (meaning_named name boxes meanings)
names_box name [] [] [] h = refl
names_box name [] [] (l ∷ ls) h = absurd h
names_box name [] (m ∷ ms) [] h = absurd h
names_box name [] (m ∷ ms) (l ∷ ls) h = absurd h
names_box name (b ∷ bs) [] [] h = absurd h
names_box name (b ∷ bs) [] (l ∷ ls) h = absurd h
names_box name (b ∷ bs) (m ∷ ms) [] h = absurd h
names_box name (b ∷ bs) (m ∷ ms) (l ∷ ls) h = by_test (bytes_eq b.name name) refl (names_box name bs ms ls h.1)
  where
    own : bytes_eq l.name name ≡ bytes_eq b.name name
    own = ap (λ (n : List ℕ). bytes_eq n name) h.0.name

    later : (o : Option BoxMeaning) → bytes_eq b.name name ≡ false → NamesBox name ls o → NamesBox name (l ∷ ls) o
    later None differs f = cond-false (bytes_eq l.name name) (Some l) (mailbox_named name ls) (own ∙ differs) ∙ f
    later (Some x) differs f = record { mailbox = f.mailbox; there = cond-false (bytes_eq l.name name) (Some l) (mailbox_named name ls) (own ∙ differs) ∙ f.there; rows = f.rows }

    by_test : (t : Bool) → bytes_eq b.name name ≡ t → NamesBox name ls (meaning_named name bs ms) → NamesBox name (l ∷ ls) (cond (bytes_eq b.name name) (Some m) (meaning_named name bs ms))
    by_test true same f = subst (NamesBox name (l ∷ ls)) (sym (cond-true (bytes_eq b.name name) (Some m) (meaning_named name bs ms) same))
        (record { mailbox = l; there = cond-true (bytes_eq l.name name) (Some l) (mailbox_named name ls) (own ∙ same); rows = h.0.rows })
    by_test false differs f = subst (NamesBox name (l ∷ ls)) (sym (cond-false (bytes_eq b.name name) (Some m) (meaning_named name bs ms) differs)) (later (meaning_named name bs ms) differs f)

-- ---- a message by its UID

found_row : (uid : ℕ) (rows : List LogRow) (xs : List ListedMessage) → map listed_row rows ≡ map listing_row xs → option_map listed_row (find (λ r. r.uid == uid) rows) ≡ option_map listing_row (find (λ x. x.uid == uid) xs)
found_row uid [] [] e = refl
found_row uid [] (x ∷ xs) e = absurd (let h : [] ≡ listing_row x ∷ map listing_row xs = e in cc)
found_row uid (r ∷ rs) [] e = absurd (let h : listed_row r ∷ map listed_row rs ≡ [] = e in cc)
found_row uid (r ∷ rs) (x ∷ xs) e =
    let h : listed_row r ∷ map listed_row rs ≡ listing_row x ∷ map listing_row xs = e in
    let first : listed_row r ≡ listing_row x = cc in
    let rest : map listed_row rs ≡ map listing_row xs = cc in
    by_test (r.uid == uid) (x.uid == uid) (ap (λ (n : ListRow). n.uid.0 == uid) first) first (found_row uid rs xs rest)
  where
    by_test : (t s : Bool) → t ≡ s → listed_row r ≡ listing_row x → option_map listed_row (find (λ (o : LogRow). o.uid == uid) rs) ≡ option_map listing_row (find (λ (o : ListedMessage). o.uid == uid) xs)
        → option_map listed_row (cond t (Some r) (find (λ (o : LogRow). o.uid == uid) rs)) ≡ option_map listing_row (cond s (Some x) (find (λ (o : ListedMessage). o.uid == uid) xs))
    by_test true true p first rest = ap Some first
    by_test false false p first rest = rest
    by_test true false p first rest = absurd (cc p)
    by_test false true p first rest = absurd (cc p)

none_there : {X Y : Type 0} → (f : X → Y) (o : Option X) → None ≡ option_map f o → o ≡ None
none_there f None e = refl
none_there f (Some x) e = absurd (cc (let h : None ≡ Some (f x) = e in h))

some_there : {X Y : Type 0} → (f : X → Y) (o : Option X) (y : Y) → Some y ≡ option_map f o → (x : X) × (o ≡ Some x) × (y ≡ f x)
some_there f None y e = absurd (cc (let h : Some y ≡ None = e in h))
some_there f (Some x) y e = (x, refl, let h : Some y ≡ Some (f x) = e in cc h)

-- the message that a row shows
pub record IsShown (name : List ℕ) (uid : ℕ) (lists : Lists) (row : LogRow) : Type 0 where
  pub message : ListedMessage
  pub there : message_at name uid lists ≡ Some message
  pub same : listed_row row ≡ listing_row message

pub shown_by : (boxes : List MapBox) (meanings : List BoxMeaning) (lists : Lists) (name : List ℕ) (uid : ℕ) (m : BoxMeaning) (row : LogRow) → ShowLists boxes meanings lists → meaning_named name boxes meanings ≡ Some m → row_at m uid ≡ Some row → IsShown name uid lists row
shown_by boxes meanings lists name uid m row h is found =
    let f : IsNamed name lists m = subst (NamesBox name lists) is (names_box name boxes meanings lists h) in
    let n = some_there listing_row (message_in uid f.mailbox) (listed_row row) (sym (ap (option_map listed_row) found) ∙ found_row uid m.rows f.mailbox.messages f.rows) in
    record { message = n.0; there = rw f.there n.1; same = n.2 }

-- ---- by the list machine

pub no_mailbox : (run : Run) (event : RunEvent) (boxes : List MapBox) (meanings : List BoxMeaning) (lists : Lists) (name : List ℕ) (uid : Uid) → ShowLists boxes meanings lists → meaning_named name boxes meanings ≡ None
    → PartAnswers run event lists (request.Fetch name uid) First (reply.Refused refusal.NoMailbox) lists
no_mailbox run event boxes meanings lists name uid h none =
    let f : mailbox_named name lists ≡ None = subst (NamesBox name lists) none (names_box name boxes meanings lists h) in
    (rw f refl, refl)

pub no_message : (run : Run) (event : RunEvent) (boxes : List MapBox) (meanings : List BoxMeaning) (lists : Lists) (name : List ℕ) (uid : Uid) (m : BoxMeaning) → ShowLists boxes meanings lists → meaning_named name boxes meanings ≡ Some m → row_at m uid.0 ≡ None
    → PartAnswers run event lists (request.Fetch name uid) First (reply.Refused refusal.NoMessage) lists
no_message run event boxes meanings lists name uid m h is none =
    let f : IsNamed name lists m = subst (NamesBox name lists) is (names_box name boxes meanings lists h) in
    let n : message_in uid.0 f.mailbox ≡ None = none_there listing_row (message_in uid.0 f.mailbox) (sym (ap (option_map listed_row) none) ∙ found_row uid.0 m.rows f.mailbox.messages f.rows) in
    (rw (f.there, n) refl, refl)

pub is_fetched : (run : Run) (event : RunEvent) (boxes : List MapBox) (meanings : List BoxMeaning) (lists : Lists) (name : List ℕ) (uid : Uid) (m : BoxMeaning) (row : LogRow) → ShowLists boxes meanings lists → meaning_named name boxes meanings ≡ Some m → (s : IsShown name uid.0 lists row)
    → PartAnswers run event lists (request.Fetch name uid) First (reply.Fetched s.message.octets) lists
is_fetched run event boxes meanings lists name uid m row h is s =
    let f : IsNamed name lists m = subst (NamesBox name lists) is (names_box name boxes meanings lists h) in
    let n : message_in uid.0 f.mailbox ≡ Some s.message = rw f.there at s.there in
    (rw (f.there, n) refl, (s.message, s.there, refl, refl))

-- ---- records

-- a record that is found by its map uid is found by its GUID
pub by_guid : (m : MapMeaning) (uid : ℕ) (entry : MapRecord) (guid : List ℕ) → IsSoundMap m → record_at m uid ≡ Some entry → entry.guid ≡ guid → record_of m guid ≡ Some entry
by_guid m uid entry guid s found e =
    found_is (λ (r : MapRecord). bytes_eq r.guid guid) m.records entry (found_one (λ (r : MapRecord). r.uid == uid) m.records entry found).0 (text_yes entry.guid guid e)
    (λ i j d lt le p q. s.guids i j d lt le (text_is _ guid p ∙ sym (text_is _ guid q)))

-- each row of a mailbox has its record, where each of the logs is so
pub row_has_record : (map_is : MapMeaning) (name : List ℕ) (uid : ℕ) (boxes : List MapBox) (logs : List (List BoxEntry)) (m : BoxMeaning) (row : LogRow) → AllByRecursion (λ log. All (HasItsRecord map_is) (rows_after log)) logs
    → meaning_named name boxes (map box_meaning logs) ≡ Some m → row_at m uid ≡ Some row → HasItsRecord map_is row
row_has_record map_is name uid [] [] m row each is found = absurd (cc (let k : None ≡ Some m = is in k))
row_has_record map_is name uid [] (log ∷ logs) m row each is found = absurd (cc (let k : None ≡ Some m = is in k))
row_has_record map_is name uid (b ∷ bs) [] m row each is found = absurd (cc (let k : None ≡ Some m = is in k))
row_has_record map_is name uid (b ∷ bs) (log ∷ logs) m row each is found = by_test (bytes_eq b.name name) is (λ e. row_has_record map_is name uid bs logs m row each.1 e found)
  where
    by_test : (t : Bool) → cond t (Some (box_meaning log)) (meaning_named name bs (map box_meaning logs)) ≡ Some m → (meaning_named name bs (map box_meaning logs) ≡ Some m → HasItsRecord map_is row) → HasItsRecord map_is row
    by_test true e rest =
        let same : box_meaning log ≡ m = cc e in
        All-contains (HasItsRecord map_is) (rows_after log) row each.0 (found_one (λ (r : LogRow). r.uid == uid) (rows_after log) row (ap (λ (k : BoxMeaning). row_at k uid) same ∙ found)).0
    by_test false e rest = rest e

-- ---- what files store

-- a mailbox of lists for which files stand
mailbox_there : (files : Files) (m : MapMeaning) (boxes : List MapBox) (lists : Lists) (name : List ℕ) (x : Mailbox) → AreMailboxes files m boxes lists → mailbox_named name lists ≡ Some x → (box : MapBox) × IsMailbox files m box x
mailbox_there files m [] [] name x h e = absurd (cc (let k : None ≡ Some x = e in k))
mailbox_there files m [] (l ∷ ls) name x h e = absurd h
mailbox_there files m (b ∷ bs) [] name x h e = absurd h
mailbox_there files m (b ∷ bs) (l ∷ ls) name x h e = by_test (bytes_eq l.name name) e (λ k. mailbox_there files m bs ls name x h.1 k)
  where
    by_test : (t : Bool) → cond t (Some l) (mailbox_named name ls) ≡ Some x → (mailbox_named name ls ≡ Some x → (box : MapBox) × IsMailbox files m box x) → (box : MapBox) × IsMailbox files m box x
    by_test true k rest = let same : l ≡ x = cc k in (b, subst (λ (o : Mailbox). IsMailbox files m b o) same h.0)
    by_test false k rest = rest k

message_there : (files : Files) (m : MapMeaning) (rows : List LogRow) (xs : List ListedMessage) (uid : ℕ) (x : ListedMessage) → AreListed files m rows xs → find (λ y. y.uid == uid) xs ≡ Some x → (row : LogRow) × IsListed files m row x
message_there files m [] [] uid x h e = absurd (cc (let k : None ≡ Some x = e in k))
message_there files m [] (y ∷ ys) uid x h e = absurd h
message_there files m (row ∷ rows) [] uid x h e = absurd h
message_there files m (row ∷ rows) (y ∷ ys) uid x h e = by_test (y.uid == uid) e (λ k. message_there files m rows ys uid x h.1 k)
  where
    by_test : (t : Bool) → cond t (Some y) (find (λ (o : ListedMessage). o.uid == uid) ys) ≡ Some x → (find (λ (o : ListedMessage). o.uid == uid) ys ≡ Some x → (r : LogRow) × IsListed files m r x) → (r : LogRow) × IsListed files m r x
    by_test true k rest = let same : y ≡ x = cc k in (row, subst (λ (o : ListedMessage). IsListed files m row o) same h.0)
    by_test false k rest = rest k

-- Files that stand for the lists, and have each instance that records name, store each listed message.
pub listed_stored : (files : Files) (m : MapMeaning) (boxes : List MapBox) (lists : Lists) (name : List ℕ) (uid : ℕ) (x : ListedMessage) → IsSoundMap m → AreMailboxes files m boxes lists → All (IsThereWhole files) (named_instances m) → message_at name uid lists ≡ Some x → StoresListed m x files
listed_stored files m boxes lists name uid x s h whole at = by_mailbox (mailbox_named name lists) refl at
  where
    by_mailbox : (o : Option Mailbox) → mailbox_named name lists ≡ o → option_and_then (message_in uid) o ≡ Some x → StoresListed m x files
    by_mailbox None e k = absurd (cc (let w : None ≡ Some x = k in w))
    by_mailbox (Some mailbox) e k =
        let box = mailbox_there files m boxes lists name mailbox h e in
        let listed = message_there files m (rows_after box.1.entries) mailbox.messages uid x box.1.messages k in
        let l = listed.1 in
        record {
          entry = l.entry;
          found = by_guid m listed.0.map_uid l.entry x.guid s l.found (l.same ∙ sym l.guid);
          stores = l.octets;
          sizes = named_each (IsThereWhole files) m listed.0.map_uid l.entry l.found whole;
        }
