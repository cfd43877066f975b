-- A mailbox that a message is added to, in the lists that a store shows.
use Rattle.mail_save.proofs.Common.{◌≡◌, ◌<◌, ◌+◌, ◌==◌, ℕ, Bool, true, false, cond, List, [], ◌∷◌, ◌++◌, map, length, Option, Some, None, refl, sym, ◌∙◌, ap, subst, arith, nat_le, find, if◌then◌else◌, option_map, option_or, bytes_eq, cond-true, cond-false, common_steps, BoxEntry, Guid, MapUid, Uid}
use Rattle.mail_save.proofs.Common.{Lists, LogRow, BoxMeaning, box_applied, MapBox, lists_by, meanings_by, ShowLists, Run, first_refusal, refused_where, box_refusal}
use Rattle.std.specs.Prelude.{max}
use Rattle.std.proofs.lemmas.List.{length-map, map-append}
use Rattle.mdbox_base.specs.declared.entries.BoxEntry.TheVariants as box_entry
use Rattle.mdbox_base.specs.declared.replies.ListRow.{ListRow}
use Rattle.mdbox_base.specs.declared.replies.Refusal.TheVariants as refusal
use Rattle.model_lists.specs.Lists.{ListedMessage, Mailbox, AreWellFormed, listing_row}
use Rattle.model_meaning.proofs.AppliedLemmas.{only_adds}
use Rattle.model_appends.specs.Appending.{mailbox_by}
use Rattle.model_store.specs.Listing.{listed_row, ShowsMailbox, meaning_named}
use Rattle.list_machine.specs.Machine.{Check, HasMailbox, RoomForMessage, NextUid, mailbox_named, add_message}
use Rattle.entry_steps.proofs.AppendListLemmas.{added_by}
use Rattle.mail_save.specs.Events.{full_refusal}

-- ---- the mailbox that is found

-- a mailbox that is found by name has the next UID, and as many messages, as its log means
pub record ShownBox (name : List ℕ) (lists : Lists) (m : BoxMeaning) : Type 0 where
  pub mailbox : Mailbox
  pub named : mailbox_named name lists ≡ Some mailbox
  pub next : mailbox.next_uid ≡ m.next
  pub many : length mailbox.messages ≡ length m.rows

abbrev pub ShowsBox : List ℕ → Lists → Option BoxMeaning → Type 0
ShowsBox name lists None = mailbox_named name lists ≡ None
ShowsBox name lists (Some m) = ShownBox name lists m

same_length : (rows : List LogRow) (xs : List ListedMessage) → map listed_row rows ≡ map listing_row xs → length xs ≡ length rows
same_length rows xs e = sym (length-map xs listing_row) ∙ (sym (ap length e) ∙ length-map rows listed_row)

pub shows_box : (name : List ℕ) (boxes : List MapBox) (meanings : List BoxMeaning) (lists : Lists) → ShowLists boxes meanings lists → ShowsBox name lists (meaning_named name boxes meanings)
shows_box name [] [] [] h = refl
shows_box name [] [] (l ∷ ls) h = absurd h
shows_box name [] (m ∷ ms) [] h = absurd h
shows_box name [] (m ∷ ms) (l ∷ ls) h = absurd h
shows_box name (b ∷ bs) [] [] h = absurd h
shows_box name (b ∷ bs) [] (l ∷ ls) h = absurd h
shows_box name (b ∷ bs) (m ∷ ms) [] h = absurd h
shows_box name (b ∷ bs) (m ∷ ms) (l ∷ ls) h = by_test (bytes_eq b.name name) refl (shows_box name bs ms ls h.1)
  where
    own : bytes_eq l.name name ≡ bytes_eq b.name name
    own = ap (λ (n : List ℕ). bytes_eq n name) h.0.name

    later : (o : Option BoxMeaning) → bytes_eq b.name name ≡ false → ShowsBox name ls o → ShowsBox name (l ∷ ls) o
    later None differs f = cond-false (bytes_eq l.name name) (Some l) (mailbox_named name ls) (own ∙ differs) ∙ f
    later (Some x) differs f = record { mailbox = f.mailbox; named = cond-false (bytes_eq l.name name) (Some l) (mailbox_named name ls) (own ∙ differs) ∙ f.named; next = f.next; many = f.many }

    by_test : (t : Bool) → bytes_eq b.name name ≡ t → ShowsBox name ls (meaning_named name bs ms) → ShowsBox name (l ∷ ls) (cond (bytes_eq b.name name) (Some m) (meaning_named name bs ms))
    by_test true same f = subst (ShowsBox name (l ∷ ls)) (sym (cond-true (bytes_eq b.name name) (Some m) (meaning_named name bs ms) same))
        (record { mailbox = l; named = cond-true (bytes_eq l.name name) (Some l) (mailbox_named name ls) (own ∙ same); next = h.0.next; many = same_length m.rows l.messages h.0.rows })
    by_test false differs f = subst (ShowsBox name (l ∷ ls)) (sym (cond-false (bytes_eq b.name name) (Some m) (meaning_named name bs ms) differs)) (later (meaning_named name bs ms) differs f)

-- the mailbox that is found by name has the number that the map gives it
pub numbered : (name : List ℕ) (number : ℕ) (boxes : List MapBox) (meanings : List BoxMeaning) (lists : Lists) (x : Mailbox) → ShowLists boxes meanings lists → option_map (λ b. b.number) (find (λ b. bytes_eq b.name name) boxes) ≡ Some number
    → mailbox_named name lists ≡ Some x → x.number ≡ number
numbered name number [] [] [] x h is there = absurd (cc (let k : None ≡ Some x = there in k))
numbered name number [] [] (l ∷ ls) x h is there = absurd h
numbered name number [] (m ∷ ms) [] x h is there = absurd h
numbered name number [] (m ∷ ms) (l ∷ ls) x h is there = absurd h
numbered name number (b ∷ bs) [] [] x h is there = absurd h
numbered name number (b ∷ bs) [] (l ∷ ls) x h is there = absurd h
numbered name number (b ∷ bs) (m ∷ ms) [] x h is there = absurd h
numbered name number (b ∷ bs) (m ∷ ms) (l ∷ ls) x h is there = by_test (bytes_eq b.name name) (bytes_eq l.name name) (ap (λ (n : List ℕ). bytes_eq n name) (sym h.0.name)) is there (numbered name number bs ms ls x h.1)
  where
    by_test : (t s : Bool) → t ≡ s → option_map (λ (o : MapBox). o.number) (cond t (Some b) (find (λ (o : MapBox). bytes_eq o.name name) bs)) ≡ Some number → cond s (Some l) (mailbox_named name ls) ≡ Some x
        → (option_map (λ (o : MapBox). o.number) (find (λ (o : MapBox). bytes_eq o.name name) bs) ≡ Some number → mailbox_named name ls ≡ Some x → x.number ≡ number) → x.number ≡ number
    by_test true true p i t rest =
        let e : Some b.number ≡ Some number = i in
        let f : Some l ≡ Some x = t in
        let q : l ≡ x = cc f in
        let r : b.number ≡ number = cc e in
        ap (λ (o : Mailbox). o.number) (sym q) ∙ h.0.number ∙ r
    by_test false false p i t rest = rest i t
    by_test true false p i t rest = absurd (cc p)
    by_test false true p i t rest = absurd (cc p)

-- ---- the checks

-- those of a mailbox, before others, refuse just what the store does
pub box_checked : (run : Run) (name : List ℕ) (boxes : List MapBox) (meanings : List BoxMeaning) (lists : Lists) (rest : List Check) → ShowLists boxes meanings lists
    → first_refusal run lists (HasMailbox name ∷ RoomForMessage name ∷ NextUid name ∷ rest) ≡ option_or (box_refusal (meaning_named name boxes meanings)) (first_refusal run lists rest)
box_checked run name boxes meanings lists rest h = by_box (meaning_named name boxes meanings) (shows_box name boxes meanings lists h)
  where
    by_tests : (a b : Bool) → option_or (refused_where a (refusal.MailboxFull 1000000)) (option_or (refused_where b (refusal.StoreFull 4294967294)) (first_refusal run lists rest))
        ≡ option_or (if a then Some (refusal.MailboxFull 1000000) else (if b then Some (refusal.StoreFull 4294967294) else None)) (first_refusal run lists rest)
    by_tests true b = refl
    by_tests false true = refl
    by_tests false false = refl

    by_box : (o : Option BoxMeaning) → ShowsBox name lists o → first_refusal run lists (HasMailbox name ∷ RoomForMessage name ∷ NextUid name ∷ rest) ≡ option_or (box_refusal o) (first_refusal run lists rest)
    by_box None f = rw f refl
    by_box (Some m) f =
        rw f.named
        (ap (λ (k : ℕ). option_or (refused_where (nat_le 1000000 k) (refusal.MailboxFull 1000000)) (option_or (refused_where (nat_le 4294967295 f.mailbox.next_uid) (refusal.StoreFull 4294967294)) (first_refusal run lists rest))) f.many
        ∙ (ap (λ (k : ℕ). option_or (refused_where (nat_le 1000000 (length m.rows)) (refusal.MailboxFull 1000000)) (option_or (refused_where (nat_le 4294967295 k) (refusal.StoreFull 4294967294)) (first_refusal run lists rest))) f.next
        ∙ by_tests (nat_le 1000000 (length m.rows)) (nat_le 4294967295 m.next)))

few_rows : (n : ℕ) → n < 1000000 → nat_le 1000000 n ≡ false
few_rows n l = grind (arith, common_steps, l)

few_uids : (n : ℕ) → n < 4294967295 → nat_le 4294967295 n ≡ false
few_uids n l = grind (arith, common_steps, l)

pub has_room : (m : BoxMeaning) → length m.rows < 1000000 → m.next < 4294967295 → full_refusal m ≡ None
has_room m room more =
    ap (λ (b : Bool). if b then Some (refusal.MailboxFull 1000000) else (if nat_le 4294967295 m.next then Some (refusal.StoreFull 4294967294) else None)) (few_rows (length m.rows) room)
    ∙ ap (λ (b : Bool). if b then Some (refusal.StoreFull 4294967294) else None) (few_uids m.next more)

-- ---- the lists with the message

same_rows : (rows : List LogRow) (xs : List ListedMessage) (row : LogRow) (message : ListedMessage) → map listed_row rows ≡ map listing_row xs → listed_row row ≡ listing_row message
    → map listed_row (rows ++ row ∷ []) ≡ map listing_row (xs ++ message ∷ [])
same_rows rows xs row message h made =
    map-append listed_row rows (row ∷ []) ∙ (ap (λ (l : List ListRow). l ++ listed_row row ∷ []) h ∙ (ap (λ (r : ListRow). map listing_row xs ++ r ∷ []) made ∙ sym (map-append listing_row xs (message ∷ []))))

-- the entry of a message of these octets
abbrev pub made_of : List ℕ → Uid → ℕ → MapUid → Guid → BoxEntry
made_of octets uid time held guid = box_entry.A uid 0 time (length octets) held guid []

-- what a message makes of a mailbox that is shown
added_shown : (box : MapBox) (m : BoxMeaning) (x : Mailbox) (octets : List ℕ) (uid : Uid) (time : ℕ) (held : MapUid) (guid : Guid) → ShowsMailbox box m x
    → ShowsMailbox box (box_applied (made_of octets uid time held guid) m) (mailbox_by octets (made_of octets uid time held guid) x)
added_shown box m x octets uid time held guid s = record {
  number = s.number;
  name = s.name;
  next = ap (λ (n : ℕ). max n (uid.0 + 1)) s.next;
  rows =
      let row : LogRow = record { uid = uid.0; flags = 0; time = time; size = length octets; map_uid = held.0; guid = guid.0; words = [] } in
      let message : ListedMessage = record { uid = uid.0; flags = 0; time = time; guid = guid.0; octets = octets; words = [] } in
      ap (map listed_row) (only_adds m.rows (row ∷ [])) ∙ (same_rows m.rows x.messages row message s.rows refl ∙ sym (ap (map listing_row) (only_adds x.messages (message ∷ []))));
}

pub added_shows : (number : ℕ) (octets : List ℕ) (uid : Uid) (time : ℕ) (held : MapUid) (guid : Guid) (boxes : List MapBox) (meanings : List BoxMeaning) (lists : Lists) → ShowLists boxes meanings lists
    → ShowLists boxes (meanings_by number (made_of octets uid time held guid) boxes meanings) (lists_by number octets (made_of octets uid time held guid) lists)
added_shows number octets uid time held guid [] [] [] h = tt
added_shows number octets uid time held guid [] [] (l ∷ ls) h = absurd h
added_shows number octets uid time held guid [] (m ∷ ms) [] h = absurd h
added_shows number octets uid time held guid [] (m ∷ ms) (l ∷ ls) h = absurd h
added_shows number octets uid time held guid (b ∷ bs) [] [] h = absurd h
added_shows number octets uid time held guid (b ∷ bs) [] (l ∷ ls) h = absurd h
added_shows number octets uid time held guid (b ∷ bs) (m ∷ ms) [] h = absurd h
added_shows number octets uid time held guid (b ∷ bs) (m ∷ ms) (l ∷ ls) h = by_test (b.number == number) (l.number == number) (ap (λ (n : ℕ). n == number) (sym h.0.number)) (added_shows number octets uid time held guid bs ms ls h.1)
  where
    by_test : (t s : Bool) → t ≡ s → ShowLists bs (meanings_by number (made_of octets uid time held guid) bs ms) (lists_by number octets (made_of octets uid time held guid) ls)
        → ShowLists (b ∷ bs) (cond t (box_applied (made_of octets uid time held guid) m ∷ ms) (m ∷ meanings_by number (made_of octets uid time held guid) bs ms)) (cond s (mailbox_by octets (made_of octets uid time held guid) l ∷ ls) (l ∷ lists_by number octets (made_of octets uid time held guid) ls))
    by_test true true p rest = (added_shown b m l octets uid time held guid h.0, h.1)
    by_test false false p rest = (h.0, rest)
    by_test true false p rest = absurd (cc p)
    by_test false true p rest = absurd (cc p)

-- A mailbox with room for a message, in lists that are shown: what the lists are with the message.
pub record AddsTo (name : List ℕ) (time : ℕ) (octets guid : List ℕ) (uid number : ℕ) (boxes : List MapBox) (meanings : List BoxMeaning) (held : ℕ) (lists : Lists) : Type 0 where
  pub mailbox : Mailbox
  pub named : mailbox_named name lists ≡ Some mailbox
  pub given_is : uid ≡ mailbox.next_uid
  pub by : lists_by number octets (made_of octets (record { 0 = uid }) time (record { 0 = held }) (record { 0 = guid })) lists ≡ add_message name (record { uid = uid; flags = 0; time = time; guid = guid; octets = octets; words = [] }) lists
  pub shows : ShowLists boxes (meanings_by number (made_of octets (record { 0 = uid }) time (record { 0 = held }) (record { 0 = guid })) boxes meanings) (add_message name (record { uid = uid; flags = 0; time = time; guid = guid; octets = octets; words = [] }) lists)

pub adds_to_box : (name : List ℕ) (time : ℕ) (octets guid : List ℕ) (uid number : ℕ) (boxes : List MapBox) (meanings : List BoxMeaning) (held : ℕ) (lists : Lists) (m : BoxMeaning) → meaning_named name boxes meanings ≡ Some m → option_map (λ b. b.number) (find (λ b. bytes_eq b.name name) boxes) ≡ Some number → uid ≡ m.next
    → AreWellFormed lists → ShowLists boxes meanings lists → AddsTo name time octets guid uid number boxes meanings held lists
adds_to_box name time octets guid uid number boxes meanings held lists m named number_is next well h =
    let t : ShownBox name lists m = subst (ShowsBox name lists) named (shows_box name boxes meanings lists h) in
    let same : t.mailbox.number ≡ number = numbered name number boxes meanings lists t.mailbox h number_is t.named in
    let given : uid ≡ t.mailbox.next_uid = next ∙ sym t.next in
    let by = subst (λ (k : ℕ). lists_by k octets (made_of octets (record { 0 = uid }) time (record { 0 = held }) (record { 0 = guid })) lists ≡ add_message name (record { uid = uid; flags = 0; time = time; guid = guid; octets = octets; words = [] }) lists) same
    (added_by lists name t.mailbox octets (record { 0 = uid }) 0 time (length octets) (record { 0 = held }) (record { 0 = guid }) [] well t.named given) in
    record {
      mailbox = t.mailbox;
      named = t.named;
      given_is = given;
      by = by;
      shows = subst (λ (ls : Lists). ShowLists boxes (meanings_by number (made_of octets (record { 0 = uid }) time (record { 0 = held }) (record { 0 = guid })) boxes meanings) ls) by
          (added_shows number octets (record { 0 = uid }) time (record { 0 = held }) (record { 0 = guid }) boxes meanings lists h);
    }
