-- Lists that are shown, with an entry more in the log of a mailbox.
use Rattle.mail_ops.proofs.Common.{◌≡◌, ◌==◌, ℕ, Bool, true, false, not, cond, List, [], ◌∷◌, ◌++◌, map, refl, sym, ◌∙◌, ap, filter, map-append, BoxEntry, ListRow, ListedMessage, Mailbox, Lists, listing_row, LogRow, BoxMeaning, row_changed, box_applied, MapBox, lists_by, meanings_by, listed_row}
use Rattle.mail_ops.proofs.Common.{ShowLists}
use Rattle.std.specs.Prelude.{max}
use Rattle.mdbox_base.specs.declared.entries.BoxEntry.TheVariants as entry
use Rattle.model_meaning.specs.BoxMeaning.{row_made, row_removed, next_named}
use Rattle.model_appends.specs.Appending.{message_made, message_removed, message_changed, mailbox_by}
use Rattle.model_store.specs.Listing.{ShowsMailbox}
use Rattle.mail_ops.proofs.FlagListLemmas.{flag_row, words_row}

-- the message that an entry makes is that of its row
abbrev pub MakesAlike : List ℕ → BoxEntry → Type 0
MakesAlike octets e = map listed_row (row_made e) ≡ map listing_row (message_made octets e)

alike : (e : BoxEntry) (r : LogRow) (x : ListedMessage) → listed_row r ≡ listing_row x → (row_removed e r ≡ message_removed e x) × (listed_row (row_changed e r) ≡ listing_row (message_changed e x))
alike (entry.N next) r x h = (refl, h)
alike (entry.A uid flags time size map_uid guid words) r x h = (refl, h)
alike (entry.F uid flags) r x h = (refl, flag_row uid.0 flags r x h)
alike (entry.K uid words) r x h = (refl, words_row uid.0 words r x h)
alike (entry.R uid) r x h = (ap (λ (row : ListRow). uid.0 == row.uid.0) h, h)

kept_rows : (e : BoxEntry) (rows : List LogRow) (xs : List ListedMessage) → map listed_row rows ≡ map listing_row xs
    → map listed_row (map (row_changed e) (filter (λ r. not (row_removed e r)) rows)) ≡ map listing_row (map (message_changed e) (filter (λ x. not (message_removed e x)) xs))
kept_rows e [] [] h = refl
kept_rows e [] (x ∷ xs) h = absurd (let k : [] ≡ listing_row x ∷ map listing_row xs = h in cc)
kept_rows e (r ∷ rs) [] h = absurd (let k : listed_row r ∷ map listed_row rs ≡ [] = h in cc)
kept_rows e (r ∷ rs) (x ∷ xs) h =
    let k : listed_row r ∷ map listed_row rs ≡ listing_row x ∷ map listing_row xs = h in
    let first : listed_row r ≡ listing_row x = cc in
    let rest : map listed_row rs ≡ map listing_row xs = cc in
    by_test (row_removed e r) (message_removed e x) (alike e r x first).0 (alike e r x first).1 (kept_rows e rs xs rest)
  where
    by_test : (t s : Bool) → t ≡ s → listed_row (row_changed e r) ≡ listing_row (message_changed e x)
        → map listed_row (map (row_changed e) (filter (λ (o : LogRow). not (row_removed e o)) rs)) ≡ map listing_row (map (message_changed e) (filter (λ (o : ListedMessage). not (message_removed e o)) xs))
        → map listed_row (map (row_changed e) (cond (not t) (r ∷ filter (λ (o : LogRow). not (row_removed e o)) rs) (filter (λ (o : LogRow). not (row_removed e o)) rs)))
        ≡ map listing_row (map (message_changed e) (cond (not s) (x ∷ filter (λ (o : ListedMessage). not (message_removed e o)) xs) (filter (λ (o : ListedMessage). not (message_removed e o)) xs)))
    by_test true true p here later = later
    by_test false false p here later =
        let a : listed_row (row_changed e r) ≡ listing_row (message_changed e x) = here in
        let b : map listed_row (map (row_changed e) (filter (λ (o : LogRow). not (row_removed e o)) rs)) ≡ map listing_row (map (message_changed e) (filter (λ (o : ListedMessage). not (message_removed e o)) xs)) = later in
        cc (a, b)
    by_test true false p here later = absurd (cc p)
    by_test false true p here later = absurd (cc p)

shown_box : (box : MapBox) (m : BoxMeaning) (x : Mailbox) (octets : List ℕ) (e : BoxEntry) → MakesAlike octets e → ShowsMailbox box m x → ShowsMailbox box (box_applied e m) (mailbox_by octets e x)
shown_box box m x octets e made s = record {
  number = s.number;
  name = s.name;
  next = ap (λ (n : ℕ). max n (next_named e)) s.next;
  rows =
      let kept = kept_rows e m.rows x.messages s.rows in
      map-append listed_row (map (row_changed e) (filter (λ r. not (row_removed e r)) m.rows)) (row_made e)
      ∙ ap (λ (l : List ListRow). l ++ map listed_row (row_made e)) kept
      ∙ ap (λ (l : List ListRow). map listing_row (map (message_changed e) (filter (λ y. not (message_removed e y)) x.messages)) ++ l) made
      ∙ sym (map-append listing_row (map (message_changed e) (filter (λ y. not (message_removed e y)) x.messages)) (message_made octets e));
}

-- What the logs mean with the entry shows the lists that it gives.
pub shown_entry : (number : ℕ) (octets : List ℕ) (e : BoxEntry) (boxes : List MapBox) (meanings : List BoxMeaning) (lists : Lists) → MakesAlike octets e → ShowLists boxes meanings lists → ShowLists boxes (meanings_by number e boxes meanings) (lists_by number octets e lists)
shown_entry number octets e [] [] [] made h = tt
shown_entry number octets e (b ∷ bs) (m ∷ ms) (l ∷ ls) made h = by_test (b.number == number) (l.number == number) (ap (λ (n : ℕ). n == number) (sym h.0.number)) (shown_entry number octets e bs ms ls made h.1)
  where
    by_test : (t s : Bool) → t ≡ s → ShowLists bs (meanings_by number e bs ms) (lists_by number octets e ls)
        → ShowLists (b ∷ bs) (cond t (box_applied e m ∷ ms) (m ∷ meanings_by number e bs ms)) (cond s (mailbox_by octets e l ∷ ls) (l ∷ lists_by number octets e ls))
    by_test true true p rest = (shown_box b m l octets e made h.0, h.1)
    by_test false false p rest = (h.0, rest)
    by_test true false p rest = absurd (cc p)
    by_test false true p rest = absurd (cc p)
shown_entry number octets e boxes meanings lists made h = absurd h
