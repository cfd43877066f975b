-- Logs with which a store opens show some lists: those whose messages have as many octets as the logs say, all of them 0.
use Rattle.std.specs.Prelude.{◌≡◌, ◌≢◌, ◌<◌, ◌≤◌, ℕ, List, [], ◌∷◌, length, map, replicate, All, AllPairs, Option}
use Rattle.std.specs.List.{AllByRecursion}
use Rattle.std.proofs.Common.{refl, sym, ◌∙◌, ap, arith, subst}
use Rattle.std.proofs.lemmas.List.{length-replicate}
use Rattle.std.proofs.lemmas.List.Elements.{All-nil, All-cons, All-head, All-tail}
use Rattle.std.proofs.lemmas.List.Kept.{AllPairs-cons}
use Rattle.disk_model.specs.Disk.{History}
use Rattle.mdbox_base.specs.declared.entries.BoxEntry.{BoxEntry}
use Rattle.mdbox_base.specs.declared.replies.ListRow.{ListRow}
use Rattle.model_lists.specs.Lists.{ListedMessage, Mailbox, Lists, IsMessageInRange, IsMailboxInOrder, AreWellFormed, listing_row}
use Rattle.model_meaning.specs.BoxMeaning.{BoxMeaning, LogRow, box_meaning}
use Rattle.model_meaning.specs.MapMeaning.{MapBox, MapMeaning, map_meaning}
use Rattle.model_meaning.specs.Sound.{IsSoundRow, IsSoundBox, IsSoundMapBox, IsSoundMap}
use Rattle.model_meaning.proofs.BoxSoundLemmas.{box_sound}
use Rattle.model_meaning.proofs.MapSoundLemmas.{map_sound}
use Rattle.model_octets.proofs.PairLemmas.{all_map, pairs_head, pairs_map, pairs_nil, pairs_tail}
use Rattle.model_store.specs.Listing.{ShowLists, listed_row}
use Rattle.model_store.specs.Opening.{AreBoxEntries}
use Rattle.store_open.specs.Opened.{IsOpenedAs}
use Rattle.script_run.specs.Opening.{LogsShowLists}
use Rattle.script_run.proofs.ShownLemmas.{shows_same}

-- ---- a mailbox

abbrev shown_message : LogRow → ListedMessage
shown_message row = record { uid = row.uid; flags = row.flags; time = row.time; guid = row.guid; octets = replicate row.size 0; words = row.words }

abbrev shown_mailbox : MapBox → BoxMeaning → Mailbox
shown_mailbox box m = record { number = box.number; name = box.name; next_uid = m.next; messages = map shown_message m.rows }

row_shown : (row : LogRow) → listed_row row ≡ listing_row (shown_message row)
row_shown row = ap (λ (n : ℕ). let shown : ListRow = record { uid = record { 0 = row.uid }; flags = row.flags; size = n; time = row.time; guid = record { 0 = row.guid }; words = row.words } in shown) (sym (length-replicate row.size 0))

rows_shown : (rows : List LogRow) → map listed_row rows ≡ map listing_row (map shown_message rows)
rows_shown [] = refl
rows_shown (row ∷ rows) = ap (λ (r : ListRow). r ∷ map listed_row rows) (row_shown row) ∙ ap (λ (rs : List ListRow). listing_row (shown_message row) ∷ rs) (rows_shown rows)

message_fits : (next : ℕ) (row : LogRow) → next ≤ 4294967295 → IsSoundRow next row → IsMessageInRange (shown_message row)
message_fits next row le r =
    let below = r.below in
    let size = r.size in
    let zeros : List ℕ = replicate row.size 0 in
    let is : length zeros ≡ row.size = length-replicate row.size 0 in
    record { uid_some = r.uid_some; uid_fits = omega (arith, below, le); flags = r.flags; time = r.time; guid = r.guid; size = omega (arith, size, is); words = r.words }

mailbox_in_order : (high : ℕ) (box : MapBox) (m : BoxMeaning) → IsSoundMapBox high box → IsSoundBox m → IsMailboxInOrder (shown_mailbox box m)
mailbox_in_order high box m b s = record {
  number_some = b.number.low;
  number_fits = b.number.high;
  name = b.name;
  next_some = s.some;
  next_fits = s.fits;
  rising = pairs_map (λ (x y : LogRow). x.uid < y.uid) (λ (x y : ListedMessage). x.uid < y.uid) shown_message (λ x y r. r) m.rows s.rising;
  below = all_map (IsSoundRow m.next) (λ (x : ListedMessage). x.uid < m.next) shown_message (λ x r. r.below) m.rows s.rows;
  in_range = all_map (IsSoundRow m.next) IsMessageInRange shown_message (λ x r. message_fits m.next x s.fits r) m.rows s.rows;
}

-- ---- all mailboxes

abbrev shown_lists : List MapBox → List (List BoxEntry) → Lists
shown_lists (box ∷ boxes) (log ∷ logs) = shown_mailbox box (box_meaning log) ∷ shown_lists boxes logs
shown_lists boxes logs = []

are_shown : (boxes : List MapBox) (logs : List (List BoxEntry)) → length logs ≡ length boxes → ShowLists boxes (map box_meaning logs) (shown_lists boxes logs)
are_shown [] [] e = tt
are_shown [] (log ∷ logs) e = absurd (omega (arith, e))
are_shown (box ∷ boxes) [] e = absurd (omega (arith, e))
are_shown (box ∷ boxes) (log ∷ logs) e = (record { number = refl; name = refl; next = refl; rows = rows_shown (box_meaning log).rows }, are_shown boxes logs (omega (arith, e)))

all_in_order : (high : ℕ) (boxes : List MapBox) (logs : List (List BoxEntry)) → All (IsSoundMapBox high) boxes → AllByRecursion AreBoxEntries logs → All IsMailboxInOrder (shown_lists boxes logs)
all_in_order high [] [] s g = All-nil IsMailboxInOrder
all_in_order high [] (log ∷ logs) s g = All-nil IsMailboxInOrder
all_in_order high (box ∷ boxes) [] s g = All-nil IsMailboxInOrder
all_in_order high (box ∷ boxes) (log ∷ logs) s g =
    All-cons IsMailboxInOrder (shown_mailbox box (box_meaning log)) (shown_lists boxes logs) (mailbox_in_order high box (box_meaning log) (All-head (IsSoundMapBox high) box boxes s) (box_sound log g.0.1 g.0.0))
    (all_in_order high boxes logs (All-tail (IsSoundMapBox high) box boxes s) g.1)

all_shown : (P : MapBox → Type 0) (Q : Mailbox → Type 0) → ((box : MapBox) (m : BoxMeaning) → P box → Q (shown_mailbox box m)) → (boxes : List MapBox) (logs : List (List BoxEntry)) → All P boxes → All Q (shown_lists boxes logs)
all_shown P Q carries [] [] p = All-nil Q
all_shown P Q carries [] (log ∷ logs) p = All-nil Q
all_shown P Q carries (box ∷ boxes) [] p = All-nil Q
all_shown P Q carries (box ∷ boxes) (log ∷ logs) p =
    All-cons Q (shown_mailbox box (box_meaning log)) (shown_lists boxes logs) (carries box (box_meaning log) (All-head P box boxes p)) (all_shown P Q carries boxes logs (All-tail P box boxes p))

pairs_shown : (R : MapBox → MapBox → Type 0) (Q : Mailbox → Mailbox → Type 0) → ((a b : MapBox) (m n : BoxMeaning) → R a b → Q (shown_mailbox a m) (shown_mailbox b n)) → (boxes : List MapBox) (logs : List (List BoxEntry)) → AllPairs R boxes → AllPairs Q (shown_lists boxes logs)
pairs_shown R Q carries [] [] p = pairs_nil Q
pairs_shown R Q carries [] (log ∷ logs) p = pairs_nil Q
pairs_shown R Q carries (box ∷ boxes) [] p = pairs_nil Q
pairs_shown R Q carries (box ∷ boxes) (log ∷ logs) p =
    AllPairs-cons Q (shown_mailbox box (box_meaning log)) (shown_lists boxes logs)
    (all_shown (R box) (Q (shown_mailbox box (box_meaning log))) (λ b n r. carries box b (box_meaning log) n r) boxes logs (pairs_head R box boxes p)) (pairs_shown R Q carries boxes logs (pairs_tail R box boxes p))

-- whatever logs a store opened with, some lists are shown by them
pub some_lists : (old : Option History) (m : MapMeaning) (meanings : List BoxMeaning) → IsOpenedAs old m meanings → (lists : Lists) × LogsShowLists m meanings lists
some_lists old m meanings o =
    let n : MapMeaning = map_meaning m.store o.entries in
    let s : IsSoundMap n = map_sound m.store o.entries o.good.map_entries.1 o.good.map_entries.0 in
    let formed : AreWellFormed (shown_lists n.boxes o.logs) = record {
      names = pairs_shown (λ a b. a.name ≢ b.name) (λ x y. x.name ≢ y.name) (λ a b x y r. r) n.boxes o.logs s.names;
      numbers = pairs_shown (λ a b. a.number < b.number) (λ x y. x.number < y.number) (λ a b x y r. r) n.boxes o.logs s.boxes_rising;
      each = all_in_order n.highest.mailbox n.boxes o.logs s.boxes o.good.box_entries;
    } in
    let shows : ShowLists m.boxes meanings (shown_lists n.boxes o.logs) =
    subst (λ (ms : List BoxMeaning). ShowLists m.boxes ms (shown_lists n.boxes o.logs)) (sym o.meanings_are)
    (shows_same n.boxes m.boxes (map box_meaning o.logs) (shown_lists n.boxes o.logs) o.means.numbers o.means.names (are_shown n.boxes o.logs o.good.one_each)) in
    (shown_lists n.boxes o.logs, (formed, shows))
