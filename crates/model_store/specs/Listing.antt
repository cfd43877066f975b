-- What the logs of mailboxes show in listings.
use Rattle.std.specs.Prelude.{◌≡◌, ◌==◌, ℕ, List, [], ◌∷◌, map, sum_by, count_by, if◌then◌else◌, Option, Some, None}
use Rattle.std.specs.Str.{bytes_eq}
use Rattle.mdbox_base.specs.declared.entries.BoxEntry.{BoxEntry}
use Rattle.mdbox_base.specs.declared.replies.ListRow.{ListRow}
use Rattle.mdbox_base.specs.declared.replies.Refusal.TheVariants as refusal
use Rattle.mdbox_base.specs.declared.replies.Reply.{Reply}
use Rattle.mdbox_base.specs.declared.replies.Reply.TheVariants as reply
use Rattle.model_lists.specs.Lists.{Mailbox, Lists, listing_row}
use Rattle.model_meaning.specs.BoxMeaning.{LogRow, BoxMeaning, rows_after, next_after}
use Rattle.model_meaning.specs.MapMeaning.{MapBox}

-- a row of a mailbox log, as a row of a listing
abbrev pub listed_row : LogRow → ListRow
listed_row row = record {
  uid = record { 0 = row.uid };
  flags = row.flags;
  size = row.size;
  time = row.time;
  guid = record { 0 = row.guid };
  words = row.words;
}

-- A mailbox is that of the map, with its number and its name, and shows what the entries of its log say: the next UID,
-- and each row of its listing.
pub record HasListing (box : MapBox) (entries : List BoxEntry) (mailbox : Mailbox) : Type 0 where
  pub number : mailbox.number ≡ box.number
  pub name : mailbox.name ≡ box.name
  pub next : mailbox.next_uid ≡ next_after entries
  pub rows : map listed_row (rows_after entries) ≡ map listing_row mailbox.messages

-- The lists are the map's mailboxes, one by one in their order, each with the listing of its log.
abbrev pub HaveListings : List MapBox → List (List BoxEntry) → Lists → Type 0
HaveListings [] [] [] = Unit {0}
HaveListings (box ∷ boxes) (entries ∷ logs) (mailbox ∷ lists) = HasListing box entries mailbox × HaveListings boxes logs lists
HaveListings boxes logs lists = ⊥

-- ---- the same of what the logs mean

-- A mailbox is that of the map, with its number and its name, and shows this meaning of its log.
pub record ShowsMailbox (box : MapBox) (m : BoxMeaning) (mailbox : Mailbox) : Type 0 where
  pub number : mailbox.number ≡ box.number
  pub name : mailbox.name ≡ box.name
  pub next : mailbox.next_uid ≡ m.next
  pub rows : map listed_row m.rows ≡ map listing_row mailbox.messages

-- The lists are the map's mailboxes, one by one in their order, each with the listing of this meaning.
abbrev pub ShowLists : List MapBox → List BoxMeaning → Lists → Type 0
ShowLists [] [] [] = Unit {0}
ShowLists (box ∷ boxes) (m ∷ meanings) (mailbox ∷ lists) = ShowsMailbox box m mailbox × ShowLists boxes meanings lists
ShowLists boxes meanings lists = ⊥

-- what the log of the first mailbox with this name means, or of the first with this number
abbrev pub meaning_named : List ℕ → List MapBox → List BoxMeaning → Option BoxMeaning
meaning_named name (box ∷ boxes) (m ∷ meanings) = if bytes_eq box.name name then Some m else meaning_named name boxes meanings
meaning_named name boxes meanings = None

abbrev pub meaning_numbered : ℕ → List MapBox → List BoxMeaning → Option BoxMeaning
meaning_numbered number (box ∷ boxes) (m ∷ meanings) = if box.number == number then Some m else meaning_numbered number boxes meanings
meaning_numbered number boxes meanings = None

-- how many listed messages have this GUID
abbrev pub refs_in : List BoxMeaning → List ℕ → ℕ
refs_in meanings guid = sum_by (λ m. count_by (λ row. bytes_eq row.guid guid) m.rows) meanings

-- the reply to a listing
abbrev pub listing_of : Option BoxMeaning → Reply
listing_of None = reply.Refused refusal.NoMailbox
listing_of (Some m) = reply.Listed (map listed_row m.rows)
