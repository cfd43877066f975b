-- Mailbox lists: what a user sees of a store.
use Rattle.mdbox_base.specs.declared.replies.ListRow.{ListRow}
use Rattle.std.specs.Prelude.{◌≡◌, ◌≢◌, ◌<◌, ◌≤◌, ◌^◌, ℕ, Bool, List, length, All, AllPairs, sum_by, count_by, ◌∷◌, [], if◌then◌else◌}
use Rattle.std.specs.Str.{bytes_eq}
use Rattle.mdbox_base.specs.Keywords.{AreWords}
use Rattle.mdbox_base.specs.Words.{IsName}

-- A listed message: its UID, its flags, the time it was received (Unix seconds), its GUID, its octets and its keywords.
pub record ListedMessage : Type 0 where
  pub uid : ℕ
  pub flags : ℕ
  pub time : ℕ
  pub guid : List ℕ
  pub octets : List ℕ
  pub words : List (List ℕ)

-- A mailbox: its number in the store, its name, the UID that its next message gets, and its messages.
pub record Mailbox : Type 0 where
  pub number : ℕ
  pub name : List ℕ
  pub next_uid : ℕ
  pub messages : List ListedMessage

-- The mailboxes, in the order in which they were made.
abbrev pub Lists : Type 0
Lists = List Mailbox

-- The numbers of a message are in their ranges: UIDs from 1 to 4,294,967,294, flags as bits below 32, 64 bits of time,
-- a GUID of 16 octets, and at most 67,108,864 octets; and its keywords are those of a message.
pub record IsMessageInRange (message : ListedMessage) : Type 0 where
  pub uid_some : 1 ≤ message.uid
  pub uid_fits : message.uid ≤ 4294967294
  pub flags : message.flags ≤ 31
  pub time : message.time < 2 ^ 64
  pub guid : length message.guid ≡ 16
  pub size : length message.octets ≤ 67108864
  pub words : AreWords message.words

-- UIDs rise within the mailbox, and lie below its next UID (RFC 9051, section 2.3.1.1), which is from 1 to
-- 4,294,967,295. The mailbox has a name, and a number from 1 to 4,294,967,294.
pub record IsMailboxInOrder (mailbox : Mailbox) : Type 0 where
  pub number_some : 1 ≤ mailbox.number
  pub number_fits : mailbox.number ≤ 4294967294
  pub name : IsName mailbox.name
  pub next_some : 1 ≤ mailbox.next_uid
  pub next_fits : mailbox.next_uid ≤ 4294967295
  pub rising : AllPairs (λ a b. a.uid < b.uid) mailbox.messages
  pub below : All (λ m. m.uid < mailbox.next_uid) mailbox.messages
  pub in_range : All IsMessageInRange mailbox.messages

-- The lists are well formed: names of mailboxes differ, their numbers rise in the order of making, and each is in order.
pub record AreWellFormed (lists : Lists) : Type 0 where
  pub names : AllPairs (λ a b. a.name ≢ b.name) lists
  pub numbers : AllPairs (λ a b. a.number < b.number) lists
  pub each : All IsMailboxInOrder lists

-- how many listed messages have this GUID
abbrev pub refs_of : Lists → List ℕ → ℕ
refs_of lists guid = sum_by (λ mailbox. count_by (λ m. bytes_eq m.guid guid) mailbox.messages) lists

-- an empty mailbox
abbrev pub empty_mailbox : ℕ → List ℕ → Mailbox
empty_mailbox number name = record { number = number; name = name; next_uid = 1; messages = [] }

-- the first that passes is changed
abbrev pub change_first : {X : Type 0} → (X → Bool) → (X → X) → List X → List X
change_first test change [] = []
change_first test change (x ∷ xs) = if test x then change x ∷ xs else x ∷ change_first test change xs

-- a row of a listing
abbrev pub listing_row : ListedMessage → ListRow
listing_row message = record {
  uid = record { 0 = message.uid };
  flags = message.flags;
  size = length message.octets;
  time = message.time;
  guid = record { 0 = message.guid };
  words = message.words;
}
