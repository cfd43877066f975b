-- Files in which one log has an entry more, and the lists that the entry gives.
use Rattle.std.specs.Prelude.{◌≡◌, ◌≢◌, ◌≤◌, ◌==◌, ℕ, max, Bool, false, List, [], ◌∷◌, ◌++◌, map, Option, Some, if◌then◌else◌, Contains}
use Rattle.disk_model.specs.Disk.{Files, DiskState, MayLeave, reading}
use Rattle.disk_model.specs.declared.name.FileName.{FileName}
use Rattle.model_logs.specs.declared.log_head.LogHead.{LogHead}
use Rattle.mdbox_base.specs.declared.entries.BoxEntry.{BoxEntry}
use Rattle.mdbox_base.specs.declared.entries.BoxEntry.TheVariants as box
use Rattle.model_lists.specs.Lists.{ListedMessage, Mailbox, Lists, change_first, refs_of}
use Rattle.model_logs.specs.LogFile.{IsLogFile}
use Rattle.model_meaning.specs.MapMeaning.{MapBox, map_meaning, count_of, MapMeaning}
use Rattle.model_store.specs.Stands.{HasBox, AreListed}
use Rattle.model_meaning.specs.Rows.{Rules, rows_by}
use Rattle.model_meaning.specs.BoxMeaning.{BoxMeaning, row_made, next_named, box_meaning, box_applied, BoxFits}
use Rattle.model_store.specs.Carrying.{CarriesOver}
use Rattle.model_store.specs.Listing.{meaning_numbered}
use Rattle.mdbox_base.specs.declared.entries.MapEntry.{MapEntry}
use Rattle.model_logs.specs.Entries.{BoxInRange}

-- ---- files

-- the second is a log with this entry more, where the first is a log
abbrev pub HasOneMore : List ℕ → Option (List ℕ) → Option (List ℕ) → Type 0
HasOneMore entry a b = (head : LogHead) (entries : List (List ℕ)) → IsLogFile a head entries → IsLogFile b head (entries ++ entry ∷ [])

-- The second files carry over what a store reads of the first, but for this log, which has this entry more.
pub record CarryMore (log : FileName) (entry : List ℕ) (generation : ℕ) (m : MapMeaning) (a b : Files) : Type 0 where
  pub more : HasOneMore entry (a log) (b log)
  pub others : (name : FileName) → name ≢ log → CarriesOver generation m a name (b name)

-- files that are the same but for this one
abbrev pub SameBut : FileName → Files → Files → Type 0
SameBut log a b = (name : FileName) → name ≢ log → b name ≡ a name

-- a disk on which no other file has changed
abbrev pub StatesBut : FileName → DiskState → DiskState → Type 0
StatesBut log old new = (other : FileName) → other ≢ log → new other ≡ old other

-- of each other file the image has what a crash may leave
abbrev pub LeftBut : FileName → DiskState → Files → Type 0
LeftBut log disk image = (other : FileName) → other ≢ log → MayLeave (disk other) (image other)

-- a crash leaves this file just as the disk reads it
abbrev pub LeavesAsRead : FileName → DiskState → Type 0
LeavesAsRead name disk = (left : Option (List ℕ)) → MayLeave (disk name) left → left ≡ reading (disk name)

-- ---- lists

-- How an entry of a mailbox log changes a message, as it changes a row: an Added makes one, of these octets.
abbrev pub message_made : List ℕ → BoxEntry → List ListedMessage
message_made octets (box.A uid flags time size map_uid guid words) = record { uid = uid.0; flags = flags; time = time; guid = guid.0; octets = octets; words = words } ∷ []
message_made octets entry = []

abbrev pub message_removed : BoxEntry → ListedMessage → Bool
message_removed (box.R uid) message = uid.0 == message.uid
message_removed entry message = false

abbrev pub message_changed : BoxEntry → ListedMessage → ListedMessage
message_changed (box.F uid flags) message = if uid.0 == message.uid then record message { flags = flags } else message
message_changed (box.K uid words) message = if uid.0 == message.uid then record message { words = words } else message
message_changed entry message = message

abbrev pub message_rules : List ℕ → Rules BoxEntry ListedMessage
message_rules octets = record { made = message_made octets; removes = message_removed; changed = message_changed }

-- a mailbox with one entry more in its log
abbrev pub mailbox_by : List ℕ → BoxEntry → Mailbox → Mailbox
mailbox_by octets entry mailbox = record mailbox {
  next_uid = max mailbox.next_uid (next_named entry);
  messages = rows_by (message_rules octets) entry mailbox.messages;
}

-- The lists with one entry more in the log of the mailbox with this number. The octets are those of the message that an Added
-- adds; for other entries they are of no account.
abbrev pub lists_by : ℕ → List ℕ → BoxEntry → Lists → Lists
lists_by number octets entry lists = change_first (λ mailbox. mailbox.number == number) (mailbox_by octets entry) lists

-- ---- the logs, and what they mean

-- the log of the mailbox with this number has the entry more
abbrev pub logs_by : ℕ → BoxEntry → List MapBox → List (List BoxEntry) → List (List BoxEntry)
logs_by number entry (mailbox ∷ boxes) (log ∷ logs) = if mailbox.number == number then (log ++ entry ∷ []) ∷ logs else log ∷ logs_by number entry boxes logs
logs_by number entry boxes logs = logs

-- and means it
abbrev pub meanings_by : ℕ → BoxEntry → List MapBox → List BoxMeaning → List BoxMeaning
meanings_by number entry (mailbox ∷ boxes) (m ∷ meanings) = if mailbox.number == number then box_applied entry m ∷ meanings else m ∷ meanings_by number entry boxes meanings
meanings_by number entry boxes meanings = meanings

-- the entry fits behind the log of the mailbox with this number
abbrev pub FitsIn : ℕ → BoxEntry → List MapBox → List (List BoxEntry) → Type 0
FitsIn number e boxes logs = (m : BoxMeaning) × (meaning_numbered number boxes (map box_meaning logs) ≡ Some m) × BoxFits m e

-- ---- an entry for the log of a mailbox

-- An entry can be appended to the log of this mailbox of safe files: it is in range and fits behind the log's entries, a
-- message that it adds is listed (its record is there and stores these octets), and the counts are enough for the lists
-- that it gives.
pub record IsBoxAppend (files : Files) (store : List ℕ) (entries : List MapEntry) (lists : Lists) (mailbox : MapBox) (octets : List ℕ) (e : BoxEntry) : Type 0 where
  pub log : List BoxEntry
  pub is_mailbox : Contains (map_meaning store entries).boxes mailbox
  pub has : HasBox files store mailbox log
  pub in_range : BoxInRange e
  pub fits : BoxFits (box_meaning log) e
  pub added : AreListed files (map_meaning store entries) (row_made e) (message_made octets e)
  pub counts : (guid : List ℕ) → refs_of (lists_by mailbox.number octets e lists) guid ≤ count_of (map_meaning store entries) guid
