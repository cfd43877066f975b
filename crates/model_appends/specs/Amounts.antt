-- What the count of a record is made of: its listed messages, what is due of it, and a leak. Due is what tasks hold of a
-- record (they raised its count and haven't listed a message yet) and what they owe it (they removed a message and haven't
-- lowered its count yet). The leak is what no task answers for.
use Rattle.std.specs.Prelude.{◌≡◌, ◌≤◌, ◌+◌, ◌-◌, ◌==◌, ℕ, Bool, true, List, [], ◌∷◌, if◌then◌else◌, find, Some}
use Rattle.std.specs.Option.{option_map_or}
use Rattle.mdbox_base.specs.declared.entries.BoxEntry.{BoxEntry}
use Rattle.mdbox_base.specs.declared.entries.BoxEntry.TheVariants as box
use Rattle.mdbox_base.specs.declared.entries.MapCount.{MapCount}
use Rattle.mdbox_base.specs.declared.entries.MapEntry.{MapEntry}
use Rattle.mdbox_base.specs.declared.entries.MapEntry.TheVariants as map_entry
use Rattle.mdbox_base.specs.declared.ids.MapUid.{MapUid}
use Rattle.model_meaning.specs.BoxMeaning.{BoxMeaning, row_at}
use Rattle.model_meaning.specs.MapMeaning.{MapRecord, has_map_uid}
use Rattle.model_store.specs.Opening.{listed_of}

-- a record's count is its listed messages, what is due of it, and its leak; both by map uid
abbrev pub IsAccounted : (ℕ → ℕ) → (ℕ → ℕ) → List (List BoxEntry) → MapRecord → Type 0
IsAccounted due leak logs row = row.count ≡ listed_of logs row.uid + due row.uid + leak row.uid

abbrev pub bit : Bool → ℕ
bit t = if t then 1 else 0

-- so many more are due of this record, and one less of each of these
abbrev pub more_due : ℕ → ℕ → (ℕ → ℕ) → ℕ → ℕ
more_due n k due uid = due uid + (if k == uid then n else 0)

abbrev pub less_due : List MapUid → (ℕ → ℕ) → ℕ → ℕ
less_due uids due uid = due uid - bit (has_map_uid uid uids)

-- ---- entries of mailbox logs

-- An added message ends a hold of its record, a removed one begins to be owed. The meaning is that of the log before.
abbrev pub due_by_box : BoxMeaning → BoxEntry → (ℕ → ℕ) → ℕ → ℕ
due_by_box m (box.A uid flags time size map_uid guid words) due = less_due (map_uid ∷ []) due
due_by_box m (box.R uid) due = option_map_or (λ row. more_due 1 row.map_uid due) (row_at m uid.0) due
due_by_box m entry due = due

-- a message can be added where its record is held
abbrev pub HoldsAdded : BoxEntry → (ℕ → ℕ) → Type 0
HoldsAdded (box.A uid flags time size map_uid guid words) due = 1 ≤ due map_uid.0
HoldsAdded entry due = Unit {0}

-- ---- entries of the map log

-- A stored record is held as often as its count says, `U` begins a hold, and `D` ends what is held or owed.
abbrev pub due_by : MapEntry → (ℕ → ℕ) → ℕ → ℕ
due_by (map_entry.S origin count uid file offset size guid instances) due = more_due count uid.0 due
due_by (map_entry.U uid) due = more_due 1 uid.0 due
due_by (map_entry.D uids) due = less_due uids due
due_by entry due = due

-- a record whose count is set anew has no leak
abbrev pub leak_by : MapEntry → (ℕ → ℕ) → ℕ → ℕ
leak_by (map_entry.T counts) leak = λ uid. option_map_or (λ c. 0) (find (λ c. c.uid.0 == uid) counts) (leak uid)
leak_by entry leak = leak

-- What the entry asks of these: of each record that a `D` lowers something is due, a `T` sets each count to what is listed
-- and due, and nothing is due of the new record of an `S`, nor does it leak.
abbrev pub MayChange : MapEntry → (ℕ → ℕ) → (ℕ → ℕ) → List (List BoxEntry) → Type 0
MayChange (map_entry.D uids) due leak logs = (uid : ℕ) → has_map_uid uid uids ≡ true → 1 ≤ due uid
MayChange (map_entry.T counts) due leak logs = (uid : ℕ) (c : MapCount) → find (λ c. c.uid.0 == uid) counts ≡ Some c → c.count ≡ listed_of logs uid + due uid
MayChange (map_entry.S origin count uid file offset size guid instances) due leak logs = (due uid.0 ≡ 0) × (leak uid.0 ≡ 0)
MayChange entry due leak logs = Unit {0}
