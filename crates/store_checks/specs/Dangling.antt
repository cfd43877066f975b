-- Listed messages without a record of their GUID.
use Rattle.std.specs.Prelude.{◌≡◌, ◌≤◌, ℕ, List, map, Option, Some, None}
use Rattle.mdbox_base.specs.declared.entries.BoxEntry.{BoxEntry}
use Rattle.mdbox_base.specs.declared.entries.BoxEntry.TheVariants as box
use Rattle.model_meaning.specs.BoxMeaning.{LogRow, BoxMeaning, box_meaning, row_at}
use Rattle.model_meaning.specs.MapMeaning.{MapMeaning}
use Rattle.model_logs.specs.Entries.{box_text, IsBoxText}
use Rattle.model_store.specs.Opening.{AreBoxEntries, HasItsRecord, IsDangling}

-- the UID of the message that an entry adds
abbrev pub added_uid : BoxEntry → Option ℕ
added_uid (box.A uid flags time size map_uid guid words) = Some uid.0
added_uid entry = None

-- a message with this UID is listed and has no record of its GUID
pub record LacksRecordAt (m : MapMeaning) (b : BoxMeaning) (uid : ℕ) : Type 0 where
  pub row : LogRow
  pub found : row_at b uid ≡ Some row
  pub none : HasItsRecord m row → ⊥

-- a message with this UID has one, where it is listed
abbrev pub HasRecordAt : MapMeaning → BoxMeaning → ℕ → Type 0
HasRecordAt m b uid = (row : LogRow) → row_at b uid ≡ Some row → HasItsRecord m row

-- the text is an entry that adds a message of the first kind
pub record AddsDangling (m : MapMeaning) (b : BoxMeaning) (text : List ℕ) : Type 0 where
  pub entry : BoxEntry
  pub is : IsBoxText 2 text entry
  pub uid : ℕ
  pub added : added_uid entry ≡ Some uid
  pub lacks : LacksRecordAt m b uid

-- each message that an entry with this text adds is of the second kind
abbrev pub AddsNoDangling : MapMeaning → BoxMeaning → List ℕ → Type 0
AddsNoDangling m b text = (entry : BoxEntry) (uid : ℕ) → IsBoxText 2 text entry → added_uid entry ≡ Some uid → HasRecordAt m b uid

-- of the entries with these texts and this meaning, the record at this place is the first that adds such a message
abbrev pub IsFirstDangling : MapMeaning → BoxMeaning → List (List ℕ) → ℕ → Type 0
IsFirstDangling m b texts place = (entries : List BoxEntry) → texts ≡ map box_text entries → AreBoxEntries entries → b ≡ box_meaning entries
    → IsDangling m entries place × ((other : ℕ) → IsDangling m entries other → place ≤ other)
