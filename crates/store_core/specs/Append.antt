-- What an append to the log of a mailbox asks, and what it leaves.
use Rattle.std.specs.Prelude.{◌≡◌, ◌≤◌, ◌+◌, ◌-◌, ◌==◌, ℕ, List, ◌∷◌, Option, Some, if◌then◌else◌}
use Rattle.std.specs.Option.{option_map_or}
use Rattle.disk_model.specs.Disk.{History, IfTold, EachImage, OthersStay}
use Rattle.gate_log.specs.State.{LogState}
use Rattle.gate_log.specs.Log.{Holds, IsLogWithOrWithout}
use Rattle.mdbox_base.specs.declared.entries.BoxEntry.{BoxEntry}
use Rattle.mdbox_base.specs.declared.entries.BoxEntry.TheVariants as box
use Rattle.model_appends.specs.Appending.{message_made}
use Rattle.model_meaning.specs.BoxMeaning.{BoxMeaning, BoxFits, row_made, row_at}
use Rattle.model_meaning.specs.MapMeaning.{MapRecord, MapMeaning}
use Rattle.model_store.specs.Settled.{files_of}
use Rattle.model_store.specs.Stands.{AreListed}
use Rattle.store_core.specs.Value.{StoreValue, list_numbered}
use Rattle.store_core.specs.declared.store.OpenBox.{OpenBox}
use Rattle.store_core.specs.declared.due.DueChange.{DueChange}
use Rattle.store_core.specs.declared.due.DueChange.TheVariants as change

-- the store has a mailbox with this number, behind whose log the entry fits
abbrev pub FitsBox : {D : Type 0} → ℕ → BoxEntry → StoreValue D → Type 0
FitsBox number e store = (m : BoxMeaning) × (list_numbered store number ≡ Some m) × BoxFits m e

-- A message that the entry adds is listed by what the disk reads: its record is there, with its GUID, and stores these octets.
-- An entry that adds none brings any octets.
abbrev pub Brings : MapMeaning → BoxEntry → List ℕ → Option History → Type 0
Brings m e octets history = IfTold history (λ now. AreListed (files_of now) m (row_made e) (message_made octets e))

-- ---- within the crate

-- the same mailbox, whose log has its name and head, and no less room
pub record IsSameBox (old new : OpenBox) : Type 0 where
  pub number : new.number ≡ old.number
  pub name : new.log.name ≡ old.log.name
  pub head : new.log.head ≡ old.log.head
  pub room : old.log.room ≤ new.log.room

-- at every moment of an append each image has the log's entries, or these and this one, and of the other files what it could
-- have before
abbrev pub AddsText : LogState → List ℕ → Option History → Option History → Type 0
AddsText log text old new = (entries : List (List ℕ)) → Holds log entries old → EachImage (λ _ image. IsLogWithOrWithout log.head entries text (image log.name) × OthersStay log.name old image) old new

-- what an entry makes of what is due
abbrev pub due_change_of : BoxMeaning → BoxEntry → DueChange
due_change_of m (box.A uid flags time size map_uid guid words) = change.Falls map_uid
due_change_of m (box.R uid) = option_map_or (λ row. change.Rises (record { 0 = row.map_uid })) (row_at m uid.0) change.Stays
due_change_of m entry = change.Stays

-- the numbers at records, with the one of the record with this map uid changed
abbrev pub change_beside : ℕ → (ℕ → ℕ) → List MapRecord → List ℕ → List ℕ
change_beside uid f (row ∷ rows) (number ∷ numbers) = if row.uid == uid then f number ∷ numbers else number ∷ change_beside uid f rows numbers
change_beside uid f rows numbers = numbers

abbrev pub dues_by : DueChange → List MapRecord → List ℕ → List ℕ
dues_by change.Stays rows dues = dues
dues_by (change.Rises uid) rows dues = change_beside uid.0 (λ n. n + 1) rows dues
dues_by (change.Falls uid) rows dues = change_beside uid.0 (λ n. n - 1) rows dues
