-- What switching a storage file asks: an entry of the map log that moves its records to where they were copied, and drops those
-- with count 0.
use Rattle.std.specs.Prelude.{◌≡◌, ◌≤◌, ℕ, not, List, [], ◌∷◌, All, Option, if◌then◌else◌}
use Rattle.disk_model.specs.Disk.{History, IfTold}
use Rattle.mdbox_base.specs.declared.entries.MapEntry.{MapEntry}
use Rattle.mdbox_base.specs.declared.entries.MapEntry.TheVariants as map_entry
use Rattle.mdbox_base.specs.declared.ids.MapUid.{MapUid}
use Rattle.model_appends.specs.MapAppending.{AreCopied, AreCopiesSynced}
use Rattle.model_meaning.specs.MapFits.{HasRecord}
use Rattle.model_meaning.specs.MapMeaning.{MapRecord, MapMeaning, has_map_uid}
use Rattle.model_store.specs.Settled.{files_of}
use Rattle.storage_files.specs.declared.file.MailFile.{MailFile}
use Rattle.store_core.specs.Files.{LiesBelowEnd}

-- the entry switches this file
abbrev pub Switches : MapEntry → ℕ → Type 0
Switches (map_entry.P file target moved dropped) number = file.0 ≡ number
Switches entry number = ⊥

-- The place of each record that is moved lies below the end of the target, which is drawn and isn't doomed.
abbrev pub PlacesLieBelow : MapEntry → MapMeaning → List MailFile → ℕ → Type 0
PlacesLieBelow (map_entry.P file target moved dropped) m files drawn =
    (target ≤ drawn) × All (λ place. HasRecord m place.uid.0 (λ row. LiesBelowEnd m.store files (record row { file = target; offset = place.offset }))) moved
PlacesLieBelow entry m files drawn = ⊥

-- what is moved stands there octet for octet, as the disk reads it
abbrev pub HasCopies : MapEntry → MapMeaning → Option History → Type 0
HasCopies (map_entry.P file target moved dropped) m history = IfTold history (λ now. AreCopied (files_of now) m target moved)
HasCopies entry m history = ⊥

-- and a crash leaves it there
abbrev pub HasCopiesSynced : MapEntry → MapMeaning → Option History → Type 0
HasCopiesSynced (map_entry.P file target moved dropped) m history = IfTold history (λ now. AreCopiesSynced now m target moved)
HasCopiesSynced entry m history = ⊥

-- ---- within the crate

-- the numbers at records, without those of records that are dropped
abbrev pub dues_without : List MapUid → List MapRecord → List ℕ → List ℕ
dues_without uids (row ∷ rows) (number ∷ numbers) = if not (has_map_uid row.uid uids) then number ∷ dues_without uids rows numbers else dues_without uids rows numbers
dues_without uids rows numbers = []

abbrev pub dues_switched : MapEntry → List MapRecord → List ℕ → List ℕ
dues_switched (map_entry.P file target moved dropped) rows dues = dues_without dropped rows dues
dues_switched entry rows dues = dues
