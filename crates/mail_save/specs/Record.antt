-- The entries of the map log that a delivery appends.
use Rattle.std.specs.Prelude.{List, [], ◌∷◌, All, Option}
use Rattle.disk_model.specs.Disk.{History, IfTold}
use Rattle.mdbox_base.specs.declared.entries.InstRow.{InstRow}
use Rattle.mdbox_base.specs.declared.entries.MapEntry.{MapEntry}
use Rattle.mdbox_base.specs.declared.entries.MapEntry.TheVariants as entry
use Rattle.mdbox_base.specs.declared.ids.MapUid.{MapUid}
use Rattle.store_core.specs.StoreInstances.{IsFirmInstance}
use Rattle.store_core.specs.Value.{StoreValue}
use Rattle.mail_save.specs.declared.place.SavedAt.{SavedAt}

-- The message is stored by an own save, with its attachments as these instances. One reference of it is due.
abbrev pub entry_stored : List InstRow → MapUid → SavedAt → MapEntry
entry_stored rows uid at = entry.S 0 1 uid at.file at.offset at.size at.guid rows

-- one reference less
abbrev pub entry_lowered : MapUid → MapEntry
entry_lowered uid = entry.D (uid ∷ [])

-- a record that is made may name these instances
abbrev pub MayBeNamed : {D : Type 0} → List InstRow → StoreValue D → Option History → Type 0
MayBeNamed rows store history = IfTold history (λ now. All (IsFirmInstance store.map now) rows)
