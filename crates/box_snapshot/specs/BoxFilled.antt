-- Within the crate: a draft of a mailbox log that is being filled.
use Rattle.std.specs.Prelude.{◌≡◌, ◌≢◌, ◌≤◌, ℕ, List, [], length, map, Option, All}
use Rattle.std.specs.Option.{option_map_or}
use Rattle.disk_model.specs.Disk.{DiskState, History, IfTold, IsThere}
use Rattle.disk_model.specs.declared.name.FileName.{FileName}
use Rattle.gate_log.specs.Log.{Drafts}
use Rattle.mdbox_base.specs.declared.entries.BoxEntry.{BoxEntry}
use Rattle.model_logs.specs.Entries.{box_text}
use Rattle.model_meaning.specs.BoxMeaning.{BoxMeaning, box_meaning}
use Rattle.model_meaning.specs.MapMeaning.{MapMeaning}
use Rattle.model_rewritten.specs.Rewriting.{IsRewrittenBox, box_snapshot}
use Rattle.model_rewritten.specs.Unneeded.{IsUnneeded}
use Rattle.model_store.specs.Opening.{HasItsRecord}
use Rattle.store_core.specs.Drafts.{BoxDraftValue, IsBoxDraft}
use Rattle.store_core.specs.Value.{StoreValue, list_numbered}
use Rattle.box_snapshot.specs.Rewrites.{AreNamesSynced}

-- The disk reads a draft of a mailbox log with these entries, and all names are synced.
pub record IsBoxFilled {D : Type 0} (history : Option History) (entries : List BoxEntry) (draft : BoxDraftValue) (store : StoreValue D) : Type 0 where
  pub drafted : IsBoxDraft history draft store
  pub means : draft.index.meaning ≡ box_meaning entries
  pub reads : Drafts draft.log (map box_text entries) history
  pub count : draft.log.count ≡ length entries
  pub names : IfTold history AreNamesSynced

-- the entries with which the log of the mailbox with this number is written anew; none where there is no such mailbox
abbrev pub entries_anew : {D : Type 0} → ℕ → StoreValue D → List BoxEntry
entries_anew number store = option_map_or box_snapshot (list_numbered store number) []

-- What a mailbox's log means can be written anew, and each message that it lists has its record.
pub record CanBeRewritten (mapped : MapMeaning) (m : BoxMeaning) : Type 0 where
  pub rewritten : IsRewrittenBox m (box_snapshot m)
  pub few : length (box_snapshot m) ≤ 1000001
  pub records : All (HasItsRecord mapped) m.rows

-- no log is there that the store doesn't need, but this one
abbrev pub OnlyLogsBut : {D : Type 0} → FileName → StoreValue D → DiskState → Type 0
OnlyLogsBut draft store disk = (name : FileName) → name ≢ draft → IsUnneeded store.map_log.head.generation store.map name → IsThere (disk name) → ⊥
