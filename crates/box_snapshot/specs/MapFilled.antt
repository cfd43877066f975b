-- Within the crate: a draft of the map log that is being filled.
use Rattle.std.specs.Prelude.{◌≡◌, List, length, map, Option}
use Rattle.disk_model.specs.Disk.{History, IfTold}
use Rattle.gate_log.specs.Log.{Drafts}
use Rattle.mdbox_base.specs.declared.entries.MapEntry.{MapEntry}
use Rattle.model_logs.specs.Entries.{map_text}
use Rattle.model_meaning.specs.MapMeaning.{map_meaning}
use Rattle.store_core.specs.MapDrafts.{IsMapDraft, MapDraftValue}
use Rattle.store_core.specs.Value.{StoreValue}
use Rattle.box_snapshot.specs.Rewrites.{AreNamesSynced}

-- The disk reads a draft of the map log with these entries, and all names are synced.
pub record IsMapFilled {D : Type 0} (history : Option History) (entries : List MapEntry) (draft : MapDraftValue) (store : StoreValue D) : Type 0 where
  pub drafted : IsMapDraft history draft store
  pub means : draft.map.meaning ≡ map_meaning store.map.store entries
  pub reads : Drafts draft.log (map map_text entries) history
  pub count : draft.log.count ≡ length entries
  pub names : IfTold history AreNamesSynced
