-- Drafts of the map log: a log of the next generation, which may be put in the place of the one in force.
use Rattle.std.specs.Prelude.{◌≡◌, ◌≢◌, ℕ, List, [], ◌∷◌, map, sum_by, Option}
use Rattle.disk_model.specs.Disk.{History}
use Rattle.disk_model.specs.declared.name.FileName.TheVariants as file
use Rattle.gate_log.specs.Log.{Drafts, Holds}
use Rattle.gate_log.specs.State.{LogState}
use Rattle.map_index.specs.Value.{HasRoomFor, MapIndexValue, room_for, room_left}
use Rattle.map_index.specs.declared.room.MapRoom.{MapRoom}
use Rattle.mdbox_base.specs.Words.{IsNumber}
use Rattle.mdbox_base.specs.declared.entries.MapEntry.{MapEntry}
use Rattle.model_logs.specs.Entries.{map_text}
use Rattle.model_logs.specs.declared.log_head.LogKind.TheVariants as kind
use Rattle.model_meaning.specs.MapFits.{MapFits}
use Rattle.model_meaning.specs.MapMeaning.{MapMeaning, map_applied, map_meaning}
use Rattle.model_store.specs.Opening.{AreMapEntries}
use Rattle.model_store.specs.Stands.{head_of}
use Rattle.store_core.specs.Value.{StoreValue}

-- What a caller sees of a draft: of which generation it is, the log, and what its entries mean.
pub record MapDraftValue : Type 0 where
  pub generation : ℕ
  pub log : LogState
  pub map : MapIndexValue

-- The disk reads the draft: a map log of another generation than the one in force, with entries that fit and mean this.
pub record IsMapDraft {D : Type 0} (history : Option History) (draft : MapDraftValue) (store : StoreValue D) : Type 0 where
  pub entries : List MapEntry
  pub good : AreMapEntries store.map.store entries
  pub means : draft.map.meaning ≡ map_meaning store.map.store entries
  pub name : draft.log.name ≡ file.Map draft.generation
  pub head : draft.log.head ≡ head_of store.map.store kind.Map 0 draft.generation
  pub reads : Drafts draft.log (map map_text entries) history
  pub is_generation : IsNumber draft.generation
  pub other : store.map_log.name ≢ file.Map draft.generation

-- each entry fits behind entries of this meaning and those before it
abbrev pub AllMapFitBehind : MapMeaning → List MapEntry → Type 0
AllMapFitBehind m [] = Unit {0}
AllMapFitBehind m (entry ∷ rest) = MapFits m entry × AllMapFitBehind (map_applied entry m) rest

-- ---- within the crate

-- A draft that a crash leaves as it reads.
pub record IsHeldMapDraft {D : Type 0} (history : Option History) (draft : MapDraftValue) (store : StoreValue D) : Type 0 where
  pub drafted : IsMapDraft history draft store
  pub held : Holds draft.log (map map_text drafted.entries) history

-- what entries need of an index, all together
abbrev pub rooms_of : List MapEntry → MapRoom
rooms_of entries = record {
  records = sum_by (λ e. (room_for e).records) entries;
  instances = sum_by (λ e. (room_for e).instances) entries;
  boxes = sum_by (λ e. (room_for e).boxes) entries;
  files = sum_by (λ e. (room_for e).files) entries;
}

-- the entries can be taken in without memory, one behind another
abbrev pub HasRoomForAll : List MapEntry → MapRoom → Type 0
HasRoomForAll [] room = Unit {0}
HasRoomForAll (entry ∷ rest) room = HasRoomFor entry room × HasRoomForAll rest (room_left entry room)
