-- What an append to a log of the store says, as its event needs it: after Ok, and where a change of the disk failed.
use Rattle.std.specs.Prelude.{◌≡◌, ◌≤◌, ◌<◌, ℕ, true, false, List, [], ◌∷◌, Option, Some, Result, Ok, Err}
use Rattle.disk_model.specs.Disk.{History, Faults, Grows}
use Rattle.mdbox_base.specs.Streams.{Rose}
use Rattle.mdbox_base.specs.declared.entries.BoxEntry.{BoxEntry}
use Rattle.mdbox_base.specs.declared.entries.MapEntry.{MapEntry}
use Rattle.mdbox_base.specs.declared.entries.MapEntry.TheVariants as map_entry
use Rattle.mdbox_base.specs.declared.ids.MapUid.{MapUid}
use Rattle.model_appends.specs.Amounts.{due_by, due_by_box}
use Rattle.model_appends.specs.Appending.{lists_by, meanings_by}
use Rattle.model_kept.specs.Kept.{MailIsKept}
use Rattle.model_lists.specs.Lists.{Lists}
use Rattle.model_meaning.specs.BoxMeaning.{BoxMeaning}
use Rattle.model_meaning.specs.MapFits.{MapFits}
use Rattle.model_meaning.specs.MapMeaning.{MapMeaning, MapRecord, map_applied, record_at}
use Rattle.model_store.specs.Settled.{IsSettledFor, Leaves}
use Rattle.store_core.specs.Append.{Brings}
use Rattle.store_core.specs.Dues.{due_at, IsSpared, KeepsStored}
use Rattle.store_core.specs.Keeping.{KeepsMail, KeepsRest}
use Rattle.store_core.specs.Value.{StoreValue, indexes_of, list_numbered}

-- the entry that lowers the count of a record by one
abbrev pub lowering_of : MapUid → MapEntry
lowering_of uid = map_entry.D (uid ∷ [])

-- ---- to the map log

-- Of a settled disk each image at every moment is safe for its lists, whichever call fails. Mailboxes, storage files and the rest of the
-- store stay, and so do files and instances at each moment. The room of the map log never falls.
pub record MapAppends {D : Type 0} (old new : StoreValue D) (before after : Option History) (began now : Faults) : Type 0 where
  pub moments : (lists : Lists) → IsSettledFor lists before → Leaves lists lists before after
  pub indexes : indexes_of new.boxes ≡ indexes_of old.boxes
  pub mailboxes : new.map.boxes ≡ old.map.boxes
  pub drawn : new.drawn ≡ old.drawn
  pub files : new.files ≡ old.files
  pub room : old.map_log.room ≤ new.map_log.room
  pub rest : KeepsRest old new
  pub stays : (m : MapMeaning) → MailIsKept m before after
  pub grows : Grows before after
  pub reads : now.reads ≡ began.reads
  pub changes : began.changes ≤ now.changes

-- The entry, which fits, was taken in, and the map log is longer by it.
pub record MapTook {D : Type 0} (entry : MapEntry) (old new : StoreValue D) (before after : Option History) (began now : Faults) : Type 0 where
  pub appends : MapAppends old new before after began now
  pub runs : new.stopped ≡ false
  pub settled : (lists : Lists) → IsSettledFor lists before → IsSettledFor lists after
  pub fits : MapFits old.map entry
  pub taken : new.map ≡ map_applied entry old.map
  pub further : old.map_log.end < new.map_log.end
  pub due : (uid : ℕ) → due_at uid new ≡ due_by entry (λ other. due_at other old) uid
  pub spared : (uid : ℕ) (row : MapRecord) → record_at old.map uid ≡ Some row → IsSpared uid row new before after
  pub mail : KeepsMail before after
  pub unfailed : now ≡ began

-- A change of the disk failed, and the store is stopped.
pub record MapFell {D : Type 0} (old new : StoreValue D) (before after : Option History) (began now : Faults) : Type 0 where
  pub appends : MapAppends old new before after began now
  pub stopped : new.stopped ≡ true
  pub map : new.map ≡ old.map
  pub dues : new.dues ≡ old.dues
  pub rose : Rose began.changes now.changes

-- So the map has taken it in, and the mailboxes and what their logs mean stay.
pub record TakesIntoMap {D : Type 0} (entry : MapEntry) (old new : StoreValue D) : Type 0 where
  pub indexes : indexes_of new.boxes ≡ indexes_of old.boxes
  pub mailboxes : new.map.boxes ≡ old.map.boxes
  pub taken : new.map ≡ map_applied entry old.map

abbrev pub MapAnswers : {D X E : Type 0} → MapEntry → Result X E → StoreValue D → StoreValue D → Option History → Option History → Faults → Faults → Type 0
MapAnswers entry (Ok x) old new before after began now = MapTook entry old new before after began now
MapAnswers entry (Err e) old new before after began now = MapFell old new before after began now

-- ---- to the log of a mailbox

-- Of a settled disk each image at every moment is safe for its lists, or for those that the entry gives. The map, the storage
-- files and the rest of the store stay, and so do files and instances at each moment. So does the map log.
pub record BoxAppends {D : Type 0} (number : ℕ) (entry : BoxEntry) (old new : StoreValue D) (before after : Option History) (began now : Faults) : Type 0 where
  pub moments : (lists : Lists) (octets : List ℕ) → Brings old.map entry octets before → IsSettledFor lists before → Leaves lists (lists_by number octets entry lists) before after
  pub map : new.map ≡ old.map
  pub drawn : new.drawn ≡ old.drawn
  pub files : new.files ≡ old.files
  pub end : old.map_log.end ≤ new.map_log.end
  pub room : old.map_log.room ≤ new.map_log.room
  pub rest : KeepsRest old new
  pub stays : (m : MapMeaning) → MailIsKept m before after
  pub grows : Grows before after
  pub reads : now.reads ≡ began.reads
  pub changes : began.changes ≤ now.changes

-- The entry was taken in.
pub record BoxTook {D : Type 0} (number : ℕ) (entry : BoxEntry) (old new : StoreValue D) (before after : Option History) (began now : Faults) : Type 0 where
  pub appends : BoxAppends number entry old new before after began now
  pub runs : new.stopped ≡ false
  pub settled : (lists : Lists) (octets : List ℕ) → Brings old.map entry octets before → IsSettledFor lists before → IsSettledFor (lists_by number octets entry lists) after
  pub taken : indexes_of new.boxes ≡ meanings_by number entry old.map.boxes (indexes_of old.boxes)
  pub due : (m : BoxMeaning) (uid : ℕ) → list_numbered old number ≡ Some m → due_at uid new ≡ due_by_box m entry (λ other. due_at other old) uid
  pub stored : KeepsStored before after
  pub mail : KeepsMail before after
  pub unfailed : now ≡ began

-- A change of the disk failed, and the store is stopped.
pub record BoxFell {D : Type 0} (number : ℕ) (entry : BoxEntry) (old new : StoreValue D) (before after : Option History) (began now : Faults) : Type 0 where
  pub appends : BoxAppends number entry old new before after began now
  pub stopped : new.stopped ≡ true
  pub indexes : indexes_of new.boxes ≡ indexes_of old.boxes
  pub dues : new.dues ≡ old.dues
  pub rose : Rose began.changes now.changes
