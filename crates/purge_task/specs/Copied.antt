-- Which message is copied next, and what copying it leaves.
use Rattle.std.specs.Prelude.{◌≡◌, ◌≤◌, ◌+◌, ◌⊎◌, ◌++◌, ◌∷◌, [], ℕ, List, length, take, drop, vec_capacity, replicate, ◌-◌, true, All, Option, Some, Result, IsErrOf}
use Rattle.mdbox_base.specs.Streams.{Rose}
use Rattle.disk_model.specs.Disk.{DiskState, Faults, reading}
use Rattle.disk_model.specs.declared.name.FileName.TheVariants.{Mail}
use Rattle.map_rows.specs.declared.rows.MapRow.{MapRow}
use Rattle.map_index.specs.Shown.{shown_record}
use Rattle.mdbox_base.specs.declared.entries.MapPlace.{MapPlace}
use Rattle.mdbox_base.specs.declared.replies.Refusal.{Refusal}
use Rattle.mdbox_base.specs.declared.replies.Refusal.TheVariants as refusal
use Rattle.model_meaning.specs.MapMeaning.{MapRecord, MapMeaning, record_at}
use Rattle.storage_files.specs.Files.{changed_in, end_in, ending_at}
use Rattle.storage_files.specs.OnDisk.{IsPieceAdded, piece_read}
use Rattle.store_core.specs.Value.{StoreValue}
use Rattle.purge_task.specs.Claims.{sources_left}
use Rattle.purge_task.specs.declared.work.Source.{Source}
use Rattle.purge_task.specs.declared.work.Work.{Work}

-- ---- which message is next

-- the wanted message of a file with the least offset from this one on
pub record IsNextWanted (m : MapMeaning) (file from : ℕ) (row : MapRow) : Type 0 where
  pub r : MapRecord
  pub there : record_at m r.uid ≡ Some r
  pub shown : row ≡ shown_record r
  pub in_file : r.file ≡ file
  pub behind : from ≤ r.offset
  pub wanted : 1 ≤ r.count
  pub first : All (λ other. other.file ≡ file → from ≤ other.offset → 1 ≤ other.count → r.offset ≤ other.offset) m.records

-- the message is the next wanted one of the present file
abbrev pub IsNextWantedFirst : List Source → ℕ → MapMeaning → MapRow → Type 0
IsNextWantedFirst [] from m row = ⊥
IsNextWantedFirst (source ∷ left) from m row = IsNextWanted m source.file.0 from row

-- there is none
abbrev pub AreUnwantedFrom : MapMeaning → ℕ → ℕ → Type 0
AreUnwantedFrom m file from = All (λ row. row.file ≡ file → from ≤ row.offset → row.count ≡ 0) m.records

-- ---- what is copied

-- So many octets of a file from an offset on. Where the file has fewer, zeros stand for those that it lacks.
abbrev pub whole_piece : ℕ → ℕ → Option (List ℕ) → List ℕ
whole_piece offset size octets = piece_read offset size octets ++ replicate (size - length (piece_read offset size octets)) 0

-- the row is one of the map's
abbrev pub IsShownRow : MapMeaning → MapRow → Type 0
IsShownRow m row = (r : MapRecord) × (record_at m r.uid ≡ Some r) × (row ≡ shown_record r)

-- The region of a message was added to the target, octet for octet.
pub record IsRegionAdded (row : MapRow) (target : ℕ) (before after : DiskState) : Type 0 where
  pub there : List ℕ
  pub in_file : reading (before (Mail row.file.0)) ≡ Some there
  pub inside : row.offset + row.size ≤ length there
  pub added : IsPieceAdded (take row.size (drop row.offset there)) (before (Mail target)) (after (Mail target))

-- The store's value is as it was, but for its disk, the end of the target, which is no earlier, and whether it is stopped.
pub record IsTargetAt {D : Type 0} (target end : ℕ) (old new : StoreValue D) : Type 0 where
  pub before : ℕ
  pub ended : end_in target old.files.files ≡ Some before
  pub no_less : before ≤ end
  pub same : new ≡ record old { disk = new.disk; files = record old.files { files = changed_in target (ending_at end) old.files.files }; stopped = new.stopped }

-- A refusal is by a fault of a read, after which the store goes on, or by a change that failed, which stops it.
pub record IsCopyRefusal {D : Type 0} (target : ℕ) (why : Refusal) (old new : StoreValue D) : Type 0 where
  pub cause : ((why ≡ refusal.ReadFault) × (new.stopped ≡ old.stopped)) ⊎ ((why ≡ refusal.Stopped) × (new.stopped ≡ true))
  pub end : ℕ
  pub at : IsTargetAt target end old new

-- Counts of faults of a call that reads and changes: no count falls, and each rose where its own kind of failure was answered.
pub record CopyFaultCounted {T : Type 0} (result : Result T Refusal) (old new : Faults) : Type 0 where
  pub reads : old.reads ≤ new.reads
  pub changes : old.changes ≤ new.changes
  pub read_rose : IsErrOf result refusal.ReadFault → Rose old.reads new.reads
  pub change_rose : IsErrOf result refusal.Stopped → Rose old.changes new.changes
  pub unread : (IsErrOf result refusal.ReadFault → ⊥) → new.reads ≡ old.reads
  pub unchanged : (IsErrOf result refusal.Stopped → ⊥) → new.changes ≡ old.changes

-- ---- what is noted of it

-- the source with one more copy in its list, which had room for it
pub record IsSourceWith (place : MapPlace) (old new : Source) : Type 0 where
  pub same : new ≡ record old { copied = new.copied }
  pub listed : new.copied.items ≡ old.copied.items ++ place ∷ []
  pub room : vec_capacity new.copied ≡ vec_capacity old.copied

-- The present source lists the copy of a message, which begins in the target at this offset, and goes on behind the message.
pub record NotesCopy (row : MapRow) (offset : ℕ) (old new : Work) : Type 0 where
  pub source : Source
  pub noted : Source
  pub left : List Source
  pub before : sources_left old ≡ source ∷ left
  pub after : sources_left new ≡ noted ∷ left
  pub with_copy : IsSourceWith (record { uid = row.uid; offset = offset }) source noted
  pub same : new ≡ record old { sources = new.sources; from = row.offset + row.size; block = new.block }
  pub block : length new.block.items ≡ length old.block.items
