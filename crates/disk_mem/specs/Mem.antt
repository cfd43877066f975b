-- What a disk in memory tells, and when its calls fail.
use Rattle.std.specs.Prelude.{◌≡◌, ℕ, ◌↔◌, Bool, true, false, ◌||◌, if◌then◌else◌, is_ok, Result, IsErr, IsErrOf, OnErr}
use Rattle.disk_model.specs.Disk.{History, Faults, calls, reading}
use Rattle.disk_model.specs.declared.name.FileName.{FileName}
use Rattle.disk_model.specs.declared.error.DiskError.{DiskError}
use Rattle.disk_model.specs.declared.error.DiskError.TheVariants.{Failed}
use Rattle.disk_mem.specs.declared.disk.MemDisk.{MemDisk}
use Rattle.disk_mem.specs.declared.plan.Plan.{Plan}
use Rattle.disk_mem.specs.Numbers.{next, fails_call, counted}
use Rattle.disk_mem.specs.Record.{told_of}

-- the history that a disk tells
abbrev pub told : MemDisk → History
told disk = told_of disk.base.items disk.notes.items disk.idle

-- how many calls it has recorded
abbrev pub calls_of : MemDisk → ℕ
calls_of disk = calls (told disk)

abbrev pub faults_of : MemDisk → Faults
faults_of disk = record { reads = disk.failed_reads; changes = disk.failed_changes }

-- no calls were ever listed to fail
abbrev pub IsUnlisted : MemDisk → Type 0
IsUnlisted disk = disk.was_listed ≡ false

-- what is counted, and what is listed to fail, stays
pub record SameCounts (old new : MemDisk) : Type 0 where
  pub reads : new.failed_reads ≡ old.failed_reads
  pub changes : new.failed_changes ≡ old.failed_changes
  pub starved : new.starved ≡ old.starved
  pub plan : new.plan ≡ old.plan
  pub was_listed : new.was_listed ≡ old.was_listed

-- what a call that reads counts
pub record ReadCounts (listed : Bool) (old new : MemDisk) : Type 0 where
  pub reads : new.failed_reads ≡ (if listed then next old.failed_reads else old.failed_reads)
  pub changes : new.failed_changes ≡ old.failed_changes
  pub starved : new.starved ≡ old.starved
  pub plan : new.plan ≡ counted old.plan
  pub was_listed : new.was_listed ≡ old.was_listed

-- A call that reads fails just where it was listed.
pub record ReadFails {T : Type 0} (result : Result T DiskError) (old new : MemDisk) : Type 0 where
  pub fails : IsErrOf result Failed ↔ (fails_call old.plan ≡ true)
  pub counts : ReadCounts (fails_call old.plan) old new

-- each file reads as before
abbrev pub ReadsAsBefore : MemDisk → MemDisk → Type 0
ReadsAsBefore old new = (name : FileName) → reading ((told new).now name) ≡ reading ((told old).now name)

-- What a call that changes something counts, where it was listed to fail or not, and by its answer. One that fails and wasn't
-- listed found no memory.
pub record ChangeCounts (listed is_ok : Bool) (old new : MemDisk) (next_plan : Plan) : Type 0 where
  pub starved : new.starved ≡ (if listed || is_ok then old.starved else next old.starved)
  pub changes : new.failed_changes ≡ (if is_ok then old.failed_changes else next old.failed_changes)
  pub reads : new.failed_reads ≡ old.failed_reads
  pub plan : new.plan ≡ next_plan
  pub was_listed : new.was_listed ≡ old.was_listed

-- A call that changes something fails where it was listed, and else only if it raises the count of starved calls. After
-- it has failed each file reads as before.
pub record ChangeFails (listed : Bool) (result : Result (Unit {0}) DiskError) (old new : MemDisk) (next_plan : Plan) : Type 0 where
  pub fails : listed ≡ true → IsErr result
  pub counts : ChangeCounts listed (is_ok result) old new next_plan
  pub as_before : OnErr result (ReadsAsBefore old new)
