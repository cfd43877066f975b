-- A disk in memory that tells nothing, and gives one octet of one file wrong.
use Rattle.std.specs.Prelude.{◌≡◌, ℕ, Bool, if◌then◌else◌, List, set, Some, Result, IsErr, OnOk}
use Rattle.disk_model.specs.Disk.{Faults, DiskState, after}
use Rattle.disk_model.specs.Name.{same_name}
use Rattle.disk_model.specs.declared.error.DiskError.{DiskError}
use Rattle.disk_model.specs.declared.name.FileName.{FileName}
use Rattle.disk_mem.specs.declared.mute.MuteDisk.{MuteDisk}
use Rattle.disk_mem.specs.declared.plan.Plan.{Plan}
use Rattle.disk_mem.specs.Mem.{told, ChangeFails}

-- what is read of the file of a name that holds these octets
abbrev pub as_altered : MuteDisk → FileName → List ℕ → List ℕ
as_altered disk name octets = if same_name name disk.name then set octets disk.offset disk.octet else octets

-- it counts failed reads as the disk inside does, and the changes that failed since it was made
abbrev pub mute_faults : MuteDisk → Faults
mute_faults disk = record { reads = disk.inner.failed_reads; changes = disk.failed_changes }

-- the octet that it gives wrong stays
pub record AltersTheSame (old new : MuteDisk) : Type 0 where
  pub name : new.name ≡ old.name
  pub offset : new.offset ≡ old.offset
  pub octet : new.octet ≡ old.octet

-- A change is passed on if its condition holds, and fails then as the disk inside says; else it fails, and the disk inside stays.
pub record PassesChange (May : Type 0) (step : DiskState → DiskState) (listed : Bool) (next : Plan) (result : Result (Unit {0}) DiskError) (old new : MuteDisk) : Type 0 where
  pub made : OnOk result (Some (told new.inner) ≡ after step (Some (told old.inner)))
  pub fails : May → ChangeFails listed result old.inner new.inner next
  pub refused : (May → ⊥) → IsErr result × (new.inner ≡ old.inner)
  pub same : AltersTheSame old new
