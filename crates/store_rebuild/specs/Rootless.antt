-- A disk whose root log was removed.
use Rattle.std.specs.Prelude.{◌≡◌, ◌≢◌}
use Rattle.disk_model.specs.Disk.{DiskState, IsThere}
use Rattle.disk_model.specs.declared.name.FileName.{FileName}
use Rattle.disk_model.specs.declared.name.FileName.TheVariants as file
use Rattle.model_rebuild.specs.RebuildMoments.{IsBeforeLogs}

-- The root log isn't there, and every other file is as it was. What held of a crash before the logs of a rebuild are made still
-- holds.
pub record IsRootTaken (old new : DiskState) : Type 0 where
  pub gone : IsThere (new file.Root) → ⊥
  pub others : (name : FileName) → name ≢ file.Root → new name ≡ old name
  pub before : (first : DiskState) → IsBeforeLogs first old → IsBeforeLogs first new
