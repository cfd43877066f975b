-- The disk that a crash leaves.
use Rattle.std.specs.Prelude.{◌≡◌, ℕ, List, [], take, Option, Some}
use Rattle.disk_model.specs.Disk.{DiskState, IsImage, IsAtRest, reading, state_at}
use Rattle.disk_model.specs.declared.name.FileName.{FileName}
use Rattle.disk_mem.specs.declared.choice.Choice.{Choice}
use Rattle.disk_mem.specs.declared.disk.MemDisk.{MemDisk}
use Rattle.disk_mem.specs.Left.{noted, left_by_syncs, IsChosen}
use Rattle.disk_mem.specs.Mem.{told}
use Rattle.disk_mem.specs.Record.{found, at_rest}

-- what the last syncs had left of a file as so many calls had run
abbrev pub left_at : MemDisk → ℕ → FileName → Option (List ℕ)
left_at disk calls name = left_by_syncs name (take (noted calls disk.notes.items) disk.notes.items) (at_rest (found disk.base.items name))

-- The disk after a crash when so many calls had run, by a choice: one of the images of that moment, at rest, on which no call
-- has run.
pub record IsImageOf (old : MemDisk) (calls : ℕ) (choice : Choice) (new : MemDisk) : Type 0 where
  pub state : DiskState
  pub at : state_at (told old) calls ≡ Some state
  pub image : IsImage state (λ name. reading ((told new).now name))
  pub chosen : (name : FileName) → IsChosen choice (state name) (left_at old calls name) (reading ((told new).now name))
  pub rests : (name : FileName) → IsAtRest ((told new).now name)
  pub begins : (told new).before ≡ []
