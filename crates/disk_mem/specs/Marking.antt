-- What became of a file, as far as names and syncs go.
use Rattle.std.specs.Prelude.{◌≡◌, ℕ, ◌≤◌, List, length, take, drop}
use Rattle.disk_model.specs.Disk.{FileState}
use Rattle.disk_model.specs.declared.name.FileName.{FileName}
use Rattle.disk_mem.specs.declared.marks.Marks.{Marks}
use Rattle.disk_mem.specs.declared.note.Note.{Note}
use Rattle.disk_mem.specs.Record.{file_after}
use Rattle.disk_mem.specs.Left.{left_octets, left_there, touched}

-- these notes leave a file so marked
pub record AreMarks (name : FileName) (notes : List Note) (f : FileState) (marks : Marks) : Type 0 where
  pub there : (file_after name notes f).is_there ≡ marks.is_there
  pub was : left_there name notes f f.is_there ≡ marks.was_there
  pub within : marks.settled ≤ length notes
  pub octets : left_octets name notes f f.octets ≡ (file_after name (take marks.settled notes) f).octets
  pub loose : (i : ℕ) → (file_after name notes f).is_loose i ≡ touched name (drop marks.settled notes) i
