use Rattle.std.proofs.Common.{◌≡◌, ◌≢◌, ◌<◌, ℕ, Some, None, slice_get}
use Rattle.disk_mem.specs.declared.file.File.{File}
use Rattle.disk_mem.specs.declared.note.Note.{Note}
use Rattle.disk_mem.specs.Record.{found}
use Rattle.disk_mem.specs.Left.{AreLeft}
use Rattle.disk_mem.proofs.image.left_files.Given as goal

abbrev pub invariant-loop-note : goal.invariant-loop-note
invariant-loop-note l = AreLeft l.choice l.base l.notes l.made.items
    × ((k : ℕ) (file : File) → slice_get l.base k ≡ Some file → found l.made.items file.name ≢ None)
    × ((k : ℕ) (note : Note) → k < l.note-index → slice_get l.notes k ≡ Some note → found l.made.items note.name ≢ None)
