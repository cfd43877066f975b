use Rattle.std.proofs.Common.{◌≡◌, ◌≢◌, ◌<◌, ℕ, Some, None, slice_get}
use Rattle.disk_mem.specs.declared.file.File.{File}
use Rattle.disk_mem.specs.Record.{found}
use Rattle.disk_mem.specs.Left.{AreLeft}
use Rattle.disk_mem.proofs.image.left_base.Given as goal

abbrev pub invariant-loop-file : goal.invariant-loop-file
invariant-loop-file l = AreLeft l.choice l.base l.notes l.made.items
    × ((k : ℕ) (file : File) → k < l.file-index → slice_get l.base k ≡ Some file → found l.made.items file.name ≢ None)
