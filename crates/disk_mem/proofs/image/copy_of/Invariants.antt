use Rattle.std.proofs.Common.{take}
use Rattle.disk_model.specs.declared.name.FileName.{FileName}
use Rattle.disk_mem.specs.Record.{found}
use Rattle.disk_mem.proofs.CopyLemmas.{IsCopies}
use Rattle.disk_mem.proofs.image.copy_of.Given as goal

abbrev pub invariant-loop-file : goal.invariant-loop-file
invariant-loop-file l = (name : FileName) → IsCopies (found (take l.file-index l.files) name) (found l.copies.items name)
