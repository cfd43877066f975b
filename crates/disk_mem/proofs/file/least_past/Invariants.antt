use Rattle.disk_model.specs.Disk.{DiskState}
use Rattle.disk_model.specs.contracts.name.FileNameOrd.TheImpl.{ghosts}
use Rattle.disk_mem.specs.Record.{ReadsAll}
use Rattle.disk_mem.proofs.ReadingLemmas.{IsBest}
use Rattle.disk_mem.proofs.file.least_past.Given as goal

abbrev pub invariant-loop-file : goal.invariant-loop-file
invariant-loop-file l = (disk : DiskState) → ReadsAll l.files disk → IsBest ghosts.cmp disk l.files l.after l.file-index l.best
