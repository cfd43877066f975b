use Rattle.std.proofs.Common.{◌≡◌, take}
use Rattle.disk_mem.specs.Record.{HoldsAs, found, at_rest, file_after}
use Rattle.disk_mem.proofs.image.replayed.Given as goal

abbrev pub invariant-loop-note : goal.invariant-loop-note
invariant-loop-note l = (l.file.name ≡ l.fn.name) × HoldsAs l.file (file_after l.fn.name (take l.note-index l.notes) (at_rest (found l.base l.fn.name)))
