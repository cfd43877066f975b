use Rattle.std.proofs.Common.{◌≡◌, take, None}
use Rattle.disk_mem.specs.Record.{found}
use Rattle.disk_mem.proofs.file.place_of.Given as goal

abbrev pub invariant-loop-i : goal.invariant-loop-i
invariant-loop-i l = found (take l.i l.files) l.name ≡ None
