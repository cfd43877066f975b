use Rattle.std.proofs.Common.{◌≡◌, ◌+◌, drop}
use Rattle.disk_mem.specs.Left.{noted}
use Rattle.disk_mem.proofs.image.noted_by.Given as goal

abbrev pub invariant-loop-i : goal.invariant-loop-i
invariant-loop-i l = noted l.calls l.notes ≡ l.i + noted l.left (drop l.i l.notes)
