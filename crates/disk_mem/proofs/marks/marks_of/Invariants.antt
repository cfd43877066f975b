use Rattle.std.proofs.Common.{◌≡◌, ◌≤◌, ℕ, false, take}
use Rattle.disk_model.specs.Disk.{FileState}
use Rattle.disk_mem.specs.Marking.{AreMarks}
use Rattle.disk_mem.proofs.marks.marks_of.Given as goal

abbrev pub invariant-loop-i : goal.invariant-loop-i
invariant-loop-i l = (l.marks.settled ≤ l.i)
    × ((f : FileState) → f.is_there ≡ l.fn.is_there → ((i : ℕ) → f.is_loose i ≡ false) → AreMarks l.name (take l.i l.notes) f l.marks)
