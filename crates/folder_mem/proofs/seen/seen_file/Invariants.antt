use Rattle.std.proofs.Common.{◌≤◌, take}
use Rattle.folder_mem.specs.Notes.{system_after}
use Rattle.folder_mem.specs.Seen.{IsSeenFile}
use Rattle.folder_mem.proofs.seen.seen_file.Given as goal

abbrev pub invariant-loop-change : goal.invariant-loop-change
invariant-loop-change l = (l.seen.count ≤ l.change-index) × IsSeenFile l.fn.number l.seen (system_after (take l.change-index l.changes))
