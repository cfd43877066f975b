use Rattle.std.proofs.Common.{◌≡◌, ◌+◌, ◌<◌, ◌≤◌, ◌^◌, length, take}
use Rattle.disk_model.specs.Disk.{written}
use Rattle.folder_model.specs.System.{with_content}
use Rattle.folder_model.specs.Calls.{AreSince, done_by}
use Rattle.folder_calls.specs.Writing.{IsOnItsWay}
use Rattle.folder_calls.proofs.write.write_all.Given as goal

abbrev pub invariant-loop : goal.invariant-loop
invariant-loop g l = (l.done ≤ length l.from) × (l.offset + length l.from < 2 ^ 64)
    × (g.F.Folder.modelled l.folder ≡ done_by (with_content (g.F.Folder.number l.file) (written l.offset (take l.done l.from))) (g.F.Folder.modelled l.fn.folder))
    × AreSince (IsOnItsWay (g.F.Folder.number l.file) l.offset l.from (g.F.Folder.modelled l.fn.folder)) (g.F.Folder.past l.fn.folder) (g.F.Folder.past l.folder)
