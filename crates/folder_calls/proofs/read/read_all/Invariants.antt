use Rattle.std.proofs.Common.{◌≡◌, ◌+◌, ◌<◌, ◌≤◌, ◌^◌, length, take, drop}
use Rattle.folder_model.specs.Calls.{IfSound}
use Rattle.folder_calls.proofs.read.read_all.Given as goal

abbrev pub invariant-loop : goal.invariant-loop
invariant-loop g l = (l.done ≤ length l.into) × (l.offset + length l.into < 2 ^ 64)
    × (g.F.Folder.modelled l.folder ≡ g.F.Folder.modelled l.fn.folder)
    × (g.F.Folder.past l.folder ≡ g.F.Folder.past l.fn.folder)
    × IfSound (g.F.Folder.modelled l.fn.folder) (λ s. take l.done l.into ≡ take l.done (drop l.offset (s.content (g.F.Folder.number l.file)).octets))
