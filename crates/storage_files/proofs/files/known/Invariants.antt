use Rattle.std.proofs.Common.{◌≡◌, take, map}
use Rattle.storage_files.specs.Files.{file_found}
use Rattle.storage_files.proofs.files.known.Given as goal

-- the files so far
abbrev pub invariant-loop-f : goal.invariant-loop-f
invariant-loop-f l = l.made.items ≡ map file_found (take l.f-index l.files)
