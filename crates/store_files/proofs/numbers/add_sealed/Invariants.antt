use Rattle.std.proofs.Common.{◌≡◌, ◌++◌, take}
use Rattle.store_files.proofs.numbers.add_sealed.Given as goal

abbrev pub invariant-loop-place : goal.invariant-loop-place
invariant-loop-place l = l.numbers.items ≡ l.initial.numbers.items ++ take l.place l.map.meaning.sealed
