use Rattle.std.proofs.Common.{◌≡◌, map, take}
use Rattle.store_files.proofs.NumberListLemmas.{file_of_row}
use Rattle.store_files.proofs.numbers.region_files.Given as goal

abbrev pub invariant-loop-place : goal.invariant-loop-place
invariant-loop-place l = l.numbers.items ≡ map file_of_row (take l.place l.map.meaning.records)
