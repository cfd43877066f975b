use Rattle.std.proofs.Common.{◌≡◌, map, take}
use Rattle.store_files.proofs.BarredLemmas.{barred_among}
use Rattle.store_files.proofs.barred.bar_files.Given as goal

-- barred by the records so far
abbrev pub invariant-loop-place : goal.invariant-loop-place
invariant-loop-place l = l.states ≡ map (barred_among l.map.meaning.store (take l.place l.map.meaning.records)) l.initial.states
