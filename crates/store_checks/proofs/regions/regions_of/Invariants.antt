use Rattle.std.proofs.Common.{◌≡◌, map, take}
use Rattle.store_checks.specs.Lengths.{region_of}
use Rattle.store_checks.proofs.regions.regions_of.Given as goal

abbrev pub invariant-loop-place : goal.invariant-loop-place
invariant-loop-place l = l.regions.items ≡ map region_of (take l.place l.map.meaning.records)
