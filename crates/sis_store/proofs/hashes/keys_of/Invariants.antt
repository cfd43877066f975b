use Rattle.std.proofs.Common.{◌≡◌, map, take}
use Rattle.sis_store.specs.Hashes.{hash_key}
use Rattle.sis_store.proofs.hashes.keys_of.Given as goal

-- the keys so far
abbrev pub invariant-loop-row : goal.invariant-loop-row
invariant-loop-row l = l.keys.items ≡ map hash_key (take l.row-index l.rows)
