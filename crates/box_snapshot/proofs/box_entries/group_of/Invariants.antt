use Rattle.std.proofs.Common.{◌≡◌, drop, take}
use Rattle.model_rewritten.specs.Rewriting.{box_snapshot}
use Rattle.box_snapshot.proofs.box_entries.group_of.Given as goal

-- the entries so far
abbrev pub invariant-loop-taken : goal.invariant-loop-taken
invariant-loop-taken l = l.group.items ≡ take l.taken (drop l.from (box_snapshot l.index.meaning))
