use Rattle.std.proofs.Common.{◌≡◌, ◌≤◌, ◌+◌, ◌-◌, ◌^◌, min, sum_by, drop}
use Rattle.disk_mem.specs.Left.{calls_by}
use Rattle.disk_mem.proofs.image.run_by.Given as goal

-- the sum so far and what is left are the whole, up to the type's end
abbrev pub invariant-loop-note : goal.invariant-loop-note
invariant-loop-note l = record {
  all : min (l.sum + sum_by calls_by (drop l.note-index l.notes)) (2 ^ 64 - 1) ≡ min (l.idle + sum_by calls_by l.notes) (2 ^ 64 - 1);
  fits : l.sum ≤ 2 ^ 64 - 1;
}
