use Rattle.std.proofs.Common.{◌≤◌}
use Rattle.log_bench.proofs.append_all.Given as goal

abbrev pub invariant-loop : goal.invariant-loop
invariant-loop l = 45 ≤ l.log.room
