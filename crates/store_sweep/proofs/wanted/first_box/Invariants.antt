use Rattle.std.proofs.Common.{◌≤◌, ◌-◌, length}
use Rattle.store_sweep.proofs.BoxSearchLemmas.{AreBelow, AreFrom}
use Rattle.store_sweep.proofs.wanted.first_box.Given as goal

abbrev pub invariant-loop-low : goal.invariant-loop-low
invariant-loop-low l = record {
  order : l.low ≤ l.high;
  within : l.high ≤ length l.map.meaning.boxes;
  below : AreBelow l.number l.map.meaning.boxes l.low;
  from : AreFrom l.number l.map.meaning.boxes l.high;
}

abbrev pub decreases-loop-low : goal.decreases-loop-low
decreases-loop-low l = l.high - l.low
