use Rattle.std.proofs.Common.{◌≡◌, ◌≤◌, ◌-◌, ◌+◌, length}
use Rattle.mdbox_base.specs.Streams.{Taken}
use Rattle.mdbox_base.proofs.stream.read_all.Given as goal

abbrev pub invariant-loop-count : goal.invariant-loop-count
invariant-loop-count g l = record {
  short : length l.text ≤ l.limit;
  taken : Taken (g.I.Source.left l.initial.source) l.text (g.I.Source.left l.source);
  quiet : g.I.Source.faults l.source ≡ g.I.Source.faults l.initial.source;
}

abbrev pub decreases-loop-count : goal.decreases-loop-count
decreases-loop-count g l = l.limit + 1 - length l.text
