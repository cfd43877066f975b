use Rattle.std.proofs.Common.{◌≡◌, ◌≤◌, ◌-◌, length, take}
use Rattle.mdbox_base.specs.Streams.{Appended}
use Rattle.mdbox_base.proofs.stream.give_all.Given as goal

abbrev pub invariant-loop-given : goal.invariant-loop-given
invariant-loop-given g l = record {
  within : l.given ≤ length l.text;
  appended : Appended (g.O.Sink.held l.initial.sink) (take l.given l.text) (g.O.Sink.held l.sink);
  quiet : g.O.Sink.faults l.sink ≡ g.O.Sink.faults l.initial.sink;
}

abbrev pub decreases-loop-given : goal.decreases-loop-given
decreases-loop-given g l = length l.text - l.given
