use Rattle.std.proofs.Common.{◌≡◌, ◌≤◌, ◌*◌, ℕ, List, Option, length}
use Rattle.mdbox_base.specs.declared.requests.Request.{Request}
use Rattle.lanes.specs.Asked.{asked_in}
use Rattle.script_text.specs.Script.{script_text}
use Rattle.script_text.specs.Taking.{extent}
use Rattle.session.specs.Rounds.{HasServed}
use Rattle.session.proofs.serve.serve_all.Given as goal

-- so many requests were served
abbrev pub invariant-loop-done : goal.invariant-loop-done
invariant-loop-done g l = record {
  moves : List (ℕ × Option Request);
  served : HasServed g.D.Disk.history g.D.Disk.faults moves l.initial.world l.world (g.I.Source.left l.initial.input) (g.I.Source.left l.input) (g.O.Sink.held l.initial.output) (g.O.Sink.held l.output);
  many : length (asked_in moves) ≡ l.done;
  at_is : l.at ≡ extent (script_text (asked_in moves));
  near : (l.at.octets ≤ l.done * 67110000) × (l.at.lines ≤ l.done * 67110000);
  calm : (g.I.Source.faults l.input ≡ g.I.Source.faults l.initial.input) × (g.O.Sink.faults l.output ≡ g.O.Sink.faults l.initial.output);
}
