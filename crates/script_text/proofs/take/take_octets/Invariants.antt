use Rattle.std.proofs.Common.{◌≡◌, ◌+◌, ◌++◌, ℕ, List, length}
use Rattle.mdbox_base.specs.Streams.{Taken}
use Rattle.script_text.proofs.take.take_octets.Given as goal

abbrev pub invariant-loop-room : goal.invariant-loop-room
invariant-loop-room g l = record {
  octets : List ℕ;
  text_is : l.text ≡ l.initial.text ++ octets;
  taken : Taken (g.I.Source.left l.initial.source) octets (g.I.Source.left l.source);
  many : length octets + l.room ≡ l.count;
  long : length l.piece ≡ 65536;
  quiet : g.I.Source.faults l.source ≡ g.I.Source.faults l.initial.source;
}

abbrev pub decreases-loop-room : goal.decreases-loop-room
decreases-loop-room g l = l.room
