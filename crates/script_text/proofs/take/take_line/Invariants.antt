use Rattle.std.proofs.Common.{◌≡◌, ◌≤◌, ◌-◌, length}
use Rattle.mdbox_base.specs.Streams.{Taken}
use Rattle.script_text.specs.Taking.{HasNoLf}
use Rattle.script_text.proofs.take.take_line.Given as goal

abbrev pub invariant-loop-octet : goal.invariant-loop-octet
invariant-loop-octet g l = record {
  taken : Taken (g.I.Source.left l.initial.source) l.text (g.I.Source.left l.source);
  clear : HasNoLf l.text;
  short : length l.text ≤ 4097;
  one : length l.octet ≡ 1;
  quiet : g.I.Source.faults l.source ≡ g.I.Source.faults l.initial.source;
}

abbrev pub decreases-loop-octet : goal.decreases-loop-octet
decreases-loop-octet g l = 4097 - length l.text
