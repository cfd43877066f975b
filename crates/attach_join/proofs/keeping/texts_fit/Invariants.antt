use Rattle.std.proofs.Common.{length}
use Rattle.attach_join.specs.Kept.{TextsFit}
use Rattle.attach_join.proofs.KeptLemmas.{AreForms}
use Rattle.attach_join.proofs.keeping.texts_fit.Given as goal

abbrev pub invariant-loop-reference : goal.invariant-loop-reference
invariant-loop-reference l = record {
  back : TextsFit l.refs l.rows → TextsFit l.fn.refs l.fn.rows;
  on : TextsFit l.fn.refs l.fn.rows → TextsFit l.refs l.rows;
  forms : AreForms l.refs;
}

abbrev pub decreases-loop-reference : goal.decreases-loop-reference
decreases-loop-reference l = length l.refs
