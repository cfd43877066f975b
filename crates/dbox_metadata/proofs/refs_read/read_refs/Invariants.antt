use Rattle.std.proofs.Common.{◌≡◌, ◌++◌, length}
use Rattle.std.specs.List.{AllByRecursion}
use Rattle.model_storage.specs.References.{ReferenceFits}
use Rattle.dbox_metadata.proofs.RefLemmas.{spaced}
use Rattle.dbox_metadata.proofs.refs_read.read_refs.Given as goal

abbrev pub invariant-loop-reference : goal.invariant-loop-reference
invariant-loop-reference l = record {
  fit : AllByRecursion ReferenceFits l.refs;
  spelled : l.value ≡ spaced l.refs ++ l.rest;
}

abbrev pub decreases-loop-reference : goal.decreases-loop-reference
decreases-loop-reference l = length l.rest
