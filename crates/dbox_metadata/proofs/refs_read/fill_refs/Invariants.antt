use Rattle.std.proofs.Common.{◌≡◌, ◌≤◌, ◌++◌, length, vec_capacity}
use Rattle.std.specs.List.{AllByRecursion}
use Rattle.model_storage.specs.References.{ReferenceFits}
use Rattle.dbox_metadata.proofs.RefLemmas.{spaced}
use Rattle.dbox_metadata.proofs.refs_read.fill_refs.Given as goal

abbrev pub invariant-loop-reference : goal.invariant-loop-reference
invariant-loop-reference l = record {
  fit : AllByRecursion ReferenceFits l.refs.items;
  spelled : l.value ≡ spaced l.refs.items ++ l.rest;
  kept : l.room ≤ vec_capacity l.refs;
}

abbrev pub decreases-loop-reference : goal.decreases-loop-reference
decreases-loop-reference l = length l.rest
