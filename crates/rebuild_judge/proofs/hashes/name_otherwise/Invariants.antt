use Rattle.std.proofs.Common.{◌≡◌, List, length}
use Rattle.mdbox_base.specs.declared.entries.InstRow.{InstRow}
use Rattle.model_taken.specs.NamedInstances.{names_otherwise}
use Rattle.rebuild_judge.specs.Kept.{AreHashesOf}
use Rattle.rebuild_judge.proofs.hashes.name_otherwise.Given as goal

-- the references before name no other
abbrev pub invariant-loop-first : goal.invariant-loop-first
invariant-loop-first l = (named : List InstRow) → AreHashesOf l.hashes named → names_otherwise named l.refs ≡ names_otherwise named l.rest

abbrev pub decreases-loop-first : goal.decreases-loop-first
decreases-loop-first l = length l.rest
