use Rattle.lanes.proofs.RoundLemmas.{event_keeps, rounds_keep_world, served_on}
use Rattle.lanes.proofs.laws.worlds_go_on.Goals as goal

pub returns-clause-serves : goal.returns-clause-serves
returns-clause-serves g c = λ lanes old new before after first second goes. served_on lanes old new before after first second goes

pub returns-clause-keeps : goal.returns-clause-keeps
returns-clause-keeps g c = λ lanes old new before after first second goes. rounds_keep_world lanes old new before after first second goes

pub returns-clause-kept : goal.returns-clause-kept
returns-clause-kept g c = λ lane old new before after first second event. event_keeps lane old new before after first second event
