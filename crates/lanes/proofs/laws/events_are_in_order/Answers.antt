use Rattle.lanes.proofs.RoundLemmas.{in_order_keeps, in_order_serves}
use Rattle.lanes.proofs.TurnedLemmas.{world_untraced}
use Rattle.lanes.proofs.laws.events_are_in_order.Goals as goal

pub returns-clause-serves : goal.returns-clause-serves
returns-clause-serves g c = λ lanes old new before after first second goes. in_order_serves lanes old new before after first second goes

pub returns-clause-keeps : goal.returns-clause-keeps
returns-clause-keeps g c = λ lanes old new before after first second goes. in_order_keeps lanes old new before after first second goes

pub returns-clause-untraced : goal.returns-clause-untraced
returns-clause-untraced g c = λ start script run steps failed began history faults world is. world_untraced start script run steps failed began history faults world is
