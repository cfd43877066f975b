use Rattle.task_steps.proofs.ReplyingLemmas.{stage_comes, stage_stays, turn_stays, turn_of_other}
use Rattle.task_steps.proofs.laws.stages_stay.Goals as goal

pub returns-clause-own : goal.returns-clause-own
returns-clause-own c = stage_comes

pub returns-clause-others : goal.returns-clause-others
returns-clause-others c = stage_stays

pub returns-clause-turn : goal.returns-clause-turn
returns-clause-turn c = turn_stays

pub returns-clause-turns : goal.returns-clause-turns
returns-clause-turns c = turn_of_other
