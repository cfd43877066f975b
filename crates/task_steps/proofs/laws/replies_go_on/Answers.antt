use Rattle.task_steps.proofs.FollowingLemmas.{replies_on, replies_stay}
use Rattle.task_steps.proofs.laws.replies_go_on.Goals as goal

pub returns-clause-ended : goal.returns-clause-ended
returns-clause-ended c = replies_on

pub returns-clause-more : goal.returns-clause-more
returns-clause-more c = replies_stay
