use Rattle.task_steps.proofs.GoingLemmas.{serves_on}
use Rattle.task_steps.proofs.ReplyingLemmas.{reply_on, serves_start}
use Rattle.task_steps.proofs.FollowingLemmas.{follows_on, told_on}
use Rattle.task_steps.proofs.laws.events_go_on.Goals as goal

pub returns-clause-on : goal.returns-clause-on
returns-clause-on c = serves_on

pub returns-clause-reply : goal.returns-clause-reply
returns-clause-reply c = reply_on

pub returns-clause-start : goal.returns-clause-start
returns-clause-start c = serves_start

pub returns-clause-next : goal.returns-clause-next
returns-clause-next c = follows_on

pub returns-clause-told : goal.returns-clause-told
returns-clause-told c = told_on
