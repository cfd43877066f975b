use Rattle.script_run.proofs.LeftLemmas.{settles_one, told_left}
use Rattle.script_run.proofs.ToldLemmas.{few_steps, serves_one}
use Rattle.script_run.proofs.laws.one_request.Goals as goal

pub returns-clause-serves : goal.returns-clause-serves
returns-clause-serves c = serves_one

pub returns-clause-few : goal.returns-clause-few
returns-clause-few c = few_steps

pub returns-clause-left : goal.returns-clause-left
returns-clause-left c = told_left

pub returns-clause-settled : goal.returns-clause-settled
returns-clause-settled c = settles_one
