use Rattle.script_run.proofs.AloneLemmas.{answered_first, refused_idle, unread}
use Rattle.script_run.proofs.ReachedLemmas.{reached_once}
use Rattle.script_run.proofs.laws.requests_of_one_event.Goals as goal

pub returns-clause-answered : goal.returns-clause-answered
returns-clause-answered c = answered_first

pub returns-clause-unread : goal.returns-clause-unread
returns-clause-unread c = unread

pub returns-clause-reached : goal.returns-clause-reached
returns-clause-reached c = reached_once

pub returns-clause-refused : goal.returns-clause-refused
returns-clause-refused c = refused_idle
