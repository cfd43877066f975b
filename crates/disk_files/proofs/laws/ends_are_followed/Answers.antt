use Rattle.std.proofs.Common.{true, false}
use Rattle.disk_files.proofs.StepLemmas.{flags_follow}
use Rattle.disk_files.proofs.laws.ends_are_followed.Goals as goal

pub returns-clause-lock : goal.returns-clause-lock
returns-clause-lock c = λ disk s follows. flags_follow s.is_sound true disk s follows

pub returns-clause-failed : goal.returns-clause-failed
returns-clause-failed c = λ disk s follows. flags_follow false s.is_locked disk s follows

pub returns-clause-end : goal.returns-clause-end
returns-clause-end c = λ disk s follows. flags_follow s.is_sound false disk s follows
