use Rattle.store_core.proofs.InstanceKeepingLemmas.{reads_idle, reads_logs, reads_made, reads_mail, reads_placed}
use Rattle.store_core.proofs.laws.instances_read_as_before.Goals as goal

pub returns-clause-idle : goal.returns-clause-idle
returns-clause-idle c = reads_idle

pub returns-clause-mail : goal.returns-clause-mail
returns-clause-mail c = reads_mail

pub returns-clause-placed : goal.returns-clause-placed
returns-clause-placed c = reads_placed

pub returns-clause-made : goal.returns-clause-made
returns-clause-made c = reads_made

pub returns-clause-logs : goal.returns-clause-logs
returns-clause-logs c = reads_logs
