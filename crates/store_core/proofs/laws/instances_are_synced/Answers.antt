use Rattle.store_core.proofs.InstanceKeepingLemmas.{syncs_idle, syncs_logs, syncs_made, syncs_mail, syncs_placed}
use Rattle.store_core.proofs.laws.instances_are_synced.Goals as goal

pub returns-clause-idle : goal.returns-clause-idle
returns-clause-idle c = syncs_idle

pub returns-clause-mail : goal.returns-clause-mail
returns-clause-mail c = syncs_mail

pub returns-clause-placed : goal.returns-clause-placed
returns-clause-placed c = syncs_placed

pub returns-clause-made : goal.returns-clause-made
returns-clause-made c = syncs_made

pub returns-clause-logs : goal.returns-clause-logs
returns-clause-logs c = syncs_logs
