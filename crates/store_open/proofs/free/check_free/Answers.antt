use Rattle.disk_model.proofs.IdleLemmas.{idle-then}
use Rattle.store_open.proofs.free.check_free.Goals as goal

pub returns-in_err-has_mail_file-clause-idle : goal.returns-in_err-has_mail_file-clause-idle
returns-in_err-has_mail_file-clause-idle g c = idle-then _ _ _ c.in_ok-lacks_entry.ensures.idle c.in_err-has_mail_file.ensures.idle

pub returns-then-branch-clause-idle : goal.returns-then-branch-clause-idle
returns-then-branch-clause-idle g c = idle-then _ _ _ c.in_ok-lacks_entry.ensures.idle c.in_ok-has_mail_file.ensures.idle

pub returns-clause-idle : goal.returns-clause-idle
returns-clause-idle g c = idle-then _ _ _ c.in_ok-lacks_entry.ensures.idle c.in_ok-has_mail_file.ensures.idle
