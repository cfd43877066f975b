use Rattle.std.proofs.lemmas.Result.{err_from_is_err_and}
use Rattle.disk_model.proofs.IdleLemmas.{idle-then}
use Rattle.store_checks.proofs.RootLogLemmas.{root_cause, none_last, root_read}
use Rattle.store_checks.proofs.TextWalkLemmas.{read_of, text_reading}
use Rattle.store_checks.proofs.root.read_root.Goals as goal

pub returns-in_err-log-clause-refused : goal.returns-in_err-log-clause-refused
returns-in_err-log-clause-refused g c =
    let p = err_from_is_err_and c.from_residual-in_err-log.result c.from_residual-in_err-log.ensures.1 in
    rw (p.1, p.2) (root_cause c.in_ok-id.id.0 c.read_log.new.replay _ _ c.in_err-log.field-0.0 c.in_ok-id.ensures.idle c.in_ok-id.ensures.found c.in_err-log.ensures.refused)

pub returns-in_err-log-clause-idle : goal.returns-in_err-log-clause-idle
returns-in_err-log-clause-idle g c = idle-then _ _ _ c.in_ok-id.ensures.idle c.read_log.ensures.idle

pub returns-in-Some-clause-read : goal.returns-in-Some-clause-read
returns-in-Some-clause-read g c =
    root_read c.in_ok-id.id.0 c.read_log.new.replay.last c.in-Some.generation c.in_ok-log.log c.in_ok-log.field-0-1.octets (read_of c.in_ok-log.field-0-1 c.in_ok-log.ensures.read.texts) _ _ _ c.in_ok-id.ensures.idle (text_reading c.in_ok-log.field-0-1 _ c.in_ok-log.ensures.read.text_is) c.in_ok-log.ensures.read.head_is c.in_ok-log.ensures.read.replayed c.in-Some.is c.in_ok-log.ensures.read.told c.in_ok-log.ensures.log c.in_ok-log.ensures.read.stands

pub returns-in-Some-clause-idle : goal.returns-in-Some-clause-idle
returns-in-Some-clause-idle g c = idle-then _ _ _ c.in_ok-id.ensures.idle c.in_ok-log.ensures.idle

pub returns-in-None-clause-refused : goal.returns-in-None-clause-refused
returns-in-None-clause-refused g c =
    none_last c.in_ok-id.id.0 c.read_log.new.replay.last c.in_ok-log.field-0-1.octets (read_of c.in_ok-log.field-0-1 c.in_ok-log.ensures.read.texts) _ _ c.in_ok-id.ensures.idle (text_reading c.in_ok-log.field-0-1 _ c.in_ok-log.ensures.read.text_is) c.in_ok-log.ensures.read.head_is c.in_ok-log.ensures.read.replayed c.in-None.is c.in_ok-log.ensures.read.told

pub returns-in-None-clause-idle : goal.returns-in-None-clause-idle
returns-in-None-clause-idle g c = idle-then _ _ _ c.in_ok-id.ensures.idle c.in_ok-log.ensures.idle
