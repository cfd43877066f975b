use Rattle.std.proofs.Common.{◌≡◌, refl, true, false, ◌∙◌, ap}
use Rattle.std.proofs.lemmas.Result.{err_from_is_err_and}
use Rattle.map_index.specs.Value.{MapIndexValue}
use Rattle.disk_model.proofs.IdleLemmas.{idle-begins}
use Rattle.store_checks.proofs.RootLogLemmas.{map_cause, no_number, map_read, empty_map}
use Rattle.store_checks.proofs.TextWalkLemmas.{read_of, text_reading}
use Rattle.store_checks.proofs.map_log.read_map.Goals as goal

pub returns-then-not-is_number-clause-refused : goal.returns-then-not-is_number-clause-refused
returns-then-not-is_number-clause-refused g c = (refl, no_number c.args.id.0 c.args.generation _ (λ n. let e : false ≡ true = c.if-not-is_number.ensures.1 n in cc e))

pub returns-then-not-is_number-clause-idle : goal.returns-then-not-is_number-clause-idle
returns-then-not-is_number-clause-idle g c = idle-begins _

pub returns-in_err-map-clause-idle : goal.returns-in_err-map-clause-idle
returns-in_err-map-clause-idle g c = idle-begins _

pub read_log-requires-clause-replay : goal.read_log-requires-clause-replay
read_log-requires-clause-replay g c = empty_map c.args.id.0 c.in_ok-map.map.meaning (ap (λ (m : MapIndexValue). m.meaning) c.in_ok-map.ensures)

pub returns-in_err-log-clause-refused : goal.returns-in_err-log-clause-refused
returns-in_err-log-clause-refused g c =
    let p = err_from_is_err_and c.from_residual-in_err-log.result c.from_residual-in_err-log.ensures.1 in
    rw (p.1, p.2) (map_cause c.args.id.0 c.args.generation c.read_log.new.replay _ c.in_err-log.field-0.0 (c.if-not-is_number.ensures.0 refl) (c.in_err-log.ensures.store ∙ ap (λ (m : MapIndexValue). m.meaning.store) c.in_ok-map.ensures) c.in_err-log.ensures.refused)

pub returns-clause-read : goal.returns-clause-read
returns-clause-read g c =
    map_read c.args.id.0 c.args.generation c.read_log.new.replay.meaning c.in_ok-log.log c.in_ok-log.field-0-1.octets (read_of c.in_ok-log.field-0-1 c.in_ok-log.ensures.read.texts) _ _ (c.if-not-is_number.ensures.0 refl) (c.in_ok-log.ensures.store ∙ ap (λ (m : MapIndexValue). m.meaning.store) c.in_ok-map.ensures)
    (text_reading c.in_ok-log.field-0-1 _ c.in_ok-log.ensures.read.text_is) c.in_ok-log.ensures.read.head_is c.in_ok-log.ensures.read.replayed c.in_ok-log.ensures.read.told c.in_ok-log.ensures.log c.in_ok-log.ensures.read.stands
