use Rattle.std.proofs.Common.{All, [], refl, ap, subst}
use Rattle.std.proofs.lemmas.Result.{err_from_is_err_and}
use Rattle.box_index.specs.State.{BoxState}
use Rattle.model_meaning.specs.BoxMeaning.{BoxMeaning}
use Rattle.model_store.specs.Opening.{HasItsRecord}
use Rattle.disk_model.proofs.IdleLemmas.{idle-begins}
use Rattle.store_checks.specs.Boxes.{box_file, box_head}
use Rattle.store_checks.proofs.ReplayLemmas.{some_text, none_text}
use Rattle.store_checks.proofs.LogReadLemmas.{has_log, found_as, box_cause, lacks_record}
use Rattle.store_checks.proofs.TextWalkLemmas.{read_of, text_reading}
use Rattle.store_checks.proofs.mailbox.read_box.Goals as goal

pub returns-in_err-index-clause-idle : goal.returns-in_err-index-clause-idle
returns-in_err-index-clause-idle g c = idle-begins _

pub read_log-requires-clause-replay : goal.read_log-requires-clause-replay
read_log-requires-clause-replay g c = record { entries = []; texts_are = refl; good = (tt, tt); meaning = ap (λ (index : BoxState). index.meaning) c.in_ok-index.ensures }

pub returns-in_err-log-clause-refused : goal.returns-in_err-log-clause-refused
returns-in_err-log-clause-refused g c =
    let p = err_from_is_err_and c.from_residual-in_err-log.result c.from_residual-in_err-log.ensures.1 in
    rw (p.1, p.2) (box_cause c.args.map.now.meaning c.args.id.0 c.args.at c.read_log.new.replay _ c.in_err-log.field-0.0 c.requires c.in_err-log.ensures.refused)

pub returns-in-Some-clause-refused : goal.returns-in-Some-clause-refused
returns-in-Some-clause-refused g c = (
  refl,
  lacks_record c.args.map.now.meaning c.args.id.0 c.args.at c.read_log.new.replay.meaning c.in_ok-log.ensures.read.texts c.in-Some.place _ c.requires c.in_ok-log.ensures.read.replayed (some_text _ _ _ _ c.in-Some.is c.in_ok-place.ensures c.in_ok-log.ensures.read.texts c.in_ok-log.ensures.read.text_is)
      (has_log (box_file c.args.at) (box_head c.args.id.0 c.args.at) c.in_ok-log.text.octets (read_of c.in_ok-log.text c.in_ok-log.ensures.read.texts) c.in_ok-log.ensures.read.texts _ (text_reading c.in_ok-log.text _ c.in_ok-log.ensures.read.text_is) c.in_ok-log.ensures.read.head_is refl c.in_ok-log.ensures.read.told),
)

pub returns-clause-read : goal.returns-clause-read
returns-clause-read g c =
    let f = c.in_ok-log.ensures.read.replayed in (
      f.entries,
      record {
        good = f.good;
        meaning = f.meaning;
        records = subst (λ (b : BoxMeaning). All (HasItsRecord c.args.map.now.meaning) b.rows) f.meaning (none_text _ _ _ c.in_default.is c.in_ok-place.ensures);
        log = has_log (box_file c.args.at) (box_head c.args.id.0 c.args.at) c.in_ok-log.text.octets (read_of c.in_ok-log.text c.in_ok-log.ensures.read.texts) _ _ (text_reading c.in_ok-log.text _ c.in_ok-log.ensures.read.text_is) c.in_ok-log.ensures.read.head_is f.texts_are c.in_ok-log.ensures.read.told;
        found = found_as c.in_ok-log.log (box_file c.args.at) (box_head c.args.id.0 c.args.at) c.in_ok-log.ensures.read.texts _ _ c.in_ok-log.ensures.log f.texts_are c.in_ok-log.ensures.read.stands;
      },
    )
