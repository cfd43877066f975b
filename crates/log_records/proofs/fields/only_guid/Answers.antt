use Rattle.std.proofs.Common.{sym}
use Rattle.std.proofs.lemmas.Bool.{eqb-true}
use Rattle.log_records.proofs.NumberTextLemmas.{whole}
use Rattle.log_records.proofs.fields.only_guid.Goals as goal

pub returns-then-is_empty : goal.returns-then-is_empty
returns-then-is_empty c =
    whole 16 c.args.text.now c.in_ok-guid.guid.now c.in_ok-guid.rest.now c.in_ok-guid.ensures.cases.0 c.in_ok-guid.ensures.cases.1 c.in_ok-guid.ensures.cases.2 (eqb-true _ _ (sym c.if-is_empty.ensures))
