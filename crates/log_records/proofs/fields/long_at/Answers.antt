use Rattle.std.proofs.Common.{arith}
use Rattle.log_records.proofs.NumberTextLemmas.{long_front}
use Rattle.log_records.proofs.fields.long_at.Goals as goal

pub returns : goal.returns
returns c = long_front c.args.text.now c.in_ok-number.number.now c.in_ok-number.rest.now c.from_be_bytes.result (λ i. omega (arith, c.type_inv.text i)) c.in_ok-number.ensures.cases.0 c.in_ok-number.ensures.cases.1 c.in_ok-number.ensures.cases.2 c.from_be_bytes.ensures
