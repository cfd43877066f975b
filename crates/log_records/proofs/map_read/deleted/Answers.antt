use Rattle.std.proofs.Common.{◌<◌, ◌^◌, sym, ◌∙◌, rules}
use Rattle.model_octets.proofs.NumberLemmas.{next_four}
use Rattle.log_records.proofs.ListItemLemmas.{none_of}
use Rattle.log_records.proofs.map_read.deleted.Goals as goal

pub returns-in_default-2 : goal.returns-in_default-2
returns-in_default-2 c = λ mailbox amounts lm la all is.
    let f : c.in-Some.mailbox < 2 ^ 32 = search rules in
    let n = next_four c.in-Some.mailbox mailbox c.in-Some.rest.now _ f lm (sym c.in-Some.ensures.0 ∙ is) in
    none_of _ _ _ c.in_default-2.is c.in_ok-amounts.ensures amounts la all n.1
