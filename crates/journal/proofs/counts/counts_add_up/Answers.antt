use Rattle.journal.proofs.CountLemmas.{raise_balances, lower_balances, addition_balances, removal_balances, deletion_balances, adds_up_still}
use Rattle.journal.proofs.counts.counts_add_up.Goals as goal

pub returns : goal.returns
returns c = record { raise = raise_balances; lower = lower_balances; addition = addition_balances; removal = removal_balances; deletion = deletion_balances; still = adds_up_still }
