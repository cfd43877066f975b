use Rattle.sis_store.proofs.CandidateLemmas.{next_known, unheld_known}
use Rattle.sis_store.proofs.laws.next_ones_are_known.Goals as goal

pub returns : goal.returns
returns c = record { next = λ after id known rise is. next_known after id known rise is; unheld = λ after id known rise is. unheld_known after id known rise is }
