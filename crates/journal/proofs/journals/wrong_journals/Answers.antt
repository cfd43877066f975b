use Rattle.journal.proofs.AloneLemmas.{no_expunge_first, no_dropped_step, no_other_uid, no_other_answer}
use Rattle.journal.proofs.journals.wrong_journals.Goals as goal

pub returns : goal.returns
returns c = record { early = no_expunge_first; dropped = no_dropped_step; other = no_other_uid; second = no_other_answer }
