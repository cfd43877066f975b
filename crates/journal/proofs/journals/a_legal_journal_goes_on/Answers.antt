use Rattle.journal.proofs.ReachedLemmas.{legal_start}
use Rattle.journal.proofs.LegalLemmas.{legal_quiet, legal_step, legal_reply, legal_faults}
use Rattle.journal.proofs.journals.a_legal_journal_goes_on.Goals as goal

pub returns : goal.returns
returns c = record { start = legal_start; quiet = legal_quiet; step = legal_step; reply = legal_reply; faults = legal_faults }
