use Rattle.journal.proofs.JournalLemmas.{one_journal}
use Rattle.journal.proofs.journals.a_journal_is_one.Goals as goal

pub returns : goal.returns
returns c = one_journal
