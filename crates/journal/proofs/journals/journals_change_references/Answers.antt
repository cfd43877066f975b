use Rattle.journal.proofs.BrokenLemmas.{journal_refs}
use Rattle.journal.proofs.journals.journals_change_references.Goals as goal

pub returns : goal.returns
returns c = journal_refs
