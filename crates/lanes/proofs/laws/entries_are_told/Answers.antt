use Rattle.lanes.proofs.EntryLemmas.{entries_told}
use Rattle.lanes.proofs.laws.entries_are_told.Goals as goal

pub returns : goal.returns
returns c = entries_told
