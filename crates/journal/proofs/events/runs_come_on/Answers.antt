use Rattle.journal.proofs.RunLemmas.{comes_first, comes_on, comes_on_with}
use Rattle.journal.proofs.events.runs_come_on.Goals as goal

pub returns : goal.returns
returns c = record { start = comes_first; nothing = comes_on; entry = comes_on_with }
