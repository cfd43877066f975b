use Rattle.gate_log.proofs.DraftLemmas.{held_draft}
use Rattle.gate_log.proofs.log.held_logs_are_drafts.Goals as goal

pub returns : goal.returns
returns c = held_draft
