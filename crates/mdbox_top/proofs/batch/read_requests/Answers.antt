use Rattle.mdbox_top.proofs.BatchLemmas.{unscripted}
use Rattle.mdbox_top.proofs.batch.read_requests.Goals as goal

pub returns-in-Err-clause-none : goal.returns-in-Err-clause-none
returns-in-Err-clause-none g c = rw c.unread.ensures (unscripted c.args.lanes _ _ _ _ c.in-Err.error c.in-Err.ensures.refused)
