use Rattle.resync_task.proofs.ResyncEventLemmas.{resyncs_are_kept}
use Rattle.resync_task.proofs.laws.resync_stages_are_kept.Goals as goal

pub returns : goal.returns
returns c = resyncs_are_kept
