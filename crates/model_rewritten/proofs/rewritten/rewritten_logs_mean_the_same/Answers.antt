use Rattle.model_rewritten.proofs.rewritten.rewritten_logs_mean_the_same.Goals as goal
use Rattle.model_rewritten.proofs.SnapshotBoxLemmas.{box_rewritten}
use Rattle.model_rewritten.proofs.SnapshotMapLemmas.{map_rewritten}

pub returns : goal.returns
returns c = record { mailbox = box_rewritten; map = map_rewritten }
