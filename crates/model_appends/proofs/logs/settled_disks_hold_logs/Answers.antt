use Rattle.model_appends.proofs.logs.settled_disks_hold_logs.Goals as goal
use Rattle.model_appends.proofs.HeldLogLemmas.{holds_root, holds_map, holds_box}

pub returns : goal.returns
returns c = record { root = holds_root; map_log = holds_map; box_log = holds_box }
