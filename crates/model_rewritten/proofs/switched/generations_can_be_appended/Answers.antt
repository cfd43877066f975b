use Rattle.model_rewritten.proofs.switched.generations_can_be_appended.Goals as goal
use Rattle.model_rewritten.proofs.SwitchLemmas.{same_append, switch_append, leaves_switched}

pub returns : goal.returns
returns c = record { same = same_append; append = switch_append; synced = leaves_switched }
