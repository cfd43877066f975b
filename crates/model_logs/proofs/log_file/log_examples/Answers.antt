use Rattle.std.specs.Prelude.{refl}
use Rattle.model_logs.proofs.log_file.log_examples.Goals as goal
use Rattle.model_logs.specs.LogExamples.{root_is_log, box_is_log, old_is_log, map_is_log}

pub returns : goal.returns
returns c = record { root = root_is_log; root_places = (refl, refl, refl); mailbox = box_is_log; mailbox_places = (refl, refl); old_mailbox = old_is_log; old_mailbox_places = (refl, refl); map = map_is_log; map_places = (refl, refl) }
