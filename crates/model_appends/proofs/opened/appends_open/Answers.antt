use Rattle.model_appends.proofs.opened.appends_open.Goals as goal
use Rattle.model_appends.proofs.AppendOpenLemmas.{opens_by_box_entry}
use Rattle.model_appends.proofs.AppendMapOpenLemmas.{opens_by_map_entry}
use Rattle.model_appends.proofs.ChangedLogsLemmas.{opens_by_change}

pub returns : goal.returns
returns c = record { box_entry = opens_by_box_entry; map_entry = opens_by_map_entry; changed = opens_by_change }
