use Rattle.model_appends.proofs.opened.appends_keep_logs_good.Goals as goal
use Rattle.model_appends.proofs.AppendOpenLemmas.{good_by_box_entry, meanings_more}
use Rattle.model_appends.proofs.AppendMapOpenLemmas.{good_by_map_entry}
use Rattle.model_appends.proofs.ChangedLogsLemmas.{good_by_change}

pub returns : goal.returns
returns c = record { box_entry = good_by_box_entry; map_entry = good_by_map_entry; changed = good_by_change; means = meanings_more }
