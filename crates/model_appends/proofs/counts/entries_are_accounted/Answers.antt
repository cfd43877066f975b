use Rattle.model_appends.proofs.counts.entries_are_accounted.Goals as goal
use Rattle.model_appends.proofs.AmountLemmas.{accounted_by_box_entry, accounted_by_map_entry, accounted_counted, held_by_counts, accounted_switched}
use Rattle.model_appends.proofs.DeletedMailboxLemmas.{deletions_are_accounted}

pub returns : goal.returns
returns c = record { box_entry = accounted_by_box_entry; map_entry = accounted_by_map_entry; deleted = deletions_are_accounted; held = held_by_counts; switched = accounted_switched; counted = accounted_counted }
