use Rattle.purge_task.proofs.Common.{refl}
use Rattle.purge_task.proofs.ListingLemmas.{lists_are}
use Rattle.purge_task.proofs.switching.list_records.Goals as goal

pub returns : goal.returns
returns c = record { same = refl; lists = lists_are c.args.map.now.meaning c.args.source.now.file.0 _ _ _ c.list_moved.ensures c.list_dropped.ensures }
