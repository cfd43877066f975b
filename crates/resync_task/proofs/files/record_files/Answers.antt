use Rattle.std.proofs.lemmas.List.Filters.{dedup_is}
use Rattle.resync_task.proofs.FileLemmas.{are_record_files}
use Rattle.resync_task.proofs.files.record_files.Goals as goal

pub returns : goal.returns
returns c = are_record_files c.args.index.now.meaning c.in_ok-numbers.numbers.items c.sort_unstable.new.self.items c.dedup.new.self.items c.in_ok-numbers.ensures c.sort_unstable.ensures.permutation c.sort_unstable.ensures.sorted (dedup_is _ _ _ c.dedup.ensures.filtered)
