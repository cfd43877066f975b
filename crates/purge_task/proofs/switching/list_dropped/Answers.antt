use Rattle.std.proofs.Common.{rules}
use Rattle.std.proofs.lemmas.List.Sorted.{IsNonDecreasingBy-from_sort_by_key}
use Rattle.purge_task.proofs.Common.{MapUid}
use Rattle.purge_task.proofs.ListingLemmas.{dropped_are}
use Rattle.purge_task.proofs.switching.list_dropped.Goals as goal

pub returns : goal.returns
returns c =
    dropped_are c.args.map.now.meaning c.args.file.0 c.find_unwanted.new.dropped.items c.sort_unstable_by_key.new.self.items c.find_unwanted.ensures c.sort_unstable_by_key.ensures.permutation
    (IsNonDecreasingBy-from_sort_by_key (λ (u : MapUid). u.0) _ c.sort_unstable_by_key.ensures.sorted (λ a r q k. search rules))
