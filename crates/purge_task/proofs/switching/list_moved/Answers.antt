use Rattle.std.proofs.Common.{rules}
use Rattle.std.proofs.lemmas.Fn.{filter_same}
use Rattle.std.proofs.lemmas.List.Sorted.{IsNonDecreasingBy-from_sort_by_key}
use Rattle.purge_task.proofs.Common.{MapPlace, is_wanted_at}
use Rattle.purge_task.proofs.ListingLemmas.{moved_are}
use Rattle.purge_task.proofs.switching.list_moved.Goals as goal

pub returns : goal.returns
returns c =
    moved_are c.args.map.now.meaning c.args.copied.now.items c.retain.new.self.items c.sort_unstable_by_key.new.self.items c.requires.once
    (filter_same _ (λ (p : MapPlace). is_wanted_at c.args.map.now.meaning p.uid.0) _ (λ x b f k. search rules) _ _ c.retain.ensures.filtered)
    c.sort_unstable_by_key.ensures.permutation
    (IsNonDecreasingBy-from_sort_by_key (λ (p : MapPlace). p.uid.0) _ c.sort_unstable_by_key.ensures.sorted (λ a r q k. search rules))
