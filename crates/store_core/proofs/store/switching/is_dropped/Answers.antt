use Rattle.store_core.proofs.Common.{◌<◌, ℕ, ◌∙◌, rules, MapUid}
use Rattle.std.proofs.lemmas.List.Kept.{AllPairs-from_increasing}
use Rattle.std.proofs.lemmas.List.Sorted.{answers_always}
use Rattle.map_index.proofs.SearchLemmas.{any_searched, pairs_unmap}
use Rattle.store_core.proofs.LeaveOutLemmas.{drops_as}
use Rattle.store_core.proofs.store.switching.is_dropped.Goals as goal

pub returns-in-Some : goal.returns-in-Some
returns-in-Some c =
    let by_key = c.binary_search_by_key.ensures.position (λ (u : MapUid). u.0) (answers_always _ _ _ (λ f a r h called. search rules)) in
    let rise = pairs_unmap (λ (a b : ℕ). a < b) (λ (u : MapUid). u.0) c.args.dropped.now (AllPairs-from_increasing _ c.requires.rising) in
    drops_as c.in-Some.row c.args.index.now.meaning.records c.args.place c.args.dropped.now c.is_ok.result c.in-Some.ensures
    (c.is_ok.ensures.value ∙ any_searched (λ (u : MapUid). u.0) c.args.dropped.now c.in-Some.row.uid.0 rise c.binary_search_by_key.result c.binary_search_by_key.ensures.bound by_key)
