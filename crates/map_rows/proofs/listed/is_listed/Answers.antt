use Rattle.map_rows.proofs.Common.{◌<◌, ℕ, ◌∙◌, rules, AllPairs-from_increasing, answers_always, MapUid}
use Rattle.map_rows.proofs.SearchLemmas.{any_searched, pairs_unmap}
use Rattle.map_rows.proofs.listed.is_listed.Goals as goal

pub returns : goal.returns
returns c =
    let by_key = c.binary_search_by_key.ensures.position (λ u. u.0) (answers_always _ _ _ (λ f a r h called. search rules)) in
    let rise = pairs_unmap (λ (a b : ℕ). a < b) (λ (u : MapUid). u.0) c.args.uids.now (AllPairs-from_increasing _ c.requires) in
    c.is_ok.ensures.value ∙ any_searched (λ (u : MapUid). u.0) c.args.uids.now c.args.uid.0 rise c.binary_search_by_key.result c.binary_search_by_key.ensures.bound by_key
