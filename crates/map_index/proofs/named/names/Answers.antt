use Rattle.map_index.proofs.Common.{◌<◌, ℕ, ◌∙◌, rules, AllPairs-from_increasing, answers_always}
use Rattle.map_index.proofs.SearchLemmas.{any_searched, pairs_unmap}
use Rattle.map_index.proofs.named.names.Goals as goal

pub returns : goal.returns
returns g c =
    let by_key = c.binary_search_by_key.ensures.position g.T.NamesRecord.uid_of (answers_always _ _ _ (λ f a r h called. search rules)) in
    let rise = pairs_unmap (λ (a b : ℕ). a < b) g.T.NamesRecord.uid_of c.args.items.now (AllPairs-from_increasing _ c.requires) in
    c.is_ok.ensures.value ∙ any_searched g.T.NamesRecord.uid_of c.args.items.now c.args.uid.0 rise c.binary_search_by_key.result c.binary_search_by_key.ensures.bound by_key
