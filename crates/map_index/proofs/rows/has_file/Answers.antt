use Rattle.map_index.proofs.Common.{◌∙◌, rules, answers_always, FileNo}
use Rattle.map_index.proofs.SearchLemmas.{any_searched}
use Rattle.map_index.proofs.rows.has_file.Goals as goal

pub returns : goal.returns
returns c =
    let by_key = c.binary_search_by_key.ensures.position (λ f. f.0) (answers_always _ _ _ (λ f a r g called. search rules)) in
    c.is_ok.ensures.value ∙ any_searched (λ (f : FileNo). f.0) c.args.files.now c.args.file.0 c.requires c.binary_search_by_key.result c.binary_search_by_key.ensures.bound by_key
