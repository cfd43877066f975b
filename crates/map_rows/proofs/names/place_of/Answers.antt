use Rattle.map_rows.proofs.Common.{rules, answers_always}
use Rattle.map_rows.proofs.NameLemmas.{gap_behind, searched_names}
use Rattle.map_rows.proofs.names.place_of.Goals as goal

pub returns-in-Some-clause-absent : goal.returns-in-Some-clause-absent
returns-in-Some-clause-absent c = gap_behind c.args.named.now c.in-Some.last.now c.args.number c.requires c.in-Some.ensures.value c.if-last-number.true

pub returns-in_default : goal.returns-in_default
returns-in_default c =
    let by_key = c.binary_search_by_key.ensures.position (λ k. k.number) (answers_always _ _ _ (λ f a r g called. search rules)) in
    let s = searched_names c.args.named.now c.args.number c.requires c.binary_search_by_key.result c.binary_search_by_key.ensures.bound by_key in
    record { found = s.0; absent = s.1 }
