use Rattle.std.proofs.Common.{rules, Ok, Err}
use Rattle.std.proofs.lemmas.List.Sorted.{answers_always}
use Rattle.sis_store.proofs.IdLemmas.{searched_ids, found_id, sought_id}
use Rattle.sis_store.specs.declared.instance.KnownInstance.{KnownInstance}
use Rattle.sis_store.proofs.known.place_of.Goals as goal

pub returns-in-Ok-clause-some : goal.returns-in-Ok-clause-some
returns-in-Ok-clause-some c =
    let by_key = c.in-Ok.ensures.position (λ (k : KnownInstance). k.row.id) (answers_always _ _ _ (λ f a r g called. search rules)) in
    let s = searched_ids c.args.known.now c.args.id c.requires (Ok c.in-Ok.at) c.in-Ok.ensures.bound by_key in
    found_id c.args.known.now c.args.id c.in-Ok.at s.found

pub returns-in-Err-clause-none : goal.returns-in-Err-clause-none
returns-in-Err-clause-none c = λ n.
    let by_key = c.in-Err.ensures.position (λ (k : KnownInstance). k.row.id) (answers_always _ _ _ (λ f a r g called. search rules)) in
    let s = searched_ids c.args.known.now c.args.id c.requires (Err c.in-Err.field-0) c.in-Err.ensures.bound by_key in
    sought_id c.args.known.now c.args.id c.in-Err.field-0 s.absent
