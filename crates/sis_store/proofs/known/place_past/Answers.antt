use Rattle.std.proofs.Common.{rules, Ok, Err}
use Rattle.std.proofs.lemmas.List.Sorted.{answers_always}
use Rattle.sis_store.specs.declared.instance.KnownInstance.{KnownInstance}
use Rattle.sis_store.proofs.IdLemmas.{searched_ids, past-found_before, past-found_behind, past-sought_before, past-sought_behind}
use Rattle.sis_store.proofs.known.place_past.Goals as goal

pub returns-in-Ok-clause-before : goal.returns-in-Ok-clause-before
returns-in-Ok-clause-before c =
    let by_key = c.in-Ok.ensures.position (λ (k : KnownInstance). k.row.id) (answers_always _ _ _ (λ f a r g called. search rules)) in
    let s = searched_ids c.args.known.now c.in-Some.after c.requires (Ok c.in-Ok.at) c.in-Ok.ensures.bound by_key in
    rw c.in-Some.is (past-found_before c.args.known.now c.in-Some.after c.in-Ok.at c.requires s.found)

pub returns-in-Ok-clause-behind : goal.returns-in-Ok-clause-behind
returns-in-Ok-clause-behind c =
    let by_key = c.in-Ok.ensures.position (λ (k : KnownInstance). k.row.id) (answers_always _ _ _ (λ f a r g called. search rules)) in
    let s = searched_ids c.args.known.now c.in-Some.after c.requires (Ok c.in-Ok.at) c.in-Ok.ensures.bound by_key in
    rw c.in-Some.is (past-found_behind c.args.known.now c.in-Some.after c.in-Ok.at c.requires s.found)

pub returns-in-Err-clause-before : goal.returns-in-Err-clause-before
returns-in-Err-clause-before c =
    let by_key = c.in-Err.ensures.position (λ (k : KnownInstance). k.row.id) (answers_always _ _ _ (λ f a r g called. search rules)) in
    let s = searched_ids c.args.known.now c.in-Some.after c.requires (Err c.in-Err.at) c.in-Err.ensures.bound by_key in
    rw c.in-Some.is (past-sought_before c.args.known.now c.in-Some.after c.in-Err.at s.absent)

pub returns-in-Err-clause-behind : goal.returns-in-Err-clause-behind
returns-in-Err-clause-behind c =
    let by_key = c.in-Err.ensures.position (λ (k : KnownInstance). k.row.id) (answers_always _ _ _ (λ f a r g called. search rules)) in
    let s = searched_ids c.args.known.now c.in-Some.after c.requires (Err c.in-Err.at) c.in-Err.ensures.bound by_key in
    rw c.in-Some.is (past-sought_behind c.args.known.now c.in-Some.after c.in-Err.at s.absent)
