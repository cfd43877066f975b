use Rattle.std.proofs.Common.{rules, Ok, Err}
use Rattle.std.proofs.lemmas.List.Sorted.{answers_always}
use Rattle.storage_files.proofs.SearchLemmas.{searched, past-found_before, past-found_behind, past-sought_before, past-sought_behind}
use Rattle.storage_files.proofs.list.place_past.Goals as goal

pub returns-in-Ok-clause-before : goal.returns-in-Ok-clause-before
returns-in-Ok-clause-before c =
    let by_key = c.in-Ok.ensures.position (λ f. f.file.0) (answers_always _ _ _ (λ f a r g called. search rules)) in
    let s = searched c.args.files.now c.in-Some.after.0 c.requires.rising (Ok c.in-Ok.at) c.in-Ok.ensures.bound by_key in
    rw c.in-Some.is (past-found_before c.args.files.now c.in-Some.after c.in-Ok.at c.requires.rising s.found)

pub returns-in-Ok-clause-behind : goal.returns-in-Ok-clause-behind
returns-in-Ok-clause-behind c =
    let by_key = c.in-Ok.ensures.position (λ f. f.file.0) (answers_always _ _ _ (λ f a r g called. search rules)) in
    let s = searched c.args.files.now c.in-Some.after.0 c.requires.rising (Ok c.in-Ok.at) c.in-Ok.ensures.bound by_key in
    rw c.in-Some.is (past-found_behind c.args.files.now c.in-Some.after c.in-Ok.at c.requires.rising s.found)

pub returns-in-Err-clause-before : goal.returns-in-Err-clause-before
returns-in-Err-clause-before c =
    let by_key = c.in-Err.ensures.position (λ f. f.file.0) (answers_always _ _ _ (λ f a r g called. search rules)) in
    let s = searched c.args.files.now c.in-Some.after.0 c.requires.rising (Err c.in-Err.at) c.in-Err.ensures.bound by_key in
    rw c.in-Some.is (past-sought_before c.args.files.now c.in-Some.after c.in-Err.at s.absent)

pub returns-in-Err-clause-behind : goal.returns-in-Err-clause-behind
returns-in-Err-clause-behind c =
    let by_key = c.in-Err.ensures.position (λ f. f.file.0) (answers_always _ _ _ (λ f a r g called. search rules)) in
    let s = searched c.args.files.now c.in-Some.after.0 c.requires.rising (Err c.in-Err.at) c.in-Err.ensures.bound by_key in
    rw c.in-Some.is (past-sought_behind c.args.files.now c.in-Some.after c.in-Err.at s.absent)
