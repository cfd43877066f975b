use Rattle.std.proofs.Common.{rules, Ok, Err}
use Rattle.std.proofs.lemmas.List.Sorted.{answers_always}
use Rattle.storage_files.proofs.SearchLemmas.{searched, found-file, sought-none}
use Rattle.storage_files.proofs.list.place_of.Goals as goal

pub returns-in-Ok : goal.returns-in-Ok
returns-in-Ok c =
    let by_key = c.in-Ok.ensures.position (λ f. f.file.0) (answers_always _ _ _ (λ f a r g called. search rules)) in
    let s = searched c.args.files.now c.args.file.0 c.requires.rising (Ok c.in-Ok.at) c.in-Ok.ensures.bound by_key in
    record { some = found-file c.args.files.now c.args.file.0 c.in-Ok.at s.found; none = search rules }

pub returns-in-Err : goal.returns-in-Err
returns-in-Err c =
    let by_key = c.in-Err.ensures.position (λ f. f.file.0) (answers_always _ _ _ (λ f a r g called. search rules)) in
    let s = searched c.args.files.now c.args.file.0 c.requires.rising (Err c.in-Err.field-0) c.in-Err.ensures.bound by_key in
    record { some = tt; none = λ n. sought-none c.args.files.now c.args.file.0 c.in-Err.field-0 s.absent }
