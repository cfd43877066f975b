use Rattle.map_index.proofs.Common.{◌∙◌, ap, map, rules, answers_always}
use Rattle.map_index.proofs.SealedFileLemmas.{added, there}
use Rattle.map_index.proofs.changes.seal.Goals as goal

pub returns-in-Ok-clause-files : goal.returns-in-Ok-clause-files
returns-in-Ok-clause-files c =
    let by_key = rw c.deref.ensures.value at (c.in-Err.ensures.position (λ f. f.0) (answers_always _ _ _ (λ f a r g called. search rules))) in
    let bound = rw c.deref.ensures.value at c.in-Err.ensures.bound in
    ap (map (λ f. f.0)) c.in-Ok.ensures.items ∙ added c.args.file c.args.files.now.items c.in-Err.place c.requires.rising bound by_key

pub returns-in_default-clause-files : goal.returns-in_default-clause-files
returns-in_default-clause-files c =
    let by_key = rw c.deref.ensures.value at (c.in_default.ensures.position (λ f. f.0) (answers_always _ _ _ (λ f a r g called. search rules))) in
    let bound = rw c.deref.ensures.value at c.in_default.ensures.bound in
    there c.args.file c.args.files.now.items c.in_default.field-0 c.requires.rising bound by_key
