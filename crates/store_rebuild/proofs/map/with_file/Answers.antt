use Rattle.std.proofs.Common.{◌≡◌, ◌∙◌, ap, map, rules}
use Rattle.std.proofs.lemmas.List.Sorted.{answers_always}
use Rattle.map_index.proofs.SealedFileLemmas.{added, there}
use Rattle.model_meaning.specs.MapMeaning.{with_number}
use Rattle.store_rebuild.proofs.SealLemmas.{files_rise_with}
use Rattle.store_rebuild.proofs.map.with_file.Goals.{In_ok-insert-in-Err}
use Rattle.store_rebuild.proofs.map.with_file.Goals as goal

is_with : (c : In_ok-insert-in-Err) → map (λ f. f.0) c.insert.new.self.items ≡ with_number c.args.file.0 (map (λ f. f.0) c.args.files.items)
is_with c =
    let by_key = rw c.deref.ensures.value at (c.in-Err.ensures.position (λ f. f.0) (answers_always _ _ _ (λ f a r g called. search rules))) in
    let bound = rw c.deref.ensures.value at c.in-Err.ensures.bound in
    ap (map (λ f. f.0)) c.in_ok-insert-in-Err.ensures.items ∙ added c.args.file c.args.files.items c.in-Err.place c.requires bound by_key

pub returns-in_ok-insert-in-Err-clause-files : goal.returns-in_ok-insert-in-Err-clause-files
returns-in_ok-insert-in-Err-clause-files c = is_with c

pub returns-in_ok-insert-in-Err-clause-rising : goal.returns-in_ok-insert-in-Err-clause-rising
returns-in_ok-insert-in-Err-clause-rising c = files_rise_with c.args.file c.args.files.items c.insert.new.self.items c.requires (is_with c)

pub returns-in-Ok-clause-files : goal.returns-in-Ok-clause-files
returns-in-Ok-clause-files c =
    let by_key = rw c.deref.ensures.value at (c.in-Ok.ensures.position (λ f. f.0) (answers_always _ _ _ (λ f a r g called. search rules))) in
    let bound = rw c.deref.ensures.value at c.in-Ok.ensures.bound in
    there c.args.file c.args.files.items c.in-Ok.field-0 c.requires bound by_key
