use Rattle.purge_task.proofs.Common.{◌≡◌, ◌∙◌, refl, sym, subst, ℕ, Some, store_sound, NotesCopy}
use Rattle.purge_task.proofs.RegionLemmas.{row_ends}
use Rattle.purge_task.proofs.WorkLemmas.{noted_later}
use Rattle.purge_task.proofs.copying.copy_message.Goals as goal

pub note_copy-requires-clause-ends : goal.note_copy-requires-clause-ends
note_copy-requires-clause-ends g c = (row_ends c.args.store.now.map c.args.row (store_sound _ _ c.facts.ensures.store) c.requires.row).1

pub returns-clause-ok : goal.returns-clause-ok
returns-clause-ok g c = λ end ends.
    let at = c.in_ok-copy_region.ensures.ok end ends in
    let same : end ≡ c.in-Some.offset = (let w : Some end ≡ Some c.in-Some.offset = sym ends ∙ sym c.end_of.ensures ∙ c.in-Some.is in cc w) in
    (at.0, at.1, subst (λ (n : ℕ). NotesCopy c.args.row n c.args.work.now c.note_copy.new.self) (sym same) (noted_later c.args.row c.in-Some.offset c.args.work.now _ c.note_copy.new.self refl c.note_copy.ensures))
