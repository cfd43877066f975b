use Rattle.std.proofs.Common.{refl, sym, ap, ◌∙◌, ◌≡◌, ◌+◌, length, take, List, subst}
use Rattle.std.proofs.lemmas.Option.{slice_get-get_or}
use Rattle.request_text.specs.Steps.{AreStepsOf}
use Rattle.request_text.specs.declared.places.Steps.{Steps}
use Rattle.request_text.proofs.BatchLemmas.{steps_noted, written_back}
use Rattle.request_text.proofs.places.steps_of.Goals as goal

pub loop-at-preserved : goal.loop-at-preserved
loop-at-preserved c =
    let value : c.deref_mut.result.now ≡ c.loop-at.rows.items = c.deref_mut.ensures.value in
    let long : length c.note.new.rows ≡ length c.loop-at.rows.items = c.note.auto.rows ∙ ap (λ (t : List Steps). length t) value in
    let back = written_back c.loop-at.rows.len c.note.new.rows c.loop-at.rows.items (long ∙ sym c.loop-at.rows.ok.0) c.loop-at.rows.ok.0 in
    let noted = rw value at c.note.ensures in
    subst (AreStepsOf (take (c.loop-at.at + 1) c.args.journal.now) c.args.count) (sym back)
    (steps_noted c.args.journal.now c.loop-at.at c.args.count _ _ c.loop-at.rows.items c.note.new.rows c.loop-at-test.true refl long c.loop-at.invariant noted)
