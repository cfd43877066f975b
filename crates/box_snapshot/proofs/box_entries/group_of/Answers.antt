use Rattle.std.proofs.Common.{◌++◌, ◌∷◌, [], ◌∙◌, ap, List}
use Rattle.model_rewritten.specs.Rewriting.{box_snapshot}
use Rattle.box_snapshot.proofs.MapGroupLemmas.{taken_next}
use Rattle.box_snapshot.proofs.box_entries.group_of.Goals as goal

pub loop-taken-preserved : goal.loop-taken-preserved
loop-taken-preserved c =
    c.in_ok-push.ensures.items ∙ ap (λ (before : List _). before ++ c.in_ok-entry_at.field-0 ∷ []) c.loop-taken.invariant
    ∙ taken_next (box_snapshot c.args.index.now.meaning) c.args.from c.loop-taken.taken c.in_ok-entry_at.field-0 c.in_ok-entry_at.ensures
