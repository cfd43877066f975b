use Rattle.std.proofs.Common.{◌∙◌, sym, ap, ◌++◌, ◌∷◌, [], List, ℕ}
use Rattle.std.specs.Prelude.{map}
use Rattle.script_text.specs.MadeScript.{made_octet, below}
use Rattle.script_text.proofs.MadeLemmas.{mapped_more}
use Rattle.script_text.proofs.exercise.message_of.Goals as goal

pub loop-place-preserved : goal.loop-place-preserved
loop-place-preserved c =
    c.in_ok-push_all.ensures.ok
    ∙ ap (λ (t : List ℕ). t ++ c.octet_at.result ∷ []) c.loop-place.invariant
    ∙ ap (λ (o : ℕ). map (made_octet c.args.size) (below c.loop-place.place) ++ o ∷ []) c.octet_at.ensures
    ∙ sym (mapped_more (made_octet c.args.size) c.loop-place.place)
