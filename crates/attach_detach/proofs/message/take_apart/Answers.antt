use Rattle.std.proofs.Common.{◌≡◌, [], List, filter, sym, ◌∙◌, subst}
use Rattle.model_mime.specs.declared.mime.Part.{Part}
use Rattle.attach_detach.proofs.ApartLemmas.{none_kept}
use Rattle.attach_detach.proofs.message.take_apart.Goals as goal

pub returns : goal.returns
returns c =
    subst (λ (xs : List Part). filter (λ part. part.detachable) xs ≡ []) (c.as_slice.ensures ∙ c.in_ok-leaves.ensures)
    (none_kept (λ (part : Part). part.detachable) c.as_slice.result.now (sym c.has_detachable.ensures ∙ c.if-has_detachable.false))
