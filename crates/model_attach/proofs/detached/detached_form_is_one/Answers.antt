use Rattle.std.proofs.Common.{filter}
use Rattle.model_mime.specs.Parts.{parts_in}
use Rattle.model_attach.proofs.DetachedLemmas.{cut_once}
use Rattle.model_attach.proofs.detached.detached_form_is_one.Goals as goal

pub returns : goal.returns
returns c message b d xs ys h k = cut_once message 0 (filter (λ p. p.detachable) (parts_in message)) xs ys b d h k
