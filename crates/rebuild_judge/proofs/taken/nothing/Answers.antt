use Rattle.std.proofs.Common.{List, [], ◌∷◌, ◌++◌, ◌∙◌, ap}
use Rattle.rebuild_judge.specs.declared.mailboxes.MetMailbox.{MetMailbox}
use Rattle.rebuild_judge.proofs.KeepingLemmas.{kept_none}
use Rattle.rebuild_judge.proofs.taken.nothing.Goals as goal

pub returns : goal.returns
returns c = λ files. kept_none files _ c.in_ok-name.name c.in_ok-name.ensures (c.in_ok-push.ensures.items ∙ ap (λ (xs : List MetMailbox). xs ++ record { name = c.in_ok-name.name; count = 0 } ∷ []) c.new-mailboxes.ensures.items) c.empty.ensures c.new.ensures.empty c.new-2.ensures.empty
