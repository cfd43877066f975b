use Rattle.std.proofs.Common.{ℕ, List, [], ◌∷◌, ◌++◌, sym, ◌∙◌, ap}
use Rattle.rebuild_judge.proofs.MailboxLemmas.{one_more_capped, one_more_new}
use Rattle.rebuild_judge.proofs.mailboxes.add_one.Goals as goal

pub returns-in-Some : goal.returns-in-Some
returns-in-Some c = λ room. one_more_capped c.args.name.now c.args.mailboxes.now.items c.in-Some.place _ c.index_mut.result.now c.index.result.now (sym (rw c.deref.ensures.value at c.place_of.ensures) ∙ c.in-Some.is) c.index_mut.ensures.value c.index.ensures c.saturating_add.ensures room

pub returns : goal.returns
returns c = λ room. c.in_ok-push.ensures.items ∙ (ap (λ (n : List ℕ). c.args.mailboxes.now.items ++ record { name = n; count = 1 } ∷ []) c.in_ok-name.ensures ∙ one_more_new c.args.name.now c.args.mailboxes.now.items (sym (rw c.deref.ensures.value at c.place_of.ensures) ∙ c.in_default.is))
