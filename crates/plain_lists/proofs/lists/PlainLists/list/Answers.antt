use Rattle.std.proofs.Common.{refl, arith}
use Rattle.std.proofs.lemmas.Grind.{common_steps}
use Rattle.plain_lists.specs.View.{mailbox_of}
use Rattle.plain_lists.proofs.PlainStepLemmas.{mailbox_place, mailbox_here, no_mailbox_here}
use Rattle.plain_lists.proofs.lists.PlainLists.list.Goals as goal

pub returns-in-None : goal.returns-in-None
returns-in-None c =
    let none = no_mailbox_here c.self.inside.mailboxes.items c.args.name.now (rw c.deref.ensures.value at c.in-None.ensures) in
    λ run event. (rw (← c.self.view_is, none) refl, refl)

pub returns-in_ok-rows_of-in-Some : goal.returns-in_ok-rows_of-in-Some
returns-in_ok-rows_of-in-Some c =
    let place = mailbox_place c.self.inside.mailboxes.items c.args.name.now c.in-Some.place (rw c.deref.ensures.value at c.in-Some.ensures) in
    let here = mailbox_here c.self.inside.mailboxes.items c.args.name.now c.in-Some.place c.index.result.now place c.index.ensures in
    λ run event. (rw (← c.self.view_is, here) refl, (mailbox_of c.index.result.now, rw (← c.self.view_is) here, grind (arith, common_steps), refl))
