use Rattle.std.proofs.Common.{refl}
use Rattle.plain_lists.proofs.PlainStepLemmas.{mailbox_place, message_place, mailbox_here, message_here, no_mailbox_here, no_message_here, read_twice, worded}
use Rattle.plain_lists.proofs.lists.PlainLists.keywords.Goals as goal

pub returns-in_default-clause-answers : goal.returns-in_default-clause-answers
returns-in_default-clause-answers c =
    let none = no_mailbox_here c.self.inside.mailboxes.items c.args.name.now (rw c.deref.ensures.value at c.in_default.ensures) in
    λ run event. (rw (← c.self.view_is, none) refl, refl)

pub returns-in_default-place_of_message-clause-answers : goal.returns-in_default-place_of_message-clause-answers
returns-in_default-place_of_message-clause-answers c =
    let boxes = c.self.inside.mailboxes.items in
    let place = mailbox_place boxes c.args.name.now c.in-Some.place (rw c.deref.ensures.value at c.in-Some.ensures) in
    let here = mailbox_here boxes c.args.name.now c.in-Some.place c.index.result.now place c.index.ensures in
    let none = no_message_here boxes c.args.name.now c.args.uid.0 c.in-Some.place c.index.result.now place c.index.ensures (rw c.deref-2.ensures.value at c.in_default-place_of_message.ensures) in
    λ run event. (rw (← c.self.view_is, none, here) refl, refl)

pub returns-clause-answers : goal.returns-clause-answers
returns-clause-answers c =
    let boxes = c.self.inside.mailboxes.items in
    let place = mailbox_place boxes c.args.name.now c.in-Some.place (rw c.deref.ensures.value at c.in-Some.ensures) in
    let same = read_twice boxes c.in-Some.place c.index.result.now c.index_mut.result.now place.within c.index.ensures c.index_mut.ensures.value in
    let inner = message_place c.index_mut.result.now.messages.items c.args.uid.0 c.in-Some-place_of_message.at (rw (c.deref-2.ensures.value, same) at c.in-Some-place_of_message.ensures) in
    let here = mailbox_here boxes c.args.name.now c.in-Some.place c.index_mut.result.now place c.index_mut.ensures.value in
    let there = message_here boxes c.args.name.now c.args.uid.0 c.in-Some.place c.in-Some-place_of_message.at c.index_mut.result.now c.index_mut-2.result.now place c.index_mut.ensures.value inner c.index_mut-2.ensures.value in
    λ run event. (
      rw (← c.self.view_is, there, here) refl,
      rw (← c.self.view_is) (worded boxes c.args.name.now c.args.uid.0 c.args.words c.in-Some.place c.in-Some-place_of_message.at c.index_mut.result.now _ c.index_mut-2.result.now _ place c.index_mut.ensures.value inner c.index_mut-2.ensures.value refl refl refl refl refl),
    )
