use Rattle.std.proofs.Common.{refl}
use Rattle.plain_lists.proofs.PlainStepLemmas.{number_place, message_place, numbered_message, no_number_here, no_numbered_message, read_twice, numbered_expunged}
use Rattle.plain_lists.proofs.lists.PlainLists.second_half.Goals as goal

pub returns-in_default-clause-answers : goal.returns-in_default-clause-answers
returns-in_default-clause-answers c =
    let none = no_number_here c.self.inside.mailboxes.items c.args.source.0 (rw c.deref.ensures.value at c.in_default.ensures) in
    λ run event name target source copied. (refl, (copied, (rw (source, ← c.self.view_is, none) refl, refl)))

pub returns-in_default-place_of_message-clause-answers : goal.returns-in_default-place_of_message-clause-answers
returns-in_default-place_of_message-clause-answers c =
    let boxes = c.self.inside.mailboxes.items in
    let place = number_place boxes c.args.source.0 c.in-Some.place (rw c.deref.ensures.value at c.in-Some.ensures) in
    let none = no_numbered_message boxes c.args.source.0 c.args.uid.0 c.in-Some.place c.index.result.now place c.index.ensures (rw c.deref-2.ensures.value at c.in_default-place_of_message.ensures) in
    λ run event name target source copied. (refl, (copied, (rw (source, ← c.self.view_is, none) refl, refl)))

pub returns-clause-answers : goal.returns-clause-answers
returns-clause-answers c =
    let boxes = c.self.inside.mailboxes.items in
    let place = number_place boxes c.args.source.0 c.in-Some.place (rw c.deref.ensures.value at c.in-Some.ensures) in
    let same = read_twice boxes c.in-Some.place c.index.result.now c.index_mut.result.now place.within c.index.ensures c.index_mut.ensures.value in
    let inner = message_place c.index_mut.result.now.messages.items c.args.uid.0 c.in-Some-place_of_message.left (rw (c.deref-2.ensures.value, same) at c.in-Some-place_of_message.ensures) in
    let there = numbered_message boxes c.args.source.0 c.args.uid.0 c.in-Some.place c.in-Some-place_of_message.left c.index_mut.result.now c.remove.result place c.index_mut.ensures.value inner c.remove.ensures.value in
    λ run event name target source copied. (
      refl,
      (
        copied,
        (
          rw (source, ← c.self.view_is, there) refl,
          rw (source, ← c.self.view_is) (numbered_expunged boxes c.args.source.0 c.args.uid.0 c.in-Some.place c.in-Some-place_of_message.left c.index_mut.result.now _ place c.index_mut.ensures.value inner refl refl refl c.remove.ensures.items),
        ),
      ),
    )
