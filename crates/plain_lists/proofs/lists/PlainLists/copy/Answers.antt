use Rattle.std.proofs.Common.{◌≡◌, ◌≤◌, ◌<◌, ◌^◌, ◌-◌, min, length, map, Result, Ok, Err, refl, sym, ap, ◌∙◌, arith}
use Rattle.std.specs.Prelude.{OnErr}
use Rattle.std.proofs.lemmas.List.{length-map}
use Rattle.model_lists.specs.Lists.{ListedMessage, Lists, refs_of}
use Rattle.list_machine.specs.Machine.{add_last, add_message}
use Rattle.plain_lists.specs.declared.lists.PlainMailbox.{PlainMailbox}
use Rattle.plain_lists.specs.View.{ListsMade, mailbox_of, message_of}
use Rattle.plain_lists.proofs.CheckLemmas.{copy_no_source, copy_no_target, copy_no_message, copy_full, copy_used_up, copy_shared, copy_passes, copy_last}
use Rattle.plain_lists.proofs.PlainStepLemmas.{mailbox_place, no_mailbox_here, placed_named, no_message_here, copy_found, same_mailbox, mailbox_changed, read_twice}
use Rattle.plain_lists.proofs.lists.PlainLists.copy.Goals as goal

pub returns-in_default-clause-answers : goal.returns-in_default-clause-answers
returns-in_default-clause-answers c =
    let none = no_mailbox_here c.self.inside.mailboxes.items c.args.name.now (rw c.deref.ensures.value at c.in_default.ensures) in
    λ run alone event. (copy_no_source run c.args.self.now.lists c.args.name.now c.args.uid.0 c.args.target.now (rw (← c.self.view_is) none), refl)

pub returns-in_default-place_of_mailbox-clause-answers :
    goal.returns-in_default-place_of_mailbox-clause-answers
returns-in_default-place_of_mailbox-clause-answers c =
    let boxes = c.self.inside.mailboxes.items in
    let source = placed_named boxes c.args.name.now c.in-Some.source (rw c.deref.ensures.value at c.in-Some.ensures) in
    let none = no_mailbox_here boxes c.args.target.now (rw c.deref-2.ensures.value at c.in_default-place_of_mailbox.ensures) in
    λ run alone event. (copy_no_target run c.args.self.now.lists c.args.name.now c.args.uid.0 c.args.target.now (rw (← c.self.view_is) source) (rw (← c.self.view_is) none), refl)

pub returns-in_default-place_of_message-clause-answers :
    goal.returns-in_default-place_of_message-clause-answers
returns-in_default-place_of_message-clause-answers c =
    let boxes = c.self.inside.mailboxes.items in
    let ei = rw c.deref.ensures.value at c.in-Some.ensures in
    let source = placed_named boxes c.args.name.now c.in-Some.source ei in
    let target = placed_named boxes c.args.target.now c.in-Some-place_of_mailbox.place (rw c.deref-2.ensures.value at c.in-Some-place_of_mailbox.ensures) in
    let none = no_message_here boxes c.args.name.now c.args.uid.0 c.in-Some.source c.index-from.result.now (mailbox_place boxes c.args.name.now c.in-Some.source ei) c.index-from.ensures
    (rw c.deref-3.ensures.value at c.in_default-place_of_message.ensures) in
    λ run alone event. (copy_no_message run c.args.self.now.lists c.args.name.now c.args.uid.0 c.args.target.now (rw (← c.self.view_is) source) (rw (← c.self.view_is) target) (rw (← c.self.view_is) none), refl)

pub returns-then-len-ge-MESSAGES-clause-answers : goal.returns-then-len-ge-MESSAGES-clause-answers
returns-then-len-ge-MESSAGES-clause-answers c =
    let boxes = c.self.inside.mailboxes.items in
    let found = copy_found boxes c.args.self.now.lists c.args.name.now c.args.target.now c.args.uid.0 c.in-Some.source c.in-Some-place_of_message.at c.in-Some-place_of_mailbox.place c.index-from.result.now c.index-into.result.now c.index-message.result.now (ap (λ (v : ListsMade). v.lists) c.self.view_is)
    (rw c.deref.ensures.value at c.in-Some.ensures) c.index-from.ensures (rw c.deref-3.ensures.value at c.in-Some-place_of_message.ensures) c.index-message.ensures
    (rw c.deref-2.ensures.value at c.in-Some-place_of_mailbox.ensures) c.index-into.ensures in
    let full : 1000000 ≤ length (map message_of c.index-into.result.now.messages.items) = omega (arith, c.if-len-ge-MESSAGES.true, c.len.ensures, c.index-into.result.now.messages.ok.0, length-map c.index-into.result.now.messages.items message_of) in
    λ run alone event. (copy_full run c.args.self.now.lists c.args.name.now c.args.uid.0 c.args.target.now _ _ _ found full, refl)

pub returns-then-into-gt-LAST_NUMBER-clause-answers :
    goal.returns-then-into-gt-LAST_NUMBER-clause-answers
returns-then-into-gt-LAST_NUMBER-clause-answers c =
    let boxes = c.self.inside.mailboxes.items in
    let found = copy_found boxes c.args.self.now.lists c.args.name.now c.args.target.now c.args.uid.0 c.in-Some.source c.in-Some-place_of_message.at c.in-Some-place_of_mailbox.place c.index-from.result.now c.index-into.result.now c.index-message.result.now (ap (λ (v : ListsMade). v.lists) c.self.view_is)
    (rw c.deref.ensures.value at c.in-Some.ensures) c.index-from.ensures (rw c.deref-3.ensures.value at c.in-Some-place_of_message.ensures) c.index-message.ensures
    (rw c.deref-2.ensures.value at c.in-Some-place_of_mailbox.ensures) c.index-into.ensures in
    let room : length (map message_of c.index-into.result.now.messages.items) < 1000000 = omega (arith, c.if-len-ge-MESSAGES.false, c.len.ensures, c.index-into.result.now.messages.ok.0, length-map c.index-into.result.now.messages.items message_of) in
    λ run alone event. (rw c.from.ensures (copy_used_up run c.args.self.now.lists c.args.name.now c.args.uid.0 c.args.target.now _ _ _ found room c.if-into-gt-LAST_NUMBER.true), refl)

pub returns-then-references-ge-COPIES-clause-answers :
    goal.returns-then-references-ge-COPIES-clause-answers
returns-then-references-ge-COPIES-clause-answers c =
    let boxes = c.self.inside.mailboxes.items in
    let found = copy_found boxes c.args.self.now.lists c.args.name.now c.args.target.now c.args.uid.0 c.in-Some.source c.in-Some-place_of_message.at c.in-Some-place_of_mailbox.place c.index-from.result.now c.index-into.result.now c.index-message.result.now (ap (λ (v : ListsMade). v.lists) c.self.view_is)
    (rw c.deref.ensures.value at c.in-Some.ensures) c.index-from.ensures (rw c.deref-3.ensures.value at c.in-Some-place_of_message.ensures) c.index-message.ensures
    (rw c.deref-2.ensures.value at c.in-Some-place_of_mailbox.ensures) c.index-into.ensures in
    let room : length (map message_of c.index-into.result.now.messages.items) < 1000000 = omega (arith, c.if-len-ge-MESSAGES.false, c.len.ensures, c.index-into.result.now.messages.ok.0, length-map c.index-into.result.now.messages.items message_of) in
    let counted : c.references.result ≡ min (refs_of c.args.self.now.lists c.index-message.result.now.guid.0) (2 ^ 64 - 1) =
    rw c.deref-4.ensures.value at c.references.ensures ∙ ap (λ (v : ListsMade). min (refs_of v.lists c.index-message.result.now.guid.0) (2 ^ 64 - 1)) c.self.view_is in
    let shared : 65535 ≤ refs_of c.args.self.now.lists c.index-message.result.now.guid.0 = omega (arith, counted, c.if-references-ge-COPIES.true) in
    λ run alone event. (copy_shared run c.args.self.now c.args.name.now c.args.uid.0 c.args.target.now _ _ _ found alone room c.if-into-gt-LAST_NUMBER.false shared, refl)

on_err : {T E : Type 0} → (r : Result T E) {P : Type 0} → P → OnErr r P
on_err (Ok x) p = tt
on_err (Err e) p = p

pub returns-in_err-uid-clause-err : goal.returns-in_err-uid-clause-err
returns-in_err-uid-clause-err c =
    let boxes = c.self.inside.mailboxes.items in
    on_err c.from_residual-in_err-uid.result
    (ap (λ (ls : Lists). let made : ListsMade = record { lists = ls; highest = c.self.inside.highest } in made)
    (same_mailbox boxes c.args.target.now c.in-Some-place_of_mailbox.place c.index_mut.result.now _ (rw c.deref-2.ensures.value at c.in-Some-place_of_mailbox.ensures) c.index_mut.ensures.value c.in_err-uid.ensures.err)
    ∙ c.self.view_is)

pub returns-clause-answers : goal.returns-clause-answers
returns-clause-answers c =
    let boxes = c.self.inside.mailboxes.items in
    let found = copy_found boxes c.args.self.now.lists c.args.name.now c.args.target.now c.args.uid.0 c.in-Some.source c.in-Some-place_of_message.at c.in-Some-place_of_mailbox.place c.index-from.result.now c.index-into.result.now c.index-message.result.now (ap (λ (v : ListsMade). v.lists) c.self.view_is)
    (rw c.deref.ensures.value at c.in-Some.ensures) c.index-from.ensures (rw c.deref-3.ensures.value at c.in-Some-place_of_message.ensures) c.index-message.ensures
    (rw c.deref-2.ensures.value at c.in-Some-place_of_mailbox.ensures) c.index-into.ensures in
    let room : length (map message_of c.index-into.result.now.messages.items) < 1000000 = omega (arith, c.if-len-ge-MESSAGES.false, c.len.ensures, c.index-into.result.now.messages.ok.0, length-map c.index-into.result.now.messages.items message_of) in
    let counted : c.references.result ≡ min (refs_of c.args.self.now.lists c.index-message.result.now.guid.0) (2 ^ 64 - 1) =
    rw c.deref-4.ensures.value at c.references.ensures ∙ ap (λ (v : ListsMade). min (refs_of v.lists c.index-message.result.now.guid.0) (2 ^ 64 - 1)) c.self.view_is in
    let few : refs_of c.args.self.now.lists c.index-message.result.now.guid.0 < 65535 = omega (arith, counted, c.if-references-ge-COPIES.false) in
    let ek = rw c.deref-2.ensures.value at c.in-Some-place_of_mailbox.ensures in
    let place = mailbox_place boxes c.args.target.now c.in-Some-place_of_mailbox.place ek in
    let same : c.index-into.result.now ≡ c.index_mut.result.now = read_twice boxes c.in-Some-place_of_mailbox.place c.index-into.result.now c.index_mut.result.now place.within c.index-into.ensures c.index_mut.ensures.value in
    let changed = mailbox_changed (add_last (message_of c.index-message.result.now)) boxes c.args.target.now c.in-Some-place_of_mailbox.place c.index_mut.result.now _ place c.index_mut.ensures.value
    (c.in_ok-uid.ensures.added ∙ ap (λ (m : ListedMessage). add_last m (mailbox_of c.index_mut.result.now)) c.in_ok-copy.ensures) in
    λ run alone event last later behind. (
      copy_passes run c.args.self.now c.args.name.now c.args.uid.0 c.args.target.now _ _ _ found alone room c.if-into-gt-LAST_NUMBER.false few,
      (
        copy_last later c.args.self.now.lists c.args.name.now c.args.uid.0 c.args.target.now _ _ _ found room c.if-into-gt-LAST_NUMBER.false,
        record {
          message = message_of c.index-message.result.now;
          mailbox = mailbox_of c.index-into.result.now;
          source_is = found.message_is;
          target_is = found.target_is;
          given_is = c.in_ok-uid.ensures.uid ∙ ap (λ (t : PlainMailbox). t.next_uid) (sym same);
          new_is = changed ∙ ap (λ (v : ListsMade). add_message c.args.target.now (message_of c.index-message.result.now) v.lists) c.self.view_is;
        },
      ),
    )
