use Rattle.std.proofs.Common.{◌≡◌, ℕ, List, [], true, false, refl, sym, ◌∙◌, ap, map}
use Rattle.std.specs.Prelude.{codes}
use Rattle.std.specs.Str.{bytes_eq}
use Rattle.plain_lists.specs.View.{mailbox_of}
use Rattle.plain_lists.proofs.CheckLemmas.{inbox_refused, delete_passes}
use Rattle.plain_lists.proofs.PlainStepLemmas.{mailbox_place, no_mailbox_here, placed_named, mailbox_removed}
use Rattle.plain_lists.proofs.lists.PlainLists.delete.Goals as goal

pub returns-in_default-clause-answers : goal.returns-in_default-clause-answers
returns-in_default-clause-answers c =
    let none = no_mailbox_here c.self.inside.mailboxes.items c.args.name.now (rw c.deref.ensures.value at c.in_default.ensures) in
    λ run event. (rw (← c.self.view_is, none) refl, refl)

pub returns-then-eq-clause-answers : goal.returns-then-eq-clause-answers
returns-then-eq-clause-answers c =
    let here = placed_named c.self.inside.mailboxes.items c.args.name.now c.in-Some.place (rw c.deref.ensures.value at c.in-Some.ensures) in
    let inbox : bytes_eq c.args.name.now (codes "INBOX") ≡ true = ap (λ (t : List ℕ). bytes_eq t (codes "INBOX")) (sym c.as_octets.ensures.same) ∙ ap (bytes_eq c.as_octets.result.now) (sym c.as_slice.ensures) ∙ sym c.eq.ensures ∙ c.if-eq.true in
    λ run event. (inbox_refused run c.args.self.now.lists c.args.name.now [] (rw (← c.self.view_is) here) inbox, refl)

pub returns-clause-answers : goal.returns-clause-answers
returns-clause-answers c =
    let boxes = c.self.inside.mailboxes.items in
    let placed = rw c.deref.ensures.value at c.in-Some.ensures in
    let here = placed_named boxes c.args.name.now c.in-Some.place placed in
    let other : bytes_eq c.args.name.now (codes "INBOX") ≡ false = ap (λ (t : List ℕ). bytes_eq t (codes "INBOX")) (sym c.as_octets.ensures.same) ∙ ap (bytes_eq c.as_octets.result.now) (sym c.as_slice.ensures) ∙ sym c.eq.ensures ∙ c.if-eq.false in
    λ run event. (
      delete_passes run c.args.self.now.lists c.args.name.now (rw (← c.self.view_is) here) other,
      rw (← c.self.view_is) (ap (map mailbox_of) c.remove.ensures.items ∙ mailbox_removed boxes c.args.name.now c.in-Some.place (mailbox_place boxes c.args.name.now c.in-Some.place placed)),
    )
