use Rattle.std.proofs.Common.{◌≡◌, ℕ, List, [], ◌∷◌, true, false, refl, sym, ◌∙◌, ap}
use Rattle.std.specs.Prelude.{codes}
use Rattle.std.specs.Str.{bytes_eq}
use Rattle.list_machine.specs.Machine.{IsNewName}
use Rattle.plain_lists.proofs.CheckLemmas.{inbox_refused, rename_exists, rename_passes}
use Rattle.plain_lists.proofs.PlainStepLemmas.{mailbox_place, no_mailbox_here, placed_named, mailbox_renamed, named_as_placed}
use Rattle.plain_lists.proofs.lists.PlainLists.rename.Goals as goal

pub returns-in_default-clause-answers : goal.returns-in_default-clause-answers
returns-in_default-clause-answers c =
    let none = no_mailbox_here c.self.inside.mailboxes.items c.args.name.now (rw c.deref.ensures.value at c.in_default.ensures) in
    λ run event. (rw (← c.self.view_is, none) refl, refl)

pub returns-then-eq-clause-answers : goal.returns-then-eq-clause-answers
returns-then-eq-clause-answers c =
    let here = placed_named c.self.inside.mailboxes.items c.args.name.now c.in-Some.place (rw c.deref.ensures.value at c.in-Some.ensures) in
    let inbox : bytes_eq c.args.name.now (codes "INBOX") ≡ true = ap (λ (t : List ℕ). bytes_eq t (codes "INBOX")) (sym c.as_octets.ensures.same) ∙ ap (bytes_eq c.as_octets.result.now) (sym c.as_slice.ensures) ∙ sym c.eq.ensures ∙ c.if-eq.true in
    λ run event. (inbox_refused run c.args.self.now.lists c.args.name.now (IsNewName c.args.target ∷ []) (rw (← c.self.view_is) here) inbox, refl)

pub returns-then-is_some-clause-answers : goal.returns-then-is_some-clause-answers
returns-then-is_some-clause-answers c =
    let boxes = c.self.inside.mailboxes.items in
    let here = placed_named boxes c.args.name.now c.in-Some.place (rw c.deref.ensures.value at c.in-Some.ensures) in
    let other : bytes_eq c.args.name.now (codes "INBOX") ≡ false = ap (λ (t : List ℕ). bytes_eq t (codes "INBOX")) (sym c.as_octets.ensures.same) ∙ ap (bytes_eq c.as_octets.result.now) (sym c.as_slice.ensures) ∙ sym c.eq.ensures ∙ c.if-eq.false in
    let taken = named_as_placed boxes c.args.target c.place_of_mailbox-2.result (rw c.deref-2.ensures.value at c.place_of_mailbox-2.ensures) ∙ sym c.is_some.ensures ∙ c.if-is_some.true in
    λ run event. (rename_exists run c.args.self.now.lists c.args.name.now c.args.target (rw (← c.self.view_is) here) other (rw (← c.self.view_is) taken), refl)

pub returns-clause-answers : goal.returns-clause-answers
returns-clause-answers c =
    let boxes = c.self.inside.mailboxes.items in
    let placed = rw c.deref.ensures.value at c.in-Some.ensures in
    let here = placed_named boxes c.args.name.now c.in-Some.place placed in
    let other : bytes_eq c.args.name.now (codes "INBOX") ≡ false = ap (λ (t : List ℕ). bytes_eq t (codes "INBOX")) (sym c.as_octets.ensures.same) ∙ ap (bytes_eq c.as_octets.result.now) (sym c.as_slice.ensures) ∙ sym c.eq.ensures ∙ c.if-eq.false in
    let free = named_as_placed boxes c.args.target c.place_of_mailbox-2.result (rw c.deref-2.ensures.value at c.place_of_mailbox-2.ensures) ∙ sym c.is_some.ensures ∙ c.if-is_some.false in
    λ run event. (
      rename_passes run c.args.self.now.lists c.args.name.now c.args.target (rw (← c.self.view_is) here) other (rw (← c.self.view_is) free),
      rw (← c.self.view_is) (mailbox_renamed boxes c.args.name.now c.args.target c.in-Some.place c.index_mut.result.now _ (mailbox_place boxes c.args.name.now c.in-Some.place placed) c.index_mut.ensures.value refl),
    )
