use Rattle.std.proofs.Common.{Some, ◌≡◌, ◌≤◌, ◌<◌, ◌+◌, length, map, refl, sym, ap, ◌∙◌, arith}
use Rattle.std.proofs.lemmas.List.{length-map}
use Rattle.model_meaning.specs.MapMeaning.{MapMeaning}
use Rattle.plain_lists.specs.View.{ListsMade, mailbox_of}
use Rattle.plain_lists.proofs.CheckLemmas.{make_exists, make_full, make_used_up, make_passes, make_last, all_below}
use Rattle.plain_lists.proofs.PlainStepLemmas.{named_as_placed, pushed_empty}
use Rattle.plain_lists.proofs.lists.PlainLists.make.Goals as goal

pub returns-then-is_some-clause-answers : goal.returns-then-is_some-clause-answers
returns-then-is_some-clause-answers c =
    let boxes = c.self.inside.mailboxes.items in
    let named = named_as_placed boxes c.args.name c.place_of_mailbox.result (rw c.deref.ensures.value at c.place_of_mailbox.ensures) ∙ sym c.is_some.ensures ∙ c.if-is_some.true in
    λ run alone event. (make_exists run c.args.self.now.lists c.args.name (rw (← c.self.view_is) named), refl)

pub returns-then-len-ge-MAILBOXES-clause-answers :
    goal.returns-then-len-ge-MAILBOXES-clause-answers
returns-then-len-ge-MAILBOXES-clause-answers c =
    let boxes = c.self.inside.mailboxes.items in
    let named = named_as_placed boxes c.args.name c.place_of_mailbox.result (rw c.deref.ensures.value at c.place_of_mailbox.ensures) ∙ sym c.is_some.ensures ∙ c.if-is_some.false in
    let full : 1024 ≤ length (map mailbox_of boxes) = omega (arith, c.if-len-ge-MAILBOXES.true, c.len.ensures, c.deref.ensures.len, ap length c.deref.ensures.value, length-map boxes mailbox_of) in
    λ run alone event. (make_full run c.args.self.now.lists c.args.name (rw (← c.self.view_is) named) (rw (← c.self.view_is) full), refl)

pub returns-then-self-ge-LAST_NUMBER-clause-answers :
    goal.returns-then-self-ge-LAST_NUMBER-clause-answers
returns-then-self-ge-LAST_NUMBER-clause-answers c =
    let boxes = c.self.inside.mailboxes.items in
    let named = named_as_placed boxes c.args.name c.place_of_mailbox.result (rw c.deref.ensures.value at c.place_of_mailbox.ensures) ∙ sym c.is_some.ensures ∙ c.if-is_some.false in
    let room : length (map mailbox_of boxes) < 1024 = omega (arith, c.if-len-ge-MAILBOXES.false, c.len.ensures, c.deref.ensures.len, ap length c.deref.ensures.value, length-map boxes mailbox_of) in
    let used : 4294967294 ≤ c.args.self.now.highest = omega (arith, c.if-self-ge-LAST_NUMBER.true, ap (λ (v : ListsMade). v.highest) c.self.view_is) in
    λ run alone event. (
      rw c.from.ensures (make_used_up run c.args.self.now.lists c.args.name (rw (← c.self.view_is) named) (rw (← c.self.view_is) room) (rw alone.mailboxes used)),
      refl,
    )

pub returns-clause-answers : goal.returns-clause-answers
returns-clause-answers c =
    let boxes = c.self.inside.mailboxes.items in
    let named = named_as_placed boxes c.args.name c.place_of_mailbox.result (rw c.deref.ensures.value at c.place_of_mailbox.ensures) ∙ sym c.is_some.ensures ∙ c.if-is_some.false in
    let room : length (map mailbox_of boxes) < 1024 = omega (arith, c.if-len-ge-MAILBOXES.false, c.len.ensures, c.deref.ensures.len, ap length c.deref.ensures.value, length-map boxes mailbox_of) in
    let most : c.self.inside.highest ≡ c.args.self.now.highest = ap (λ (v : ListsMade). v.highest) c.self.view_is in
    let unused : c.args.self.now.highest < 4294967294 = omega (arith, c.if-self-ge-LAST_NUMBER.false, most) in
    λ run alone event last later behind. (
      make_passes run c.args.self.now.lists c.args.name (rw (← c.self.view_is) named) (rw (← c.self.view_is) room) (rw alone.mailboxes unused),
      (
        make_last later c.args.self.now.lists c.args.name (rw (← c.self.view_is) named) (rw (← c.self.view_is) room),
        record {
          number = c.self.inside.highest + 1;
          number_is = behind.2 ∙ ap (λ (n : _). Some n) (omega (arith, behind.1, most, alone.mailboxes));
          above = all_below c.args.self.now (c.self.inside.highest + 1) alone.given (omega (arith, most));
          fresh = omega (arith, ap (λ (m : MapMeaning). m.highest.mailbox) behind.0, most, alone.highest, alone.mailboxes);
          drawn = omega (arith, behind.1, most, alone.mailboxes);
          fits = omega (arith, c.if-self-ge-LAST_NUMBER.false);
          new_is = pushed_empty boxes c.push.new.self.items c.args.self.now.lists (c.self.inside.highest + 1) c.args.name _ c.in_ok-push.ensures.items (ap (λ (v : ListsMade). v.lists) c.self.view_is) refl refl refl c.new.ensures.items;
        },
      ),
    )
