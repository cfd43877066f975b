use Rattle.std.proofs.Common.{sym, ◌∙◌, ap}
use Rattle.std.specs.Prelude.{nat_le}
use Rattle.rebuild_judge.proofs.MailboxLemmas.{full_none, full_there, place_is}
use Rattle.rebuild_judge.specs.declared.mailboxes.MetMailbox.{MetMailbox}
use Rattle.rebuild_judge.proofs.mailboxes.are_full.Goals as goal

pub bounds-mailboxes-place : goal.bounds-mailboxes-place
bounds-mailboxes-place c = (place_is c.args.name.now c.args.mailboxes.now c.in-Some.place (sym c.place_of.ensures ∙ c.in-Some.is)).1

pub returns-in-Some : goal.returns-in-Some
returns-in-Some c =
    ap (λ (m : MetMailbox). nat_le 1000000 m.count) (sym c.index-mailboxes-place.is)
    ∙ sym (full_there c.args.name.now c.args.mailboxes.now c.in-Some.place c.index-mailboxes-place.result (sym c.place_of.ensures ∙ c.in-Some.is) c.index-mailboxes-place.is)

pub returns-in-None : goal.returns-in-None
returns-in-None c = sym (full_none c.args.name.now c.args.mailboxes.now (sym c.place_of.ensures ∙ c.in-None.is))
