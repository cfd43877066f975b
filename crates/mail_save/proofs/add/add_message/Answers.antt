use Rattle.mail_save.proofs.Common.{kept_begins}
use Rattle.mail_save.proofs.AddLemmas.{adds_at, added_at}
use Rattle.mail_save.proofs.MailFileLemmas.{mail_kept}
use Rattle.mail_save.proofs.add.add_message.Goals as goal

pub returns-in-Ok-clause-any_moment : goal.returns-in-Ok-clause-any_moment
returns-in-Ok-clause-any_moment g c = adds_at c.args.name.now c.args.added c.in_ok-number.number c.in_ok-number.uid c.args.store.now _ _ c.in_ok-number.ensures.ok (rw c.empty.ensures at c.append_box.ensures.any_moment)

pub returns-in-Ok-clause-settled : goal.returns-in-Ok-clause-settled
returns-in-Ok-clause-settled g c = added_at c.args.name.now c.args.added c.in_ok-number.number c.in_ok-number.uid c.args.store.now _ _ c.in_ok-number.ensures.ok (rw c.empty.ensures at c.in-Ok.ensures.settled)

pub returns-in-Err-Stopped-clause-any_moment : goal.returns-in-Err-Stopped-clause-any_moment
returns-in-Err-Stopped-clause-any_moment g c = adds_at c.args.name.now c.args.added c.in_ok-number.number c.in_ok-number.uid c.args.store.now _ _ c.in_ok-number.ensures.ok (rw c.empty.ensures at c.append_box.ensures.any_moment)

pub returns-in-Ok-clause-mail : goal.returns-in-Ok-clause-mail
returns-in-Ok-clause-mail g c = mail_kept _ _ c.in-Ok.ensures.others

pub returns-in_err-number-clause-mail_stays : goal.returns-in_err-number-clause-mail_stays
returns-in_err-number-clause-mail_stays g c = kept_begins _ _

pub returns-clause-any_moment : goal.returns-clause-any_moment
returns-clause-any_moment g c = adds_at c.args.name.now c.args.added c.in_ok-number.number c.in_ok-number.uid c.args.store.now _ _ c.in_ok-number.ensures.ok (rw c.empty.ensures at c.append_box.ensures.any_moment)
