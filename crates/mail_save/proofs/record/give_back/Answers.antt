use Rattle.mail_save.proofs.Common.{Err, refl, sym, ap, subst, MapEntry, IsReadyToStore}
use Rattle.store_core.specs.MapAppend.{NamesFirm}
use Rattle.mail_save.proofs.StoringLemmas.{left_alone, lowers_record}
use Rattle.mail_save.proofs.MailFileLemmas.{mail_kept}
use Rattle.mail_save.proofs.record.give_back.Goals as goal

pub returns-in-Ok-clause-settled : goal.returns-in-Ok-clause-settled
returns-in-Ok-clause-settled g c = λ lists s. c.in-Ok.ensures.settled lists (subst (λ (e : MapEntry). IsReadyToStore e (g.D.Disk.history c.args.store.now.disk)) (sym c.entry_of.ensures) tt) (subst (λ (e : MapEntry). NamesFirm e c.args.store.now.map (g.D.Disk.history c.args.store.now.disk)) (sym c.entry_of.ensures) tt) s

pub returns-in-Ok-clause-lowers : goal.returns-in-Ok-clause-lowers
returns-in-Ok-clause-lowers g c =
    lowers_record c.args.uid c.entry_of.result c.args.store.now c.append_map.new.self c.entry_of.ensures (c.known_dues.ensures c.args.uid.0 c.requires.due) c.append_map.ensures.same c.append_map.ensures.room c.in-Ok.ensures.further c.in-Ok.ensures.taken c.append_map.ensures.mailboxes c.in-Ok.ensures.drawn c.in-Ok.ensures.due

pub returns-in-Err-Stopped-clause-alone : goal.returns-in-Err-Stopped-clause-alone
returns-in-Err-Stopped-clause-alone g c = λ e.
    let o = c.append_map.ensures in
    let k = c.in-Err-Stopped.ensures.untaken refl in
    left_alone c.args.store.now c.append_map.new.self (c.in-Err-Stopped.ensures.stopped.0 (ap Err c.in-Err-Stopped.field-0-is)) o.same o.room k.0 k.1 k.2

pub returns-in-Ok-clause-mail : goal.returns-in-Ok-clause-mail
returns-in-Ok-clause-mail g c = mail_kept _ _ c.in-Ok.ensures.others
