use Rattle.model_kept.proofs.KeptLemmas.{kept_idle}
use Rattle.mail_save.proofs.Common.{sym, ◌∙◌, next_attachment}
use Rattle.mail_save.proofs.AttachLemmas.{compared_writes, idle_leaves, room_compared, room_found, writes_attachment}
use Rattle.mail_save.proofs.MailFileLemmas.{mail_idle}
use Rattle.mail_save.proofs.attach.attach_next.Goals as goal

pub returns-in-Ok-clause-room : goal.returns-in-Ok-clause-room
returns-in-Ok-clause-room g c =
    room_compared c.args.attaching.now c.compare.new.self c.in-Ok._alike c.in-Some.candidate c.args.store.now.instances.highest c.args.store.now c.compare.new.store c.requires.next c.in-Ok.ensures.ok c.in-Ok.ensures.moves c.requires.room

pub returns-in-Ok-clause-any_moment : goal.returns-in-Ok-clause-any_moment
returns-in-Ok-clause-any_moment g c = idle_leaves _ _ c.in-Ok.ensures.idle

pub returns-in-Err-clause-any_moment : goal.returns-in-Err-clause-any_moment
returns-in-Err-clause-any_moment g c = idle_leaves _ _ c.in-Err.ensures.idle

pub returns-in-Ok-clause-mail_stays : goal.returns-in-Ok-clause-mail_stays
returns-in-Ok-clause-mail_stays g c = kept_idle _ _ _ c.in-Ok.ensures.idle

pub returns-in-Err-clause-mail_stays : goal.returns-in-Err-clause-mail_stays
returns-in-Err-clause-mail_stays g c = kept_idle _ _ _ c.in-Err.ensures.idle

pub returns-in-Ok-place-clause-room : goal.returns-in-Ok-place-clause-room
returns-in-Ok-place-clause-room g c = room_found c.args.attaching.now c.place.new.self c.in-Ok-place._row c.args.store.now c.place.new.store c.requires.next c.in-Ok-place.ensures.found c.in-Ok-place.ensures.moves c.requires.room

pub returns-in-Ok-place-clause-written : goal.returns-in-Ok-place-clause-written
returns-in-Ok-place-clause-written g c =
    let o = c.in-Ok-place.ensures in
    writes_attachment c.args.attaching.now c.args.store.now (g.D.Disk.history c.args.store.now.disk) (g.D.Disk.history c.place.new.store.disk) c.requires.running c.facts.ensures.instances c.facts.ensures.ids (λ e. absurd (cc (o.full e))) c.requires.next
    (sym c.candidate.ensures ∙ c.in-None.is) o.made o.others

pub returns-in-Ok-clause-written : goal.returns-in-Ok-clause-written
returns-in-Ok-clause-written g c = compared_writes _ (next_attachment c.args.attaching.now) c.in-Some.candidate c.args.store.now _ _ (sym c.candidate.ensures ∙ c.in-Some.is) c.in-Ok.ensures.idle

pub returns-in-Err-clause-unwritten : goal.returns-in-Err-clause-unwritten
returns-in-Err-clause-unwritten g c = λ failed ran. mail_idle _ _ c.in-Err.ensures.idle
