use Rattle.purge_task.proofs.Common.{subst, ap, kept_then, MailIsKept, StoreValue}
use Rattle.model_kept.proofs.KeptLemmas.{kept_idle}
use Rattle.purge_task.proofs.ReadingLemmas.{idle_leaves, idle_settled, leaves_then}
use Rattle.purge_task.proofs.copying.copy_piece.Goals as goal

pub returns-in_err-read_whole-clause-any_moment : goal.returns-in_err-read_whole-clause-any_moment
returns-in_err-read_whole-clause-any_moment g c = λ lists settled. idle_leaves lists _ _ c.in_err-read_whole.ensures.idle settled

pub returns-in_err-read_whole-clause-mail_stays : goal.returns-in_err-read_whole-clause-mail_stays
returns-in_err-read_whole-clause-mail_stays g c = kept_idle c.args.store.now.map _ _ c.in_err-read_whole.ensures.idle

pub returns-in-Ok-clause-any_moment : goal.returns-in-Ok-clause-any_moment
returns-in-Ok-clause-any_moment g c = λ lists settled. leaves_then lists _ _ _ (idle_leaves lists _ _ c.in_ok-read_whole.ensures.idle settled) (c.in-Ok.ensures.any_moment lists (idle_settled lists _ _ c.in_ok-read_whole.ensures.idle settled))

pub returns-in-Ok-clause-mail_stays : goal.returns-in-Ok-clause-mail_stays
returns-in-Ok-clause-mail_stays g c =
    let same = ap (λ (v : StoreValue _). v.map) c.in_ok-read_whole.ensures.same in
    kept_then c.args.store.now.map _ _ _ (g.met.D.Disk.reads_image c.read_whole.new.store.disk) (kept_idle c.args.store.now.map _ _ c.in_ok-read_whole.ensures.idle) (subst (λ m. MailIsKept m (g.D.Disk.history c.read_whole.new.store.disk) (g.D.Disk.history c.add_piece.new.self.disk)) same c.in-Ok.ensures.mail_stays)

pub returns-in-Ok-clause-settled : goal.returns-in-Ok-clause-settled
returns-in-Ok-clause-settled g c = λ running lists settled. c.in-Ok.ensures.settled lists (idle_settled lists _ _ c.in_ok-read_whole.ensures.idle settled)

pub returns-in-Err-clause-any_moment : goal.returns-in-Err-clause-any_moment
returns-in-Err-clause-any_moment g c = λ lists settled. leaves_then lists _ _ _ (idle_leaves lists _ _ c.in_ok-read_whole.ensures.idle settled) (c.in-Err.ensures.any_moment lists (idle_settled lists _ _ c.in_ok-read_whole.ensures.idle settled))

pub returns-in-Err-clause-mail_stays : goal.returns-in-Err-clause-mail_stays
returns-in-Err-clause-mail_stays g c =
    let same = ap (λ (v : StoreValue _). v.map) c.in_ok-read_whole.ensures.same in
    kept_then c.args.store.now.map _ _ _ (g.met.D.Disk.reads_image c.read_whole.new.store.disk) (kept_idle c.args.store.now.map _ _ c.in_ok-read_whole.ensures.idle) (subst (λ m. MailIsKept m (g.D.Disk.history c.read_whole.new.store.disk) (g.D.Disk.history c.add_piece.new.self.disk)) same c.in-Err.ensures.mail_stays)
