use Rattle.store_sweep.proofs.SweepStepLemmas.{images_now, images_unchanged, keeps_now, kept_images, kept_keeps}
use Rattle.store_sweep.proofs.FittedLemmas.{fitted-then, fitted-call}
use Rattle.disk_model.specs.declared.name.FileName.TheVariants as file
use Rattle.disk_model.proofs.IdleLemmas.{idle-call}
use Rattle.model_kept.proofs.KeptLemmas.{kept_begins, kept_unchanged}
use Rattle.store_sweep.proofs.StayLemmas.{walk_stays}
use Rattle.store_sweep.proofs.IdleSweepLemmas.{idle_if, no_cut}
use Rattle.store_sweep.proofs.cuts.cut_behind.Goals as goal

pub returns-then-length-end-clause-images : goal.returns-then-length-end-clause-images
returns-then-length-end-clause-images g c = λ generation m ends. images_unchanged generation m _ _ _ (images_now generation m (g.D.Disk.history c.args.disk.now)) c.in-Ok.ensures.state

pub returns-in_err-shorten-in-Ok-clause-images : goal.returns-in_err-shorten-in-Ok-clause-images
returns-in_err-shorten-in-Ok-clause-images g c = λ generation m ends.
    kept_images generation m _ _ _ _ (images_now generation m (g.D.Disk.history c.args.disk.now)) (keeps_now generation m (g.D.Disk.history c.args.disk.now)) c.in-Ok.ensures.state (c.in_err-shorten-in-Ok.ensures.images generation m ends)

pub returns-in_ok-shorten-in-Ok-clause-images : goal.returns-in_ok-shorten-in-Ok-clause-images
returns-in_ok-shorten-in-Ok-clause-images g c = λ generation m ends.
    kept_images generation m _ _ _ _ (images_now generation m (g.D.Disk.history c.args.disk.now)) (keeps_now generation m (g.D.Disk.history c.args.disk.now)) c.in-Ok.ensures.state (c.in_ok-shorten-in-Ok.ensures.images generation m ends)

pub returns-in_ok-shorten-in-Ok-clause-keeps : goal.returns-in_ok-shorten-in-Ok-clause-keeps
returns-in_ok-shorten-in-Ok-clause-keeps g c = λ none generation m ends.
    kept_keeps generation m _ _ _ _ (keeps_now generation m (g.D.Disk.history c.args.disk.now)) c.in-Ok.ensures.state (c.in_ok-shorten-in-Ok.ensures.keeps generation m ends)

pub returns-in-Err-Absent-clause-images : goal.returns-in-Err-Absent-clause-images
returns-in-Err-Absent-clause-images g c = λ generation m ends. images_unchanged generation m _ _ _ (images_now generation m (g.D.Disk.history c.args.disk.now)) c.in-Err-Absent.ensures.state

pub returns-in-Err-Failed-clause-images : goal.returns-in-Err-Failed-clause-images
returns-in-Err-Failed-clause-images g c = λ generation m ends. images_unchanged generation m _ _ _ (images_now generation m (g.D.Disk.history c.args.disk.now)) c.in-Err-Failed.ensures.state

pub returns-then-length-end-clause-mail : goal.returns-then-length-end-clause-mail
returns-then-length-end-clause-mail g c = λ m unsealed is. fitted-call m _ _ c.in-Ok.ensures.state

pub returns-in_ok-shorten-in-Ok-clause-mail : goal.returns-in_ok-shorten-in-Ok-clause-mail
returns-in_ok-shorten-in-Ok-clause-mail g c = λ m unsealed is. fitted-then m _ _ _ (fitted-call m _ _ c.in-Ok.ensures.state) (c.in_ok-shorten-in-Ok.ensures.mail m unsealed is)

pub returns-in-Err-Absent-clause-mail : goal.returns-in-Err-Absent-clause-mail
returns-in-Err-Absent-clause-mail g c = λ m unsealed is. fitted-call m _ _ c.in-Err-Absent.ensures.state

pub returns-then-length-end-clause-mail_stays : goal.returns-then-length-end-clause-mail_stays
returns-then-length-end-clause-mail_stays g c = λ m unsealed ends. kept_unchanged m _ _ _ (kept_begins m (g.D.Disk.history c.args.disk.now)) c.in-Ok.ensures.state

pub returns-in_err-shorten-in-Ok-clause-mail_stays : goal.returns-in_err-shorten-in-Ok-clause-mail_stays
returns-in_err-shorten-in-Ok-clause-mail_stays g c = λ m unsealed ends. walk_stays m _ _ _ _ (kept_begins m (g.D.Disk.history c.args.disk.now)) (g.met.D.Disk.reads_image c.length.new.self) c.in-Ok.ensures.state (c.in_err-shorten-in-Ok.ensures.mail_stays m unsealed ends)

pub returns-in_ok-shorten-in-Ok-clause-mail_stays : goal.returns-in_ok-shorten-in-Ok-clause-mail_stays
returns-in_ok-shorten-in-Ok-clause-mail_stays g c = λ m unsealed ends. walk_stays m _ _ _ _ (kept_begins m (g.D.Disk.history c.args.disk.now)) (g.met.D.Disk.reads_image c.length.new.self) c.in-Ok.ensures.state (c.in_ok-shorten-in-Ok.ensures.mail_stays m unsealed ends)

pub returns-in-Err-Absent-clause-mail_stays : goal.returns-in-Err-Absent-clause-mail_stays
returns-in-Err-Absent-clause-mail_stays g c = λ m unsealed ends. kept_unchanged m _ _ _ (kept_begins m (g.D.Disk.history c.args.disk.now)) c.in-Err-Absent.ensures.state

pub returns-in-Err-Failed-clause-mail_stays : goal.returns-in-Err-Failed-clause-mail_stays
returns-in-Err-Failed-clause-mail_stays g c = λ m unsealed ends. kept_unchanged m _ _ _ (kept_begins m (g.D.Disk.history c.args.disk.now)) c.in-Err-Failed.ensures.state

pub returns-then-length-end-clause-idle : goal.returns-then-length-end-clause-idle
returns-then-length-end-clause-idle g c = idle_if _ _ _ (idle-call _ _ c.in-Ok.ensures.state)

pub returns-in_err-shorten-in-Ok-clause-idle : goal.returns-in_err-shorten-in-Ok-clause-idle
returns-in_err-shorten-in-Ok-clause-idle g c = no_cut (file.Mail c.args.number) c.in-Ok.length c.args.end (g.D.Disk.history c.args.disk.now) _ c.in-Ok.ensures.length c.if-length-end.false

pub returns-in_ok-shorten-in-Ok-clause-idle : goal.returns-in_ok-shorten-in-Ok-clause-idle
returns-in_ok-shorten-in-Ok-clause-idle g c = no_cut (file.Mail c.args.number) c.in-Ok.length c.args.end (g.D.Disk.history c.args.disk.now) _ c.in-Ok.ensures.length c.if-length-end.false

pub returns-in-Err-Absent-clause-idle : goal.returns-in-Err-Absent-clause-idle
returns-in-Err-Absent-clause-idle g c = idle_if _ _ _ (idle-call _ _ c.in-Err-Absent.ensures.state)

pub returns-in-Err-Failed-clause-idle : goal.returns-in-Err-Failed-clause-idle
returns-in-Err-Failed-clause-idle g c = idle_if _ _ _ (idle-call _ _ c.in-Err-Failed.ensures.state)
