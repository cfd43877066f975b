use Rattle.store_sweep.proofs.CutLemmas.{cut_fails, sync_fails, shortened_images, shortened_keeps, sync_there, shortened_there, shortened_others, shortened_length}
use Rattle.store_sweep.proofs.FittedLemmas.{fitted-shortened}
use Rattle.store_sweep.proofs.StayLemmas.{cut_fails_stays, sync_fails_stays, shortened_stays}
use Rattle.store_sweep.proofs.cuts.shorten.Goals as goal

pub sync-requires : goal.sync-requires
sync-requires g c = sync_there c.args.number c.args.end _ _ c.requires c.in_ok-cut.ensures.state

pub returns-in_err-cut-clause-images : goal.returns-in_err-cut-clause-images
returns-in_err-cut-clause-images g c = λ generation m ends. cut_fails generation m c.args.number c.args.end _ _ ends c.in_err-cut.ensures.failed

pub returns-in_err-sync-clause-images : goal.returns-in_err-sync-clause-images
returns-in_err-sync-clause-images g c = λ generation m ends. sync_fails generation m c.args.number c.args.end _ _ _ ends c.requires c.in_ok-cut.ensures.state c.in_err-sync.ensures.failed

pub returns-clause-images : goal.returns-clause-images
returns-clause-images g c = λ generation m ends. shortened_images generation m c.args.number c.args.end _ _ _ ends c.requires c.in_ok-cut.ensures.state c.in_ok-sync.ensures.state

pub returns-clause-keeps : goal.returns-clause-keeps
returns-clause-keeps g c = λ generation m ends. shortened_keeps generation m c.args.number c.args.end _ _ _ ends c.requires c.in_ok-cut.ensures.state c.in_ok-sync.ensures.state

pub returns-clause-there : goal.returns-clause-there
returns-clause-there g c = shortened_there c.args.number c.args.end (g.D.Disk.history c.args.disk.now) _ _ c.in_ok-cut.ensures.state c.in_ok-sync.ensures.state

pub returns-clause-others : goal.returns-clause-others
returns-clause-others g c = shortened_others c.args.number c.args.end (g.D.Disk.history c.args.disk.now) _ _ c.in_ok-cut.ensures.state c.in_ok-sync.ensures.state

pub returns-clause-cut : goal.returns-clause-cut
returns-clause-cut g c = shortened_length c.args.number c.args.end (g.D.Disk.history c.args.disk.now) _ _ c.requires c.in_ok-cut.ensures.state c.in_ok-sync.ensures.state

pub returns-clause-mail : goal.returns-clause-mail
returns-clause-mail g c = λ m unsealed is. fitted-shortened m c.args.number c.args.end _ _ _ unsealed is c.in_ok-cut.ensures.state c.in_ok-sync.ensures.state

pub returns-in_err-cut-clause-mail_stays : goal.returns-in_err-cut-clause-mail_stays
returns-in_err-cut-clause-mail_stays g c = λ m unsealed ends. cut_fails_stays m c.args.number c.args.end _ _ unsealed ends c.requires (g.met.D.Disk.reads_image c.args.disk.now) c.in_err-cut.ensures.failed

pub returns-in_err-sync-clause-mail_stays : goal.returns-in_err-sync-clause-mail_stays
returns-in_err-sync-clause-mail_stays g c = λ m unsealed ends. sync_fails_stays m c.args.number c.args.end _ _ _ unsealed ends c.requires (g.met.D.Disk.reads_image c.args.disk.now) c.in_ok-cut.ensures.state c.in_err-sync.ensures.failed

pub returns-clause-mail_stays : goal.returns-clause-mail_stays
returns-clause-mail_stays g c = λ m unsealed ends. shortened_stays m c.args.number c.args.end _ _ _ unsealed ends c.requires (g.met.D.Disk.reads_image c.args.disk.now) (g.met.D.Disk.reads_image c.cut.new.self) c.in_ok-cut.ensures.state c.in_ok-sync.ensures.state
