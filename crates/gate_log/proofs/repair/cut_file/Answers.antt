use Rattle.disk_model.proofs.ChangeAndSyncLemmas.{change_fails, sync_fails, images}
use Rattle.disk_model.proofs.OtherFileLemmas.{apart_begins, apart_goes_on, apart_fails, apart_fails_still, apart_images}
use Rattle.gate_log.proofs.FilePartLemmas.{cut-can, cut-there, cut-reads, cut-keeps}
use Rattle.gate_log.proofs.repair.cut_file.Goals as goal

pub returns-in_err-cut-clause-any_moment : goal.returns-in_err-cut-clause-any_moment
returns-in_err-cut-clause-any_moment g c = λ front rest h. change_fails c.args.name _ _ _ _ _ (cut-can c.args.name _ c.args.size front rest h) c.in_err-cut.ensures.failed

pub returns-in_err-cut-clause-others_stay : goal.returns-in_err-cut-clause-others_stay
returns-in_err-cut-clause-others_stay g c = apart_fails _ _ _ _ _ (apart_begins _ _) c.in_err-cut.ensures.failed

pub sync-requires : goal.sync-requires
sync-requires g c = cut-there c.args.name _ _ c.args.size c.requires.0 c.requires.1 c.requires.2 c.in_ok-cut.ensures.state

pub returns-in_err-sync-clause-any_moment : goal.returns-in_err-sync-clause-any_moment
returns-in_err-sync-clause-any_moment g c = λ front rest h. sync_fails c.args.name _ _ _ _ _ _ (cut-can c.args.name _ c.args.size front rest h) c.in_ok-cut.ensures.state c.in_err-sync.ensures.failed

pub returns-in_err-sync-clause-others_stay : goal.returns-in_err-sync-clause-others_stay
returns-in_err-sync-clause-others_stay g c = apart_fails_still _ _ _ _ (apart_goes_on _ _ _ _ _ (apart_begins _ _) c.in_ok-cut.ensures.state) c.in_err-sync.ensures.failed

pub returns-clause-any_moment : goal.returns-clause-any_moment
returns-clause-any_moment g c = λ front rest h. images c.args.name _ _ _ _ _ _ (cut-can c.args.name _ c.args.size front rest h) c.in_ok-cut.ensures.state c.in_ok-sync.ensures.state

pub returns-clause-others_stay : goal.returns-clause-others_stay
returns-clause-others_stay g c = apart_images _ _ _ (apart_goes_on _ _ _ _ _ (apart_goes_on _ _ _ _ _ (apart_begins _ _) c.in_ok-cut.ensures.state) c.in_ok-sync.ensures.state).each

pub returns-clause-reads : goal.returns-clause-reads
returns-clause-reads g c = λ front rest h. cut-reads c.args.name _ _ _ c.args.size front rest h c.in_ok-cut.ensures.state c.in_ok-sync.ensures.state

pub returns-clause-keeps : goal.returns-clause-keeps
returns-clause-keeps g c = λ front rest h. cut-keeps c.args.name _ _ _ c.args.size front rest h c.in_ok-cut.ensures.state c.in_ok-sync.ensures.state

pub returns-clause-others : goal.returns-clause-others
returns-clause-others g c = (apart_goes_on _ _ _ _ _ (apart_goes_on _ _ _ _ _ (apart_begins _ _) c.in_ok-cut.ensures.state) c.in_ok-sync.ensures.state).same
