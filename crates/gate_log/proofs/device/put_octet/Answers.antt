use Rattle.std.proofs.Common.{arith}
use Rattle.disk_model.proofs.ChangeAndSyncLemmas.{change_fails, sync_fails, images}
use Rattle.disk_model.proofs.OtherFileLemmas.{apart_begins, apart_goes_on, apart_fails, apart_fails_still, apart_images}
use Rattle.gate_log.proofs.FilePartLemmas.{one-can, one-there, one-reads, one-keeps}
use Rattle.gate_log.proofs.device.put_octet.Goals as goal

pub returns-in_err-write_at-clause-any_moment : goal.returns-in_err-write_at-clause-any_moment
returns-in_err-write_at-clause-any_moment g c = λ front before rest h. change_fails c.args.name _ _ _ _ _ (one-can c.args.name _ c.args.size front rest before c.args.octet (omega (arith, c.ranges.octet)) h) c.in_err-write_at.ensures.failed

pub returns-in_err-write_at-clause-others_stay : goal.returns-in_err-write_at-clause-others_stay
returns-in_err-write_at-clause-others_stay g c = apart_fails _ _ _ _ _ (apart_begins _ _) c.in_err-write_at.ensures.failed

pub sync-requires : goal.sync-requires
sync-requires g c = one-there c.args.name _ _ c.args.size c.requires.0 c.requires.2 c.requires.1 c.args.octet c.requires.3 c.in_ok-write_at.ensures.state

pub returns-in_err-sync-clause-any_moment : goal.returns-in_err-sync-clause-any_moment
returns-in_err-sync-clause-any_moment g c = λ front before rest h. sync_fails c.args.name _ _ _ _ _ _ (one-can c.args.name _ c.args.size front rest before c.args.octet (omega (arith, c.ranges.octet)) h) c.in_ok-write_at.ensures.state c.in_err-sync.ensures.failed

pub returns-in_err-sync-clause-others_stay : goal.returns-in_err-sync-clause-others_stay
returns-in_err-sync-clause-others_stay g c = apart_fails_still _ _ _ _ (apart_goes_on _ _ _ _ _ (apart_begins _ _) c.in_ok-write_at.ensures.state) c.in_err-sync.ensures.failed

pub returns-clause-any_moment : goal.returns-clause-any_moment
returns-clause-any_moment g c = λ front before rest h. images c.args.name _ _ _ _ _ _ (one-can c.args.name _ c.args.size front rest before c.args.octet (omega (arith, c.ranges.octet)) h) c.in_ok-write_at.ensures.state c.in_ok-sync.ensures.state

pub returns-clause-others_stay : goal.returns-clause-others_stay
returns-clause-others_stay g c = apart_images _ _ _ (apart_goes_on _ _ _ _ _ (apart_goes_on _ _ _ _ _ (apart_begins _ _) c.in_ok-write_at.ensures.state) c.in_ok-sync.ensures.state).each

pub returns-clause-reads : goal.returns-clause-reads
returns-clause-reads g c = λ front before rest h. one-reads c.args.name _ _ _ c.args.size front rest before c.args.octet h c.in_ok-write_at.ensures.state c.in_ok-sync.ensures.state

pub returns-clause-keeps : goal.returns-clause-keeps
returns-clause-keeps g c = λ front before rest h. one-keeps c.args.name _ _ _ c.args.size front rest before c.args.octet (omega (arith, c.ranges.octet)) h c.in_ok-write_at.ensures.state c.in_ok-sync.ensures.state

pub returns-clause-others : goal.returns-clause-others
returns-clause-others g c = (apart_goes_on _ _ _ _ _ (apart_goes_on _ _ _ _ _ (apart_begins _ _) c.in_ok-write_at.ensures.state) c.in_ok-sync.ensures.state).same
