use Rattle.disk_model.proofs.OtherFileLemmas.{Apart, apart_begins, apart_goes_on, apart_fails_still, apart_images}
use Rattle.gate_log.proofs.DraftLemmas.{settled}
use Rattle.gate_log.proofs.log.GateLog.settle.Given.{Over}
use Rattle.gate_log.proofs.log.GateLog.settle.Goals.{In_ok-sync}
use Rattle.gate_log.specs.contracts.log.GateLog.{the_view}
use Rattle.gate_log.proofs.log.GateLog.settle.Goals as goal

apart : (g : Over) (c : In_ok-sync g) → Apart (the_view c.self.inside).name (g.D.Disk.history c.args.disk.now) (g.D.Disk.history c.sync.new.self)
apart g c = apart_goes_on _ _ _ _ _ (apart_begins _ _) c.in_ok-sync.ensures.state

pub returns-in_err-sync-clause-others_stay : goal.returns-in_err-sync-clause-others_stay
returns-in_err-sync-clause-others_stay g c = apart_fails_still _ _ _ _ (apart_begins _ _) c.in_err-sync.ensures.failed

pub returns-clause-others_stay : goal.returns-clause-others_stay
returns-clause-others_stay g c = rw (← c.self.view_is) (apart_images _ _ _ (apart g (goal.at.returns-clause-others_stay g c).In_ok-sync).each)

pub returns-clause-held : goal.returns-clause-held
returns-clause-held g c = rw (← c.self.view_is) (λ entries h. settled (the_view c.self.inside) entries _ _ h c.in_ok-sync.ensures.state)

pub returns-clause-others : goal.returns-clause-others
returns-clause-others g c = rw (← c.self.view_is) (apart g (goal.at.returns-clause-others g c).In_ok-sync).same
