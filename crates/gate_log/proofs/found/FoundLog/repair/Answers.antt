use Rattle.gate_log.proofs.RepairLemmas.{repairing-stands, repairing-images, repairing-others_stay, repaired-reads, repaired-holds}
use Rattle.gate_log.proofs.found.FoundLog.repair.Goals as goal

pub repair-requires-clause-stands : goal.repair-requires-clause-stands
repair-requires-clause-stands g c = repairing-stands _ c.args.self _ c.self.view_is c.requires.stands

pub returns-in_err-repair-clause-any_moment : goal.returns-in_err-repair-clause-any_moment
returns-in_err-repair-clause-any_moment g c = λ entries h. repairing-images _ c.args.self entries _ _ c.self.view_is c.in_err-repair.ensures.any_moment h

pub returns-in_err-repair-clause-others_stay : goal.returns-in_err-repair-clause-others_stay
returns-in_err-repair-clause-others_stay g c = repairing-others_stay _ c.args.self _ _ c.self.view_is c.in_err-repair.ensures.others_stay

pub returns-clause-any_moment : goal.returns-clause-any_moment
returns-clause-any_moment g c = λ entries h. repairing-images _ c.args.self entries _ _ c.self.view_is c.in_ok-repair.ensures.any_moment h

pub returns-clause-reads : goal.returns-clause-reads
returns-clause-reads g c = λ entries h. repaired-reads _ c.args.self _ entries _ _ c.self.view_is c.at_rest.ensures c.in_ok-repair.ensures.others c.in_ok-repair.ensures.reads h

pub returns-clause-holds : goal.returns-clause-holds
returns-clause-holds g c = λ entries h.
    repaired-holds _ c.args.self _ entries _ _ c.self.view_is c.at_rest.ensures c.in_ok-repair.ensures.others c.in_ok-repair.ensures.reads c.in_ok-repair.ensures.keeps h
