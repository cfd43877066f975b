use Rattle.std.specs.Prelude.{◌≡◌, false}
use Rattle.std.proofs.Common.{rules}
use Rattle.tests.proofs.BesideLemmas.{done_beside, more_beside}
use Rattle.tests.proofs.tasks.turn.advance.Goals as goal

pub returns-in-Done : goal.returns-in-Done
returns-in-Done c runs =
    let began : c.args.store.now.stopped ≡ false = search rules in
    done_beside c.args.one.now c.args.other.now c.step.new.self c.in-Done.reply c.step.new.self.did c.args.store.now c.step.new.store _ _ (c.requires began) (c.in-Done.ensures.saves began) runs

pub returns-in_default : goal.returns-in_default
returns-in_default c runs =
    let began : c.args.store.now.stopped ≡ false = search rules in
    more_beside c.args.one.now c.args.other.now c.step.new.self c.step.result c.step.new.self.did c.args.store.now c.step.new.store _ _ c.in_default.is c.step.ensures.request (c.requires began) (c.step.ensures.saves began) runs
