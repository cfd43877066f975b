use Rattle.std.proofs.Common.{◌≡◌, true, not, ◌∙◌, ap}
use Rattle.std.specs.Result.{is_ok}
use Rattle.lanes.proofs.SoundLemmas.{not_idle, row_read}
use Rattle.lanes.proofs.TraceLemmas.{idle_turn, lane_turn}
use Rattle.lanes.proofs.world.World.advance.Goals as goal

pub returns-then-idle-clause-idle : goal.returns-then-idle-clause-idle
returns-then-idle-clause-idle g c = λ is.
    let there = row_read _ _ c.args.lane c.index.result.now c.self.view_is c.requires.lane c.index.ensures in
    let ok : is_ok c.push.result ≡ true = c.is_err.ensures.negation ∙ ap not c.if-is_err.false in
    let none = c.is_idle-idle.ensures.idle c.if-idle.true in
    let turns_are = rw (ok, c.if-idle.true) at c.push.ensures.items in
    idle_turn c.args.lane _ c.args.self.now c.push.new.self.items c.self.view_is turns_are (c.index.result.now, there, none.0, none.1)

pub work-requires-clause-busy : goal.work-requires-clause-busy
work-requires-clause-busy g c =
    let there = row_read _ _ c.args.lane c.index.result.now c.self.view_is c.requires.lane c.index.ensures in
    not_idle c.args.lane c.self.inside.lanes.items c.index.result.now there (c.is_idle-idle.ensures.busy c.if-idle.false)

pub returns-clause-worked : goal.returns-clause-worked
returns-clause-worked g c = λ is.
    let ok : is_ok c.push.result ≡ true = c.is_err.ensures.negation ∙ ap not c.if-is_err.false in
    let turns_are = rw (ok, c.if-idle.false) at c.push.ensures.items in
    lane_turn g.D.Disk.history g.D.Disk.faults c.args.lane _ c.args.self.now c.work.new.self c.push.new.self.items c.self.view_is turns_are c.requires.lane.0 c.self.invariant.0 c.work.ensures.works
