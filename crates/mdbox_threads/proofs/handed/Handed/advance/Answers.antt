use Rattle.std.proofs.Common.{◌≤◌, ◌<◌, length, subst, sym}
use Rattle.lanes.specs.Worlds.{world_left}
use Rattle.mdbox_threads.proofs.HandedLemmas.{advanced, comes_on}
use Rattle.mdbox_threads.proofs.handed.Handed.advance.Goals as goal

pub advance-requires : goal.advance-requires
advance-requires g c =
    let came = c.self.invariant in
    let k = c.turns_go_on.ensures.keeps came.turns c.self.inside.first.value c.self.inside.world came.goes in
    let most = subst (λ h. c.args.lane ≤ length h.first.rows) (sym c.self.view_is) c.requires.lane.1 in
    record { lane = (c.requires.lane.0, subst (λ n. c.args.lane ≤ n) (sym k.lanes) most) }

pub invariant_of-self : goal.invariant_of-self
invariant_of-self g c =
    let e = c.advance.ensures in
    comes_on g.D.Disk.history g.D.Disk.faults c.args.lane c.advance.result c.self.inside.first.value c.self.inside.world c.advance.new.self c.self.invariant c.requires.lane.0 e.worked e.idle e.none

pub returns-clause-turned : goal.returns-clause-turned
returns-clause-turned g c =
    let came = c.self.invariant in
    let k = c.turns_go_on.ensures.keeps came.turns c.self.inside.first.value c.self.inside.world came.goes in
    let e = c.advance.ensures in
    advanced c.args.lane c.advance.result c.self.inside.world c.advance.new.self c.self.inside.first.value c.args.self.now c.self.view_is k.room (λ is. (e.worked is).1) (λ is. (e.idle is).1) e.none

pub returns-clause-left : goal.returns-clause-left
returns-clause-left g c = λ is. subst (λ h. world_left c.advance.new.self < world_left h.world) c.self.view_is (c.advance.ensures.left is)
