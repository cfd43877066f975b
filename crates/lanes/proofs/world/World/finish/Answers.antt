use Rattle.std.proofs.Common.{◌++◌, ◌∷◌, [], ℕ, refl, sym, ◌∙◌, subst}
use Rattle.lanes.specs.Worlds.{GoesInRounds, IsNextBusy, WorldValue}
use Rattle.lanes.proofs.RoundLemmas.{last_more, rounds_more}
use Rattle.lanes.proofs.TraceLemmas.{as_finished, finishing}
use Rattle.lanes.proofs.world.World.finish.Goals as goal

pub loop-lane-init : goal.loop-lane-init
loop-lane-init g c = record { lanes = []; goes = (refl, refl, refl); last = refl; turns = refl }

-- it is a lane, and has a request left
pub work-requires-clause-lane : goal.work-requires-clause-lane
work-requires-clause-lane g c = c.in-Some.ensures.some.is_lane

pub work-requires-clause-busy : goal.work-requires-clause-busy
work-requires-clause-busy g c = c.in-Some.ensures.some.busy

pub loop-lane-preserved : goal.loop-lane-preserved
loop-lane-preserved g c =
    let i = c.loop-lane.invariant in
    let busy = c.in-Some.ensures.some in
    let e = finishing c.in-Some.lane c.loop-lane.self c.work.new.self _ _ _ _ busy.is_lane.0 c.work.ensures.works c.known_facts.ensures.clock c.known_facts.ensures.short in record {
      lanes = i.lanes ++ c.in-Some.lane ∷ [];
      goes = rounds_more 0 c.in-Some.lane i.lanes (as_finished c.args.self.now) (as_finished c.loop-lane.self) (as_finished c.work.new.self) _ _ _ _ _ _ i.goes (subst (λ (n : ℕ). IsNextBusy n c.in-Some.lane c.loop-lane.self.rows) i.last busy) e.0 e.1;
      last = sym (last_more 0 c.in-Some.lane i.lanes);
      turns = e.1 ∙ i.turns;
    }

pub returns-clause-goes : goal.returns-clause-goes
returns-clause-goes g c =
    let i = c.loop-lane.invariant in
    let H = g.D.Disk.history in
    let F = g.D.Disk.faults in (
      i.lanes,
      subst (λ (v : WorldValue _). GoesInRounds 0 i.lanes (as_finished c.args.self.now) (as_finished v) (H c.args.self.now.store.disk) (H v.store.disk) (F c.args.self.now.store.disk) (F v.store.disk)) (sym c.self.view_is) i.goes,
    )
