use Rattle.std.proofs.Common.{◌++◌, ◌∷◌, [], ◌-◌, refl, sym, subst}
use Rattle.lanes.specs.Asked.{GoesWith, events_of}
use Rattle.lanes.specs.Worlds.{WorldValue}
use Rattle.lanes.proofs.WithLemmas.{events_more}
use Rattle.lanes.proofs.LeftLemmas.{left_falls}
use Rattle.lanes.proofs.world.World.answer_all.Goals as goal

pub loop-lane-init : goal.loop-lane-init
loop-lane-init g c = record { lanes = []; goes = refl }

pub loop-lane-preserved : goal.loop-lane-preserved
loop-lane-preserved g c =
    let i = c.loop-lane.invariant in
    let worked = c.in-Worked.ensures.worked refl in record {
      lanes = i.lanes ++ c.in-Some.lane ∷ [];
      goes = events_more g.D.Disk.history g.D.Disk.faults i.lanes c.in-Some.lane c.args.self.now c.loop-lane.self c.advance.new.self i.goes (c.in-Some.ensures.some.is_lane.0, worked.0, worked.1);
    }

pub loop-lane-smaller : goal.loop-lane-smaller
loop-lane-smaller g c =
    let worked = c.in-Worked.ensures.worked refl in
    left_falls (c.in-Some.lane - 1) c.loop-lane.self (record c.advance.new.self { turns = c.loop-lane.self.turns }) _ _ _ _ worked.0.works c.known_facts.ensures

pub returns-in-NoMemory-clause-goes : goal.returns-in-NoMemory-clause-goes
returns-in-NoMemory-clause-goes g c =
    let i = c.loop-lane.invariant in
    let none = c.in-NoMemory.ensures.none refl in
    (i.lanes, subst (λ (w : WorldValue _). GoesWith g.D.Disk.history g.D.Disk.faults (events_of i.lanes) c.args.self.now w) (sym none.1) i.goes)

pub returns-clause-goes : goal.returns-clause-goes
returns-clause-goes g c = let i = c.loop-lane.invariant in (i.lanes, i.goes)
