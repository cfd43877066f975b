use Rattle.std.proofs.Common.{◌∙◌, ap}
use Rattle.mdbox_threads.proofs.TraceLemmas.{advanced_grows, grown_along, last_alone}
use Rattle.mdbox_threads.proofs.alone.run_lane.Goals as goal

pub lane-preserved : goal.lane-preserved
lane-preserved g c =
    let i = c.lane.invariant in
    let s = c.advance.ensures.same in
    ((s.0 ∙ i.0.0, s.1 ∙ i.0.1), grown_along _ _ _ i.1 (advanced_grows c.args.lane c.advance.result c.lane.handed c.advance.new.self c.advance.ensures.turned))

pub returns-in-Idle : goal.returns-in-Idle
returns-in-Idle g c =
    let i = c.lane.invariant in
    let s = c.advance.ensures.same in
    record {
      same = (s.0 ∙ i.0.0, s.1 ∙ i.0.1);
      trace = grown_along _ _ _ i.1 (advanced_grows c.args.lane c.advance.result c.lane.handed c.advance.new.self c.advance.ensures.turned);
      done = last_alone _ _ c.advance.result c.lane.handed c.advance.new.self c.in-Idle.is (ap (λ w. w.turn_room) i.0.0) c.advance.ensures.turned;
    }
