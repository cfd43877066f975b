use Rattle.std.proofs.Common.{◌∙◌, ◌+◌, ap, rules, subst, true}
use Rattle.lanes.specs.Worlds.{turn_of}
use Rattle.mdbox_threads.specs.Traces.{HasMarkOrIsFull}
use Rattle.mdbox_threads.proofs.TraceLemmas.{one_lane_more}
use Rattle.mdbox_threads.proofs.alone.run_alone.Goals as goal

pub loop-at-preserved : goal.loop-at-preserved
loop-at-preserved g c =
    let i = c.loop-at.invariant in let r = c.run_lane.ensures in
    ((r.same.0 ∙ i.0.0, r.same.1 ∙ i.0.1), one_lane_more _ _ _ _ r.trace i.1 (subst (λ n. HasMarkOrIsFull (turn_of (c.loop-at.at + 1) true) n c.run_lane.new.handed.world.turns) (ap (λ w. w.turn_room) i.0.0) r.done))

pub returns-clause-done : goal.returns-clause-done
returns-clause-done g c = λ lane some most. c.loop-at.invariant.1 lane some (search rules)
