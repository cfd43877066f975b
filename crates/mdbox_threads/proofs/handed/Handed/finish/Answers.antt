use Rattle.std.proofs.Common.{subst}
use Rattle.lanes.specs.Turned.{HasRun}
use Rattle.mdbox_threads.proofs.handed.Handed.finish.Goals as goal

pub returns : goal.returns
returns g c =
    let H = g.D.Disk.history in
    let F = g.D.Disk.faults in
    let came = c.self.invariant in
    let k = c.turns_go_on.ensures.traces came.turns c.self.inside.first.value c.self.inside.world came.goes in
    let e = c.finish.ensures in
    subst (λ h. HasRun H F h.first h.world.turns c.finish.new.self) c.self.view_is
    (record { mid = c.self.inside.world; came = came; lanes = e.goes.0; ends = e.goes.1; trace_is = k.0; traced = e.same.1; finished = e.same.0; idle = e.idle })
