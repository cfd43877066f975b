use Rattle.std.proofs.Common.{◌≤◌, length, subst, sym}
use Rattle.mdbox_threads.proofs.handed.Handed.replied.Goals as goal

pub replied-requires : goal.replied-requires
replied-requires g c =
    let came = c.self.invariant in
    let k = c.turns_go_on.ensures.keeps came.turns c.self.inside.first.value c.self.inside.world came.goes in
    let most = subst (λ h. c.args.lane ≤ length h.first.rows) (sym c.self.view_is) c.requires.lane.1 in
    record { lane = (c.requires.lane.0, subst (λ n. c.args.lane ≤ n) (sym k.lanes) most) }
