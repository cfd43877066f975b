use Rattle.std.proofs.Common.{◌<◌, ◌≤◌, ◌-◌, vec_len, vec_capacity}
use Rattle.turn_lock.proofs.DealLemmas.{Dealt}
use Rattle.turn_lock.proofs.make.make_lock.Given as goal

abbrev pub invariant-deal : goal.invariant-deal
invariant-deal g l =
    Dealt (record { charter = g.W.Charter.charter; trace = g.W.Charter.trace; finished = g.W.Charter.finished }) l.fn.world l.table.shared.table_id l.dealt.items l.first
    × (vec_len l.dealt < l.seats) × (l.seats ≤ vec_capacity l.dealt)

abbrev pub decreases-deal : goal.decreases-deal
decreases-deal g l = l.seats - vec_len l.dealt
