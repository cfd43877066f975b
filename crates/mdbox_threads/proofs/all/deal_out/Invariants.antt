use Rattle.std.proofs.Common.{◌≡◌, All, drop, map, take}
use Rattle.std.specs.Vec.Iter.{into_iter_items}
use Rattle.lanes.specs.Worlds.{AreGiven}
use Rattle.mdbox_threads.specs.Jobs.{IsDoneOf, places_from}
use Rattle.mdbox_threads.specs.declared.job.Job.{Job}
use Rattle.mdbox_threads.proofs.all.deal_out.Given as goal

-- the requests so far are given theirs, and the jobs that are left are those of the deliveries after them
abbrev pub invariant-loop-request : goal.invariant-loop-request
invariant-loop-request l =
    AreGiven (take l.request-index l.requests) l.given
    × (map (λ (job : Job). job.place) (into_iter_items l.jobs) ≡ places_from l.request-index (drop l.request-index l.requests))
    × All (IsDoneOf l.requests) (into_iter_items l.jobs)
