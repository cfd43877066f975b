use Rattle.std.proofs.Common.{[], sym, subst}
use Rattle.lanes.specs.Worlds.{IsSoundWorld}
use Rattle.mdbox_threads.proofs.handed.Handed.of.Goals as goal

pub invariant_of-result : goal.invariant_of-result
invariant_of-result g c = record { sound = subst (λ w. IsSoundWorld (g.D.Disk.history w.store.disk) w) (sym c.of-first.ensures) c.known_facts.ensures; turns = []; goes = sym c.of-first.ensures }
