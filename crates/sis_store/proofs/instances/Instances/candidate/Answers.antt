use Rattle.sis_store.proofs.KeysLemmas.{candidate_found}
use Rattle.sis_store.proofs.instances.Instances.candidate.Goals as goal

pub returns : goal.returns
returns c =
    rw (← c.self.view_is)
    (candidate_found c.args.hash c.args.size c.args.after c.self.inside.keys.items c.self.inside.known.items c.first_past.result c.self.invariant.0.rising c.self.invariant.1 (rw c.deref.ensures.value at c.first_past.ensures.some) (rw c.deref.ensures.value at c.first_past.ensures.none))
