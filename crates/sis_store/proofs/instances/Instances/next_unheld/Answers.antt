use Rattle.std.proofs.Common.{◌==◌, ◌∙◌}
use Rattle.sis_store.proofs.IdLemmas.{next-is}
use Rattle.sis_store.proofs.instances.Instances.next_unheld.Goals as goal

pub returns : goal.returns
returns c =
    let items = c.self.inside.known.items in
    let found = rw c.deref.ensures.value at c.first_unheld.ensures in
    rw (← c.self.view_is) (found ∙ next-is (λ k. k.holders == 0) items c.args.after c.place_past.result (rw c.deref-2.ensures.value at c.place_past.ensures.before) (rw c.deref-2.ensures.value at c.place_past.ensures.behind))
