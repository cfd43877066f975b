use Rattle.std.proofs.Common.{◌-◌, List, ap, ◌∙◌}
use Rattle.sis_store.specs.declared.instance.KnownInstance.{KnownInstance}
use Rattle.sis_store.specs.Instances.{with_holders}
use Rattle.sis_store.proofs.KeysLemmas.{lent-back, held-kept, held-keys}
use Rattle.sis_store.proofs.instances.Instances.let_go.Goals as goal

pub invariant_of-self : goal.invariant_of-self
invariant_of-self c =
    let items = c.self.inside.known.items in
    let holders = c.holders_in-holders.result - 1 in
    let written = lent-back items c.set_holders.new.known c.self.inside.known.len (c.set_holders.auto.known ∙ c.deref_mut.ensures.len) ∙ c.set_holders.ensures ∙ ap (λ (ks : List KnownInstance). with_holders c.args.id holders ks) c.deref_mut.ensures.value in
    rw written (held-kept (record { known = items; store = c.self.inside.store; highest = c.self.inside.highest }) c.args.id holders c.self.invariant.0, held-keys c.self.inside.keys.items items c.args.id holders c.self.invariant.1)
