use Rattle.std.proofs.Common.{◌≡◌, Some, sym, ap, ◌∙◌}
use Rattle.sis_store.specs.Instances.{instance_in}
use Rattle.sis_store.proofs.KeysLemmas.{key_there, found-among, keys-less, kept-without}
use Rattle.sis_store.proofs.instances.Instances.forget.Goals as goal

pub remove_key-requires-clause-there : goal.remove_key-requires-clause-there
remove_key-requires-clause-there c =
    let items = c.self.inside.known.items in
    let is : instance_in c.args.id items ≡ Some c.in-Some.k = sym (c.in-Some.ensures ∙ ap (instance_in c.args.id) c.deref.ensures.value) in
    rw c.hash_key.ensures (key_there c.self.inside.keys.items items c.in-Some.k c.self.invariant.1 (found-among c.args.id items c.in-Some.k is).0)

pub invariant_of-self : goal.invariant_of-self
invariant_of-self c =
    let items = c.self.inside.known.items in
    let is : instance_in c.args.id items ≡ Some c.in-Some.k = sym (c.in-Some.ensures ∙ ap (instance_in c.args.id) c.deref.ensures.value) in (
      rw c.leave_out.ensures.items (kept-without (record { known = items; store = c.self.inside.store; highest = c.self.inside.highest }) c.args.id c.self.invariant.0),
      keys-less c.self.inside.keys.items c.remove_key.new.keys.items items c.leave_out.new.known.items c.hash_key.result c.in-Some.k c.self.invariant.1 c.remove_key.ensures.order c.remove_key.ensures.same (λ g. c.leave_out.ensures.same c.in-Some.k g is) c.hash_key.ensures,
    )
