use Rattle.std.proofs.Common.{List, Ok, Err, sym, ap, ◌+◌, ◌∙◌}
use Rattle.std.specs.Prelude.{sum_by}
use Rattle.sis_store.specs.declared.instance.HashKey.{HashKey}
use Rattle.sis_store.proofs.HashLemmas.{searched_keys, sums_remove, not_absent}
use Rattle.sis_store.proofs.hashes.remove_key.Goals as goal

pub returns-in-Ok-clause-same : goal.returns-in-Ok-clause-same
returns-in-Ok-clause-same c = λ f.
    let s = searched_keys c.args.keys.now.items c.args.key c.requires.order (Ok c.in-Ok.place) (rw c.deref.ensures.value at c.in-Ok.ensures.bound) (rw c.deref.ensures.value at c.in-Ok.ensures.position) in
    sums_remove f c.args.keys.now.items c.in-Ok.place c.args.key s.found.within (s.found.is c.args.key) ∙ ap (λ (xs : List HashKey). f c.args.key + sum_by f xs) (sym c.remove.ensures.items)

pub returns-in_default-clause-same : goal.returns-in_default-clause-same
returns-in_default-clause-same c = λ f.
    let s = searched_keys c.args.keys.now.items c.args.key c.requires.order (Err c.in_default.field-0) (rw c.deref.ensures.value at c.in_default.ensures.bound) (rw c.deref.ensures.value at c.in_default.ensures.position) in
    absurd (not_absent c.args.keys.now.items c.args.key c.in_default.field-0 s.absent c.requires.there)
