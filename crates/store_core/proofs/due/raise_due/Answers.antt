use Rattle.store_core.proofs.Common.{◌+◌, ℕ, slice_set, sym, ◌∙◌, ap, arith}
use Rattle.store_core.proofs.DueChangeLemmas.{found_place, lost_place, own_number}
use Rattle.store_core.proofs.due.raise_due.Goals as goal

pub overflow_add-index_mut : goal.overflow_add-index_mut
overflow_add-index_mut c =
    let found = found_place c.args.uid.0 (λ n. n + 1) c.args.map.now.meaning c.args.dues.now.items c.in-Some.place c.requires.size c.in-Some.ensures.place in
    let here = own_number c.args.dues.now.items c.in-Some.place c.index_mut.result.now found.0 c.index_mut.ensures.value in
    let same = found.2 in
    omega (arith, here, same, c.requires.room)

pub returns-in-Some : goal.returns-in-Some
returns-in-Some c =
    let found = found_place c.args.uid.0 (λ n. n + 1) c.args.map.now.meaning c.args.dues.now.items c.in-Some.place c.requires.size c.in-Some.ensures.place in
    ap (λ (n : ℕ). slice_set c.args.dues.now.items c.in-Some.place (n + 1)) (own_number c.args.dues.now.items c.in-Some.place c.index_mut.result.now found.0 c.index_mut.ensures.value) ∙ sym found.1

pub returns-in_default : goal.returns-in_default
returns-in_default c = sym (lost_place c.args.uid.0 (λ n. n + 1) c.args.map.now.meaning c.args.dues.now.items c.in_default.ensures.place)
