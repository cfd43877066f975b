use Rattle.store_core.proofs.Common.{◌-◌, ℕ, slice_set, sym, ◌∙◌, ap}
use Rattle.store_core.proofs.DueChangeLemmas.{found_place, lost_place, own_number}
use Rattle.store_core.proofs.due.lower_due.Goals as goal

pub returns-in-Some : goal.returns-in-Some
returns-in-Some c =
    let found = found_place c.args.uid.0 (λ n. n - 1) c.args.map.now.meaning c.args.dues.now.items c.in-Some.place c.requires.size c.in-Some.ensures.place in
    ap (slice_set c.args.dues.now.items c.in-Some.place) (c.saturating_sub.ensures ∙ ap (λ (n : ℕ). n - 1) (own_number c.args.dues.now.items c.in-Some.place c.index-due.result.now found.0 c.index-due.ensures)) ∙ sym found.1

pub returns-in_default : goal.returns-in_default
returns-in_default c = sym (lost_place c.args.uid.0 (λ n. n - 1) c.args.map.now.meaning c.args.dues.now.items c.in_default.ensures.place)
