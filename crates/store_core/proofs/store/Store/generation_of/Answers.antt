use Rattle.store_core.proofs.Common.{◌<◌, List, OpenBox, ap, arith, length, subst}
use Rattle.store_core.proofs.BoxAppendLemmas.{store_sound}
use Rattle.store_core.proofs.LookupLemmas.{as_many_logs, generation_at, generation_none, some_box}
use Rattle.store_core.proofs.store.Store.generation_of.Goals as goal

pub returns-in_err-place : goal.returns-in_err-place
returns-in_err-place g c =
    generation_none c.args.number.0 _ c.self.inside.map.meaning c.args.self.now.map c.self.inside.boxes.items c.deref.result.now c.from_residual.result c.self.invariant.1.box_logs (ap (λ v. v.map) c.self.view_is) c.deref.ensures.value c.in_err-place.ensures.none c.from_residual.ensures

pub overflow_cast-place : goal.overflow_cast-place
overflow_cast-place g c =
    let sound = store_sound _ _ c.self.invariant.1 in
    let few = sound.room in
    let many = as_many_logs _ c.self.inside.map.meaning.boxes c.self.inside.boxes.items c.self.invariant.1.box_logs in
    let same = c.deref.ensures.len in
    let below = c.in_ok-place.ensures.some.0 in
    omega (arith, few, many, same, below)

pub returns-in_err-at : goal.returns-in_err-at
returns-in_err-at g c = absurd (some_box c.in_ok-place.place _ c.self.inside.map.meaning.boxes c.self.inside.boxes.items c.self.invariant.1.box_logs (subst (λ (os : List OpenBox). c.in_ok-place.place < length os) c.deref.ensures.value c.in_ok-place.ensures.some.0) c.in_err-at.ensures)

pub returns : goal.returns
returns g c =
    let sound = store_sound _ _ c.self.invariant.1 in
    generation_at c.args.number.0 c.in_ok-place.place _ c.self.inside.map.meaning c.args.self.now.map c.self.inside.boxes.items c.deref.result.now c.in_ok-at.at c.self.invariant.1.box_logs sound.boxes_rising (ap (λ v. v.map) c.self.view_is) c.deref.ensures.value c.in_ok-place.ensures.some c.in_ok-at.ensures
