use Rattle.map_rows.proofs.Common.{◌<◌, ◌≤◌, ◌-◌, ◌∷◌, [], List, ℕ, length, ap, arith, lowered_by, Record}
use Rattle.map_rows.proofs.EditLemmas.{count_at, changed_nowhere, lowers_by_only, lowered_count}
use Rattle.map_rows.proofs.edits.lower_by.Goals as goal

pub returns-then-place-len-clause-records : goal.returns-then-place-len-clause-records
returns-then-place-len-clause-records c =
    let place = rw c.deref.ensures.value at c.place_with_uid-place.ensures in
    let long = ap (λ (rs : List Record). length rs) c.deref.ensures.value in
    let within : c.place_with_uid-place.result < length c.args.records.now.items = (let t = c.if-place-len.true in let l = c.len.ensures in let d = c.deref.ensures.len in omega (arith, t, l, d, long)) in
    count_at (lowered_by (c.args.given ∷ [])) (λ (n : ℕ). n - c.args.given.count) c.args.given.uid.0 c.args.records.now.items c.place_with_uid-place.result c.index.result.now c.index_mut.result.now _ (lowers_by_only c.args.given) (lowered_count c.args.given) c.requires place within c.index.ensures c.index_mut.ensures.value
    (let s = c.saturating_sub.ensures in omega (arith, s))

pub returns-else-place-len-clause-records : goal.returns-else-place-len-clause-records
returns-else-place-len-clause-records c =
    let place = rw c.deref.ensures.value at c.place_with_uid-place.ensures in
    let long = ap (λ (rs : List Record). length rs) c.deref.ensures.value in
    let past : length c.args.records.now.items ≤ c.place_with_uid-place.result = (let t = c.if-place-len.false in let l = c.len.ensures in let d = c.deref.ensures.len in omega (arith, t, l, d, long)) in
    changed_nowhere (lowered_by (c.args.given ∷ [])) c.args.given.uid.0 c.args.records.now.items c.place_with_uid-place.result (lowers_by_only c.args.given) place past
