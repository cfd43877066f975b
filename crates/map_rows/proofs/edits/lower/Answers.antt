use Rattle.map_rows.proofs.Common.{◌<◌, ◌≤◌, ◌-◌, ◌∷◌, [], List, ℕ, length, ap, arith, record_changed, Record}
use Rattle.mdbox_base.specs.declared.entries.MapEntry.TheVariants as entry
use Rattle.map_rows.proofs.EditLemmas.{count_at, changed_nowhere, lowers_only, lowered}
use Rattle.map_rows.proofs.edits.lower.Goals as goal

pub returns-then-place-len-clause-records : goal.returns-then-place-len-clause-records
returns-then-place-len-clause-records c =
    let place = rw c.deref.ensures.value at c.place_with_uid-place.ensures in
    let long = ap (λ (rs : List Record). length rs) c.deref.ensures.value in
    let within : c.place_with_uid-place.result < length c.args.records.now.items = (let t = c.if-place-len.true in let l = c.len.ensures in let d = c.deref.ensures.len in omega (arith, t, l, d, long)) in
    count_at (record_changed (entry.D (c.args.uid ∷ []))) (λ (n : ℕ). n - 1) c.args.uid.0 c.args.records.now.items c.place_with_uid-place.result c.index.result.now c.index_mut.result.now _ (lowers_only c.args.uid) (lowered c.args.uid) c.requires place within c.index.ensures c.index_mut.ensures.value
    (let s = c.saturating_sub.ensures in omega (arith, s))

pub returns-else-place-len-clause-records : goal.returns-else-place-len-clause-records
returns-else-place-len-clause-records c =
    let place = rw c.deref.ensures.value at c.place_with_uid-place.ensures in
    let long = ap (λ (rs : List Record). length rs) c.deref.ensures.value in
    let past : length c.args.records.now.items ≤ c.place_with_uid-place.result = (let t = c.if-place-len.false in let l = c.len.ensures in let d = c.deref.ensures.len in omega (arith, t, l, d, long)) in
    changed_nowhere (record_changed (entry.D (c.args.uid ∷ []))) c.args.uid.0 c.args.records.now.items c.place_with_uid-place.result (lowers_only c.args.uid) place past
