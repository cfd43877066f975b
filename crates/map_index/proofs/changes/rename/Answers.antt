use Rattle.map_index.proofs.Common.{◌<◌, ◌≤◌, List, length, ap, arith, Mailbox}
use Rattle.map_index.proofs.BoxPlaceLemmas.{renamed_at, renamed_nowhere}
use Rattle.map_index.proofs.changes.rename.Goals as goal

pub returns-then-place-len-clause-boxes : goal.returns-then-place-len-clause-boxes
returns-then-place-len-clause-boxes c =
    let place = rw c.deref.ensures.value at c.place_with_number-place.ensures in
    let long = ap (λ (bs : List Mailbox). length bs) c.deref.ensures.value in
    let within : c.place_with_number-place.result < length c.args.boxes.now.items = (let t = c.if-place-len.true in let l = c.len.ensures in let d = c.deref.ensures.len in omega (arith, t, l, d, long)) in
    renamed_at c.args.number c.args.name c.args.boxes.now.items c.place_with_number-place.result c.index_mut.result.now c.requires place within c.index_mut.ensures.value

pub returns-else-place-len-clause-boxes : goal.returns-else-place-len-clause-boxes
returns-else-place-len-clause-boxes c =
    let place = rw c.deref.ensures.value at c.place_with_number-place.ensures in
    let long = ap (λ (bs : List Mailbox). length bs) c.deref.ensures.value in
    let past : length c.args.boxes.now.items ≤ c.place_with_number-place.result = (let t = c.if-place-len.false in let l = c.len.ensures in let d = c.deref.ensures.len in omega (arith, t, l, d, long)) in
    renamed_nowhere c.args.number c.args.name c.args.boxes.now.items c.place_with_number-place.result place past
