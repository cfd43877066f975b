use Rattle.map_rows.proofs.Common.{AllPairs, ◌<◌, ◌≤◌, List, length, ap, sym, subst, arith, MapRecord, Record, meant_record, TableValue}
use Rattle.map_rows.proofs.SearchLemmas.{pairs_unmap, place_found, place_missing}
use Rattle.map_rows.proofs.table.Table.place_of.Goals as goal

pub returns-then-place-len : goal.returns-then-place-len
returns-then-place-len c =
    let within : c.place_with_uid-place.result < length c.deref.result.now = (let t = c.if-place-len.true in let l = c.len.ensures in let d = c.deref.ensures.len in omega (arith, t, l, d)) in
    let found = place_found c.args.uid.0 c.deref.result.now c.self.inside.records.items c.args.self.now.records c.place_with_uid-place.result c.place_with_uid-place.ensures c.deref.ensures.value (ap (λ (v : TableValue). v.records) c.self.view_is) within in
    record { place = found.0; there = found.1 }

pub returns-else-place-len : goal.returns-else-place-len
returns-else-place-len c =
    let past : length c.deref.result.now ≤ c.place_with_uid-place.result = (let t = c.if-place-len.false in let l = c.len.ensures in let d = c.deref.ensures.len in omega (arith, t, l, d)) in
    let missing = place_missing c.args.uid.0 c.deref.result.now c.self.inside.records.items c.args.self.now.records c.place_with_uid-place.result c.place_with_uid-place.ensures c.deref.ensures.value (ap (λ (v : TableValue). v.records) c.self.view_is) past in
    record { place = missing.0; there = missing.1 }

pub place_with_uid-place-requires : goal.place_with_uid-place-requires
place_with_uid-place-requires c =
    subst (λ (rs : List Record). AllPairs (λ a b. a.row.uid.0 < b.row.uid.0) rs) (sym c.deref.ensures.value)
    (pairs_unmap (λ (a b : MapRecord). a.uid < b.uid) meant_record c.self.inside.records.items c.self.invariant.0.kept.rising)
