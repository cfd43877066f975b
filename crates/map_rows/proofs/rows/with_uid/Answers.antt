use Rattle.map_rows.proofs.Common.{◌≡◌, ◌==◌, ◌∙◌, find, sym, ap, slice_get, Some, find_at, slice_get_past, Record}
use Rattle.std.proofs.lemmas.Option.{slice_get-get_or}
use Rattle.map_rows.proofs.rows.with_uid.Goals as goal

pub returns-then-place-records : goal.returns-then-place-records
returns-then-place-records c =
    let found : slice_get c.args.records.now c.place_with_uid-place.result ≡ find (λ (r : Record). r.row.uid.0 == c.args.uid.0) c.args.records.now =
    ap (slice_get c.args.records.now) c.place_with_uid-place.ensures ∙ sym (find_at (λ (r : Record). r.row.uid.0 == c.args.uid.0) c.args.records.now) in
    ap Some c.index-records-place.is ∙ sym (slice_get-get_or c.args.records.now c.place_with_uid-place.result c.index-records-place.result c.if-place-records.true) ∙ found

pub returns-else-place-records : goal.returns-else-place-records
returns-else-place-records c =
    let found : slice_get c.args.records.now c.place_with_uid-place.result ≡ find (λ (r : Record). r.row.uid.0 == c.args.uid.0) c.args.records.now =
    ap (slice_get c.args.records.now) c.place_with_uid-place.ensures ∙ sym (find_at (λ (r : Record). r.row.uid.0 == c.args.uid.0) c.args.records.now) in
    sym (slice_get_past c.args.records.now c.place_with_uid-place.result c.if-place-records.false) ∙ found
