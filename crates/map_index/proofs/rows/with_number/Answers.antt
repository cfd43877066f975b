use Rattle.map_index.proofs.Common.{◌≡◌, ◌==◌, ◌∙◌, find, sym, ap, Some, Mailbox}
use Rattle.std.proofs.Common.{slice_get}
use Rattle.std.proofs.lemmas.List.Folds.{find_at}
use Rattle.std.proofs.lemmas.Option.{slice_get-get_or, slice_get_past}
use Rattle.map_index.proofs.rows.with_number.Goals as goal

pub returns-then-place-boxes : goal.returns-then-place-boxes
returns-then-place-boxes c =
    let found : slice_get c.args.boxes.now c.place_with_number-place.result ≡ find (λ (b : Mailbox). b.at.number.0 == c.args.number.0) c.args.boxes.now =
    ap (slice_get c.args.boxes.now) c.place_with_number-place.ensures ∙ sym (find_at (λ (b : Mailbox). b.at.number.0 == c.args.number.0) c.args.boxes.now) in
    ap Some c.index-boxes-place.is ∙ sym (slice_get-get_or c.args.boxes.now c.place_with_number-place.result c.index-boxes-place.result c.if-place-boxes.true) ∙ found

pub returns-else-place-boxes : goal.returns-else-place-boxes
returns-else-place-boxes c =
    let found : slice_get c.args.boxes.now c.place_with_number-place.result ≡ find (λ (b : Mailbox). b.at.number.0 == c.args.number.0) c.args.boxes.now =
    ap (slice_get c.args.boxes.now) c.place_with_number-place.ensures ∙ sym (find_at (λ (b : Mailbox). b.at.number.0 == c.args.number.0) c.args.boxes.now) in
    sym (slice_get_past c.args.boxes.now c.place_with_number-place.result c.if-place-boxes.false) ∙ found
