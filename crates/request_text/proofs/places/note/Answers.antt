use Rattle.request_text.specs.Steps.{with_place}
use Rattle.request_text.proofs.BatchLemmas.{row_noted, row_kept}
use Rattle.request_text.proofs.places.note.Goals as goal

pub returns-then-request-rows : goal.returns-then-request-rows
returns-then-request-rows c = λ request steps at.
    row_noted c.args.rows.now c.args.entry.request request c.with.result steps _ (with_place c.args.entry.half c.args.place) c.if-request-rows.true c.with.ensures at

pub returns-else-request-rows : goal.returns-else-request-rows
returns-else-request-rows c = λ request steps at.
    row_kept c.args.rows.now c.args.entry.request request (with_place c.args.entry.half c.args.place steps) steps c.if-request-rows.false at
