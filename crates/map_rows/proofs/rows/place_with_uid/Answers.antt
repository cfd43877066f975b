use Rattle.map_rows.proofs.Common.{rules, Ok, Err, sym, ◌∙◌, ap, answers_always, Record}
use Rattle.map_rows.proofs.SearchLemmas.{guessed, searched}
use Rattle.map_rows.proofs.rows.place_with_uid.Goals as goal

pub returns-in-Ok : goal.returns-in-Ok
returns-in-Ok c =
    let by_key = c.in-Ok.ensures.position (λ r. r.row.uid.0) (answers_always _ _ _ (λ f a r g called. search rules)) in
    (searched (λ (r : Record). r.row.uid.0) c.args.records.now c.args.uid.0 c.requires (Ok c.in-Ok.place) c.in-Ok.ensures.bound by_key)

pub returns-in-Err : goal.returns-in-Err
returns-in-Err c =
    let by_key = c.in-Err.ensures.position (λ r. r.row.uid.0) (answers_always _ _ _ (λ f a r g called. search rules)) in
    searched (λ (r : Record). r.row.uid.0) c.args.records.now c.args.uid.0 c.requires (Err c.in-Err.field-0) c.in-Err.ensures.bound by_key

pub returns-in-Some : goal.returns-in-Some
returns-in-Some c =
    let there = c.in-Some.ensures.lookup in
    guessed (λ (r : Record). r.row.uid.0) c.args.records.now c.args.uid.0 c.saturating_sub-guess.result c.in-Some.record.now c.requires there.3.0 (ap (λ (r : Record). r.row.uid.0) (sym there.1) ∙ c.if-record-uid.true)
