use Rattle.map_index.proofs.Common.{rules, answers_always, Mailbox}
use Rattle.std.proofs.Common.{Ok, Err}
use Rattle.map_index.proofs.SearchLemmas.{searched}
use Rattle.map_index.proofs.rows.place_with_number.Goals as goal

pub returns-in-Ok : goal.returns-in-Ok
returns-in-Ok c =
    let by_key = c.in-Ok.ensures.position (λ b. b.at.number.0) (answers_always _ _ _ (λ f a r g called. search rules)) in
    searched (λ (b : Mailbox). b.at.number.0) c.args.boxes.now c.args.number.0 c.requires (Ok c.in-Ok.place) c.in-Ok.ensures.bound by_key

pub returns-in-Err : goal.returns-in-Err
returns-in-Err c =
    let by_key = c.in-Err.ensures.position (λ b. b.at.number.0) (answers_always _ _ _ (λ f a r g called. search rules)) in
    searched (λ (b : Mailbox). b.at.number.0) c.args.boxes.now c.args.number.0 c.requires (Err c.in-Err.field-0) c.in-Err.ensures.bound by_key
