use Rattle.map_rows.proofs.Common.{◌<◌, ℕ, Ok, Err, rules, AllPairs-from_increasing, answers_always, MapPlace}
use Rattle.map_rows.proofs.SearchLemmas.{searched, pairs_unmap, found_at, found_nowhere}
use Rattle.map_rows.proofs.listed.place_given.Goals as goal

pub returns-in-Ok : goal.returns-in-Ok
returns-in-Ok c =
    let by_key = c.in-Ok.ensures.position (λ p. p.uid.0) (answers_always _ _ _ (λ f a r g called. search rules)) in
    let rise = pairs_unmap (λ (a b : ℕ). a < b) (λ (p : MapPlace). p.uid.0) c.args.moved.now (AllPairs-from_increasing _ c.requires) in
    found_at (λ (p : MapPlace). p.uid.0) c.args.moved.now c.args.uid.0 c.in-Ok.at _ c.in-Ok.ensures.bound (searched (λ (p : MapPlace). p.uid.0) c.args.moved.now c.args.uid.0 rise (Ok c.in-Ok.at) c.in-Ok.ensures.bound by_key)

pub returns-in-Err : goal.returns-in-Err
returns-in-Err c =
    let by_key = c.in-Err.ensures.position (λ p. p.uid.0) (answers_always _ _ _ (λ f a r g called. search rules)) in
    let rise = pairs_unmap (λ (a b : ℕ). a < b) (λ (p : MapPlace). p.uid.0) c.args.moved.now (AllPairs-from_increasing _ c.requires) in
    found_nowhere (λ (p : MapPlace). p.uid.0) c.args.moved.now c.args.uid.0 (searched (λ (p : MapPlace). p.uid.0) c.args.moved.now c.args.uid.0 rise (Err c.in-Err.field-0) c.in-Err.ensures.bound by_key)
