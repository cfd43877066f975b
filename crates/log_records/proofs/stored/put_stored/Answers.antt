use Rattle.std.proofs.Common.{refl, ◌∷◌, []}
use Rattle.log_records.proofs.PlacedLemmas.{seven}
use Rattle.log_records.proofs.stored.put_stored.Goals as goal

pub returns-clause-front : goal.returns-clause-front
returns-clause-front c =
    seven _ _ _ _ _ _ _ _ _ _ _ _ _ _ _ (c.args.stored.origin ∷ []) _ _ _ _ _ c.args.stored.guid.0
    c.put-place.ensures.front c.put-place-2.ensures.front c.put-place-3.ensures.front c.put-place-4.ensures.front c.put-place-5.ensures.front c.put-place-6.ensures.front c.put.ensures.front
    refl c.to_be_bytes.ensures c.to_be_bytes-2.ensures c.to_be_bytes-3.ensures c.to_be_bytes-4.ensures c.to_be_bytes-5.ensures refl
