use Rattle.std.proofs.Common.{refl, ◌∷◌, []}
use Rattle.log_records.proofs.PlacedLemmas.{six}
use Rattle.log_records.proofs.added.put_added.Goals as goal

pub returns-clause-front : goal.returns-clause-front
returns-clause-front c =
    six _ _ _ _ _ _ _ _ _ _ _ _ _ _ (c.args.added.flags ∷ []) _ _ _ c.args.added.guid.0
    c.put-place.ensures.front c.put-place-2.ensures.front c.put-place-3.ensures.front c.put-place-4.ensures.front c.put-place-5.ensures.front c.put.ensures.front
    c.to_be_bytes.ensures refl c.to_be_bytes-2.ensures c.to_be_bytes-3.ensures c.to_be_bytes-4.ensures refl
