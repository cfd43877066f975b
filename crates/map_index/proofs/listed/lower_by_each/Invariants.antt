use Rattle.map_index.proofs.Common.{◌≡◌, ◌∷◌, [], List, fold, map, drop, MapCount, MapRecord, lowered_by}
use Rattle.map_index.proofs.listed.lower_by_each.Given as goal

-- the records so far, and the rest
abbrev pub invariant-loop-given : goal.invariant-loop-given
invariant-loop-given l = record {
  rest : fold (λ (rs : List MapRecord) (c : MapCount). map (lowered_by (c ∷ [])) rs) l.records.records (drop l.given-index l.amounts) ≡ fold (λ (rs : List MapRecord) (c : MapCount). map (lowered_by (c ∷ [])) rs) l.fn.records.records l.amounts;
  record_room : l.records.record_room ≡ l.fn.records.record_room;
  instance_room : l.records.instance_room ≡ l.fn.records.instance_room;
}
