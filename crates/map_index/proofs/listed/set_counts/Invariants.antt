use Rattle.map_index.proofs.Common.{◌≡◌, ◌∷◌, [], List, fold, map, drop, MapCount, MapRecord, record_changed}
use Rattle.mdbox_base.specs.declared.entries.MapEntry.TheVariants as entry
use Rattle.map_index.proofs.listed.set_counts.Given as goal

-- the records so far, and the rest
abbrev pub invariant-loop-given : goal.invariant-loop-given
invariant-loop-given l = record {
  rest : fold (λ (rs : List MapRecord) (c : MapCount). map (record_changed (entry.T (c ∷ []))) rs) l.records.records (drop l.given-index l.counts) ≡ fold (λ (rs : List MapRecord) (c : MapCount). map (record_changed (entry.T (c ∷ []))) rs) l.fn.records.records l.counts;
  record_room : l.records.record_room ≡ l.fn.records.record_room;
  instance_room : l.records.instance_room ≡ l.fn.records.instance_room;
}
