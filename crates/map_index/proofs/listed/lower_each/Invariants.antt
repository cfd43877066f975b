use Rattle.map_index.proofs.Common.{◌≡◌, ◌∷◌, [], List, fold, map, drop, MapUid, MapRecord, record_changed}
use Rattle.mdbox_base.specs.declared.entries.MapEntry.TheVariants as entry
use Rattle.map_index.proofs.listed.lower_each.Given as goal

-- the records so far, and the rest
abbrev pub invariant-loop-uid : goal.invariant-loop-uid
invariant-loop-uid l = record {
  rest : fold (λ (rs : List MapRecord) (u : MapUid). map (record_changed (entry.D (u ∷ []))) rs) l.records.records (drop l.uid-index l.uids) ≡ fold (λ (rs : List MapRecord) (u : MapUid). map (record_changed (entry.D (u ∷ []))) rs) l.fn.records.records l.uids;
  record_room : l.records.record_room ≡ l.fn.records.record_room;
  instance_room : l.records.instance_room ≡ l.fn.records.instance_room;
}
