use Rattle.map_rows.proofs.Common.{◌≡◌, ◌+◌, map, filter, take, not, has_map_uid, meant_record, all_namings, AreNumbered, AreNamesOf, instances_of}
use Rattle.std.specs.Prelude.{vec_len, vec_capacity}
use Rattle.map_rows.proofs.names.lower_records.Given as goal

-- the namings of the records so far are removed
abbrev pub invariant-loop-uid : goal.invariant-loop-uid
invariant-loop-uid l = record {
  are : AreNumbered l.named.items;
  names : AreNamesOf l.named.items (instances_of (filter (λ row. not (has_map_uid row.uid (take l.uid-index l.uids))) (map meant_record l.records)));
  count : all_namings l.named.items + l.count ≡ all_namings l.initial.named.items;
  len : vec_len l.named ≡ vec_len l.initial.named;
  capacity : vec_capacity l.named ≡ vec_capacity l.initial.named;
}
