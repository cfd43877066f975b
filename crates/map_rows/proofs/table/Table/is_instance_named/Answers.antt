use Rattle.map_rows.proofs.Common.{map, ap, meant_record, TableValue}
use Rattle.map_rows.proofs.NameLemmas.{id_in_records}
use Rattle.map_rows.proofs.table.Table.is_instance_named.Goals as goal

pub returns : goal.returns
returns c = id_in_records c.self.inside.names.named (map meant_record c.self.inside.records.items) c.args.self.now.records c.args.id.0 c.find.result _ (ap (λ (v : TableValue). v.records) c.self.view_is) c.known_facts.ensures c.self.invariant.4 c.find.ensures c.is_some.ensures
