use Rattle.map_rows.proofs.LookupLemmas.{guid_is_new}
use Rattle.map_rows.proofs.table.Table.is_new_guid.Goals as goal

pub returns : goal.returns
returns c = guid_is_new c.args.self.now.records c.args.guid.0 c.find_guid.result _ c.find_guid.ensures c.is_none.ensures
