use Rattle.map_rows.proofs.RegionLemmas.{last_in}
use Rattle.map_rows.proofs.table.Table.last_in_file.Goals as goal

pub returns : goal.returns
returns c = last_in c.args.self.now.records c.args.file.0 _ c.known_facts.ensures c.last_before.ensures.some c.last_before.ensures.none
