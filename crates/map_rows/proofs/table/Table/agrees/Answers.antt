use Rattle.map_rows.proofs.NameLemmas.{agree_turned}
use Rattle.map_rows.proofs.table.Table.agrees.Goals as goal

pub returns : goal.returns
returns c = agree_turned c.args.self.now.records c.args.instances.now c.agree.result c.agree.ensures
