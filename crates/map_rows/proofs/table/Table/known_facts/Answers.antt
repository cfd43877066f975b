use Rattle.map_rows.proofs.Common.{ap, subst, AreTableRows, TableValue}
use Rattle.map_rows.proofs.table.Table.known_facts.Goals as goal

pub returns : goal.returns
returns c = subst AreTableRows (ap (λ (v : TableValue). v.records) c.self.view_is) c.self.invariant.0.kept
