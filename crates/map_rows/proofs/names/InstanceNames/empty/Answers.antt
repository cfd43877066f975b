use Rattle.map_rows.proofs.Common.{arith}
use Rattle.map_rows.proofs.NameLemmas.{none_named}
use Rattle.map_rows.proofs.names.InstanceNames.empty.Goals as goal

pub invariant_of-result : goal.invariant_of-result
invariant_of-result c = let none = none_named _ c.new.ensures.items in (none.0, none.1, omega arith, omega arith)
