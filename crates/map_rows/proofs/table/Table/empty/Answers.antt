use Rattle.map_rows.proofs.Common.{map, ap, arith, meant_record, NamesValue, OrderValue}
use Rattle.map_rows.proofs.NameLemmas.{no_names}
use Rattle.map_rows.proofs.TableLemmas.{empty_indexed, same_indexed}
use Rattle.map_rows.proofs.table.Table.empty.Goals as goal

pub invariant_of-result : goal.invariant_of-result
invariant_of-result c = (
  same_indexed _ _ _ _ _ _ (ap (map meant_record) c.new.ensures.items) (ap (λ (v : OrderValue). v.keys) c.empty.ensures) (ap (λ (v : OrderValue). v.keys) c.empty-2.ensures) empty_indexed,
  omega arith,
  omega arith,
  omega arith,
  no_names c.empty-3.result.named c.new.result.items (ap (λ (v : NamesValue). v.named) c.empty-3.ensures) c.new.ensures.items,
)
