use Rattle.std.proofs.Common.{List, All, arith, subst}
use Rattle.std.proofs.Common.{rules}
use Rattle.std.proofs.lemmas.List.Elements.{recursion_from_All}
use Rattle.mdbox_base.specs.declared.entries.InstRow.{InstRow}
use Rattle.model_logs.specs.Entries.{RowInRange}
use Rattle.store_rebuild.proofs.map.stored.Goals as goal

pub returns-clause-range : goal.returns-clause-range
returns-clause-range c =
    let rows = recursion_from_All RowInRange c.args.instances (subst (λ (is : List InstRow). All RowInRange is) c.as_slice.ensures c.known_rows.ensures) in
    let few = c.if-length-gt-INSTANCES.false in
    let long = c.length.ensures in
    (search rules, search rules, search rules, search rules, search rules, search rules, search rules, omega (arith, few, long), rows)
