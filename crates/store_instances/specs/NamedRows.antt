-- Rows of instances, as they are ordered by id.
use Rattle.std.specs.Prelude.{List, map}
use Rattle.mdbox_base.specs.declared.entries.InstRow.{InstRow}
use Rattle.model_meaning.specs.MapMeaning.{MapMeaning, named_instances}
use Rattle.store_instances.specs.declared.named.NamedRow.{NamedRow}

abbrev pub named_row : InstRow → NamedRow
named_row row = record { id = row.id; hash = row.hash; size = row.size }

abbrev pub inst_row : NamedRow → InstRow
inst_row row = record { hash = row.hash; id = row.id; size = row.size }

-- the instances that records name, once for each naming
abbrev pub named_rows : MapMeaning → List NamedRow
named_rows m = map named_row (named_instances m)
