use Rattle.std.proofs.Common.{ap, ◌∙◌}
use Rattle.std.specs.Option.{option_map}
use Rattle.box_index.specs.Row.{row_of}
use Rattle.box_index.proofs.RowLemmas.{found-rows}
use Rattle.box_index.proofs.index.BoxIndex.find.Goals as goal

pub returns : goal.returns
returns c = rw (← c.self.view_is) (ap (option_map row_of) c.find.ensures ∙ found-rows c.args.uid.0 c.self.inside.rows.rows)
