use Rattle.map_index.proofs.Common.{◌+◌, ◌∙◌, ap, Option, None, option_map_or, MapRow}
use Rattle.std.specs.Option.{is_some}
use Rattle.map_index.specs.Shown.{last_record}
use Rattle.map_index.proofs.LastLemmas.{end_shown, last_ends, some_shown, last_is_some}
use Rattle.map_index.proofs.index.MapIndex.last_in_file.Goals as goal

pub returns : goal.returns
returns c = record {
  row = c.last_row.ensures;
  end = ap (λ (o : Option MapRow). option_map_or (λ (r : MapRow). r.offset + r.size) o 0) c.last_row.ensures ∙ end_shown (last_record c.args.self.now.meaning c.args.file.0) ∙ last_ends c.args.file.0 c.args.self.now.meaning.records None;
  some = ap (λ (o : Option MapRow). is_some o) c.last_row.ensures ∙ some_shown (last_record c.args.self.now.meaning c.args.file.0) ∙ last_is_some c.args.file.0 c.args.self.now.meaning.records None;
}
