use Rattle.map_index.proofs.Common.{◌∙◌, ap, sym, list_any, MapRecord, MapIndexValue}
use Rattle.std.specs.Str.{bytes_eq}
use Rattle.mdbox_base.specs.declared.entries.InstRow.{InstRow}
use Rattle.map_index.proofs.DerivedListLemmas.{list_any-flat_map}
use Rattle.map_index.proofs.index.MapIndex.is_instance_named.Goals as goal

pub returns : goal.returns
returns c =
    c.is_instance_named.ensures ∙ ap (λ (v : MapIndexValue). list_any (λ (row : MapRecord). list_any (λ (i : InstRow). bytes_eq i.id.0 c.args.id.0) row.instances) v.meaning.records) c.self.view_is
    ∙ sym (list_any-flat_map (λ (i : InstRow). bytes_eq i.id.0 c.args.id.0) (λ (row : MapRecord). row.instances) c.args.self.now.meaning.records)
