use Rattle.std.proofs.Common.{refl, sym, ◌∙◌}
use Rattle.std.proofs.lemmas.Bool.{eqb-true}
use Rattle.std.proofs.lemmas.List.{nil_from_length}
use Rattle.dbox_metadata.proofs.BriefLemmas.{references_line_taken}
use Rattle.dbox_metadata.proofs.brief.BriefReader.take_refs.Goals as goal

pub returns-clause-takes : goal.returns-clause-takes
returns-clause-takes c = references_line_taken c.args.self.now _ c.args.value.now c.fill_refs.new.refs c.fill_refs.result c.requires (nil_from_length c.args.self.now.refs.items (sym c.args.self.now.refs.ok.0 ∙ eqb-true _ _ (sym c.if-not-is_empty.ensures))) c.fill_refs.ensures.yes c.fill_refs.ensures.no refl
