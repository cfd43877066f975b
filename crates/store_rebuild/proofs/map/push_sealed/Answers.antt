use Rattle.std.proofs.Common.{◌++◌, ◌∙◌, List, ap, map}
use Rattle.mdbox_base.specs.declared.ids.FileNo.{FileNo}
use Rattle.store_rebuild.proofs.MapTextLemmas.{seal_text, sealed_are}
use Rattle.store_rebuild.proofs.map.push_sealed.Goals as goal

pub returns : goal.returns
returns c = λ places e. sealed_are c.in_ok-files.files.items places c.args.draft _ (c.in_ok-files.ensures places e) (c.in_ok-draft.ensures ∙ ap (λ (fs : List FileNo). c.args.draft ++ map seal_text fs) c.as_slice.ensures.value)
