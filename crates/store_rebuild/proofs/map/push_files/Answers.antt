use Rattle.std.proofs.Common.{◌++◌, ◌∷◌, [], ◌∙◌, ap}
use Rattle.std.proofs.lemmas.List.{nil_from_length}
use Rattle.mdbox_base.specs.declared.entries.MapEntry.{MapEntry}
use Rattle.model_logs.specs.Entries.{map_text}
use Rattle.store_rebuild.proofs.MapTextLemmas.{seal_ends, seal_more}
use Rattle.store_rebuild.proofs.map.push_files.Goals as goal

pub loop-file-preserved : goal.loop-file-preserved
loop-file-preserved c =
    seal_more c.loop-file.rest.now c.in-Some.others.now c.in-Some.file.now c.loop-file.draft _ _ c.loop-file.invariant c.in-Some.ensures.cases.0
    (c.in_ok-draft.ensures ∙ ap (λ (e : MapEntry). c.loop-file.draft ++ map_text e ∷ []) c.sealed.ensures.entry)

pub returns : goal.returns
returns c = seal_ends c.loop-file.rest.now c.loop-file.draft _ (nil_from_length c.loop-file.rest.now c.in_default.ensures.cases) c.loop-file.invariant
