use Rattle.std.proofs.Common.{◌++◌, ◌∷◌, [], ◌∙◌, ap}
use Rattle.mdbox_base.specs.declared.entries.MapEntry.{MapEntry}
use Rattle.model_logs.specs.Entries.{map_text}
use Rattle.store_rebuild.proofs.MapTextLemmas.{map_is}
use Rattle.store_rebuild.proofs.map.new_map.Goals as goal

pub returns : goal.returns
returns c = λ plan r n.
    map_is plan c.args.rows.now c.args.names.now _ _ _ _ _ _ r n c.empty-draft.ensures (c.in_ok-draft.ensures ∙ ap (λ (e : MapEntry). c.empty-draft.result ++ map_text e ∷ []) c.highest.ensures.entry) c.in_ok-draft-2.ensures
    (c.in_ok-draft-3.ensures plan.taken (c.as_slice.ensures ∙ r.taken)) (c.in_ok-draft-4.ensures plan.skipped (c.as_slice-2.ensures ∙ r.skipped)) c.in_ok-log.ensures
