use Rattle.std.proofs.Common.{◌++◌, ◌∷◌, [], ◌∙◌, ℕ, List, ap, refl}
use Rattle.mdbox_base.specs.declared.entries.InstRow.{InstRow}
use Rattle.mdbox_base.specs.declared.entries.MapEntry.TheVariants as entry
use Rattle.std.proofs.lemmas.List.{nil_from_length}
use Rattle.model_logs.specs.Entries.{map_text}
use Rattle.store_rebuild.proofs.MapTextLemmas.{store_begins, store_ends, store_more}
use Rattle.store_rebuild.proofs.map.push_stored.Goals as goal

pub loop-row-init : goal.loop-row-init
loop-row-init c = λ messages e. store_begins c.args.taken.now messages _ _ refl e

pub loop-row-preserved : goal.loop-row-preserved
loop-row-preserved c = λ messages e. store_more messages c.loop-row.rest.now c.in-Some.others.now c.in-Some.row.now c.loop-row.uid _ _ _ c.loop-row.draft _ (c.loop-row.invariant messages e) c.in-Some.ensures.cases.0 (c.in_ok-stored.ensures.entry ∙ ap (λ (is : List InstRow). entry.S 1 1 (record { 0 = c.loop-row.uid }) c.in-Some.row.now.file c.in-Some.row.now.offset c.in-Some.row.now.size c.in-Some.row.now.guid is) (c.in_ok-instances.ensures ∙ c.as_slice.ensures)) c.in_ok-uid.ensures.next
    (c.in_ok-draft.ensures ∙ ap (λ (d : List (List ℕ)). d ++ map_text c.in_ok-stored.field-0 ∷ []) c.draft.view_is)

pub returns : goal.returns
returns c = λ messages e. store_ends messages c.loop-row.rest.now c.loop-row.uid _ c.loop-row.draft (nil_from_length c.loop-row.rest.now c.in_default.ensures.cases) (c.loop-row.invariant messages e)
