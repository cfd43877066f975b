use Rattle.std.proofs.Common.{◌∙◌, refl}
use Rattle.std.proofs.lemmas.List.{nil_from_length}
use Rattle.store_rebuild.proofs.BoxTextLemmas.{add_begins, add_ends, add_more}
use Rattle.store_rebuild.proofs.boxes.new_box.Goals as goal

pub loop-row-init : goal.loop-row-init
loop-row-init c = λ messages e. add_begins c.args.name.now c.args.taken.now messages _ _ _ c.empty-draft.ensures refl refl e

pub loop-row-preserved : goal.loop-row-preserved
loop-row-preserved c = λ messages e. add_more c.args.name.now messages c.loop-row.rest.now c.in-Some.others.now c.in-Some.row.now c.loop-row.uid c.loop-row.map_uid _ _ c.loop-row.draft _ (c.loop-row.invariant messages e) c.in-Some.ensures.cases.0 c.in_ok-more.ensures c.in_ok-map_uid.ensures.next

pub returns : goal.returns
returns c = λ messages e. c.in_ok-log.ensures ∙ add_ends c.args.name.now messages c.loop-row.rest.now c.loop-row.uid c.loop-row.map_uid c.loop-row.draft (nil_from_length c.loop-row.rest.now c.in_default.ensures.cases) (c.loop-row.invariant messages e)
