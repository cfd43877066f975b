use Rattle.map_index.proofs.Common.{◌∙◌, sym, map, box_of}
use Rattle.model_meaning.proofs.AppliedLemmas.{boxes_by_deleted, boxes_by_generation}
use Rattle.map_index.proofs.MapAppliedLemmas.{boxes_stay}
use Rattle.map_index.proofs.changes.change_boxes.Goals as goal

pub returns-in-G-clause-boxes : goal.returns-in-G-clause-boxes
returns-in-G-clause-boxes c = rw c.in-G.is (c.renew.ensures.boxes ∙ sym (boxes_by_generation c.in-G.mailbox c.in-G.generation (map box_of c.args.boxes.now.items)))

pub returns-in_default-clause-boxes : goal.returns-in_default-clause-boxes
returns-in_default-clause-boxes c = sym (boxes_stay c.args.entry.now c.requires.changes c.in_default.not-G c.in_default.not-X (map box_of c.args.boxes.now.items))

pub returns-in-X-clause-boxes : goal.returns-in-X-clause-boxes
returns-in-X-clause-boxes c = rw c.in-X.is (c.remove.ensures.boxes ∙ sym (boxes_by_deleted c.in-X.mailbox c.in-X.amounts (map box_of c.args.boxes.now.items)))
