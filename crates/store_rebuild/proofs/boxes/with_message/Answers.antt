use Rattle.store_rebuild.proofs.BoxTextLemmas.{is_with}
use Rattle.store_rebuild.proofs.boxes.with_message.Goals as goal

pub returns : goal.returns
returns c =
    is_with c.args.name.now c.as_octets.result.now c.as_octets-2.result.now c.args.uid c.args.map_uid c.args.row.now c.args.draft _ _ c.added-entry.result c.as_octets.ensures.same c.as_octets-2.ensures.same c.if-ne.ensures c.added-entry.ensures.entry
    c.in_ok-draft.ensures c.in_ok-next.ensures.next
