use Rattle.store_core.proofs.DraftLemmas.{texts_step}
use Rattle.store_core.proofs.box_draft.texts_of.Goals as goal

pub loop-entry-preserved : goal.loop-entry-preserved
loop-entry-preserved c =
    texts_step c.args.entries.now c.loop-entry.entry-index c.entry-item.result c.loop-entry.texts.octets c.loop-entry.texts.lengths.items c.push_text.new.texts.octets c.push_text.new.texts.lengths.items
    c.loop-entry-test.true c.entry-item.is c.loop-entry.invariant c.in_ok-push_text.ensures.octets c.in_ok-push_text.ensures.lengths
