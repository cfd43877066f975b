use Rattle.store_core.proofs.DraftLemmas.{map_texts_step}
use Rattle.store_core.proofs.map_draft.map_texts_of.Goals as goal

pub loop-entry-preserved : goal.loop-entry-preserved
loop-entry-preserved c =
    map_texts_step c.args.entries.now c.loop-entry.entry-index c.entry-item.result c.loop-entry.texts.octets c.loop-entry.texts.lengths.items c.push_map_text.new.texts.octets c.push_map_text.new.texts.lengths.items
    c.loop-entry-test.true c.entry-item.is c.loop-entry.invariant c.in_ok-push_map_text.ensures.octets c.in_ok-push_map_text.ensures.lengths
