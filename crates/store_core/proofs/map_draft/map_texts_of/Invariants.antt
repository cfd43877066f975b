use Rattle.store_core.proofs.Common.{map, take, map_text}
use Rattle.store_core.specs.Drafts.{AreEntryTexts}
use Rattle.store_core.proofs.map_draft.map_texts_of.Given as goal

-- the texts of the entries so far
abbrev pub invariant-loop-entry : goal.invariant-loop-entry
invariant-loop-entry l = AreEntryTexts (map map_text (take l.entry-index l.entries)) l.texts.octets l.texts.lengths.items
