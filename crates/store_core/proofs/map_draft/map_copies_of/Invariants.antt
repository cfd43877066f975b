use Rattle.store_core.proofs.Common.{◌≡◌, take}
use Rattle.store_core.proofs.map_draft.map_copies_of.Given as goal

-- copies of the entries so far
abbrev pub invariant-loop-entry : goal.invariant-loop-entry
invariant-loop-entry l = l.copies.items ≡ take l.entry-index l.entries
