use Rattle.store_core.proofs.Common.{◌≡◌, take}
use Rattle.store_core.specs.MapDrafts.{rooms_of}
use Rattle.store_core.proofs.map_draft.room_of_all.Given as goal

-- what the entries so far need
abbrev pub invariant-loop-entry : goal.invariant-loop-entry
invariant-loop-entry l = l.total ≡ rooms_of (take l.entry-index l.entries)
