use Rattle.store_core.proofs.Common.{◌≡◌, length, map_applied}
use Rattle.std.proofs.Common.{fold}
use Rattle.store_core.specs.MapDrafts.{AllMapFitBehind, HasRoomForAll}
use Rattle.store_core.proofs.map_draft.take_all.Given as goal

-- what is left fits, has room, and gives what all entries give
abbrev pub invariant-loop-entry : goal.invariant-loop-entry
invariant-loop-entry l = record {
  left : l.entry-iterator.rest.len ≡ length l.entry-iterator.rest.items;
  fit : AllMapFitBehind l.index.meaning l.entry-iterator.rest.items;
  room : HasRoomForAll l.entry-iterator.rest.items l.index.room;
  meaning : fold (λ m e. map_applied e m) l.index.meaning l.entry-iterator.rest.items ≡ fold (λ m e. map_applied e m) l.fn.index.meaning l.fn.entries.items;
}
