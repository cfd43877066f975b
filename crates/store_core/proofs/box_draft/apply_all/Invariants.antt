use Rattle.store_core.proofs.Common.{◌≡◌, ◌≤◌, length, box_applied}
use Rattle.std.proofs.Common.{fold}
use Rattle.store_core.specs.Drafts.{AllFitBehind}
use Rattle.store_core.proofs.box_draft.apply_all.Given as goal

-- what is left fits, has room, and gives what all entries give
abbrev pub invariant-loop-entry : goal.invariant-loop-entry
invariant-loop-entry l = record {
  left : l.entry-iterator.rest.len ≡ length l.entry-iterator.rest.items;
  fit : AllFitBehind l.index.meaning l.entry-iterator.rest.items;
  room : length l.entry-iterator.rest.items ≤ l.index.room;
  meaning : fold (λ m e. box_applied e m) l.index.meaning l.entry-iterator.rest.items ≡ fold (λ m e. box_applied e m) l.fn.index.meaning l.fn.entries.items;
}
