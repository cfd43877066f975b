use Rattle.std.proofs.Common.{◌≡◌, map, take}
use Rattle.model_lists.specs.Lists.{listing_row}
use Rattle.plain_lists.specs.View.{message_of}
use Rattle.plain_lists.proofs.walks.rows_of.Given as goal

abbrev pub invariant-loop-message : goal.invariant-loop-message
invariant-loop-message l = l.rows ≡ map listing_row (map message_of (take l.message-index l.messages))
