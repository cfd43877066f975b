use Rattle.std.proofs.Common.{◌≡◌, ◌^◌, ◌-◌, min, map, take}
use Rattle.model_lists.specs.Lists.{refs_of}
use Rattle.plain_lists.specs.View.{mailbox_of}
use Rattle.plain_lists.proofs.walks.references.Given as goal

abbrev pub invariant-loop-mailbox : goal.invariant-loop-mailbox
invariant-loop-mailbox l = l.references ≡ min (refs_of (map mailbox_of (take l.mailbox-index l.mailboxes)) l.guid.0) (2 ^ 64 - 1)
