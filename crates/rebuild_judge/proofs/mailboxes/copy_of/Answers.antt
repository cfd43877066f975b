use Rattle.rebuild_judge.proofs.mailboxes.copy_of.Goals as goal

pub unreachable-requires : goal.unreachable-requires
unreachable-requires c = (rw c.in_default.is at c.in_ok-copy.ensures.none) c.as_octets.ensures.name
