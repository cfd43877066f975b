use Rattle.model_store.proofs.StoreExampleLemmas.{inbox_is_name}
use Rattle.rebuild_judge.proofs.mailboxes.inbox.Goals as goal

pub unreachable-requires : goal.unreachable-requires
unreachable-requires c = (rw c.in_default.is at c.in_ok-name.ensures.none) inbox_is_name
