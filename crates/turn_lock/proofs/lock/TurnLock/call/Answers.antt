use Rattle.std.proofs.Common.{rules}
use Rattle.turn_lock.proofs.TurnLemmas.{calls_keep}
use Rattle.turn_lock.proofs.lock.TurnLock.call.Goals as goal

pub fetch_add-requires : goal.fetch_add-requires
fetch_add-requires g c = (search rules, search rules, calls_keep _ _ _ _ _ _ c.sleeping_word-sleeps.ensures.0)
