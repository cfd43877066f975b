use Rattle.tests.proofs.BesideLemmas.{fresh_beside}
use Rattle.tests.proofs.tasks.turns.in_turn.Goals as goal

pub loop-turn-init : goal.loop-turn-init
loop-turn-init c runs = fresh_beside _ _ c.args.store.now c.requires.fresh.0 c.requires.fresh.1 c.requires.unheld
