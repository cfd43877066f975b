use Rattle.mdbox_threads.proofs.SeatLemmas.{last_turn}
use Rattle.mdbox_threads.proofs.work.work_away.Goals as goal

pub returns-in-Idle : goal.returns-in-Idle
returns-in-Idle g c = let i = c.loop.invariant in let t = c.take_turns-turned.ensures in last_turn _ _ _ _ _ c.loop.seat _ c.in-Idle.is i.1 i.2 t.ready t.parts t.seen
