use Rattle.store_core.proofs.Common.{◌≡◌, useless_past}
use Rattle.store_core.proofs.UselessLemmas.{unheld_left}
use Rattle.store_core.proofs.store.Store.next_useless.Given as goal

-- none that was passed over is of no use
abbrev pub invariant-loop-id : goal.invariant-loop-id
invariant-loop-id g l = useless_past l.last l.self-inside.map.meaning l.self-inside.instances.known ≡ useless_past l.fn.after l.self-inside.map.meaning l.self-inside.instances.known

abbrev pub decreases-loop-id : goal.decreases-loop-id
decreases-loop-id g l = unheld_left l.last l.self-inside.instances.known
