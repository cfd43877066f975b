use Rattle.store_core.proofs.LeaveOutLemmas.{IsLeftOut}
use Rattle.store_core.proofs.store.switching.leave_out.Given as goal

abbrev pub invariant-loop-place : goal.invariant-loop-place
invariant-loop-place l = IsLeftOut l.dropped l.index.meaning.records l.fn.dues.items l.dues.items l.kept l.place
