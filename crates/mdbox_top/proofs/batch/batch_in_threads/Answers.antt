use Rattle.std.proofs.Common.{refl, inl, inr, arith}
use Rattle.mdbox_top.proofs.BatchLemmas.{no_script_apart, script_ended}
use Rattle.mdbox_top.proofs.batch.batch_in_threads.Goals as goal

pub returns-in-Ok-clause-ends : goal.returns-in-Ok-clause-ends
returns-in-Ok-clause-ends g c = inr (c.in-Ok.script, c.in-Ok.ensures.script, (rw (c.of-task.ensures, c.of-entry.ensures) at c.end_batch.ensures.ends))

pub returns-in-Ok-clause-moments : goal.returns-in-Ok-clause-moments
returns-in-Ok-clause-moments g c = inr (c.in-Ok.script, c.in-Ok.ensures.script, (rw (c.of-task.ensures, c.of-entry.ensures) at c.end_batch.ensures.moments))

pub returns-in-Ok-clause-rests : goal.returns-in-Ok-clause-rests
returns-in-Ok-clause-rests g c = inr (c.in-Ok.script, c.in-Ok.ensures.script, (rw (c.of-task.ensures, c.of-entry.ensures) at c.end_batch.ensures.rests))

pub returns-in-Ok-clause-read_fault : goal.returns-in-Ok-clause-read_fault
returns-in-Ok-clause-read_fault g c = λ e. absurd (script_ended c.in-Ok.script _ _ _ _ _ _ c.end_batch.result.0 (rw (c.of-task.ensures, c.of-entry.ensures) at c.end_batch.ensures.ends) (inl e))

pub returns-in-Err-clause-ends : goal.returns-in-Err-clause-ends
returns-in-Err-clause-ends g c = inl (c.in-Err.ensures.none, refl, refl, refl)

pub returns-in-Err-clause-moments : goal.returns-in-Err-clause-moments
returns-in-Err-clause-moments g c = inl refl

pub returns-in-Err-clause-rests : goal.returns-in-Err-clause-rests
returns-in-Err-clause-rests g c = inl refl

pub returns-in-Err-clause-disk_fault : goal.returns-in-Err-clause-disk_fault
returns-in-Err-clause-disk_fault g c = λ tells. record { reads = omega arith; changes = omega arith; rose = λ e. absurd (no_script_apart c.args.lanes _ c.in-Err.ended c.in-Err.ensures.none (inl e)) }

pub returns-in-Err-clause-write_fault : goal.returns-in-Err-clause-write_fault
returns-in-Err-clause-write_fault g c = λ e. absurd (no_script_apart c.args.lanes _ c.in-Err.ended c.in-Err.ensures.none (inr e))

pub returns-in-Err-clause-disk_quiet : goal.returns-in-Err-clause-disk_quiet
returns-in-Err-clause-disk_quiet g c = λ tells other. refl

pub returns-in-Ok-clause-disk_fault : goal.returns-in-Ok-clause-disk_fault
returns-in-Ok-clause-disk_fault g c = λ tells. (rw (c.of-task.ensures, c.of-entry.ensures) at c.end_batch.ensures.disk_fault) (tells c.in-Ok.script c.in-Ok.ensures.script)

pub returns-in-Ok-clause-disk_quiet : goal.returns-in-Ok-clause-disk_quiet
returns-in-Ok-clause-disk_quiet g c = λ tells. (rw (c.of-task.ensures, c.of-entry.ensures) at c.end_batch.ensures.disk_quiet) (tells c.in-Ok.script c.in-Ok.ensures.script)

pub returns-in-Ok-clause-uncalled : goal.returns-in-Ok-clause-uncalled
returns-in-Ok-clause-uncalled g c = λ e. absurd (script_ended c.in-Ok.script _ _ _ _ _ _ c.end_batch.result.0 (rw (c.of-task.ensures, c.of-entry.ensures) at c.end_batch.ensures.ends) e)

pub end_batch-requires-clause-served : goal.end_batch-requires-clause-served
end_batch-requires-clause-served g c = rw (c.of-task.ensures, c.of-entry.ensures) c.serve_script_in_threads-served.ensures.served
