use Rattle.std.proofs.Common.{refl, inl, inr, arith}
use Rattle.mdbox_top.proofs.DeliverLemmas.{unread_apart}
use Rattle.mdbox_top.proofs.RequestLemmas.{request_ended}
use Rattle.mdbox_top.proofs.deliver.deliver.Goals as goal

pub returns-in-Ok-clause-ends : goal.returns-in-Ok-clause-ends
returns-in-Ok-clause-ends g c =
    let s = c.serve.ensures in
    inr (c.in-Ok.message, c.in-Ok.time, c.in-Ok.ensures.message.0, c.in-Ok.ensures.time, record { ends = s.ends; moments = s.moments; rests = s.rests })

pub returns-in-Ok-clause-moments : goal.returns-in-Ok-clause-moments
returns-in-Ok-clause-moments g c = inr (c.in-Ok.message, c.in-Ok.time, c.in-Ok.ensures.message.0, c.in-Ok.ensures.time, c.serve.ensures.moments)

pub returns-in-Ok-clause-rests : goal.returns-in-Ok-clause-rests
returns-in-Ok-clause-rests g c = inr (c.in-Ok.message, c.in-Ok.time, c.in-Ok.ensures.message.0, c.in-Ok.ensures.time, c.serve.ensures.rests)

pub returns-in-Ok-clause-read_fault : goal.returns-in-Ok-clause-read_fault
returns-in-Ok-clause-read_fault g c = λ e. absurd (request_ended _ _ _ _ _ _ _ _ c.serve.result.0 c.serve.ensures.ends (inl e))

pub returns-in-Err-clause-ends : goal.returns-in-Err-clause-ends
returns-in-Err-clause-ends g c = inl (c.in-Err.ensures.unread, refl, refl, refl)

pub returns-in-Err-clause-moments : goal.returns-in-Err-clause-moments
returns-in-Err-clause-moments g c = inl refl

pub returns-in-Err-clause-rests : goal.returns-in-Err-clause-rests
returns-in-Err-clause-rests g c = inl refl

pub returns-in-Err-clause-disk_fault : goal.returns-in-Err-clause-disk_fault
returns-in-Err-clause-disk_fault g c = record { reads = omega arith; changes = omega arith; rose = λ e. absurd (unread_apart _ c.in-Err.outcome c.in-Err.ensures.unread (inl e)) }

pub returns-in-Err-clause-write_fault : goal.returns-in-Err-clause-write_fault
returns-in-Err-clause-write_fault g c = λ e. absurd (unread_apart _ c.in-Err.outcome c.in-Err.ensures.unread (inr e))

pub returns-in-Err-clause-disk_quiet : goal.returns-in-Err-clause-disk_quiet
returns-in-Err-clause-disk_quiet g c = λ other. refl

pub returns-in-Ok-clause-too_long : goal.returns-in-Ok-clause-too_long
returns-in-Ok-clause-too_long g c = λ why e. absurd (request_ended _ _ _ _ _ _ _ _ c.serve.result.0 c.serve.ensures.ends (inr (why, e)))

pub returns-in-Ok-clause-uncalled : goal.returns-in-Ok-clause-uncalled
returns-in-Ok-clause-uncalled g c = λ e. absurd (request_ended _ _ _ _ _ _ _ _ c.serve.result.0 c.serve.ensures.ends e)
