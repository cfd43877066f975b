use Rattle.std.proofs.Common.{inr}
use Rattle.mdbox_top.proofs.SessionLemmas.{session_fault, session_moments, session_quiet, session_rests, unopened_session, unopened_session_moments, unopened_session_quiet, unopened_session_rests}
use Rattle.mdbox_top.proofs.sessions.serve_input.Goals as goal

pub returns-in-Ok-clause-ends : goal.returns-in-Ok-clause-ends
returns-in-Ok-clause-ends g c = inr (_, c.in-Ok.ensures.done)

pub returns-in-Ok-clause-moments : goal.returns-in-Ok-clause-moments
returns-in-Ok-clause-moments g c = session_moments _ _ _ _ _ _ _ _ c.in-Ok.ended c.in-Ok.ensures.done

pub returns-in-Ok-clause-rests : goal.returns-in-Ok-clause-rests
returns-in-Ok-clause-rests g c = session_rests _ _ _ _ _ _ _ _ c.in-Ok.ended c.in-Ok.ensures.done

pub returns-in-Ok-clause-disk_fault : goal.returns-in-Ok-clause-disk_fault
returns-in-Ok-clause-disk_fault g c = session_fault _ _ _ _ _ _ _ _ c.in-Ok.ended c.in-Ok.ensures.done

pub returns-in-Ok-clause-disk_quiet : goal.returns-in-Ok-clause-disk_quiet
returns-in-Ok-clause-disk_quiet g c = session_quiet _ _ _ _ _ _ _ _ c.in-Ok.ended c.in-Ok.ensures.done

pub returns-in-Err-clause-ends : goal.returns-in-Err-clause-ends
returns-in-Err-clause-ends g c = rw (c.outcome_of.ensures, c.in-Err.ensures.unprinted) (unopened_session _ _ _ _ _ _ c.in-Err.field-0.error c.in-Err.ensures.refused)

pub returns-in-Err-clause-moments : goal.returns-in-Err-clause-moments
returns-in-Err-clause-moments g c = unopened_session_moments _ _ _ _ _ c.in-Err.field-0.error c.in-Err.ensures.refused

pub returns-in-Err-clause-rests : goal.returns-in-Err-clause-rests
returns-in-Err-clause-rests g c = rw c.outcome_of.ensures (unopened_session_rests _ _ _ _ _ c.in-Err.field-0.error c.in-Err.ensures.refused)

pub returns-in-Err-clause-disk_quiet : goal.returns-in-Err-clause-disk_quiet
returns-in-Err-clause-disk_quiet g c = λ tells. rw c.outcome_of.ensures (unopened_session_quiet _ _ _ _ c.in-Err.field-0.error c.in-Err.ensures.refused)
