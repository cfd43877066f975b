use Rattle.std.proofs.Common.{refl, inl, inr}
use Rattle.piece_writer.proofs.PieceLemmas.{appended_nothing}
use Rattle.request_text.specs.declared.outcome.Outcome.TheVariants as outcome
use Rattle.request_text.proofs.error_report.report.Goals as goal

pub returns-in-Ok-clause-told : goal.returns-in-Ok-clause-told
returns-in-Ok-clause-told g c =
    let gave = rw (c.as_slice.ensures, c.in-Ok.ensures) at c.tell-in-Ok.ensures.gave in
    rw c.in-InputRefused.is (outcome.InputRefused c.in-InputRefused.why, inl refl, c.tell-in-Ok.ensures.status, gave)

pub returns-in-Done-clause-told : goal.returns-in-Done-clause-told
returns-in-Done-clause-told g c = rw c.in-Done.is (outcome.Done, refl, refl, inl (appended_nothing _))

pub returns-in-No-clause-told : goal.returns-in-No-clause-told
returns-in-No-clause-told g c = rw c.in-No.is (outcome.No, refl, refl, inl (appended_nothing _))

pub returns-in-Usage-clause-told : goal.returns-in-Usage-clause-told
returns-in-Usage-clause-told g c = rw c.in-Usage.is (outcome.Usage, refl, c.tell.ensures.status, c.tell.ensures.gave)

pub returns-in-NoMemory-clause-told : goal.returns-in-NoMemory-clause-told
returns-in-NoMemory-clause-told g c = rw c.in-NoMemory.is (outcome.NoMemory, refl, c.tell-in-NoMemory.ensures.status, c.tell-in-NoMemory.ensures.gave)

pub returns-in-DiskFault-clause-told : goal.returns-in-DiskFault-clause-told
returns-in-DiskFault-clause-told g c = rw c.in-DiskFault.is (outcome.DiskFault, refl, c.tell-in-DiskFault.ensures.status, c.tell-in-DiskFault.ensures.gave)

pub returns-in-ReadFault-clause-told : goal.returns-in-ReadFault-clause-told
returns-in-ReadFault-clause-told g c = rw c.in-ReadFault.is (outcome.ReadFault, refl, c.tell-in-ReadFault.ensures.status, c.tell-in-ReadFault.ensures.gave)

pub returns-in-WriteFault-clause-told : goal.returns-in-WriteFault-clause-told
returns-in-WriteFault-clause-told g c = rw c.in-WriteFault.is (outcome.WriteFault, refl, c.tell-in-WriteFault.ensures.status, c.tell-in-WriteFault.ensures.gave)

pub returns-in-SessionFull-clause-told : goal.returns-in-SessionFull-clause-told
returns-in-SessionFull-clause-told g c = rw c.in-SessionFull.is (outcome.SessionFull, refl, c.tell-in-SessionFull.ensures.status, c.tell-in-SessionFull.ensures.gave)

pub returns-in-Err-clause-told : goal.returns-in-Err-clause-told
returns-in-Err-clause-told g c = rw c.in-InputRefused.is (outcome.NoMemory, inr refl, c.tell-in-Err.ensures.status, c.tell-in-Err.ensures.gave)
