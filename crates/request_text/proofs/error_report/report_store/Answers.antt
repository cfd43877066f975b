use Rattle.std.proofs.Common.{refl, inl, inr}
use Rattle.request_text.specs.declared.outcome.Outcome.TheVariants as outcome
use Rattle.request_text.specs.declared.outcome.StoreRefusal.TheVariants as store
use Rattle.request_text.proofs.error_report.report_store.Goals as goal

pub returns-in-Ok-clause-told : goal.returns-in-Ok-clause-told
returns-in-Ok-clause-told g c =
    let gave = rw (c.as_slice.ensures, c.in-Ok.ensures) at c.tell-in-Ok.ensures.gave in
    rw c.in-Damaged.is (outcome.StoreRefused (store.Damaged c.in-Damaged.name c.in-Damaged.place), inl refl, c.tell-in-Ok.ensures.status, gave)

pub returns-in-NoStore-clause-told : goal.returns-in-NoStore-clause-told
returns-in-NoStore-clause-told g c = rw c.in-NoStore.is (outcome.StoreRefused store.NoStore, refl, c.tell.ensures.status, c.tell.ensures.gave)

pub returns-in-StoreWhole-clause-told : goal.returns-in-StoreWhole-clause-told
returns-in-StoreWhole-clause-told g c = rw c.in-StoreWhole.is (outcome.StoreRefused store.StoreWhole, refl, c.tell-in-StoreWhole.ensures.status, c.tell-in-StoreWhole.ensures.gave)

pub returns-in-MailFiles-clause-told : goal.returns-in-MailFiles-clause-told
returns-in-MailFiles-clause-told g c = rw c.in-MailFiles.is (outcome.StoreRefused store.MailFiles, refl, c.tell-in-MailFiles.ensures.status, c.tell-in-MailFiles.ensures.gave)

pub returns-in-Err-clause-told : goal.returns-in-Err-clause-told
returns-in-Err-clause-told g c = rw c.in-Damaged.is (outcome.NoMemory, inr refl, c.tell-in-Err.ensures.status, c.tell-in-Err.ensures.gave)
