use Rattle.task_claims.proofs.CountedLemmas.{deleted_same, lowered_same, raised_same, renamed_same, unraised_by, unraised_deleted, unraised_lower, unraised_renamed}
use Rattle.task_claims.proofs.laws.counts_leave_records.Goals as goal

pub returns-clause-raised : goal.returns-clause-raised
returns-clause-raised g c = raised_same c

pub returns-clause-lowered : goal.returns-clause-lowered
returns-clause-lowered g c = lowered_same c

pub returns-clause-unraised : goal.returns-clause-unraised
returns-clause-unraised g c = unraised_by c

pub returns-clause-never : goal.returns-clause-never
returns-clause-never g c = unraised_lower c

pub returns-clause-deleted : goal.returns-clause-deleted
returns-clause-deleted c = λ mailbox amounts m. (deleted_same mailbox amounts m, unraised_deleted mailbox amounts m)

pub returns-clause-renamed : goal.returns-clause-renamed
returns-clause-renamed c = λ mailbox name m. (renamed_same mailbox name m, unraised_renamed mailbox name m)
