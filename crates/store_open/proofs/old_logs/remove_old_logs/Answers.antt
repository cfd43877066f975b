use Rattle.store_open.proofs.OldLogLemmas.{cleared-images, cleared-fails, cleared-none, cleared-synced}
use Rattle.store_open.proofs.old_logs.remove_old_logs.Goals as goal

pub returns-in_err-sync_names-clause-any_moment : goal.returns-in_err-sync_names-clause-any_moment
returns-in_err-sync_names-clause-any_moment g c = cleared-fails _ _ _ c.in_ok-remove_logs.ensures.any_moment c.in_err-sync_names.ensures.failed

pub returns-in_ok-sync_names-clause-any_moment : goal.returns-in_ok-sync_names-clause-any_moment
returns-in_ok-sync_names-clause-any_moment g c = cleared-images _ _ _ c.in_ok-remove_logs.ensures.taken c.in_ok-remove_logs.ensures.any_moment c.in_ok-sync_names.ensures.state

pub returns-in_ok-sync_names-clause-cleared : goal.returns-in_ok-sync_names-clause-cleared
returns-in_ok-sync_names-clause-cleared g c = cleared-synced _ _ _ c.in_ok-remove_logs.ensures.taken c.in_ok-sync_names.ensures.state

pub returns-else-branch-clause-cleared : goal.returns-else-branch-clause-cleared
returns-else-branch-clause-cleared g c = cleared-none _ _ c.in_ok-remove_logs.ensures.taken (c.in_ok-remove_logs.ensures.any c.if-branch.false)
