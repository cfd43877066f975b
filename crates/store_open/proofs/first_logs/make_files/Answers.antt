use Rattle.store_open.specs.Making.{IsFreeForStore}
use Rattle.store_open.proofs.IdleUnlessLemmas.{stays, has_it}
use Rattle.store_open.proofs.FirstLogsLemmas.{all-bare, checked-images, cleared-images, made-images}
use Rattle.store_open.proofs.first_logs.make_files.Goals as goal

pub make_logs-requires-clause-bare : goal.make_logs-requires-clause-bare
make_logs-requires-clause-bare g c = all-bare _ _ _ c.in_ok-check_free.ensures.free c.in_ok-check_free.ensures.idle c.in_ok-remove_old_logs.ensures.cleared

pub returns-in_err-check_free-clause-any_moment : goal.returns-in_err-check_free-clause-any_moment
returns-in_err-check_free-clause-any_moment g c = checked-images _ _ _ c.in_err-check_free.ensures.idle

pub returns-in_err-inbox-clause-any_moment : goal.returns-in_err-inbox-clause-any_moment
returns-in_err-inbox-clause-any_moment g c = checked-images _ _ _ c.in_ok-check_free.ensures.idle

pub returns-in_err-first-clause-any_moment : goal.returns-in_err-first-clause-any_moment
returns-in_err-first-clause-any_moment g c = checked-images _ _ _ c.in_ok-check_free.ensures.idle

pub returns-in_err-remove_old_logs-clause-any_moment : goal.returns-in_err-remove_old_logs-clause-any_moment
returns-in_err-remove_old_logs-clause-any_moment g c = cleared-images _ _ _ _ c.in_ok-check_free.ensures.idle c.in_err-remove_old_logs.ensures.any_moment

pub returns-clause-any_moment : goal.returns-clause-any_moment
returns-clause-any_moment g c =
    made-images _ _ _ _ _ c.in_ok-check_free.ensures.idle c.in_ok-remove_old_logs.ensures.cleared c.in_ok-remove_old_logs.ensures.any_moment c.make_logs.ensures.any_moment

pub returns-in_err-check_free-clause-untouched : goal.returns-in_err-check_free-clause-untouched
returns-in_err-check_free-clause-untouched g c = stays IsFreeForStore _ _ c.in_err-check_free.ensures.idle

pub returns-in_err-inbox-clause-untouched : goal.returns-in_err-inbox-clause-untouched
returns-in_err-inbox-clause-untouched g c = has_it IsFreeForStore _ _ c.in_ok-check_free.ensures.free

pub returns-in_err-first-clause-untouched : goal.returns-in_err-first-clause-untouched
returns-in_err-first-clause-untouched g c = has_it IsFreeForStore _ _ c.in_ok-check_free.ensures.free

pub returns-in_err-remove_old_logs-clause-untouched : goal.returns-in_err-remove_old_logs-clause-untouched
returns-in_err-remove_old_logs-clause-untouched g c = has_it IsFreeForStore _ _ c.in_ok-check_free.ensures.free

pub returns-clause-untouched : goal.returns-clause-untouched
returns-clause-untouched g c = has_it IsFreeForStore _ _ c.in_ok-check_free.ensures.free
