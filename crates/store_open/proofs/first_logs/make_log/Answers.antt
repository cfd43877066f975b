use Rattle.std.proofs.Common.{[]}
use Rattle.store_open.proofs.NewLogLemmas.{first-images, entry-images, ready-holds}
use Rattle.store_open.proofs.first_logs.make_log.Goals as goal

pub returns-in_err-log-clause-any_moment : goal.returns-in_err-log-clause-any_moment
returns-in_err-log-clause-any_moment g c = first-images c.args.name c.args.head c.args.entry.now _ _ c.in_err-log.ensures.any_moment

pub returns-in_err-reserve-clause-any_moment : goal.returns-in_err-reserve-clause-any_moment
returns-in_err-reserve-clause-any_moment g c = first-images c.args.name c.args.head c.args.entry.now _ _ c.in_ok-log.ensures.any_moment

pub returns-in_err-append-clause-any_moment : goal.returns-in_err-append-clause-any_moment
returns-in_err-append-clause-any_moment g c =
    entry-images c.args.name c.args.head c.args.entry.now c.in_ok-log.log c.reserve.new.self _ _ _ c.in_ok-log.ensures.log c.in_ok-reserve.ensures.same c.in_ok-log.ensures.others c.in_ok-log.ensures.any_moment
    (c.in_err-append.ensures.any_moment [] (ready-holds c.in_ok-log.log _ _ c.in_ok-reserve.ensures.same c.in_ok-log.ensures.made))

pub returns-clause-any_moment : goal.returns-clause-any_moment
returns-clause-any_moment g c =
    entry-images c.args.name c.args.head c.args.entry.now c.in_ok-log.log c.reserve.new.self _ _ _ c.in_ok-log.ensures.log c.in_ok-reserve.ensures.same c.in_ok-log.ensures.others c.in_ok-log.ensures.any_moment
    (c.in_ok-append.ensures.any_moment [] (ready-holds c.in_ok-log.log _ _ c.in_ok-reserve.ensures.same c.in_ok-log.ensures.made))

pub returns-clause-made : goal.returns-clause-made
returns-clause-made g c = c.in_ok-append.ensures.held [] (ready-holds c.in_ok-log.log _ _ c.in_ok-reserve.ensures.same c.in_ok-log.ensures.made)
