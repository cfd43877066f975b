use Rattle.std.proofs.Common.{refl}
use Rattle.model_logs.specs.LogFile.{IsLog}
use Rattle.gate_log.proofs.OpenLogLemmas.{read-log, idle-images, idle-others_stay, opened-images, opened-others_stay}
use Rattle.gate_log.proofs.log.open_log.Given.{Over}
use Rattle.gate_log.proofs.log.open_log.Goals.{In_ok-found}
use Rattle.gate_log.proofs.log.open_log.Goals as goal

log : (g : Over) (c : In_ok-found g) → IsLog c.in_ok-found.ensures.octets.0 c.args.head c.in_ok-found.read.entries
log g c = let octets = c.in_ok-found.ensures.octets in read-log octets.0 octets.0 c.args.head c.in_ok-found.read (octets.1, c.in_ok-found.ensures.log.3) refl

pub returns-in_err-found-clause-any_moment : goal.returns-in_err-found-clause-any_moment
returns-in_err-found-clause-any_moment g c = λ octets entries k l. idle-images c.args.name c.args.head entries octets _ _ c.inspect_log.ensures.idle k l

pub returns-in_err-found-clause-others_stay : goal.returns-in_err-found-clause-others_stay
returns-in_err-found-clause-others_stay g c = idle-others_stay c.args.name _ _ c.inspect_log.ensures.idle

pub returns-in_err-log-clause-any_moment : goal.returns-in_err-log-clause-any_moment
returns-in_err-log-clause-any_moment g c = λ octets entries k l.
    let found = c.in_ok-found.ensures in
    opened-images c.in_ok-found.found c.args.name c.args.head c.in_ok-found.read.entries entries found.octets.0 octets _ _ _ found.log.0 found.log.1 found.idle found.octets.2
    (log g (goal.at.returns-in_err-log-clause-any_moment g c).In_ok-found) k l
    (c.repair.ensures.any_moment c.in_ok-found.read.entries (found.kept octets k))

pub returns-in_err-log-clause-others_stay : goal.returns-in_err-log-clause-others_stay
returns-in_err-log-clause-others_stay g c = opened-others_stay c.in_ok-found.found c.args.name _ _ _ c.in_ok-found.ensures.log.0 c.in_ok-found.ensures.idle c.repair.ensures.others_stay

pub returns-clause-any_moment : goal.returns-clause-any_moment
returns-clause-any_moment g c = λ octets entries k l.
    let found = c.in_ok-found.ensures in
    opened-images c.in_ok-found.found c.args.name c.args.head c.in_ok-found.read.entries entries found.octets.0 octets _ _ _ found.log.0 found.log.1 found.idle found.octets.2
    (log g (goal.at.returns-clause-any_moment g c).In_ok-found) k l
    (c.repair.ensures.any_moment c.in_ok-found.read.entries (found.kept octets k))

pub returns-clause-others_stay : goal.returns-clause-others_stay
returns-clause-others_stay g c = opened-others_stay c.in_ok-found.found c.args.name _ _ _ c.in_ok-found.ensures.log.0 c.in_ok-found.ensures.idle c.repair.ensures.others_stay
