use Rattle.std.proofs.Common.{◌≡◌, take, arith}
use Rattle.std.proofs.lemmas.List.{take_all}
use Rattle.gate_log.proofs.log.GateLog.append.Given.{Over}
use Rattle.gate_log.proofs.log.GateLog.append.Goals.{After-append_many}
use Rattle.gate_log.proofs.log.GateLog.append.Goals as goal

-- the one entry is all of the octets
one : (g : Over) (c : After-append_many g) → take c.size_of-size.result c.args.entry.now ≡ c.args.entry.now
one g c = take_all c.size_of-size.result c.args.entry.now (omega (arith, c.size_of-size.ensures))

pub returns-clause-any_moment : goal.returns-clause-any_moment
returns-clause-any_moment g c = rw (one g (goal.at.returns-clause-any_moment g c).After-append_many) at c.append_many.ensures.any_moment

pub returns-clause-added : goal.returns-clause-added
returns-clause-added g c = rw (one g (goal.at.returns-clause-added g c).After-append_many) at c.append_many.ensures.added

pub returns-clause-held : goal.returns-clause-held
returns-clause-held g c = rw (one g (goal.at.returns-clause-held g c).After-append_many) at c.append_many.ensures.held
