use Rattle.lanes.proofs.TurnedLemmas.{turns_keep, turns_served, turns_traced}
use Rattle.lanes.proofs.laws.turns_go_on.Goals as goal

pub returns-clause-serves : goal.returns-clause-serves
returns-clause-serves g c = turns_served g.D.Disk.history g.D.Disk.faults

pub returns-clause-keeps : goal.returns-clause-keeps
returns-clause-keeps g c = turns_keep g.D.Disk.history g.D.Disk.faults

pub returns-clause-traces : goal.returns-clause-traces
returns-clause-traces g c = turns_traced g.D.Disk.history g.D.Disk.faults
