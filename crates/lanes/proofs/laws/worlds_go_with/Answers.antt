use Rattle.lanes.proofs.WithLemmas.{follow, keep_with, own_entries}
use Rattle.lanes.proofs.laws.worlds_go_with.Goals as goal

pub returns-clause-keeps : goal.returns-clause-keeps
returns-clause-keeps g c = keep_with g.D.Disk.history g.D.Disk.faults

pub returns-clause-follow : goal.returns-clause-follow
returns-clause-follow g c = follow g.D.Disk.history g.D.Disk.faults

pub returns-clause-own : goal.returns-clause-own
returns-clause-own g c = own_entries g.D.Disk.history g.D.Disk.faults
