use Rattle.session.proofs.OneLemmas.{done_settled}
use Rattle.session.proofs.laws.requests_done_are_settled.Goals as goal

pub returns : goal.returns
returns g c = done_settled g.D.Disk.history g.D.Disk.faults
