use Rattle.map_rows.proofs.Common.{ap, subst, AreNamings, NamesValue}
use Rattle.map_rows.proofs.names.InstanceNames.known_facts.Goals as goal

pub returns : goal.returns
returns c = subst AreNamings (ap (λ (v : NamesValue). v.named) c.self.view_is) c.self.invariant.0
