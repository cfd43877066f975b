use Rattle.attach_detach.proofs.NamingLemmas.{are_detached}
use Rattle.attach_detach.proofs.laws.prepared_is_detached.Goals as goal

pub returns : goal.returns
returns c message p refs h named = are_detached message p refs h named
