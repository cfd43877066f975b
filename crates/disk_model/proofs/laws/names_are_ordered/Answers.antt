use Rattle.disk_model.proofs.NameOrderLemmas.{insts-order}
use Rattle.disk_model.proofs.laws.names_are_ordered.Goals as goal

pub returns-clause-insts : goal.returns-clause-insts
returns-clause-insts c = insts-order
