use Rattle.save_instances.proofs.FoundLemmas.{holds_alone, holds_few}
use Rattle.save_instances.proofs.laws.own_holds_are_few.Goals as goal

pub returns-clause-alone : goal.returns-clause-alone
returns-clause-alone g c = holds_alone

pub returns-clause-few : goal.returns-clause-few
returns-clause-few g c = holds_few
