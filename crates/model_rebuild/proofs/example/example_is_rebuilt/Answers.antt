use Rattle.std.specs.Prelude.{refl}
use Rattle.model_rebuild.proofs.RebuildExampleLemmas.{example_planned}
use Rattle.model_rebuild.proofs.example.example_is_rebuilt.Goals as goal

pub returns-clause-plan : goal.returns-clause-plan
returns-clause-plan c = example_planned

pub returns-clause-lists : goal.returns-clause-lists
returns-clause-lists c = refl

pub returns-clause-map_log : goal.returns-clause-map_log
returns-clause-map_log c = refl

pub returns-clause-work_log : goal.returns-clause-work_log
returns-clause-work_log c = refl
