use Rattle.serving.specs.Lanes.{lane_behind}
use Rattle.serving.proofs.TurnLemmas.{none_behind, trace_begins, trace_finishing, trace_idle, trace_on, turn_made, turn_of_event}
use Rattle.serving.proofs.laws.turns_pass.Goals as goal

pub returns-clause-begun : goal.returns-clause-begun
returns-clause-begun c = trace_begins

pub returns-clause-worked : goal.returns-clause-worked
returns-clause-worked c = λ turns run lanes k value work event ended there on t. trace_on turns run lanes k value (lane_behind ended work value) event there (none_behind ended work value) on t

pub returns-clause-finishing : goal.returns-clause-finishing
returns-clause-finishing c = λ finished turns run lanes k value work event ended there t. trace_finishing finished turns run lanes k value (lane_behind ended work value) event there (none_behind ended work value) t

pub returns-clause-idle : goal.returns-clause-idle
returns-clause-idle c = trace_idle

pub returns-clause-made : goal.returns-clause-made
returns-clause-made c = turn_made

pub returns-clause-turned : goal.returns-clause-turned
returns-clause-turned c = turn_of_event
