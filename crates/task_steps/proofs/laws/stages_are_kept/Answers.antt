use Rattle.task_steps.proofs.SeenLemmas.{not_begun_stays, number_still, was_pinned_still, others_still}
use Rattle.task_steps.proofs.laws.stages_are_kept.Goals as goal

pub returns-clause-unbegun : goal.returns-clause-unbegun
returns-clause-unbegun c = not_begun_stays

pub returns-clause-number : goal.returns-clause-number
returns-clause-number c = number_still

pub returns-clause-pinned : goal.returns-clause-pinned
returns-clause-pinned c = was_pinned_still

pub returns-clause-guid : goal.returns-clause-guid
returns-clause-guid c = others_still
