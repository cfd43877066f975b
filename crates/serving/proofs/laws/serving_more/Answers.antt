use Rattle.std.proofs.Common.{refl}
use Rattle.list_machine.specs.Run.{and_then, own_events}
use Rattle.task_steps.specs.Step.{and_told}
use Rattle.serving.specs.Lanes.{said_by}
use Rattle.serving.specs.OwnWork.{HasWorked}
use Rattle.serving.proofs.OwnWorkLemmas.{work_is_kept}
use Rattle.serving.proofs.ServingLemmas.{serving_more}
use Rattle.serving.proofs.laws.serving_more.Goals as goal

pub returns : goal.returns
returns c = λ start script run journal broken replies began now new lanes k place rest value request around after how s there queue asked d reads firm.
    serving_more HasWorked HasWorked start script run journal broken replies began now new lanes k place rest value request
    (record { events = own_events place (and_then run d.makes.event); answers = and_told (said_by journal place) d.makes.answer }) around after how s (λ j v other is work q has. work_is_kept work q) there queue asked d reads firm (refl, refl)
