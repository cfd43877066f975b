use Rattle.serving.specs.OwnWork.{HasWorked}
use Rattle.serving.proofs.OwnWorkLemmas.{work_is_kept}
use Rattle.serving.proofs.ServingLemmas.{serving_done}
use Rattle.serving.proofs.laws.serving_done.Goals as goal

pub returns : goal.returns
returns c = λ start script run journal broken replies began now new lanes k place rest value request work around after how given s there queue asked d reads firm.
    serving_done HasWorked HasWorked start script run journal broken replies began now new lanes k place rest value request work around after how given s (λ j v other is work q has. work_is_kept work q) there queue asked d reads firm
