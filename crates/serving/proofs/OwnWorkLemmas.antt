-- What a request has done stays with every event of another request.
use Rattle.std.proofs.Common.{◌∙◌}
use Rattle.mdbox_base.specs.declared.requests.Request.{Request}
use Rattle.journal.proofs.OwnEventLemmas.{own_other}
use Rattle.task_steps.specs.Step.{IsKept}
use Rattle.serving.specs.OwnWork.{HasWorked, OwnWork}
use Rattle.serving.proofs.LaneLemmas.{differ_test}

pub work_is_kept : (work : OwnWork) (request : Request) → IsKept (HasWorked work request)
work_is_kept work request run place said event other gives is = (own_other place run event (differ_test event.request place other) ∙ is.0, is.1)
