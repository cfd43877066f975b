-- Where a deletion stands, and the part that comes next.
use Rattle.mail_ops.proofs.Common.{◌≡◌, ℕ, List, [], ◌∷◌, ◌++◌, Option, Some, None, ◌∙◌, ap, eq-eqb, ne_eqb, Refusal, Reply, RunEvent, Run, and_then, own_events, Around, last_refusal, next_part, own_more, own_other, HasNotBegun, IsKept, First}
use Rattle.mail_ops.proofs.Common.{not_begun_stays}
use Rattle.mdbox_base.specs.declared.replies.Reply.TheVariants as reply
use Rattle.mdbox_base.specs.declared.requests.Request.TheVariants as request
use Rattle.list_machine.specs.Run.{RemovesLog}
use Rattle.journal.specs.Events.{behind_delete, behind_event}
use Rattle.mail_ops.specs.DeleteStages.{HasDeleted}
use Rattle.mail_ops.specs.Deleting.{IsAtDelete}
use Rattle.mail_ops.specs.declared.deleting.DeleteStage.{DeleteStage}
use Rattle.mail_ops.specs.declared.deleting.DeleteStage.TheVariants as stage

-- behind its only event it removes the log
pub removing_next : (around : Around) (run : Run) (name : List ℕ) (place : ℕ) (said : List Reply) → HasDeleted run place said → next_part around run (request.Delete name) (own_events place run) ≡ Some RemovesLog
removing_next around run name place said stood =
    ap (λ (es : List RunEvent). next_part around run (request.Delete name) es) stood.own_is
    ∙ (ap (λ (r : Option Refusal). behind_event around run (request.Delete name) stood.event r) stood.unrefused ∙ ap behind_delete stood.part_is)

-- and none of its events was refused
pub none_refused : (run : Run) (place : ℕ) (said : List Reply) → HasDeleted run place said → last_refusal (own_events place run) ≡ None
none_refused run place said stood = ap last_refusal stood.own_is ∙ stood.unrefused

-- behind the event that removed the mailbox
pub deleted_then : (run : Run) (event : RunEvent) (place : ℕ) (said : List Reply) → HasNotBegun run place said → event.request ≡ place → event.part ≡ First → event.refused ≡ None → HasDeleted (and_then run event) place (said ++ reply.Done ∷ [])
deleted_then run event place said stood own part unrefused = record {
  event = event;
  own_is = own_more place run event (eq-eqb event.request place own) ∙ ap (λ (es : List RunEvent). es ++ event ∷ []) stood.0;
  part_is = part;
  unrefused = unrefused;
  answered = ap (λ (before : List Reply). before ++ reply.Done ∷ []) stood.1;
}

-- ---- as other requests go on

pub delete_kept : (now : DeleteStage) → IsKept (IsAtDelete now)
delete_kept stage.First = not_begun_stays
delete_kept (stage.RemovingLog number generation) = λ run place said event other new stood.
    let same = own_other place run event (ne_eqb event.request place other) in record {
      event = stood.event;
      own_is = same ∙ stood.own_is;
      part_is = stood.part_is;
      unrefused = stood.unrefused;
      answered = stood.answered;
    }
