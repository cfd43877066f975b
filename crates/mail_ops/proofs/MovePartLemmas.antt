-- The parts of a move: its first half is that of a request that copies, and what stands behind it.
use Rattle.mail_ops.proofs.Common.{◌≡◌, ◌||◌, ℕ, Bool, true, false, List, [], ◌∷◌, Option, Some, None, refl, ◌∙◌, ap, arith, common_steps, nat_tests, is_some, nat_lt, length, if◌then◌else◌, MapUid, Uid, Refusal, Reply, EventPart, Last, GivesBack, BoxAppend, Run, own_events, uid_copied, is_step, IsReplyOf}
use Rattle.mail_ops.proofs.Common.{Around, is_elsewhere, last_refusal, next_part, EndsInPart}
use Rattle.mdbox_base.specs.declared.replies.Refusal.TheVariants as refusal
use Rattle.mdbox_base.specs.declared.replies.Reply.TheVariants as reply
use Rattle.mdbox_base.specs.declared.requests.Request.TheVariants as request
use Rattle.mdbox_base.specs.declared.script.Half.TheVariants as half
use Rattle.list_machine.specs.Run.{SecondHalf}
use Rattle.journal.specs.Events.{behind_copy, behind_move, behind_refused, ends_with_count}
use Rattle.journal.specs.Journal.{half_of}
use Rattle.mail_ops.specs.CopyStages.{adding_part}
use Rattle.mail_ops.specs.MoveStages.{HasCopied, HasMoved}
use Rattle.mail_ops.proofs.CopyPartLemmas.{IsCopying}
use Rattle.mail_ops.proofs.LastEventLemmas.{next_behind}

move_back : (name : List ℕ) (uid : Uid) (target : List ℕ) (elsewhere : Bool) (why : Refusal) → (why ≡ refusal.Stopped → ⊥) → behind_refused (request.Move name uid target) (adding_part elsewhere) why ≡ Some GivesBack
move_back name uid target elsewhere why other = grind (arith, common_steps, nat_tests)

move_replied : (name : List ℕ) (uid : Uid) (target : List ℕ) (why : Refusal) → is_step why ≡ true → IsReplyOf (request.Move name uid target) (reply.Refused why ∷ []) (reply.Refused why)
move_replied name uid target why s = grind (arith, common_steps, nat_tests)

move_stopped : (name : List ℕ) (uid : Uid) (target : List ℕ) (elsewhere : Bool) → behind_refused (request.Move name uid target) (adding_part elsewhere) refusal.Stopped ≡ None
move_stopped name uid target elsewhere = grind (arith, common_steps, nat_tests)

move_half : (name : List ℕ) (uid : Uid) (target : List ℕ) (elsewhere : Bool) → half_of (request.Move name uid target) (adding_part elsewhere) ≡ half.CopyHalf
move_half name uid target true = refl
move_half name uid target false = refl

pub move_copies : (name : List ℕ) (uid : Uid) (target : List ℕ) → IsCopying (request.Move name uid target) name uid target half.CopyHalf
move_copies name uid target = record {
  finds = λ around event. tt;
  found = λ around run event part. tt;
  checks = λ run event part. refl;
  did_first = λ around run lists event d. d;
  did_last = λ around run lists event d. d;
  did_over = λ around run lists event d. d;
  did_back = λ around run lists event d. d;
  behind_first = λ around run event e. ap (behind_move (is_elsewhere run event.request name) (ends_with_count run event.request) event) e;
  behind_over = λ around run event e. ap (behind_move (is_elsewhere run event.request name) (ends_with_count run event.request) event) e;
  behind_back = λ around run event e. ap (behind_move (is_elsewhere run event.request name) (ends_with_count run event.request) event) e;
  refused_first = λ why. refl;
  refused_back = λ why. refl;
  refused_adding = move_back name uid target;
  stopped_adding = move_stopped name uid target;
  memory_first = refl;
  memory_last = refl;
  in_range = tt;
  answers = λ run lists event given left allowed copied. (allowed, copied);
  steps_last = refl;
  steps_first = refl;
  steps_over = refl;
  steps_back = refl;
  half_first = refl;
  half_adding = move_half name uid target;
  halves = refl;
  replied = move_replied name uid target;
}

-- ---- the next part, by the stage

-- behind events of which none was refused
move_behind : (around : Around) (run : Run) (name : List ℕ) (uid : Uid) (target : List ℕ) (place : ℕ) (part : EventPart) → last_refusal (own_events place run) ≡ None → (e : EndsInPart part (own_events place run))
    → next_part around run (request.Move name uid target) (own_events place run) ≡ behind_move (is_elsewhere run e.last.request name) (ends_with_count run e.last.request) e.last part
move_behind around run name uid target place part unrefused e =
    next_behind around run (request.Move name uid target) place part unrefused e ∙ ap (behind_move (is_elsewhere run e.last.request name) (ends_with_count run e.last.request) e.last) e.part_is

pub removes_next : (around : Around) (run : Run) (name : List ℕ) (uid : Uid) (target : List ℕ) (held : MapUid) (copied : Uid) (source place : ℕ) (said : List Reply) → HasCopied held copied source run place said → next_part around run (request.Move name uid target) (own_events place run) ≡ Some SecondHalf
removes_next around run name uid target held copied source place said h = move_behind around run name uid target place Last h.unrefused h.last

pub lowers_next : (around : Around) (run : Run) (name : List ℕ) (uid : Uid) (target : List ℕ) (owed : MapUid) (copied : Uid) (place : ℕ) (said : List Reply) → HasMoved uid owed copied run place said → next_part around run (request.Move name uid target) (own_events place run) ≡ Some GivesBack
lowers_next around run name uid target owed copied place said h =
    move_behind around run name uid target place SecondHalf h.unrefused h.last ∙ ap (λ (bs : List BoxAppend). if nat_lt 0 (length bs) then Some GivesBack else None) h.removed

-- a count that is given back ends a move that has added its message
pub copied_ends : (elsewhere : Bool) (place : ℕ) (run : Run) (copied : ℕ) → uid_copied place run ≡ Some copied → behind_copy elsewhere (ends_with_count run place) GivesBack ≡ None
copied_ends elsewhere place run copied is = ap (λ (o : Option ℕ). behind_copy elsewhere (is_some o || is_some (last_refusal (own_events place run))) GivesBack) is
