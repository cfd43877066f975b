-- The lists that a request alone leaves that was served.
use Rattle.std.specs.Prelude.{◌≡◌, ℕ, true, List, [], ◌∷◌, ◌⊎◌, Option, Some}
use Rattle.std.proofs.Common.{sym, subst, inl, inr}
use Rattle.disk_model.specs.Disk.{Faults, History}
use Rattle.mdbox_base.specs.declared.entries.Highest.{Highest}
use Rattle.mdbox_base.specs.declared.ids.Uid.{Uid}
use Rattle.mdbox_base.specs.declared.replies.Refusal.TheVariants as refusal
use Rattle.mdbox_base.specs.declared.replies.Reply.{Reply}
use Rattle.mdbox_base.specs.declared.replies.Reply.TheVariants as reply
use Rattle.mdbox_base.specs.declared.requests.Request.{Request}
use Rattle.mdbox_base.specs.declared.requests.Request.TheVariants as request
use Rattle.model_lists.specs.Lists.{Lists}
use Rattle.model_meaning.specs.BoxMeaning.{BoxMeaning}
use Rattle.model_meaning.specs.MapMeaning.{MapMeaning}
use Rattle.model_store.specs.Settled.{IsSettledFor}
use Rattle.list_machine.specs.Run.{Run}
use Rattle.journal.specs.Journal.{Broken, IsReplyOf, JournalStep, left_by}
use Rattle.journal.specs.Makes.{IsServed}
use Rattle.script_run.specs.One.{AreListsTold, IsUnfailed, ServesRequest, alone}
use Rattle.script_run.specs.Opening.{LogsShowLists}
use Rattle.script_run.proofs.CopyRunLemmas.{copies_alone}
use Rattle.script_run.proofs.ReachedMoveLemmas.{removes_by_name}
use Rattle.script_run.proofs.ToldLemmas.{IsMove, answers_of, left_moved, left_one, move_said, no_move, replied_one, what_said}

-- Where no call of the disk failed, it leaves the lists that its reply tells.
pub told_left : (start : Lists) (asked : Request) (run : Run) (journal : List JournalStep) (broken : Broken) (given : Reply) (old new : Faults) (first m : MapMeaning) (drawn : Highest) (calls : ℕ) (meanings : List BoxMeaning) → LogsShowLists first meanings start
    → IsServed start (alone asked) run journal broken (Some given ∷ []) old new first m drawn calls → IsUnfailed given → AreListsTold asked given start (left_by start journal)
told_left start asked run journal broken given old new first m drawn calls meanings shown s u = by_kind (no_move asked)
  where
    replied : IsReplyOf asked (answers_of journal) given
    replied = replied_one start asked run journal given old new s.legal

    by_kind : ((name : List ℕ) × (uid : Uid) × (target : List ℕ) × (asked ≡ request.Move name uid target)) ⊎ (IsMove asked → ⊥) → AreListsTold asked given start (left_by start journal)
    by_kind (inr other) = left_one run asked start journal given other s.legal.steps (what_said asked given (answers_of journal) other u replied)
    by_kind (inl (name, uid, target, is)) =
        let moved = subst (λ (q : Request). IsServed start (alone q) run journal broken (Some given ∷ []) old new first m drawn calls) is s in
        subst (λ (q : Request). AreListsTold q given start (left_by start journal)) (sym is)
        (left_moved run name uid target start journal given (removes_by_name name uid target run start journal (copies_alone true name uid target start run journal broken (Some given ∷ []) old new first m drawn calls meanings shown moved)) moved.legal.steps
        (move_said name uid target given (answers_of journal) u (subst (λ (q : Request). IsReplyOf q (answers_of journal) given) is replied)))

-- So the disk is settled for them.
settled_as : (asked : Request) (given : Reply) (lists left : Lists) (new : Option History) → AreListsTold asked given lists left → IsSettledFor left new → (later : Lists) × AreListsTold asked given lists later × IsSettledFor later new
settled_as asked given lists left new told settled = (left, told, settled)

pub settles_one : (asked : Request) (given : Reply) (lists : Lists) (began now : Faults) (old new : Option History) → ServesRequest asked lists given began now old new → IsUnfailed given → IsSettledFor lists old → (later : Lists) × AreListsTold asked given lists later × IsSettledFor later new
settles_one asked given lists began now old new s unfailed settled =
    settled_as asked given lists (left_by lists s.journal) new (told_left lists asked s.run s.journal s.broken given began now _ s.m s.drawn _ s.meanings s.shown s.served unfailed) (s.settled (runs given unfailed) settled)
  where
    runs : (given : Reply) → IsUnfailed given → given ≡ reply.Refused refusal.Stopped → ⊥
    runs given unfailed is = subst IsUnfailed is unfailed
