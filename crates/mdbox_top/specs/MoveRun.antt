-- How `move` ends.
use Rattle.std.specs.Prelude.{◌≡◌, ◌⊎◌, ℕ, Bool, true, List, Option}
use Rattle.disk_model.specs.Disk.{History, Faults, EachImage}
use Rattle.mdbox_base.specs.declared.ids.Uid.{Uid}
use Rattle.mdbox_base.specs.declared.replies.Refusal.{Refusal}
use Rattle.mdbox_base.specs.declared.replies.Refusal.TheVariants as refusal
use Rattle.mdbox_base.specs.declared.replies.Reply.{Reply}
use Rattle.mdbox_base.specs.declared.replies.Reply.TheVariants as reply
use Rattle.mdbox_base.specs.declared.requests.Request.TheVariants as request
use Rattle.model_lists.specs.Lists.{Lists}
use Rattle.model_meaning.specs.BoxMeaning.{BoxMeaning}
use Rattle.model_meaning.specs.MapMeaning.{MapMeaning}
use Rattle.model_store.specs.Listing.{meaning_named}
use Rattle.model_store.specs.Safe.{Safe}
use Rattle.model_store.specs.Settled.{IsSettledFor}
use Rattle.mail_ops.specs.Copy.{copied_lists}
use Rattle.store_open.specs.Opened.{IsOpenedAs}
use Rattle.store_sweep.specs.Moments.{NoFailedChange}
use Rattle.request_text.specs.declared.outcome.Outcome.{Outcome}
use Rattle.script_run.specs.One.{IsMoveAnswer, OpensUnchanged, lists_behind, lists_told, moved_lists, uncopied_cause}
use Rattle.mdbox_top.specs.Changed.{OpensChanged, OpensAsBefore, LeavesMail}
use Rattle.mdbox_top.specs.Served.{RequestOutcome}

-- The reply to the move of this message, by what the logs mean from which the store opened. Where it is refused, the store opens
-- again, with logs that mean the same and the same mail, and the disk was swept. Out of memory, it opens with the same
-- listings and counts, the count of the message's record maybe raised and given back. Where it is done, its logs show the
-- lists with the copy and without the message; it never says that the message had gone. Unless the store is stopped, a disk that
-- was settled for lists is settled for those that the reply tells, and storage files and instances are left as the opening left them.
pub record IsMoveReply (name : List ℕ) (uid : Uid) (target : List ℕ) (old new : Option History) (given : Reply) : Type 0 where
  pub m : MapMeaning
  pub meanings : List BoxMeaning
  pub opened : IsOpenedAs old m meanings
  pub given_is : IsMoveAnswer (uncopied_cause (meaning_named name m.boxes meanings) (meaning_named target m.boxes meanings) m uid.0) (meaning_named target m.boxes meanings) given
  pub refused : (why : Refusal) → given ≡ reply.Refused why → (why ≡ refusal.Stopped → ⊥) → (why ≡ refusal.NoMemory → ⊥) → OpensUnchanged m meanings old new
  pub memory : given ≡ reply.Refused refusal.NoMemory → OpensAsBefore m meanings new
  pub done : (given_uid : Uid) (gone : Bool) → given ≡ reply.Moved given_uid gone → OpensChanged (lists_behind name uid target gone) m meanings new
  pub here : (moved : Uid) → given ≡ reply.Moved moved true → ⊥
  pub settled : (given ≡ reply.Refused refusal.Stopped → ⊥) → (lists : Lists) → IsSettledFor lists old → IsSettledFor (lists_told (request.Move name uid target) given lists) new
  pub mail : LeavesMail m given old new

-- How `move` ends: the reply is printed, which is `OK` with the UID of the copy, and `GONE` behind it if the message had gone; or
-- why the message isn't moved, or `NO 17 memory`, or `NO 19 stopped`; or a prefix of it; or the store was not opened.
abbrev pub MoveOutcome : Type 0 → List ℕ → Uid → List ℕ → Option (List ℕ) → Option (List ℕ) → Option History → Option History → Faults → Faults → Outcome → Type 0
MoveOutcome D name uid target = RequestOutcome D (IsMoveReply name uid target) (request.Move name uid target)

-- A crash at any moment leaves a disk that is safe for the lists for which it was settled, for those with the copy, or for those
-- that are moved, whatever fails.
abbrev pub MoveMoments : List ℕ → Uid → List ℕ → Option History → Option History → Type 0
MoveMoments name uid target old new = (lists : Lists) → IsSettledFor lists old
    → EachImage (λ _ image. Safe image lists ⊎ (Safe image (copied_lists name uid target lists) ⊎ Safe image (moved_lists name uid target lists))) old new

-- If no change of the disk failed, a disk that was settled for lists is settled for these, for those with the copy, or for those
-- that are moved.
abbrev pub MoveRests : List ℕ → Uid → List ℕ → Type 0 → Faults → Faults → Option History → Option History → Type 0
MoveRests name uid target failed began now old new = NoFailedChange failed began now → (lists : Lists) → IsSettledFor lists old
    → IsSettledFor lists new ⊎ (IsSettledFor (copied_lists name uid target lists) new ⊎ IsSettledFor (moved_lists name uid target lists) new)
