-- How `copy` ends.
use Rattle.std.specs.Prelude.{◌≡◌, ℕ, List, Option}
use Rattle.disk_model.specs.Disk.{History, Faults}
use Rattle.mdbox_base.specs.declared.ids.Uid.{Uid}
use Rattle.mdbox_base.specs.declared.replies.Refusal.{Refusal}
use Rattle.mdbox_base.specs.declared.replies.Refusal.TheVariants as refusal
use Rattle.mdbox_base.specs.declared.replies.Reply.{Reply}
use Rattle.mdbox_base.specs.declared.replies.Reply.TheVariants as reply
use Rattle.mdbox_base.specs.declared.requests.Request.TheVariants as request
use Rattle.model_lists.specs.Lists.{Lists}
use Rattle.model_meaning.specs.BoxMeaning.{BoxMeaning}
use Rattle.model_meaning.specs.MapMeaning.{MapMeaning}
use Rattle.model_store.specs.Listing.{meaning_named}
use Rattle.model_store.specs.Settled.{IsSettledFor}
use Rattle.mail_ops.specs.Copy.{copied_lists}
use Rattle.store_open.specs.Opened.{IsOpenedAs}
use Rattle.request_text.specs.declared.outcome.Outcome.{Outcome}
use Rattle.script_run.specs.One.{IsCopyAnswer, OpensUnchanged, lists_told, uncopied_cause}
use Rattle.mdbox_top.specs.Changed.{OpensChanged, OpensAsBefore, ChangeMoments, ChangeRests, LeavesMail}
use Rattle.mdbox_top.specs.Served.{RequestOutcome}

-- The reply to the copy of this message, by what the logs mean from which the store opened. Where it is refused, the store opens
-- again, with logs that mean the same and the same mail, and the disk was swept. Out of memory, it opens with the same
-- listings and counts, the count of the message's record maybe raised and given back. Where it is done, its logs show the
-- lists with the copy. Unless the store is stopped, a disk that was settled for lists is settled for those that the reply tells,
-- and storage files and instances are left as the opening left them.
pub record IsCopyReply (name : List ℕ) (uid : Uid) (target : List ℕ) (old new : Option History) (given : Reply) : Type 0 where
  pub m : MapMeaning
  pub meanings : List BoxMeaning
  pub opened : IsOpenedAs old m meanings
  pub given_is : IsCopyAnswer (uncopied_cause (meaning_named name m.boxes meanings) (meaning_named target m.boxes meanings) m uid.0) (meaning_named target m.boxes meanings) given
  pub refused : (why : Refusal) → given ≡ reply.Refused why → (why ≡ refusal.Stopped → ⊥) → (why ≡ refusal.NoMemory → ⊥) → OpensUnchanged m meanings old new
  pub memory : given ≡ reply.Refused refusal.NoMemory → OpensAsBefore m meanings new
  pub done : (given_uid : Uid) → given ≡ reply.Copied given_uid → OpensChanged (copied_lists name uid target) m meanings new
  pub settled : (given ≡ reply.Refused refusal.Stopped → ⊥) → (lists : Lists) → IsSettledFor lists old → IsSettledFor (lists_told (request.Copy name uid target) given lists) new
  pub mail : LeavesMail m given old new

-- How `copy` ends: the reply is printed, which is `OK` with the UID of the copy, or why the message isn't copied, or
-- `NO 17 memory`, or `NO 19 stopped`; or a prefix of it; or the store was not opened.
abbrev pub CopyOutcome : Type 0 → List ℕ → Uid → List ℕ → Option (List ℕ) → Option (List ℕ) → Option History → Option History → Faults → Faults → Outcome → Type 0
CopyOutcome D name uid target = RequestOutcome D (IsCopyReply name uid target) (request.Copy name uid target)

-- A crash at any moment leaves a disk that is safe for the lists for which it was settled, or for those with the copy, whatever
-- fails.
abbrev pub CopyMoments : List ℕ → Uid → List ℕ → Option History → Option History → Type 0
CopyMoments name uid target old new = ChangeMoments (copied_lists name uid target) old new

-- If no change of the disk failed, a disk that was settled for lists is settled for these, or for those with the copy.
abbrev pub CopyRests : List ℕ → Uid → List ℕ → Type 0 → Faults → Faults → Option History → Option History → Type 0
CopyRests name uid target failed began now old new = ChangeRests (copied_lists name uid target) failed began now old new
