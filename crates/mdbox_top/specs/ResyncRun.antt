-- How `resync` ends.
use Rattle.std.specs.Prelude.{◌≡◌, ℕ, List, Option}
use Rattle.disk_model.specs.Disk.{History, Faults, EachImage}
use Rattle.mdbox_base.specs.declared.replies.Refusal.{Refusal}
use Rattle.mdbox_base.specs.declared.replies.Refusal.TheVariants as refusal
use Rattle.mdbox_base.specs.declared.replies.Reply.{Reply}
use Rattle.mdbox_base.specs.declared.replies.Reply.TheVariants as reply
use Rattle.mdbox_base.specs.declared.requests.Request.TheVariants as request
use Rattle.model_lists.specs.Lists.{Lists}
use Rattle.model_meaning.specs.BoxMeaning.{BoxMeaning}
use Rattle.model_meaning.specs.MapMeaning.{MapMeaning}
use Rattle.model_store.specs.Safe.{Safe}
use Rattle.model_store.specs.Settled.{IsSettledFor}
use Rattle.store_open.specs.Opened.{IsOpenedAs}
use Rattle.store_sweep.specs.Moments.{NoFailedChange}
use Rattle.request_text.specs.declared.outcome.Outcome.{Outcome}
use Rattle.script_run.specs.One.{OpensUnchanged}
use Rattle.script_run.specs.Opening.{StaysSettled}
use Rattle.script_run.specs.Resynced.{IsResynced}
use Rattle.mdbox_top.specs.Changed.{LeavesMail}
use Rattle.mdbox_top.specs.Served.{RequestOutcome}

-- The files open with logs in which so many counts were put right, so that each is exactly its references, and nothing else is another;
-- and so many regions are damaged of those that the logs name, by what the disk read as the store was open.
pub record OpensResynced (corrected damaged : ℕ) (read : Option History) (m : MapMeaning) (meanings : List BoxMeaning) (new : Option History) : Type 0 where
  pub map : MapMeaning
  pub listings : List BoxMeaning
  pub opens : IsOpenedAs new map listings
  pub resynced : IsResynced corrected damaged read m meanings map listings

-- its two numbers are replied; or there was no memory, a read failed, or a change of the disk did, and the store is stopped
abbrev pub MayReplyResync : Reply → Type 0
MayReplyResync (reply.Resynced corrected damaged) = Unit {0}
MayReplyResync (reply.Refused refusal.NoMemory) = Unit {0}
MayReplyResync (reply.Refused refusal.ReadFault) = Unit {0}
MayReplyResync (reply.Refused refusal.Stopped) = Unit {0}
MayReplyResync given = ⊥

-- The reply to a resync, by what the logs mean from which the store opened, whether the files are safe for some lists or not. Where it
-- is refused, the store opens again, with logs that mean the same and the same mail, and the disk was swept. Unless the store is
-- stopped, a disk that was settled for lists is settled for them again, and storage files and instances are left as the opening left them.
pub record IsResyncReply (old new : Option History) (given : Reply) : Type 0 where
  pub m : MapMeaning
  pub meanings : List BoxMeaning
  pub opened : IsOpenedAs old m meanings
  pub given_is : MayReplyResync given
  pub mail : LeavesMail m given old new
  pub done : (corrected damaged : ℕ) → given ≡ reply.Resynced corrected damaged → OpensResynced corrected damaged mail.opened m meanings new
  pub refused : (why : Refusal) → given ≡ reply.Refused why → (why ≡ refusal.Stopped → ⊥) → OpensUnchanged m meanings old new
  pub settled : (given ≡ reply.Refused refusal.Stopped → ⊥) → StaysSettled old new

-- How `resync` ends: the reply is printed, which is `OK` and two numbers, or `NO 17 memory`, `NO 18 read fault` or `NO 19 stopped`; or a
-- prefix of it; or the store was not opened.
abbrev pub ResyncOutcome : Type 0 → Option (List ℕ) → Option (List ℕ) → Option History → Option History → Faults → Faults → Outcome → Type 0
ResyncOutcome D = RequestOutcome D IsResyncReply request.Resync

-- A crash at any moment leaves a disk that is safe for the lists for which it was settled, whatever fails.
abbrev pub ResyncMoments : Option History → Option History → Type 0
ResyncMoments old new = (lists : Lists) → IsSettledFor lists old → EachImage (λ _ image. Safe image lists) old new

-- If no change of the disk failed, a disk that was settled is settled again.
abbrev pub ResyncRests : Type 0 → Faults → Faults → Option History → Option History → Type 0
ResyncRests failed began now old new = NoFailedChange failed began now → StaysSettled old new
