-- How `flag` ends.
use Rattle.std.specs.Prelude.{◌≡◌, ◌⊎◌, ℕ, List, Option, Some}
use Rattle.disk_model.specs.Disk.{History, Faults}
use Rattle.mdbox_base.specs.declared.ids.Uid.{Uid}
use Rattle.mdbox_base.specs.declared.replies.Refusal.{Refusal}
use Rattle.mdbox_base.specs.declared.replies.Refusal.TheVariants as refusal
use Rattle.mdbox_base.specs.declared.replies.Reply.{Reply}
use Rattle.mdbox_base.specs.declared.replies.Reply.TheVariants as reply
use Rattle.mdbox_base.specs.declared.requests.Request.TheVariants as request
use Rattle.model_lists.specs.Lists.{Lists, AreWellFormed}
use Rattle.list_machine.specs.Machine.{set_flags}
use Rattle.model_meaning.specs.BoxMeaning.{BoxMeaning}
use Rattle.model_meaning.specs.MapMeaning.{MapMeaning}
use Rattle.model_store.specs.Listing.{ShowLists, meaning_named}
use Rattle.model_store.specs.Settled.{IsSettledFor, Leaves}
use Rattle.mail_ops.specs.Requests.{lists_by_reply}
use Rattle.store_open.specs.Opened.{IsOpenedAs, StoreCarries}
use Rattle.store_sweep.specs.Moments.{NoFailedChange}
use Rattle.store_sweep.specs.Swept.{IsSwept}
use Rattle.request_text.specs.declared.outcome.Outcome.{Outcome}
use Rattle.script_run.specs.One.{missing_cause, IsFlagAnswer}
use Rattle.mdbox_top.specs.Changed.{LeavesMail}
use Rattle.mdbox_top.specs.Served.{RequestOutcome}

-- The files open, and of any lists that these logs showed their logs show those with the flags set.
pub record HasFlagged (name : List ℕ) (uid flags : ℕ) (m : MapMeaning) (meanings : List BoxMeaning) (new : Option History) : Type 0 where
  pub map : MapMeaning
  pub flagged : List BoxMeaning
  pub opened : IsOpenedAs new map flagged
  pub shows : (lists : Lists) → AreWellFormed lists → ShowLists m.boxes meanings lists → ShowLists map.boxes flagged (set_flags name uid flags lists)

-- The reply to the setting of these flags, by what the logs mean from which the store opened. Where it is refused, the store
-- opens again, with logs that mean the same and the same mail, and the disk was swept. Where it is done, they have the
-- flags. Unless the store is stopped, a disk that was settled for lists is settled for those that the reply tells, and storage
-- files and instances are left as the opening left them.
pub record IsFlagReply (name : List ℕ) (uid : Uid) (flags : ℕ) (old new : Option History) (given : Reply) : Type 0 where
  pub m : MapMeaning
  pub meanings : List BoxMeaning
  pub opened : IsOpenedAs old m meanings
  pub given_is : IsFlagAnswer (missing_cause (meaning_named name m.boxes meanings) uid.0) given
  pub refused : (why : Refusal) → missing_cause (meaning_named name m.boxes meanings) uid.0 ≡ Some why → IsOpenedAs new m meanings × StoreCarries old new × ((generation : ℕ) × IsSwept generation m old new)
  pub done : given ≡ reply.Done → HasFlagged name uid.0 flags m meanings new
  pub settled : (given ≡ reply.Refused refusal.Stopped → ⊥) → (lists : Lists) → IsSettledFor lists old → IsSettledFor (lists_by_reply (request.Flag name uid flags) given lists) new
  pub mail : LeavesMail m given old new

-- How `flag` ends: the reply is printed, which is `OK`, or `NO 10 no mailbox` or `NO 12 no message` if there is none, or `NO 19
-- stopped`; or a prefix of it; or the store was not opened.
abbrev pub FlagOutcome : Type 0 → List ℕ → Uid → ℕ → Option (List ℕ) → Option (List ℕ) → Option History → Option History → Faults → Faults → Outcome → Type 0
FlagOutcome D name uid flags = RequestOutcome D (IsFlagReply name uid flags) (request.Flag name uid flags)

-- A crash at any moment leaves a disk that is safe for the lists for which it was settled, or for those with the flags set,
-- whatever fails.
abbrev pub FlagMoments : List ℕ → Uid → ℕ → Option History → Option History → Type 0
FlagMoments name uid flags old new = (lists : Lists) → IsSettledFor lists old → Leaves lists (set_flags name uid.0 flags lists) old new

-- If no change of the disk failed, a disk that was settled for lists is settled for these, or for those with the flags set.
abbrev pub FlagRests : List ℕ → Uid → ℕ → Type 0 → Faults → Faults → Option History → Option History → Type 0
FlagRests name uid flags failed began now old new = NoFailedChange failed began now → (lists : Lists) → IsSettledFor lists old → IsSettledFor lists new ⊎ IsSettledFor (set_flags name uid.0 flags lists) new
