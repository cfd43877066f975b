-- How `rename` ends.
use Rattle.std.specs.Prelude.{◌≡◌, ℕ, List, Option}
use Rattle.disk_model.specs.Disk.{History, Faults}
use Rattle.mdbox_base.specs.declared.replies.Refusal.{Refusal}
use Rattle.mdbox_base.specs.declared.replies.Refusal.TheVariants as refusal
use Rattle.mdbox_base.specs.declared.replies.Reply.{Reply}
use Rattle.mdbox_base.specs.declared.replies.Reply.TheVariants as reply
use Rattle.mdbox_base.specs.declared.requests.Request.TheVariants as request
use Rattle.model_lists.specs.Lists.{Lists}
use Rattle.list_machine.specs.Machine.{rename_mailbox}
use Rattle.model_meaning.specs.BoxMeaning.{BoxMeaning}
use Rattle.model_meaning.specs.MapMeaning.{MapMeaning}
use Rattle.model_store.specs.Listing.{meaning_named}
use Rattle.model_store.specs.Settled.{IsSettledFor}
use Rattle.store_open.specs.Opened.{IsOpenedAs}
use Rattle.request_text.specs.declared.outcome.Outcome.{Outcome}
use Rattle.script_run.specs.One.{IsChangeAnswer, OpensUnchanged, lists_told, unrenamed_cause}
use Rattle.mdbox_top.specs.Changed.{OpensChanged, ChangeMoments, ChangeRests, LeavesMail}
use Rattle.mdbox_top.specs.Served.{RequestOutcome}

-- The reply to the renaming of the mailbox with this name, by what the logs mean from which the store opened. Where it is refused, or
-- out of memory, the store opens again, with logs that mean the same and the same mail, and the disk was swept. Where it is done,
-- its logs show the lists in which the mailbox has the target as its name, and all else is the same. Unless the store is stopped, a
-- disk that was settled for lists is settled for those that the reply tells, and storage files and instances are left as the opening
-- left them.
pub record IsRenameReply (name target : List ℕ) (old new : Option History) (given : Reply) : Type 0 where
  pub m : MapMeaning
  pub meanings : List BoxMeaning
  pub opened : IsOpenedAs old m meanings
  pub given_is : IsChangeAnswer (unrenamed_cause name (meaning_named name m.boxes meanings) (meaning_named target m.boxes meanings)) given
  pub refused : (why : Refusal) → given ≡ reply.Refused why → (why ≡ refusal.Stopped → ⊥) → OpensUnchanged m meanings old new
  pub done : given ≡ reply.Done → OpensChanged (rename_mailbox name target) m meanings new
  pub settled : (given ≡ reply.Refused refusal.Stopped → ⊥) → (lists : Lists) → IsSettledFor lists old → IsSettledFor (lists_told (request.Rename name target) given lists) new
  pub mail : LeavesMail m given old new

-- How `rename` ends: the reply is printed, which is `OK`, or `NO 10 no mailbox`, `NO 21 inbox` or `NO 11 exists` if it may not be, or
-- `NO 17 memory`, or `NO 19 stopped`; or a prefix of it; or the store was not opened.
abbrev pub RenameOutcome : Type 0 → List ℕ → List ℕ → Option (List ℕ) → Option (List ℕ) → Option History → Option History → Faults → Faults → Outcome → Type 0
RenameOutcome D name target = RequestOutcome D (IsRenameReply name target) (request.Rename name target)

-- A crash at any moment leaves a disk that is safe for the lists for which it was settled, or for those in which the mailbox has the
-- other name, whatever fails.
abbrev pub RenameMoments : List ℕ → List ℕ → Option History → Option History → Type 0
RenameMoments name target old new = ChangeMoments (rename_mailbox name target) old new

-- If no change of the disk failed, a disk that was settled for lists is settled for these, or for those in which the mailbox has the
-- other name.
abbrev pub RenameRests : List ℕ → List ℕ → Type 0 → Faults → Faults → Option History → Option History → Type 0
RenameRests name target failed began now old new = ChangeRests (rename_mailbox name target) failed began now old new
