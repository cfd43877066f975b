-- How `delete` ends.
use Rattle.std.specs.Prelude.{◌≡◌, ℕ, List, Option}
use Rattle.disk_model.specs.Disk.{History, Faults}
use Rattle.mdbox_base.specs.declared.replies.Refusal.{Refusal}
use Rattle.mdbox_base.specs.declared.replies.Refusal.TheVariants as refusal
use Rattle.mdbox_base.specs.declared.replies.Reply.{Reply}
use Rattle.mdbox_base.specs.declared.replies.Reply.TheVariants as reply
use Rattle.mdbox_base.specs.declared.requests.Request.TheVariants as request
use Rattle.model_lists.specs.Lists.{Lists}
use Rattle.list_machine.specs.Machine.{delete_mailbox}
use Rattle.model_meaning.specs.BoxMeaning.{BoxMeaning}
use Rattle.model_meaning.specs.MapMeaning.{MapMeaning}
use Rattle.model_store.specs.Listing.{meaning_named}
use Rattle.model_store.specs.Settled.{IsSettledFor}
use Rattle.store_open.specs.Opened.{IsOpenedAs}
use Rattle.request_text.specs.declared.outcome.Outcome.{Outcome}
use Rattle.script_run.specs.One.{IsChangeAnswer, OpensUnchanged, lists_told, undeleted_cause}
use Rattle.mdbox_top.specs.Changed.{OpensChanged, ChangeMoments, ChangeRests, LeavesMail}
use Rattle.mdbox_top.specs.Served.{RequestOutcome}

-- The reply to the deletion of the mailbox with this name, by what the logs mean from which the store opened. Where it is refused, or
-- out of memory, the store opens again, with logs that mean the same and the same mail, and the disk was swept. Where it is done,
-- its logs show the lists without the mailbox. Unless the store is stopped, a disk that was settled for lists is settled for those
-- that the reply tells, and storage files and instances are left as the opening left them.
pub record IsDeleteReply (name : List ℕ) (old new : Option History) (given : Reply) : Type 0 where
  pub m : MapMeaning
  pub meanings : List BoxMeaning
  pub opened : IsOpenedAs old m meanings
  pub given_is : IsChangeAnswer (undeleted_cause name (meaning_named name m.boxes meanings)) given
  pub refused : (why : Refusal) → given ≡ reply.Refused why → (why ≡ refusal.Stopped → ⊥) → OpensUnchanged m meanings old new
  pub done : given ≡ reply.Done → OpensChanged (delete_mailbox name) m meanings new
  pub settled : (given ≡ reply.Refused refusal.Stopped → ⊥) → (lists : Lists) → IsSettledFor lists old → IsSettledFor (lists_told (request.Delete name) given lists) new
  pub mail : LeavesMail m given old new

-- How `delete` ends: the reply is printed, which is `OK`, or `NO 10 no mailbox` or `NO 21 inbox` if it may not be, or `NO 17 memory`, or
-- `NO 19 stopped`; or a prefix of it; or the store was not opened.
abbrev pub DeleteOutcome : Type 0 → List ℕ → Option (List ℕ) → Option (List ℕ) → Option History → Option History → Faults → Faults → Outcome → Type 0
DeleteOutcome D name = RequestOutcome D (IsDeleteReply name) (request.Delete name)

-- A crash at any moment leaves a disk that is safe for the lists for which it was settled, or for those without the mailbox,
-- whatever fails: so the mailbox is whole, or gone.
abbrev pub DeleteMoments : List ℕ → Option History → Option History → Type 0
DeleteMoments name old new = ChangeMoments (delete_mailbox name) old new

-- If no change of the disk failed, a disk that was settled for lists is settled for these, or for those without the mailbox.
abbrev pub DeleteRests : List ℕ → Type 0 → Faults → Faults → Option History → Option History → Type 0
DeleteRests name failed began now old new = ChangeRests (delete_mailbox name) failed began now old new
