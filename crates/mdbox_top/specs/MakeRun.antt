-- How `make` ends.
use Rattle.std.specs.Prelude.{◌≡◌, ◌⊎◌, ◌++◌, ◌∷◌, [], ℕ, List, Option}
use Rattle.disk_model.specs.Disk.{History, Faults, EachImage}
use Rattle.mdbox_base.specs.declared.replies.Refusal.{Refusal}
use Rattle.mdbox_base.specs.declared.replies.Refusal.TheVariants as refusal
use Rattle.mdbox_base.specs.declared.replies.Reply.{Reply}
use Rattle.mdbox_base.specs.declared.replies.Reply.TheVariants as reply
use Rattle.mdbox_base.specs.declared.requests.Request.TheVariants as request
use Rattle.model_lists.specs.Lists.{Lists}
use Rattle.model_meaning.specs.BoxMeaning.{BoxMeaning, box_meaning}
use Rattle.model_meaning.specs.MapMeaning.{MapMeaning}
use Rattle.model_store.specs.Listing.{meaning_named}
use Rattle.model_store.specs.Safe.{Safe}
use Rattle.model_store.specs.Settled.{IsSettledFor}
use Rattle.mail_ops.specs.Making.{with_mailbox}
use Rattle.task_claims.specs.Leaving.{SyncsMail}
use Rattle.store_open.specs.Opened.{IsOpenedAs, KeepsOpenedMail}
use Rattle.store_sweep.specs.Moments.{NoFailedChange}
use Rattle.store_sweep.specs.Swept.{IsSwept}
use Rattle.request_text.specs.declared.outcome.Outcome.{Outcome}
use Rattle.script_run.specs.One.{IsChangeAnswer, OpensUnchanged, ReadAlike, next_mailbox, unmade_cause, with_next_named}
use Rattle.mdbox_top.specs.Changed.{OpensChanged}
use Rattle.mdbox_top.specs.Served.{RequestOutcome}

-- the lists that this reply leaves: it is done, and an empty mailbox with this number and name is last; or they are the same
abbrev pub lists_by_making : ℕ → List ℕ → Reply → Lists → Lists
lists_by_making number name reply.Done lists = with_mailbox number name lists
lists_by_making number name given lists = lists

-- The opening swept the disk, and storage files and instances stayed at each moment of it and afterwards, whatever failed. Unless the
-- store is stopped, they are as the opening left them, but that their names may be synced; and unless it is done, each file reads as it did then: so the log that
-- was made is removed, and no other file was made.
pub record LeavesOpened (m : MapMeaning) (given : Reply) (old new : Option History) : Type 0 where
  pub generation : ℕ
  pub opened : Option History
  pub swept : IsSwept generation m old opened
  pub stays : KeepsOpenedMail old new
  pub mail : (given ≡ reply.Refused refusal.Stopped → ⊥) → SyncsMail opened new
  pub undone : (given ≡ reply.Refused refusal.Stopped → ⊥) → (given ≡ reply.Done → ⊥) → ReadAlike opened new

-- The reply to the making of a mailbox with this name, by what the logs mean from which the store opened. Where it is refused, the
-- store opens again, with logs that mean the same and the same mail, and the disk was swept. Out of memory, its logs mean the
-- same. Where it is done, they mean the same with the entry that names the mailbox and with its log, and
-- show the lists with the empty mailbox last. Unless the store is stopped, a disk that was settled for lists is settled for those
-- that the reply tells, and storage files and instances, or all files, are left as the opening left them.
pub record IsMakeReply (name : List ℕ) (old new : Option History) (given : Reply) : Type 0 where
  pub m : MapMeaning
  pub meanings : List BoxMeaning
  pub opened : IsOpenedAs old m meanings
  pub given_is : IsChangeAnswer (unmade_cause (meaning_named name m.boxes meanings) m) given
  pub refused : (why : Refusal) → given ≡ reply.Refused why → (why ≡ refusal.Stopped → ⊥) → (why ≡ refusal.NoMemory → ⊥) → OpensUnchanged m meanings old new
  pub memory : given ≡ reply.Refused refusal.NoMemory → IsOpenedAs new m meanings
  pub done : given ≡ reply.Done → OpensChanged (with_mailbox (next_mailbox m) name) m meanings new
  pub named : given ≡ reply.Done → IsOpenedAs new (with_next_named name m) (meanings ++ box_meaning [] ∷ [])
  pub settled : (given ≡ reply.Refused refusal.Stopped → ⊥) → (lists : Lists) → IsSettledFor lists old → IsSettledFor (lists_by_making (next_mailbox m) name given lists) new
  pub files : LeavesOpened m given old new

-- How `make` ends: the reply is printed, which is `OK`, or why no mailbox is made, or `NO 17 memory`, or `NO 19 stopped`; or a
-- prefix of it; or the store was not opened.
abbrev pub MakeOutcome : Type 0 → List ℕ → Option (List ℕ) → Option (List ℕ) → Option History → Option History → Faults → Faults → Outcome → Type 0
MakeOutcome D name = RequestOutcome D (IsMakeReply name) (request.Make name)

-- the lists with the empty mailbox last, whose number is the next by the logs from which the store opened
abbrev pub AreMade : List ℕ → Option History → Lists → Lists → Type 0
AreMade name old lists some = (m : MapMeaning) × (meanings : List BoxMeaning) × IsOpenedAs old m meanings × (some ≡ with_mailbox (next_mailbox m) name lists)

-- A crash at any moment leaves a disk that is safe for the lists for which it was settled, or for those with the mailbox, whatever
-- fails.
abbrev pub MakeMoments : List ℕ → Option History → Option History → Type 0
MakeMoments name old new = (lists : Lists) → IsSettledFor lists old
    → EachImage (λ _ image. Safe image lists ⊎ ((some : Lists) × AreMade name old lists some × Safe image some)) old new

-- If no change of the disk failed, a disk that was settled for lists is settled for these, or for those with the mailbox.
abbrev pub MakeRests : List ℕ → Type 0 → Faults → Faults → Option History → Option History → Type 0
MakeRests name failed began now old new = NoFailedChange failed began now → (lists : Lists) → IsSettledFor lists old
    → IsSettledFor lists new ⊎ ((some : Lists) × AreMade name old lists some × IsSettledFor some new)
