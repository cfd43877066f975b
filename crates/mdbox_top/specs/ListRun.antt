-- How `list` ends.
use Rattle.std.specs.Prelude.{◌≡◌, ◌⊎◌, ℕ, List, Option}
use Rattle.disk_model.specs.Disk.{History, Faults, EachImage}
use Rattle.mdbox_base.specs.declared.replies.Refusal.TheVariants as refusal
use Rattle.mdbox_base.specs.declared.replies.Reply.{Reply}
use Rattle.mdbox_base.specs.declared.replies.Reply.TheVariants as reply
use Rattle.mdbox_base.specs.declared.requests.Request.TheVariants as request
use Rattle.model_lists.specs.Lists.{Lists}
use Rattle.list_machine.specs.Machine.{PartAnswers}
use Rattle.list_machine.specs.Run.{Run, RunEvent, First}
use Rattle.model_meaning.specs.BoxMeaning.{BoxMeaning}
use Rattle.model_meaning.specs.MapMeaning.{MapMeaning}
use Rattle.model_store.specs.Listing.{meaning_named, listing_of}
use Rattle.model_store.specs.Safe.{Safe}
use Rattle.model_store.specs.Settled.{IsSettledFor}
use Rattle.store_open.specs.Opened.{IsOpenedAs, StoreCarries, KeepsOpenedMail, IsClosedWell}
use Rattle.store_sweep.specs.Moments.{NoFailedChange, IdleIf}
use Rattle.store_sweep.specs.Swept.{IsSwept}
use Rattle.request_text.specs.declared.outcome.Outcome.{Outcome}
use Rattle.script_run.specs.Opening.{AreSafeFor, StaysSettled}
use Rattle.mdbox_top.specs.Served.{RequestOutcome}

-- The reply to a listing of this mailbox: what the logs mean from which the store opened, and opens again, or out of memory.
-- If the files were safe for lists, the first is the list machine's reply for these. The store opens again, with logs that mean
-- the same and the same mail, and the disk was swept; if it was settled for lists, it is settled for them again.
pub record IsListReply (name : List ℕ) (old new : Option History) (given : Reply) : Type 0 where
  pub m : MapMeaning
  pub meanings : List BoxMeaning
  pub opened : IsOpenedAs old m meanings
  pub again : IsOpenedAs new m meanings
  pub given_is : (given ≡ listing_of (meaning_named name m.boxes meanings)) ⊎ (given ≡ reply.Refused refusal.NoMemory)
  pub answers : (run : Run) (event : RunEvent) (lists : Lists) → AreSafeFor lists old → PartAnswers run event lists (request.List name) First (listing_of (meaning_named name m.boxes meanings)) lists
  pub settled : StaysSettled old new
  pub carried : StoreCarries old new
  pub swept : (generation : ℕ) × IsSwept generation m old new

-- How `list` ends: the reply is printed, which is `NO 10 no mailbox` if no mailbox has the name; or a prefix of it; or the
-- store was not opened.
abbrev pub ListOutcome : Type 0 → List ℕ → Option (List ℕ) → Option (List ℕ) → Option History → Option History → Faults → Faults → Outcome → Type 0
ListOutcome D name = RequestOutcome D (IsListReply name) (request.List name)

-- A crash at any moment of a listing leaves a disk that is safe for the lists for which it was settled, whatever fails; and of any
-- disk it leaves of storage files and instances what a crash could leave of them at the beginning. A store that was closed well is
-- left as it is.
pub record ListMoments (old new : Option History) : Type 0 where
  pub safe : (lists : Lists) → IsSettledFor lists old → EachImage (λ _ image. Safe image lists) old new
  pub stays : KeepsOpenedMail old new
  pub closed_well : IdleIf IsClosedWell old new

-- If no change of the disk failed, a disk that was settled is settled again, and the store opens again, with logs that mean
-- the same and the same mail.
abbrev pub ListRests : Type 0 → Faults → Faults → Option History → Option History → Type 0
ListRests failed began now old new = NoFailedChange failed began now → StaysSettled old new × StoreCarries old new
