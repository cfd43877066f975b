-- What a request alone makes of a store, and how it ends.
use Rattle.std.specs.Prelude.{◌≡◌, ◌⊎◌, ℕ, List, [], ◌∷◌, Option, Some}
use Rattle.disk_model.specs.Disk.{History, Faults}
use Rattle.mdbox_base.specs.Streams.{Appended}
use Rattle.mdbox_base.specs.declared.replies.Refusal.TheVariants as refusal
use Rattle.mdbox_base.specs.declared.replies.Reply.{Reply}
use Rattle.mdbox_base.specs.declared.replies.Reply.TheVariants as reply
use Rattle.mdbox_base.specs.declared.requests.Request.{Request}
use Rattle.mdbox_base.specs.declared.script.JournalEntry.{JournalEntry}
use Rattle.store_open.specs.declared.error.OpenError.{OpenError}
use Rattle.piece_writer.specs.Pieces.{WritesPrefix}
use Rattle.request_text.specs.Outcomes.{reply_outcome}
use Rattle.request_text.specs.ReplyText.{single_text, IsLong}
use Rattle.request_text.specs.declared.outcome.Outcome.{Outcome}
use Rattle.request_text.specs.declared.outcome.Outcome.TheVariants as outcome
use Rattle.script_run.specs.Done.{IsScriptDone}
use Rattle.script_run.specs.One.{alone}
use Rattle.script_run.specs.Opening.{IsUnopened}
use Rattle.script_run.specs.Worked.{IsWorkedOut}
use Rattle.mdbox_top.specs.OpeningOutcome.{opening_outcome}
use Rattle.tasks_alone.specs.FaultsAlone.{FaultsByReply}

-- How a reply with this text is printed: whole; or a prefix of it, for a fault of the output. Out of memory only a listing or a message is
-- cut off: any other reply is printed whole.
abbrev pub ShowsReply : List ℕ → Reply → Option (List ℕ) → Option (List ℕ) → Outcome → Type 0
ShowsReply text given held later outcome.WriteFault = WritesPrefix held [] text later
ShowsReply text given held later outcome.NoMemory = (IsLong given × WritesPrefix held [] text later) ⊎ ((given ≡ reply.Refused refusal.NoMemory) × Appended held text later)
ShowsReply text given held later ended = (ended ≡ reply_outcome given) × Appended held text later

-- The store was not opened, for a cause in the files, a fault, or out of memory: nothing was printed, and no request was begun. So the
-- disk is left, which for lists that it was settled for stays safe at each moment.
pub record IsNotOpened (held later : Option (List ℕ)) (old new : Option History) (began now : Faults) (ended : Outcome) : Type 0 where
  pub why : OpenError
  pub ended_is : ended ≡ opening_outcome why
  pub unprinted : later ≡ held
  pub leaves : IsUnopened why old new began now

-- The store was opened and replied this. It was done as a script of its own, so it was served from any lists that the logs show with
-- which the store opened, a fetch from those from which it may read; and so its lane did, whatever the disk. What this command's reply
-- tells beside, which calls of the disk failed, and that the reply was printed.
pub record IsReplied (D : Type 0) (Tells : Option History → Option History → Reply → Type 0) (request : Request) (held later : Option (List ℕ)) (old new : Option History) (began now : Faults) (ended : Outcome) : Type 0 where
  pub given : Reply
  pub journal : List JournalEntry
  pub done : IsScriptDone (alone request) (given ∷ []) journal old new began now
  pub worked : IsWorkedOut D (alone request) 1 (Some given ∷ []) journal old new began now
  pub tells : Tells old new given
  pub faults : FaultsByReply given began now
  pub printed : ShowsReply (single_text request given) given held later ended

-- How a request alone ends: the store was not opened, or it replied.
abbrev pub RequestOutcome : Type 0 → (Option History → Option History → Reply → Type 0) → Request → Option (List ℕ) → Option (List ℕ) → Option History → Option History → Faults → Faults → Outcome → Type 0
RequestOutcome D Tells request held later old new began now ended = IsNotOpened held later old new began now ended ⊎ IsReplied D Tells request held later old new began now ended
