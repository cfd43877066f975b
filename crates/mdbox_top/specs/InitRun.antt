-- How `init` ends.
use Rattle.std.specs.Prelude.{◌≡◌, ℕ, List, [], Option, Some, None}
use Rattle.disk_model.specs.Disk.{History, IfTold, EachImage, IsIdle}
use Rattle.mdbox_base.specs.Streams.{Appended}
use Rattle.model_store.specs.Opening.{empty_inbox}
use Rattle.model_store.specs.Settled.{IsSettled}
use Rattle.store_open.specs.Making.{IdleUnless, IsFreeForStore, IsMadeStore, NeverHasStore, HasNothingOrInbox}
use Rattle.store_open.specs.Refused.{IsMakingError}
use Rattle.piece_writer.specs.Pieces.{WritesPrefix}
use Rattle.request_text.specs.ReplyText.{ok_line}
use Rattle.request_text.specs.declared.outcome.Outcome.{Outcome}
use Rattle.request_text.specs.declared.outcome.Outcome.TheVariants as outcome
use Rattle.mdbox_top.specs.OpeningOutcome.{opening_error}

-- A store was made: there was none, and no mail files; now the disk is settled for an empty INBOX, in logs of this id.
pub record IsMadeBy (id : List ℕ) (old new : Option History) : Type 0 where
  pub free : IfTold old IsFreeForStore
  pub settled : IfTold new (λ disk. IsSettled disk empty_inbox)
  pub made : IfTold new (IsMadeStore id)

-- How `init` ends: the store is made and `OK` is printed, or a prefix of it; or nothing is printed, for a cause in the files,
-- which then stay as they were, for a fault, or out of memory, when no store was made.
abbrev pub InitOutcome : List ℕ → Option (List ℕ) → Option (List ℕ) → Option History → Option History → Outcome → Type 0
InitOutcome id held later old new outcome.Done = IsMadeBy id old new × Appended held (ok_line []) later
InitOutcome id held later old new outcome.WriteFault = IsMadeBy id old new × WritesPrefix held [] (ok_line []) later
InitOutcome id held later old new (outcome.StoreRefused why) = (later ≡ held) × IsMakingError old (opening_error why) × IsIdle old new
InitOutcome id held later old new outcome.NoMemory = (later ≡ held) × (NeverHasStore old → NeverHasStore new)
InitOutcome id held later old new outcome.DiskFault = later ≡ held
InitOutcome id held later old new other = ⊥

-- A crash at any moment of an `init` that began when no crash image had a root entry: each image has none, or has the new store
-- with this id, safe for an empty INBOX. If a store may not be made here, nothing changes, whatever the result.
pub record InitMoments (id : List ℕ) (old new : Option History) : Type 0 where
  pub each : NeverHasStore old → EachImage (λ _ image. HasNothingOrInbox id image) old new
  pub untouched : IdleUnless IsFreeForStore old new

-- the disk is modelled, and a store may be made here
abbrev pub MayMakeStore : Option History → Type 0
MayMakeStore None = ⊥
MayMakeStore (Some history) = IsFreeForStore history.now
