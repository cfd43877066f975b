-- How `rebuild` ends.
use Rattle.std.specs.Prelude.{◌≡◌, ◌⊎◌, ℕ, List, [], ◌∷◌, ◌++◌, flat_map, length, slice_get, Option, Some, None}
use Rattle.disk_model.specs.Disk.{History, Between, IfTold, IsIdle}
use Rattle.mdbox_base.specs.Numbers.{decimal_text}
use Rattle.model_lists.specs.Lists.{Lists}
use Rattle.model_store.specs.Settled.{files_of, IsSettledFor}
use Rattle.piece_writer.specs.Pieces.{WritesOrFaults, WritesPrefix}
use Rattle.mdbox_base.specs.Streams.{Appended}
use Rattle.rebuild_files.specs.Refused.{IsStoreWhole}
use Rattle.rebuild_text.specs.ReportText.{report_text}
use Rattle.request_text.specs.declared.boxes.BoxRow.{BoxRow}
use Rattle.request_text.specs.declared.outcome.Outcome.{Outcome}
use Rattle.request_text.specs.declared.outcome.Outcome.TheVariants as outcome
use Rattle.request_text.specs.declared.outcome.StoreRefusal.TheVariants as store
use Rattle.store_rebuild.specs.Rebuilding.{IsRebuilt, LeavesRebuild, LeavesWhole}
use Rattle.store_rebuild.specs.Writing.{MailReadsSame}
use Rattle.store_rebuild.specs.declared.report.RebuildReport.{RebuildReport}

-- The store was rebuilt: it didn't open before; now the disk has the logs of what its storage files hold, with this id, and is settled for
-- their lists, of which the report tells. Storage files and instances read as before.
pub record IsRebuiltBy (id : List ℕ) (report : RebuildReport) (old new : Option History) : Type 0 where
  pub lost : IfTold old (λ disk. IsStoreWhole (files_of disk) → ⊥)
  pub rebuilt : Between (IsRebuilt id report) old new
  pub mail : Between MailReadsSame old new

-- what is printed of a report
abbrev pub text_of_report : RebuildReport → List ℕ
text_of_report report = report_text report.skipped report.mailboxes report.messages

-- A report is printed, or a prefix of it.
abbrev pub PrintsReport : RebuildReport → Option (List ℕ) → Option (List ℕ) → Outcome → Type 0
PrintsReport report held later outcome.Done = Appended held (text_of_report report) later
PrintsReport report held later outcome.NoMemory = WritesPrefix held [] (text_of_report report) later
PrintsReport report held later outcome.WriteFault = WritesPrefix held [] (text_of_report report) later
PrintsReport report held later other = ⊥

-- So it is if the disk can be read again, to tell what came back; if a read fails, nothing is printed.
abbrev pub PrintsIfRead : RebuildReport → Option (List ℕ) → Option (List ℕ) → Outcome → Type 0
PrintsIfRead report held later outcome.DiskFault = later ≡ held
PrintsIfRead report held later ended = PrintsReport report held later ended

abbrev pub RebuildsAndPrints : List ℕ → Option (List ℕ) → Option (List ℕ) → Option History → Option History → Outcome → Type 0
RebuildsAndPrints id held later old new ended = (report : RebuildReport) × IsRebuiltBy id report old new × PrintsReport report held later ended

-- How `rebuild` ends: the store is rebuilt, and the report is printed, or a prefix of it; or nothing is printed: the store opens as it
-- is, or there was no memory, and then nothing has changed, or a call of the disk failed.
abbrev pub RebuildOutcome : List ℕ → Option (List ℕ) → Option (List ℕ) → Option History → Option History → Outcome → Type 0
RebuildOutcome id held later old new outcome.Done = RebuildsAndPrints id held later old new outcome.Done
RebuildOutcome id held later old new outcome.WriteFault = RebuildsAndPrints id held later old new outcome.WriteFault
RebuildOutcome id held later old new outcome.NoMemory = RebuildsAndPrints id held later old new outcome.NoMemory ⊎ ((later ≡ held) × IsIdle old new)
RebuildOutcome id held later old new (outcome.StoreRefused store.StoreWhole) = (later ≡ held) × IfTold old (λ disk. IsStoreWhole (files_of disk)) × IsIdle old new
RebuildOutcome id held later old new outcome.DiskFault = later ≡ held
RebuildOutcome id held later old new other = ⊥

-- what is told of a mailbox that came back: its name, and how many messages it lists
abbrev pub rebuilt_line : List ℕ → ℕ → List ℕ
rebuilt_line name messages = name ++ (32 ∷ (decimal_text messages ++ 10 ∷ []))

abbrev pub rebuilt_text : Lists → List ℕ
rebuilt_text lists = flat_map (λ mailbox. rebuilt_line mailbox.name (length mailbox.messages)) lists

-- the same of a row of `boxes`
abbrev pub row_told : BoxRow → List ℕ
row_told row = rebuilt_line row.name row.messages

-- the line of the row at this place was added
abbrev pub TellsRow : List BoxRow → ℕ → List ℕ → List ℕ → Type 0
TellsRow rows place old new = (row : BoxRow) × (slice_get rows place ≡ Some row) × (new ≡ old ++ row_told row)

-- It is told what came back: whatever lists the disk is settled for, theirs is the text.
abbrev pub TellsRebuilt : Option History → List ℕ → Type 0
TellsRebuilt now text = (lists : Lists) → IsSettledFor lists now → text ≡ rebuilt_text lists

-- What a rebuild tells before how it ended: what came back, if it was rebuilt and there was memory for that; else nothing.
abbrev pub RebuildTells : Option History → Outcome → List ℕ → Type 0
RebuildTells now outcome.Done text = TellsRebuilt now text
RebuildTells now outcome.WriteFault text = TellsRebuilt now text
RebuildTells now outcome.NoMemory text = TellsRebuilt now text ⊎ (text ≡ [])
RebuildTells now other text = text ≡ []

-- So it was given to the errors' sink: whole, or a prefix of it, and the sink's count of faults rose.
abbrev pub RebuildNotes : Option History → Outcome → Option (List ℕ) → ℕ → Option (List ℕ) → ℕ → Type 0
RebuildNotes now ended held faults later later_faults = (text : List ℕ) × RebuildTells now ended text × WritesOrFaults held faults text later later_faults

-- A crash at any moment of a rebuild, whatever fails: each image is as one at the beginning, with or without the root log, or has no
-- store, or is safe for the rebuilt lists; and storage files and instances are those of an image at the beginning. If the store opens
-- as it is, nothing changes.
pub record RebuildMoments (old new : Option History) : Type 0 where
  pub each : LeavesRebuild old new
  pub untouched : LeavesWhole old new

-- the disk is modelled, and no store opens from its files, or one does
abbrev pub IsLostNow : Option History → Type 0
IsLostNow None = ⊥
IsLostNow (Some history) = IsStoreWhole (files_of history.now) → ⊥

abbrev pub IsWholeNow : Option History → Type 0
IsWholeNow None = ⊥
IsWholeNow (Some history) = IsStoreWhole (files_of history.now)
