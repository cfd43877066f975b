-- What a run of the program may do, by its command.
use Rattle.std.specs.Prelude.{◌≡◌, ℕ, Bool, true, false, List, [], ◌∷◌, Option}
use Rattle.disk_model.specs.Disk.{History, Faults}
use Rattle.model_lists.specs.Lists.{Lists}
use Rattle.model_store.specs.Settled.{IsSettledFor}
use Rattle.piece_writer.specs.Pieces.{WritesOrFaults}
use Rattle.request_text.specs.Outcomes.{status_of, error_text}
use Rattle.request_text.specs.declared.command.Command.{Command}
use Rattle.request_text.specs.declared.command.Command.TheVariants as command
use Rattle.request_text.specs.declared.command.TheConstants.{HELP, VERSION}
use Rattle.request_text.specs.declared.outcome.Outcome.{Outcome}
use Rattle.mdbox_base.specs.declared.requests.Request.TheVariants as request
use Rattle.mdbox_top.specs.Alone.{MayFail}
use Rattle.mdbox_top.specs.BatchRun.{BatchOutcome, BatchMoments, BatchRests, BatchStatus, TellsScriptFaults}
use Rattle.mdbox_top.specs.BoxesRun.{BoxesOutcome, BoxesMoments, BoxesRests}
use Rattle.mdbox_top.specs.SessionRun.{MayEndFailed, ServeMoments, ServeOutcome, ServeRests, ServeStatus, TellsServeFaults}
use Rattle.mdbox_top.specs.ExerciseRun.{ExerciseOutcome, ExerciseMoments, ExerciseRests}
use Rattle.mdbox_top.specs.InputRun.{DumpPrints, DumpRefuses, LogDumpPrints, LogDumpRefuses, InputOutcome, InputStatus, ShowsText, IsOneOf}
use Rattle.mdbox_top.specs.InitRun.{InitOutcome, InitMoments, MayMakeStore}
use Rattle.mdbox_top.specs.RebuildRun.{RebuildOutcome, RebuildMoments, RebuildNotes, IsLostNow, IsWholeNow}
use Rattle.mdbox_top.specs.ListRun.{ListOutcome, ListMoments, ListRests}
use Rattle.mdbox_top.specs.DeleteRun.{DeleteOutcome, DeleteMoments, DeleteRests}
use Rattle.mdbox_top.specs.DeliverRun.{DeliverOutcome, DeliverMoments, DeliverRests, DeliverStatus}
use Rattle.mdbox_top.specs.FetchRun.{FetchOutcome, FetchMoments, FetchRests}
use Rattle.mdbox_top.specs.FlagRun.{FlagOutcome, FlagMoments, FlagRests}
use Rattle.mdbox_top.specs.KeywordsRun.{KeywordsOutcome, KeywordsMoments, KeywordsRests}
use Rattle.mdbox_top.specs.CopyRun.{CopyOutcome, CopyMoments, CopyRests}
use Rattle.mdbox_top.specs.MakeRun.{MakeOutcome, MakeMoments, MakeRests}
use Rattle.mdbox_top.specs.MoveRun.{MoveOutcome, MoveMoments, MoveRests}
use Rattle.mdbox_top.specs.ExpungeRun.{ExpungeOutcome, ExpungeMoments, ExpungeRests}
use Rattle.mdbox_top.specs.CountsRun.{CountsOutcome, CountsMoments, CountsRests}
use Rattle.mdbox_top.specs.PurgeRun.{PurgeOutcome, PurgeMoments, PurgeRests}
use Rattle.mdbox_top.specs.RenameRun.{RenameOutcome, RenameMoments, RenameRests}
use Rattle.mdbox_top.specs.ResyncRun.{ResyncOutcome, ResyncMoments, ResyncRests}

-- How a command ends, over a disk of this kind: this was left of the input, this is the time that the clock would tell, the output held
-- this before and holds that later, the disk was this and is that now, and so were its counts of faults.
abbrev pub Ends : Type 0 → Command → Option (List ℕ) → Option ℕ → Option (List ℕ) → Option (List ℕ) → Option History → Option History → Faults → Faults → Outcome → Type 0
Ends D (command.Init id) left told held later old new began now outcome = InitOutcome id.0 held later old new outcome
Ends D (command.Deliver name) left told held later old new began now outcome = DeliverOutcome D name left told held later old new began now outcome
Ends D (command.List name) left told held later old new began now outcome = ListOutcome D name held later old new began now outcome
Ends D (command.Fetch name uid) left told held later old new began now outcome = FetchOutcome D name uid held later old new began now outcome
Ends D (command.Flag name uid flags) left told held later old new began now outcome = FlagOutcome D name uid flags held later old new began now outcome
Ends D (command.Keywords name uid words) left told held later old new began now outcome = KeywordsOutcome D name uid words held later old new began now outcome
Ends D (command.Expunge name uid) left told held later old new began now outcome = ExpungeOutcome D name uid held later old new began now outcome
Ends D (command.Copy name uid target) left told held later old new began now outcome = CopyOutcome D name uid target held later old new began now outcome
Ends D (command.Move name uid target) left told held later old new began now outcome = MoveOutcome D name uid target held later old new began now outcome
Ends D (command.Make name) left told held later old new began now outcome = MakeOutcome D name held later old new began now outcome
Ends D (command.Delete name) left told held later old new began now outcome = DeleteOutcome D name held later old new began now outcome
Ends D (command.Rename name target) left told held later old new began now outcome = RenameOutcome D name target held later old new began now outcome
Ends D command.Boxes left told held later old new began now outcome = BoxesOutcome held later old new began now outcome
Ends D command.Counts left told held later old new began now outcome = CountsOutcome D held later old new began now outcome
Ends D command.Resync left told held later old new began now outcome = ResyncOutcome D held later old new began now outcome
Ends D command.Purge left told held later old new began now outcome = PurgeOutcome D held later old new began now outcome
Ends D (command.Batch lanes) left told held later old new began now outcome = BatchOutcome D lanes left held later old new began now outcome
Ends D command.Serve left told held later old new began now outcome = ServeOutcome left held later old new began now outcome
Ends D (command.Exercise lanes count number) left told held later old new began now outcome = ExerciseOutcome D lanes count number held later old new began now outcome
Ends D (command.Rebuild id) left told held later old new began now outcome = RebuildOutcome id.0 held later old new outcome
Ends D command.Dump left told held later old new began now outcome = InputOutcome DumpPrints DumpRefuses left held later outcome
Ends D command.LogDump left told held later old new began now outcome = InputOutcome LogDumpPrints LogDumpRefuses left held later outcome
Ends D command.Help left told held later old new began now outcome = ShowsText HELP.now held later outcome
Ends D command.Version left told held later old new began now outcome = ShowsText VERSION.now held later outcome

-- so over a disk of whatever kind this one is
abbrev pub EndsOver : {D : Type 0} → D → Command → Option (List ℕ) → Option ℕ → Option (List ℕ) → Option (List ℕ) → Option History → Option History → Faults → Faults → Outcome → Type 0
EndsOver {D} disk command left told held later old new began now outcome = Ends D command left told held later old new began now outcome

-- What a command gives to the errors' sink before how it ended: a rebuild tells what came back, by what the disk is then; any other nothing.
abbrev pub Notes : Command → Option History → Outcome → Option (List ℕ) → ℕ → Option (List ℕ) → ℕ → Type 0
Notes (command.Rebuild id) new ended held faults later later_faults = RebuildNotes new ended held faults later later_faults
Notes other new ended held faults later later_faults = (later ≡ held) × (later_faults ≡ faults)

-- The run ends as it may: so it ended, with its status; and on the errors' sink it told what it may note, and then the text of how it ended.
pub record RunOutcome (May : Outcome → Type 0) (MayNote : Outcome → Option (List ℕ) → ℕ → Option (List ℕ) → ℕ → Type 0) (status : ℕ) (held : Option (List ℕ)) (faults : ℕ) (later : Option (List ℕ)) (later_faults : ℕ) : Type 0 where
  pub outcome : Outcome
  pub status_is : status ≡ status_of outcome
  pub ended : May outcome
  pub noted_held : Option (List ℕ)
  pub noted_faults : ℕ
  pub noted : MayNote outcome held faults noted_held noted_faults
  pub told : WritesOrFaults noted_held noted_faults (error_text outcome) later later_faults

-- What a crash at any moment of the command may leave.
abbrev pub Moments : Command → Option (List ℕ) → Option ℕ → Option History → Option History → Type 0
Moments (command.Init id) left told old new = InitMoments id.0 old new
Moments (command.Deliver name) left told old new = DeliverMoments name left told old new
Moments (command.List name) left told old new = ListMoments old new
Moments (command.Fetch name uid) left told old new = FetchMoments old new
Moments (command.Flag name uid flags) left told old new = FlagMoments name uid flags old new
Moments (command.Keywords name uid words) left told old new = KeywordsMoments name uid words old new
Moments (command.Expunge name uid) left told old new = ExpungeMoments name uid old new
Moments (command.Copy name uid target) left told old new = CopyMoments name uid target old new
Moments (command.Move name uid target) left told old new = MoveMoments name uid target old new
Moments (command.Make name) left told old new = MakeMoments name old new
Moments (command.Delete name) left told old new = DeleteMoments name old new
Moments (command.Rename name target) left told old new = RenameMoments name target old new
Moments command.Boxes left told old new = BoxesMoments old new
Moments command.Counts left told old new = CountsMoments old new
Moments command.Resync left told old new = ResyncMoments old new
Moments command.Purge left told old new = PurgeMoments old new
Moments (command.Batch lanes) left told old new = BatchMoments lanes left old new
Moments command.Serve left told old new = ServeMoments left old new
Moments (command.Exercise lanes count number) left told old new = ExerciseMoments lanes count number old new
Moments (command.Rebuild id) left told old new = RebuildMoments old new
Moments other left told old new = new ≡ old

-- What the command leaves of the disk when it ends, by whether it failed and the counts of the disk's faults.
abbrev pub Rests : Command → Option (List ℕ) → Option ℕ → Type 0 → Faults → Faults → Option History → Option History → Type 0
Rests (command.Deliver name) left told failed began now old new = DeliverRests name left told failed began now old new
Rests (command.List name) left told failed began now old new = ListRests failed began now old new
Rests (command.Fetch name uid) left told failed began now old new = FetchRests failed began now old new
Rests (command.Flag name uid flags) left told failed began now old new = FlagRests name uid flags failed began now old new
Rests (command.Keywords name uid words) left told failed began now old new = KeywordsRests name uid words failed began now old new
Rests (command.Expunge name uid) left told failed began now old new = ExpungeRests name uid failed began now old new
Rests (command.Copy name uid target) left told failed began now old new = CopyRests name uid target failed began now old new
Rests (command.Move name uid target) left told failed began now old new = MoveRests name uid target failed began now old new
Rests (command.Make name) left told failed began now old new = MakeRests name failed began now old new
Rests (command.Delete name) left told failed began now old new = DeleteRests name failed began now old new
Rests (command.Rename name target) left told failed began now old new = RenameRests name target failed began now old new
Rests command.Boxes left told failed began now old new = BoxesRests failed began now old new
Rests command.Counts left told failed began now old new = CountsRests failed began now old new
Rests command.Resync left told failed began now old new = ResyncRests failed began now old new
Rests command.Purge left told failed began now old new = PurgeRests failed began now old new
Rests (command.Batch lanes) left told failed began now old new = BatchRests lanes left failed began now old new
Rests command.Serve left told failed began now old new = ServeRests left failed began now old new
Rests (command.Exercise lanes count number) left told failed began now old new = ExerciseRests lanes count number failed began now old new
Rests other left told failed began now old new = Unit {0}

-- The statuses that may come, by what was left of the input and what the disk was: no file refuses a store that can be made,
-- or rebuilt, or a request on a settled disk, `boxes`, `counts` and `resync` have no reply that refuses them, and `--help` and `--version` fail with the output alone.
abbrev pub HasStatus : Command → Option (List ℕ) → Option History → ℕ → Type 0
HasStatus (command.Init id) left old status = MayMakeStore old → IsOneOf (0 ∷ 5 ∷ 6 ∷ 8 ∷ []) status
HasStatus (command.Deliver name) left old status = DeliverStatus left old status
HasStatus (command.List name) left old status = (lists : Lists) → IsSettledFor lists old → IsOneOf (0 ∷ 1 ∷ 5 ∷ 6 ∷ 8 ∷ []) status
HasStatus (command.Fetch name uid) left old status = (lists : Lists) → IsSettledFor lists old → IsOneOf (0 ∷ 1 ∷ 5 ∷ 6 ∷ 8 ∷ []) status
HasStatus (command.Flag name uid flags) left old status = (lists : Lists) → IsSettledFor lists old → IsOneOf (0 ∷ 1 ∷ 5 ∷ 6 ∷ 8 ∷ []) status
HasStatus (command.Keywords name uid words) left old status = (lists : Lists) → IsSettledFor lists old → IsOneOf (0 ∷ 1 ∷ 5 ∷ 6 ∷ 8 ∷ []) status
HasStatus (command.Expunge name uid) left old status = (lists : Lists) → IsSettledFor lists old → IsOneOf (0 ∷ 1 ∷ 5 ∷ 6 ∷ 8 ∷ []) status
HasStatus (command.Copy name uid target) left old status = (lists : Lists) → IsSettledFor lists old → IsOneOf (0 ∷ 1 ∷ 5 ∷ 6 ∷ 8 ∷ []) status
HasStatus (command.Move name uid target) left old status = (lists : Lists) → IsSettledFor lists old → IsOneOf (0 ∷ 1 ∷ 5 ∷ 6 ∷ 8 ∷ []) status
HasStatus (command.Make name) left old status = (lists : Lists) → IsSettledFor lists old → IsOneOf (0 ∷ 1 ∷ 5 ∷ 6 ∷ 8 ∷ []) status
HasStatus (command.Delete name) left old status = (lists : Lists) → IsSettledFor lists old → IsOneOf (0 ∷ 1 ∷ 5 ∷ 6 ∷ 8 ∷ []) status
HasStatus (command.Rename name target) left old status = (lists : Lists) → IsSettledFor lists old → IsOneOf (0 ∷ 1 ∷ 5 ∷ 6 ∷ 8 ∷ []) status
HasStatus command.Boxes left old status = (lists : Lists) → IsSettledFor lists old → IsOneOf (0 ∷ 5 ∷ 6 ∷ 8 ∷ []) status
HasStatus command.Counts left old status = (lists : Lists) → IsSettledFor lists old → IsOneOf (0 ∷ 5 ∷ 6 ∷ 8 ∷ []) status
HasStatus command.Resync left old status = (lists : Lists) → IsSettledFor lists old → IsOneOf (0 ∷ 5 ∷ 6 ∷ 8 ∷ []) status
HasStatus command.Purge left old status = (lists : Lists) → IsSettledFor lists old → IsOneOf (0 ∷ 1 ∷ 5 ∷ 6 ∷ 8 ∷ []) status
HasStatus (command.Batch lanes) left old status = BatchStatus lanes left old status
HasStatus command.Serve left old status = ServeStatus old status
HasStatus (command.Exercise lanes count number) left old status = (lists : Lists) → IsSettledFor lists old → IsOneOf (0 ∷ 1 ∷ 5 ∷ 6 ∷ 8 ∷ []) status
HasStatus (command.Rebuild id) left old status = (IsLostNow old → IsOneOf (0 ∷ 5 ∷ 6 ∷ 8 ∷ []) status) × (IsWholeNow old → IsOneOf (3 ∷ 5 ∷ 6 ∷ []) status)
HasStatus command.Dump left old status = InputStatus DumpPrints DumpRefuses left status
HasStatus command.LogDump left old status = InputStatus LogDumpPrints LogDumpRefuses left status
HasStatus command.Help left old status = IsOneOf (0 ∷ 8 ∷ []) status
HasStatus command.Version left old status = IsOneOf (0 ∷ 8 ∷ []) status

-- The statuses with which the command may end if a call of the disk failed: 6; and for one that reads messages or changes a
-- store, 5 and 8, since printing that a read failed, or that the store is stopped, may fail. A session goes on after a failed read.
abbrev pub MayHaveFailed : Command → ℕ → Type 0
MayHaveFailed (command.Deliver name) status = IsOneOf (6 ∷ 8 ∷ []) status
MayHaveFailed (command.Fetch name uid) status = MayFail (request.Fetch name uid) status
MayHaveFailed (command.Flag name uid flags) status = MayFail (request.Flag name uid flags) status
MayHaveFailed (command.Keywords name uid words) status = MayFail (request.Keywords name uid words) status
MayHaveFailed (command.Expunge name uid) status = MayFail (request.Expunge name uid) status
MayHaveFailed (command.Copy name uid target) status = MayFail (request.Copy name uid target) status
MayHaveFailed (command.Move name uid target) status = MayFail (request.Move name uid target) status
MayHaveFailed (command.Make name) status = MayFail (request.Make name) status
MayHaveFailed (command.Delete name) status = MayFail (request.Delete name) status
MayHaveFailed (command.Rename name target) status = MayFail (request.Rename name target) status
MayHaveFailed command.Resync status = MayFail request.Resync status
MayHaveFailed command.Purge status = MayFail request.Purge status
MayHaveFailed (command.Batch lanes) status = IsOneOf (5 ∷ 6 ∷ 8 ∷ []) status
MayHaveFailed command.Serve status = MayEndFailed status
MayHaveFailed other status = status ≡ 6

-- It is said of the command which calls of the disk failed: always, but of requests that read messages only if the disk was settled.
abbrev pub TellsFaults : Command → Option (List ℕ) → Option History → Type 0
TellsFaults (command.Batch lanes) left old = TellsScriptFaults lanes left old
TellsFaults command.Serve left old = TellsServeFaults left old
TellsFaults other left old = Unit {0}

-- the command reads standard input
abbrev pub reads_input : Command → Bool
reads_input (command.Deliver name) = true
reads_input (command.Batch lanes) = true
reads_input command.Serve = true
reads_input command.Dump = true
reads_input command.LogDump = true
reads_input other = false

-- the command opens or makes a store
abbrev pub uses_disk : Command → Bool
uses_disk (command.Init id) = true
uses_disk (command.Deliver name) = true
uses_disk (command.List name) = true
uses_disk (command.Fetch name uid) = true
uses_disk (command.Flag name uid flags) = true
uses_disk (command.Keywords name uid words) = true
uses_disk (command.Expunge name uid) = true
uses_disk (command.Copy name uid target) = true
uses_disk (command.Move name uid target) = true
uses_disk (command.Make name) = true
uses_disk (command.Delete name) = true
uses_disk (command.Rename name target) = true
uses_disk command.Boxes = true
uses_disk command.Counts = true
uses_disk command.Resync = true
uses_disk command.Purge = true
uses_disk (command.Batch lanes) = true
uses_disk command.Serve = true
uses_disk (command.Exercise lanes count number) = true
uses_disk (command.Rebuild id) = true
uses_disk other = false

-- The command has read its input to the end before it makes a call of the disk; `serve` opens the store first.
abbrev pub reads_before : Command → Bool
reads_before command.Serve = false
reads_before other = true

-- the command asks the clock
abbrev pub asks_clock : Command → Bool
asks_clock (command.Deliver name) = true
asks_clock other = false
