-- Where a purge stands in a run.
use Rattle.std.specs.Prelude.{◌≡◌, ◌≢◌, ◌⊎◌, ◌==◌, ◌+◌, ◌++◌, ℕ, true, false, List, [], ◌∷◌, All, map, flat_map, None}
use Rattle.std.specs.List.{list_any}
use Rattle.std.specs.Option.{option_map_or}
use Rattle.mdbox_base.specs.declared.replies.Reply.{Reply}
use Rattle.model_meaning.specs.MapMeaning.{MapMeaning}
use Rattle.list_machine.specs.Run.{EventPart, First, CopiesMessage, MakesTarget, RemovesFile, RemovesInstance, Run, RunEvent, Switches, TakenFile, dropped_by, files_gone_by, instances_gone_by, is_one_of, own_events}
use Rattle.journal.specs.Events.{is_done, last_refusal, was_pinned}
use Rattle.store_core.specs.Value.{StoreValue}
use Rattle.task_steps.specs.Step.{HasNotBegun}
use Rattle.purge_task.specs.Claims.{sources_left}
use Rattle.purge_task.specs.Keeping.{PurgeValue}
use Rattle.purge_task.specs.declared.task.PurgeStage.{PurgeStage}
use Rattle.purge_task.specs.declared.task.PurgeStage.TheVariants as stage
use Rattle.purge_task.specs.declared.work.Source.{Source}
use Rattle.purge_task.specs.declared.work.Work.{Work}

-- ---- its last event

-- Behind such an event the purge goes on to its next file, or to instances: the first one; one that removed a file or an instance; and
-- one that switched a file which had a pin then. No other one doomed a file.
abbrev pub GoesOnBehind : Run → List ℕ → EventPart → Type 0
GoesOnBehind run doomed First = doomed ≡ []
GoesOnBehind run doomed RemovesFile = doomed ≡ []
GoesOnBehind run doomed RemovesInstance = doomed ≡ []
GoesOnBehind run doomed Switches = (file : ℕ) × (doomed ≡ file ∷ []) × (was_pinned run file ≡ true)
GoesOnBehind run doomed part = ⊥

-- Behind such an event it copies a message of the present file, or switches that.
abbrev pub CopiesBehind : EventPart → Type 0
CopiesBehind MakesTarget = Unit {0}
CopiesBehind CopiesMessage = Unit {0}
CopiesBehind part = ⊥

-- Behind such an event it removes this file, which that switched, and which had no pin then.
abbrev pub RemovesBehind : Run → ℕ → List ℕ → EventPart → Type 0
RemovesBehind run file doomed Switches = (doomed ≡ file ∷ []) × (was_pinned run file ≡ false)
RemovesBehind run file doomed part = ⊥

-- the last of these events is such a one, and wasn't refused
pub record IsLastOf (Behind : List ℕ → EventPart → Type 0) (own : List RunEvent) : Type 0 where
  pub front : List RunEvent
  pub last : RunEvent
  pub own_are : own ≡ front ++ last ∷ []
  pub unrefused : last.refused ≡ None
  pub behind : Behind last.doomed last.part

-- ---- its own events

-- the file as the event tells it that took it: 0 stands for a target where there is none
abbrev pub told_taken : Source → TakenFile
told_taken source = record { file = source.file.0; target = option_map_or (λ t. t.0) source.target 0 }

-- Its own events took these files, of which those in front are done.
pub record HaveTaken (done left : List Source) (own : List RunEvent) : Type 0 where
  pub taken : flat_map (λ e. e.files) own ≡ map told_taken (done ++ left)
  pub done_are : All (λ source. is_done own (told_taken source) ≡ true) done
  pub left_are : All (λ source. is_done own (told_taken source) ≡ false) left

-- Of the records of a file they copied those that are listed as copied.
abbrev pub HaveCopied : MapMeaning → List RunEvent → Source → Type 0
HaveCopied m own source = All (λ row. row.file ≡ source.file.0 → list_any (λ e. is_one_of e.copied row.uid) own ≡ list_any (λ place. place.uid.0 == row.uid) source.copied.items) m.records

-- They dropped so many records, doomed or removed so many files, and removed so many instances.
pub record HasCounted (t : PurgeValue) (run : Run) (place : ℕ) : Type 0 where
  pub dropped : t.dropped ≡ dropped_by place run
  pub files : t.files ≡ files_gone_by place run
  pub instances : t.instances ≡ instances_gone_by place run

-- The purge is under way. What it has copied is said of the map of a store that isn't stopped.
pub record IsPurging {D : Type 0} (t : PurgeValue) (done left : List Source) (Behind : List ℕ → EventPart → Type 0) (store : StoreValue D) (run : Run) (place : ℕ) (said : List Reply) : Type 0 where
  pub unsaid : said ≡ []
  pub last : IsLastOf Behind (own_events place run)
  pub unrefused : last_refusal (own_events place run) ≡ None
  pub taken : HaveTaken done left (own_events place run)
  pub copied : store.stopped ≡ false → All (HaveCopied store.map (own_events place run)) left
  pub counted : HasCounted t run place

-- ---- the stages

-- The present file of those that are left was switched.
abbrev pub IsAtSwitched : {D : Type 0} → PurgeValue → List Source → StoreValue D → Run → ℕ → List Reply → Type 0
IsAtSwitched t [] store run place said = ⊥
IsAtSwitched t (source ∷ left) store run place said = (front : List Source) × IsPurging t (front ++ source ∷ []) left (RemovesBehind run source.file.0) store run place said

-- The stage behind a file: the next file's, or that of instances.
abbrev pub IsNextStage : Work → PurgeStage → Type 0
IsNextStage work next = ((sources_left work ≡ []) × (next ≡ stage.Instances)) ⊎ ((sources_left work ≢ []) × (next ≡ stage.Begin work))

-- the work with its present file done
abbrev pub went_on : Work → Work
went_on work = record work { next = work.next + 1; from = 0 }

-- At which stage it stands, by its store, of a run, of its place in the script, and of the answers of its steps.
abbrev pub IsAtPurgeStage : {D : Type 0} → PurgeStage → PurgeValue → StoreValue D → Run → ℕ → List Reply → Type 0
IsAtPurgeStage stage.First t store run place said = HasNotBegun run place said
IsAtPurgeStage (stage.Begin work) t store run place said = (done : List Source) × IsPurging t done (sources_left work) (GoesOnBehind run) store run place said
IsAtPurgeStage (stage.Copying work) t store run place said = (done : List Source) × IsPurging t done (sources_left work) (λ doomed part. CopiesBehind part) store run place said
IsAtPurgeStage (stage.Removing work) t store run place said = IsAtSwitched t (sources_left work) store run place said
IsAtPurgeStage stage.Instances t store run place said = (done : List Source) × IsPurging t done [] (GoesOnBehind run) store run place said

abbrev pub IsAtPurge : {D : Type 0} → PurgeValue → StoreValue D → Run → ℕ → List Reply → Type 0
IsAtPurge t store run place said = IsAtPurgeStage t.stage t store run place said
