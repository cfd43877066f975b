-- The event of a purge that switches its present storage file.
use Rattle.std.specs.Prelude.{◌≡◌, ◌+◌, ◌==◌, ◌∷◌, [], ℕ, Bool, List, true, false, None, Result, Ok, Err}
use Rattle.std.specs.List.{list_any}
use Rattle.mdbox_base.specs.declared.progress.Did.TheVariants as did
use Rattle.mdbox_base.specs.declared.progress.Progress.{Progress}
use Rattle.mdbox_base.specs.declared.progress.Progress.TheVariants as progress
use Rattle.mdbox_base.specs.declared.replies.Refusal.{Refusal}
use Rattle.mdbox_base.specs.declared.replies.Reply.TheVariants as reply
use Rattle.model_meaning.specs.MapMeaning.{MapMeaning}
use Rattle.purge_task.specs.Claims.{sources_left}
use Rattle.purge_task.specs.Clause.{came_to}
use Rattle.purge_task.specs.Copied.{AreUnwantedFrom}
use Rattle.purge_task.specs.Keeping.{PurgeValue}
use Rattle.purge_task.specs.Stages.{IsNextStage, went_on}
use Rattle.purge_task.specs.declared.switch_event.SwitchedFile.{SwitchedFile}
use Rattle.purge_task.specs.declared.task.PurgeStage.{PurgeStage}
use Rattle.purge_task.specs.declared.task.PurgeStage.TheVariants as stage
use Rattle.purge_task.specs.declared.work.Source.{Source}
use Rattle.purge_task.specs.declared.work.Work.{Work}

-- ---- before it

-- the present file has no target, and a message lies in it
abbrev pub IsUnwantedFirst : List Source → MapMeaning → Type 0
IsUnwantedFirst [] m = ⊥
IsUnwantedFirst (source ∷ left) m = (source.target ≡ None) × (list_any (λ row. row.file == source.file.0) m.records ≡ true)

-- no message of the present file from this offset on is wanted
abbrev pub IsCopiedFirst : List Source → ℕ → MapMeaning → Type 0
IsCopiedFirst [] from m = ⊥
IsCopiedFirst (source ∷ left) from m = AreUnwantedFrom m source.file.0 from

-- At this stage a purge is to switch the present file: it begins one of which nothing is wanted, or has copied all that is wanted of it.
abbrev pub IsToSwitch : PurgeStage → Work → MapMeaning → Type 0
IsToSwitch (stage.Begin begun) work m = (begun ≡ work) × IsUnwantedFirst (sources_left work) m
IsToSwitch (stage.Copying copied) work m = (copied ≡ work) × IsCopiedFirst (sources_left work) work.from m
IsToSwitch other work m = ⊥

-- ---- after it

-- The stage behind the switch: the removal of the file if it has no pin, and else that behind a file.
abbrev pub IsBehindSwitch : Bool → Work → PurgeStage → Type 0
IsBehindSwitch true work next = next ≡ stage.Removing work
IsBehindSwitch false work next = IsNextStage (went_on work) next

abbrev pub answer_of_switch : Result SwitchedFile Refusal → Progress
answer_of_switch (Ok switched) = progress.More
answer_of_switch (Err why) = progress.Done (reply.Refused why)

-- The task behind the switch of a file: it has dropped so many records more, and doomed one file more.
abbrev pub came_by_switch : Result SwitchedFile Refusal → PurgeValue → PurgeValue
came_by_switch (Ok switched) t = record t { stage = switched.next; did = did.Quiet; dropped = t.dropped + switched.dropped; files = t.files + 1 }
came_by_switch (Err why) t = came_to (Err why) t
