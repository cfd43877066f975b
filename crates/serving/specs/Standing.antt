-- Where the tasks of other lanes stand beside an event.
use Rattle.std.specs.Prelude.{◌≡◌, ◌≢◌, ℕ, List, slice_get, Some}
use Rattle.mdbox_base.specs.declared.replies.Reply.{Reply}
use Rattle.mdbox_base.specs.declared.requests.Request.{Request}
use Rattle.list_machine.specs.Run.{Run, RunEvent, and_then}
use Rattle.task_steps.specs.Step.{GivesNew}
use Rattle.serving.specs.Lanes.{LaneValue}

-- Where a request stands by one statement before an event of another request, it stands by another statement after it. Both are of
-- the run, the request's place and the answers of its steps. A task's statement may speak of the store too, which the event changes.
abbrev pub StandsOn : (Run → ℕ → List Reply → Type 0) → (Run → ℕ → List Reply → Type 0) → Type 0
StandsOn Was Is = (run : Run) (place : ℕ) (said : List Reply) (event : RunEvent) → event.request ≢ place → GivesNew run event → Was run place said → Is (and_then run event) place said

-- It is so of the tasks of all lanes but one.
abbrev pub OthersStandOn : {T : Type 0} → (T → Request → Run → ℕ → List Reply → Type 0) → (T → Request → Run → ℕ → List Reply → Type 0) → List (LaneValue T) → ℕ → Type 0
OthersStandOn Was Is lanes k = (j : ℕ) (value : LaneValue _) → k ≢ j → slice_get lanes j ≡ Some value → (task : _) (request : Request) → value.task ≡ Some task → StandsOn (Was task request) (Is task request)
