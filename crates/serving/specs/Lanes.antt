-- Where the requests of a script stand that lanes serve, each lane one after another.
use Rattle.std.specs.Prelude.{◌≡◌, ◌<◌, ◌+◌, ◌==◌, ◌⊎◌, ℕ, List, [], ◌∷◌, map, slice_get, slice_set, if◌then◌else◌, Option, Some, None, Contains}
use Rattle.mdbox_base.specs.declared.replies.Reply.{Reply}
use Rattle.mdbox_base.specs.declared.requests.Request.{Request}
use Rattle.list_machine.specs.Run.{Run, own_events}
use Rattle.journal.specs.Journal.{Requests, JournalStep, HasReply, steps_of}
use Rattle.task_steps.specs.Serves.{IsTurn}
use Rattle.task_steps.specs.Step.{HasNotBegun}

-- A lane: the places of its requests that aren't answered, in order, and the task of the first of them, once that has begun.
pub record LaneValue (T : Type 0) : Type 0 where
  pub queue : List ℕ
  pub task : Option T

-- what the steps of a request have answered
abbrev pub said_by : List JournalStep → ℕ → List Reply
said_by journal place = map (λ step. step.answer) (steps_of place journal)

-- Where the first request of a lane stands: it hasn't begun, or stands where its task does. `At` says of a task where it stands: of
-- its request, of a run, of the request's place, and of the answers of its steps.
abbrev pub LaneStands : {T : Type 0} → (T → Request → Run → ℕ → List Reply → Type 0) → Option T → Request → Run → ℕ → List Reply → Type 0
LaneStands At None request = HasNotBegun
LaneStands At (Some task) request = At task request

-- The requests behind one place are of the lane, stand in script order, and have no event.
abbrev pub AreBehind : Requests → Run → ℕ → ℕ → List ℕ → Type 0
AreBehind script run lane place [] = Unit {0}
AreBehind script run lane place (next ∷ rest) = (place < next) × ((request : Request) × (slice_get script next ≡ Some (lane, request))) × (own_events next run ≡ []) × AreBehind script run lane next rest

-- It is the turn of the first request of a queue, if it has one; a lane without requests has no task.
abbrev pub IsInTurn : {T : Type 0} → (T → Request → Run → ℕ → List Reply → Type 0) → Requests → Run → List JournalStep → List (Option Reply) → ℕ → LaneValue T → List ℕ → Type 0
IsInTurn At script run journal replies lane value [] = value.task ≡ None
IsInTurn At script run journal replies lane value (place ∷ rest) =
    ((request : Request) × IsTurn script journal replies lane place request × LaneStands At value.task request run place (said_by journal place)) × AreBehind script run lane place rest

-- A lane stands so: its first request is in turn, and each request of the lane waits in it or is answered.
pub record LaneAt {T : Type 0} (At : T → Request → Run → ℕ → List Reply → Type 0) (script : Requests) (run : Run) (journal : List JournalStep) (replies : List (Option Reply)) (lane : ℕ) (value : LaneValue T) : Type 0 where
  pub in_turn : IsInTurn At script run journal replies lane value value.queue
  pub each : (i : ℕ) (asked : ℕ × Request) → slice_get script i ≡ Some asked → asked.0 ≡ lane → Contains value.queue i ⊎ ((given : Reply) × HasReply replies i given)

-- Each lane stands so; lanes are numbered from 1.
abbrev pub LanesAt : {T : Type 0} → (T → Request → Run → ℕ → List Reply → Type 0) → Requests → Run → List JournalStep → List (Option Reply) → List (LaneValue T) → Type 0
LanesAt At script run journal replies lanes = (k : ℕ) (value : LaneValue _) → slice_get lanes k ≡ Some value → LaneAt At script run journal replies (k + 1) value

-- ---- how lanes begin, go on and end

-- the places of a lane's requests in the script, counted from this number
abbrev pub queue_of : ℕ → ℕ → Requests → List ℕ
queue_of lane n [] = []
queue_of lane n (asked ∷ script) = if asked.0 == lane then n ∷ queue_of lane (n + 1) script else queue_of lane (n + 1) script

-- Each lane waits with all its requests, and none has begun.
abbrev pub AreFresh : {T : Type 0} → Requests → List (LaneValue T) → Type 0
AreFresh script lanes = (k : ℕ) (value : LaneValue _) → slice_get lanes k ≡ Some value → value ≡ record { queue = queue_of (k + 1) 0 script; task = None }

abbrev pub tail_of : List ℕ → List ℕ
tail_of [] = []
tail_of (place ∷ rest) = rest

-- a lane whose first request is answered, or whose task goes on, and the replies then
abbrev pub lane_behind : {T : Type 0} → Option Reply → T → LaneValue T → LaneValue T
lane_behind None task value = record value { task = Some task }
lane_behind (Some given) task value = record { queue = tail_of value.queue; task = None }

abbrev pub replies_behind : Option Reply → ℕ → List (Option Reply) → List (Option Reply)
replies_behind None place replies = replies
replies_behind (Some given) place replies = slice_set replies place (Some given)
