-- A request that is added to a world, and a world to which requests are added as it goes on.
use Rattle.std.specs.Prelude.{◌≡◌, ◌≤◌, ◌-◌, ◌+◌, ◌++◌, ◌∷◌, ℕ, true, false, List, [], All, length, map, slice_get, slice_set, Option, Some, None}
use Rattle.std.specs.Option.{option_map_or}
use Rattle.disk_model.specs.Disk.{Faults, History}
use Rattle.mdbox_base.specs.declared.replies.Reply.{Reply}
use Rattle.mdbox_base.specs.declared.requests.Request.{Request}
use Rattle.journal.specs.Journal.{Requests}
use Rattle.serving.specs.Lanes.{LaneValue}
use Rattle.lane_tasks.specs.Tasks.{BeginsTask}
use Rattle.lane_tasks.specs.declared.task.Task.{Task}
use Rattle.lanes.specs.Rows.{LaneRow}
use Rattle.lanes.specs.Worlds.{IsLaneEvent, WorldValue, turn_of}
use Rattle.lanes.specs.declared.lane.Queued.{Queued}

-- a lane with a request more behind the others
abbrev pub asked_behind : {T : Type 0} → ℕ → LaneValue T → LaneValue T
asked_behind place value = record value { queue = value.queue ++ place ∷ [] }

-- The same with its task. It is in turn at once if the lane had no request left.
abbrev pub row_asked : Queued → LaneRow → LaneRow
row_asked queued row = option_map_or (λ first. record { current = Some first; waiting = row.waiting ++ queued ∷ [] }) row.current (record { current = Some queued; waiting = [] })

-- a world with a request more, whose task begins, behind the others of a lane; it has room for 16 turns more
abbrev pub world_asked : {D : Type 0} → ℕ → Task → LaneRow → WorldValue D → WorldValue D
world_asked lane task row world = record world {
  rows = slice_set world.rows (lane - 1) (row_asked (record { place = length world.replies; task = task }) row);
  replies = world.replies ++ None ∷ [];
  turn_room = world.turn_room + 16;
}

-- The request is asked of this lane: it stands behind the others with the task with which it begins, has no reply, and all else stays.
pub record IsRequestAsked {D : Type 0} (lane : ℕ) (asked : Request) (old new : WorldValue D) : Type 0 where
  pub is_lane : 1 ≤ lane
  pub row : LaneRow
  pub there : slice_get old.rows (lane - 1) ≡ Some row
  pub task : Task
  pub begins : BeginsTask asked task
  pub new_is : new ≡ world_asked lane task row old

-- no turn was idle
abbrev pub HasNoIdleTurn : {D : Type 0} → WorldValue D → Type 0
HasNoIdleTurn world = All (λ turn. turn.idle ≡ false) world.turns

-- An event of a lane, and its turn.
abbrev pub IsEventTurn : {D : Type 0} → (D → Option History) → (D → Faults) → ℕ → WorldValue D → WorldValue D → Type 0
IsEventTurn history faults lane old new = (1 ≤ lane) × IsLaneEvent lane old new (history old.store.disk) (history new.store.disk) (faults old.store.disk) (faults new.store.disk) × (new.turns ≡ old.turns ++ turn_of lane false ∷ [])

-- What is done with a world, one after another: of each lane an event, or this request is asked of it.
abbrev pub GoesWith : {D : Type 0} → (D → Option History) → (D → Faults) → List (ℕ × Option Request) → WorldValue D → WorldValue D → Type 0
GoesWith history faults [] old new = new ≡ old
GoesWith history faults ((lane, None) ∷ rest) old new = (mid : WorldValue _) × IsEventTurn history faults lane old mid × GoesWith history faults rest mid new
GoesWith history faults ((lane, Some asked) ∷ rest) old new = (mid : WorldValue _) × IsRequestAsked lane asked old mid × GoesWith history faults rest mid new

-- the requests that are asked
abbrev pub asked_in : List (ℕ × Option Request) → Requests
asked_in [] = []
asked_in ((lane, None) ∷ rest) = asked_in rest
asked_in ((lane, Some asked) ∷ rest) = (lane, asked) ∷ asked_in rest

-- events of these lanes
abbrev pub events_of : List ℕ → List (ℕ × Option Request)
events_of lanes = map (λ lane. (lane, None)) lanes

-- no request but this one is without a reply
abbrev pub IsOnlyLeft : ℕ → List (Option Reply) → Type 0
IsOnlyLeft last replies = (i : ℕ) → slice_get replies i ≡ Some None → i ≡ last
