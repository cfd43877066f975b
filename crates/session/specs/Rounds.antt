-- The requests of a session, one after another.
use Rattle.std.specs.Prelude.{◌≡◌, ◌⊎◌, ℕ, List, length, Option}
use Rattle.std.specs.List.{AllByRecursion}
use Rattle.disk_model.specs.Disk.{Faults, History}
use Rattle.mdbox_base.specs.Streams.{Appended, Taken}
use Rattle.mdbox_base.specs.declared.requests.Request.{Request}
use Rattle.lanes.specs.Asked.{GoesWith, asked_in}
use Rattle.lanes.specs.Worlds.{WorldValue}
use Rattle.request_text.specs.BatchText.{batch_text}
use Rattle.request_text.specs.declared.outcome.Outcome.{Outcome}
use Rattle.request_text.specs.declared.outcome.Outcome.TheVariants as outcome
use Rattle.script_text.specs.Script.{FitsLanes, script_text}
use Rattle.script_text.specs.Taking.{extent}
use Rattle.session.specs.OneRequest.{EndsSession, IsWaiting}

-- These requests were taken from the input, one after another, and no octet more; they were done, and their replies are told, all in this
-- order; and now the world waits for the next.
pub record HasServed {D : Type 0} (history : D → Option History) (faults : D → Faults) (moves : List (ℕ × Option Request)) (old new : WorldValue D) (left rest held later : Option (List ℕ)) : Type 0 where
  pub goes : GoesWith history faults moves old new
  pub waits : IsWaiting new
  pub taken : Taken left (script_text (asked_in moves)) rest
  pub fits : AllByRecursion (FitsLanes 64) (asked_in moves)
  pub printed : Appended held (batch_text new.journal new.replies) later

-- So a session goes: by these requests; and then it ends, or it has done 100,000 of them.
pub record HasGone {D : Type 0} (history : D → Option History) (faults : D → Faults) (old new : WorldValue D) (left rest held later : Option (List ℕ)) (ended : Outcome) : Type 0 where
  pub moves : List (ℕ × Option Request)
  pub mid : WorldValue D
  pub between : Option (List ℕ)
  pub told : Option (List ℕ)
  pub served : HasServed history faults moves old mid left between held told
  pub ends : EndsSession history faults mid new between rest told later (extent (script_text (asked_in moves))) ended ⊎ ((ended ≡ outcome.SessionFull) × (length (asked_in moves) ≡ 100000) × (new ≡ mid) × (rest ≡ between) × (later ≡ told))
