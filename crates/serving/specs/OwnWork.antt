-- A task that is known by what its request has done.
use Rattle.std.specs.Prelude.{◌≡◌, ℕ, List}
use Rattle.mdbox_base.specs.declared.replies.Reply.{Reply}
use Rattle.mdbox_base.specs.declared.requests.Request.{Request}
use Rattle.list_machine.specs.Run.{RunEvent, Run, own_events}

-- What a request has done: its events, and the answers of its steps.
pub record OwnWork : Type 0 where
  pub events : List RunEvent
  pub answers : List Reply

-- its events of the run are these, and its steps answered this
abbrev pub HasWorked : OwnWork → Request → Run → ℕ → List Reply → Type 0
HasWorked work request run place said = (own_events place run ≡ work.events) × (said ≡ work.answers)
