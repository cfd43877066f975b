-- Where a make stands in a run.
use Rattle.std.specs.Prelude.{◌≡◌, ◌⊎◌, ℕ, List, [], ◌∷◌, ◌++◌, None}
use Rattle.mdbox_base.specs.declared.replies.Reply.{Reply}
use Rattle.list_machine.specs.Run.{EventPart, First, StartsOver, RunEvent, Run, own_events}
use Rattle.journal.specs.Events.{last_refusal, number_of}

-- The last of these events is of this part.
pub record EndsInPart (part : EventPart) (own : List RunEvent) : Type 0 where
  pub earlier : List RunEvent
  pub last : RunEvent
  pub own_is : own ≡ earlier ++ last ∷ []
  pub part_is : last.part ≡ part

-- None of its events was refused, and it has answered nothing.
pub record WasNotRefused (run : Run) (place : ℕ) (said : List Reply) : Type 0 where
  pub unrefused : last_refusal (own_events place run) ≡ None
  pub unanswered : said ≡ []

-- It is to make a log: it hasn't begun, or it has removed the one whose number was overtaken.
abbrev pub IsToMakeLog : Run → ℕ → List Reply → Type 0
IsToMakeLog run place said = WasNotRefused run place said × ((own_events place run ≡ []) ⊎ EndsInPart StartsOver (own_events place run))

-- It has made the log of this number, which is the one that it drew last.
abbrev pub HasMadeLog : ℕ → Run → ℕ → List Reply → Type 0
HasMadeLog number run place said = WasNotRefused run place said × EndsInPart First (own_events place run) × (number_of run place ≡ number)
