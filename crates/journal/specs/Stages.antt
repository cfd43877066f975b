-- A task of two events, by its stages: an expunge removes the message, and then lowers the count.
use Rattle.std.specs.Prelude.{◌≡◌, ℕ, List, [], ◌∷◌, Some, None}
use Rattle.mdbox_base.specs.declared.ids.Uid.{Uid}
use Rattle.mdbox_base.specs.declared.entries.BoxEntry.TheVariants as box
use Rattle.mdbox_base.specs.declared.replies.Reply.TheVariants as reply
use Rattle.model_lists.specs.Lists.{Mailbox}
use Rattle.list_machine.specs.Run.{First, GivesBack, RunEvent, event_of}
use Rattle.journal.specs.Events.{adds_to, lowers}

pub data Stage : Type 0 where
  ToRemove : Stage
  ToLower : (uid : ℕ) → Stage

-- The task stands at a stage where its own events of the run are those that led there.
abbrev pub IsAtStage : Stage → List RunEvent → Type 0
IsAtStage ToRemove own = own ≡ []
IsAtStage (ToLower uid) own = (e : RunEvent) × (own ≡ e ∷ []) × (e.part ≡ First) × (e.refused ≡ None) × (e.owes ≡ uid ∷ [])

abbrev pub removal : ℕ → ℕ → Mailbox → Uid → ℕ → ℕ → RunEvent
removal lane place mailbox uid owed calls = record (event_of lane place First calls) { box_entries = adds_to mailbox (box.R uid); owes = owed ∷ [] }

abbrev pub lowering : ℕ → ℕ → ℕ → ℕ → RunEvent
lowering lane place uid calls = record (event_of lane place GivesBack calls) { reply = Some reply.Done; map_entries = lowers uid }
