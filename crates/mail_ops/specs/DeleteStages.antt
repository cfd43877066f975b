-- Where a deletion stands in a run.
use Rattle.std.specs.Prelude.{◌≡◌, ℕ, List, [], ◌∷◌, None}
use Rattle.mdbox_base.specs.declared.replies.Reply.{Reply}
use Rattle.mdbox_base.specs.declared.replies.Reply.TheVariants as reply
use Rattle.list_machine.specs.Run.{First, RunEvent, Run, own_events}

-- Its only event has removed the mailbox, and its step said that it is done.
pub record HasDeleted (run : Run) (place : ℕ) (said : List Reply) : Type 0 where
  pub event : RunEvent
  pub own_is : own_events place run ≡ event ∷ []
  pub part_is : event.part ≡ First
  pub unrefused : event.refused ≡ None
  pub answered : said ≡ reply.Done ∷ []
