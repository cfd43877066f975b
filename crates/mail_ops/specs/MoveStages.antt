-- Where the second half of a move stands in a run.
use Rattle.std.specs.Prelude.{◌≡◌, ℕ, false, List, [], ◌∷◌, Some, None}
use Rattle.mdbox_base.specs.declared.entries.BoxEntry.TheVariants as box_entry
use Rattle.mdbox_base.specs.declared.ids.MapUid.{MapUid}
use Rattle.mdbox_base.specs.declared.ids.Uid.{Uid}
use Rattle.mdbox_base.specs.declared.replies.Reply.{Reply}
use Rattle.mdbox_base.specs.declared.replies.Reply.TheVariants as reply
use Rattle.list_machine.specs.Run.{Last, SecondHalf, Run, own_events, source_of, uid_copied}
use Rattle.journal.specs.Events.{last_refusal, uid_held}
use Rattle.mail_ops.specs.MakeStages.{EndsInPart}

-- Its last event has added the message of the mailbox with this number, with this UID, by the record that it held, and answered so.
pub record HasCopied (held : MapUid) (copied : Uid) (source : ℕ) (run : Run) (place : ℕ) (said : List Reply) : Type 0 where
  pub unrefused : last_refusal (own_events place run) ≡ None
  pub last : EndsInPart Last (own_events place run)
  pub held_is : uid_held place run ≡ Some held.0
  pub source_is : source_of place run ≡ source
  pub copied_is : uid_copied place run ≡ Some copied.0
  pub said_is : said ≡ reply.Copied copied ∷ []

-- Its last event has removed the message with this UID from a mailbox, its source, and answered so.
pub record HasMoved (uid : Uid) (owed : MapUid) (copied : Uid) (run : Run) (place : ℕ) (said : List Reply) : Type 0 where
  pub unrefused : last_refusal (own_events place run) ≡ None
  pub last : EndsInPart SecondHalf (own_events place run)
  pub removed : last.last.box_entries ≡ record { mailbox = source_of place run; entry = box_entry.R uid } ∷ []
  pub held_is : uid_held place run ≡ Some owed.0
  pub copied_is : uid_copied place run ≡ Some copied.0
  pub said_is : said ≡ reply.Copied copied ∷ reply.Moved copied false ∷ []
