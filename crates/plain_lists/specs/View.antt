-- The lists that vectors stand for.
use Rattle.std.specs.Prelude.{ℕ, [], map}
use Rattle.model_lists.specs.Lists.{ListedMessage, Mailbox, Lists}
use Rattle.plain_lists.specs.declared.lists.PlainMessage.{PlainMessage}
use Rattle.plain_lists.specs.declared.lists.PlainMailbox.{PlainMailbox}

abbrev pub message_of : PlainMessage → ListedMessage
message_of m = record { uid = m.uid.0; flags = m.flags; time = m.time; guid = m.guid.0; octets = m.octets; words = m.words }

abbrev pub mailbox_of : PlainMailbox → Mailbox
mailbox_of b = record { number = b.number.0; name = b.name; next_uid = b.next_uid; messages = map message_of b.messages.items }

-- The lists, and the highest number that a mailbox was ever given, or 0: a number never comes again, also after its mailbox has gone.
pub record ListsMade : Type 0 where
  pub lists : Lists
  pub highest : ℕ
