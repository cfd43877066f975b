-- The mailbox lists that a rebuild makes of the messages that it takes.
use Rattle.std.specs.Prelude.{◌+◌, ℕ, List, [], ◌∷◌, length, filter}
use Rattle.std.specs.Str.{bytes_eq}
use Rattle.model_lists.specs.Lists.{ListedMessage, Mailbox, Lists}
use Rattle.model_taken.specs.Taken.{TakenMessage, mailboxes_met}

-- messages with UIDs from this one on, without flags and keywords
abbrev pub listed_from : ℕ → List TakenMessage → List ListedMessage
listed_from uid [] = []
listed_from uid (t ∷ rest) = record { uid = uid; flags = 0; time = t.time; guid = t.guid; octets = t.octets; words = [] } ∷ listed_from (uid + 1) rest

-- the messages that go to the mailbox with this name
abbrev pub sent_to : List ℕ → List TakenMessage → List TakenMessage
sent_to name taken = filter (λ t. bytes_eq t.mailbox name) taken

-- a mailbox with these messages, whose UIDs count from 1
abbrev pub rebuilt_mailbox : ℕ → List ℕ → List TakenMessage → Mailbox
rebuilt_mailbox number name messages = record { number = number; name = name; next_uid = length messages + 1; messages = listed_from 1 messages }

-- mailboxes with these names, numbered from this number on
abbrev pub mailboxes_from : ℕ → List (List ℕ) → List TakenMessage → Lists
mailboxes_from number [] taken = []
mailboxes_from number (name ∷ names) taken = rebuilt_mailbox number name (sent_to name taken) ∷ mailboxes_from (number + 1) names taken

-- INBOX, and the other mailboxes in the order in which they are met, each with its messages in the order in which they are found.
abbrev pub lists_of : List TakenMessage → Lists
lists_of taken = mailboxes_from 1 (mailboxes_met taken) taken
