-- Mailboxes of which one has another log.
use Rattle.std.specs.Prelude.{◌==◌, ℕ, List, [], ◌∷◌, if◌then◌else◌}
use Rattle.mdbox_base.specs.declared.entries.BoxEntry.{BoxEntry}
use Rattle.model_lists.specs.Lists.{ListedMessage, Lists}
use Rattle.model_meaning.specs.MapMeaning.{MapBox}

-- The mailbox with this number has this log; the others have theirs.
abbrev pub log_switched : ℕ → List BoxEntry → List MapBox → List (List BoxEntry) → List (List BoxEntry)
log_switched number log (box ∷ boxes) (old ∷ logs) = (if number == box.number then log else old) ∷ log_switched number log boxes logs
log_switched number log boxes logs = logs

-- The mailbox with this number has these messages and this next UID.
abbrev pub list_switched : ℕ → ℕ → List ListedMessage → Lists → Lists
list_switched number next messages [] = []
list_switched number next messages (x ∷ xs) = (if number == x.number then record x { next_uid = next; messages = messages } else x) ∷ list_switched number next messages xs
