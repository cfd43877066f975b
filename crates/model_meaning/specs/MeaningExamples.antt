-- Entries of logs, and what they mean: the logs of a store with one message in INBOX.
use Rattle.std.specs.Prelude.{◌∷◌, [], ◌++◌, List, ℕ, codes}
use Rattle.mdbox_base.specs.declared.entries.BoxEntry.{BoxEntry}
use Rattle.mdbox_base.specs.declared.entries.BoxEntry.TheVariants as box
use Rattle.mdbox_base.specs.declared.entries.MapEntry.{MapEntry}
use Rattle.mdbox_base.specs.declared.entries.MapEntry.TheVariants as map
use Rattle.model_logs.specs.LogExamples.{example_store}

-- the store's id, file 1, offset 16
abbrev pub example_guid : List ℕ
example_guid = example_store ++ (0 ∷ 0 ∷ 0 ∷ 1 ∷ 0 ∷ 0 ∷ 0 ∷ 0x10 ∷ [])

-- the entry of the mailbox log: a message with UID 1, of no octets, received at 0x65000000, without keywords
abbrev pub example_added : BoxEntry
example_added = box.A (record { 0 = 1 }) 0 0x65000000 0 (record { 0 = 1 }) (record { 0 = example_guid }) []

-- keywords in rising order, and the entry that sets them
abbrev pub example_words : List (List ℕ)
example_words = codes "$Junk" ∷ codes "project" ∷ []

abbrev pub example_worded : BoxEntry
example_worded = box.K (record { 0 = 1 }) example_words

-- the same in falling order
abbrev pub example_falling : BoxEntry
example_falling = box.K (record { 0 = 1 }) (codes "project" ∷ codes "$Junk" ∷ [])

-- the entries of the map log: mailbox 1 of generation 1 is INBOX, and a region of 0x59 octets of file 1
abbrev pub example_made : MapEntry
example_made = map.B (record { 0 = 1 }) 1 (codes "INBOX")

abbrev pub example_stored : MapEntry
example_stored = map.S 0 1 (record { 0 = 1 }) (record { 0 = 1 }) 0x10 0x59 (record { 0 = example_guid }) []

abbrev pub example_map : List MapEntry
example_map = example_made ∷ example_stored ∷ []
