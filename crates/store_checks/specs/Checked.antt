-- Mailboxes that were read, and what they list.
use Rattle.std.specs.Prelude.{◌≡◌, ◌<◌, ◌≤◌, ◌+◌, ◌==◌, ℕ, List, [], ◌∷◌, map, Contains, sum_by, count_by, if◌then◌else◌, ◌⊎◌}
use Rattle.model_meaning.specs.BoxMeaning.{BoxMeaning}
use Rattle.model_meaning.specs.MapMeaning.{MapRecord, MapMeaning}
use Rattle.store_checks.specs.declared.mailbox.CheckedBox.{CheckedBox}

-- how many listed messages of a mailbox, and of mailboxes, have this map uid
abbrev pub listed_by : ℕ → BoxMeaning → ℕ
listed_by uid m = count_by (λ row. row.map_uid == uid) m.rows

abbrev pub listed_in : ℕ → List CheckedBox → ℕ
listed_in uid boxes = sum_by (λ mailbox. listed_by uid mailbox.index.meaning) boxes

-- a record's count is at least its listed messages
abbrev pub IsCountedIn : List CheckedBox → MapRecord → Type 0
IsCountedIn boxes row = listed_in row.uid boxes ≤ row.count

-- some record's count is less
abbrev pub IsMiscountedIn : MapMeaning → List CheckedBox → Type 0
IsMiscountedIn m boxes = (row : MapRecord) × Contains m.records row × (row.count < listed_in row.uid boxes)

-- the counts of the records, in order
abbrev pub counts_in : MapMeaning → List ℕ
counts_in m = map (λ row. row.count) m.records

-- one message with this map uid
abbrev pub once : ℕ → ℕ → ℕ
once own uid = if own == uid then 1 else 0

-- What was left of the records' counts, and what is left after so many messages of each map uid were taken off.
abbrev pub AreTakenOff : (ℕ → ℕ) → List MapRecord → List ℕ → List ℕ → Type 0
AreTakenOff many [] [] [] = Unit {0}
AreTakenOff many (row ∷ rows) (old ∷ olds) (new ∷ news) = (new + many row.uid ≡ old) × AreTakenOff many rows olds news
AreTakenOff many rows olds news = ⊥

-- Less is left of some record's count than there are messages of its map uid.
abbrev pub IsUsedUp : (ℕ → ℕ) → List MapRecord → List ℕ → Type 0
IsUsedUp many [] left = ⊥
IsUsedUp many (row ∷ rows) [] = ⊥
IsUsedUp many (row ∷ rows) (rest ∷ left) = (rest < many row.uid) ⊎ IsUsedUp many rows left
