-- Which logs of a store are due to be written anew: those that have many more entries than they need.
use Rattle.std.specs.Prelude.{◌≡◌, ◌<◌, ◌+◌, ◌*◌, ◌==◌, ◌&&◌, ℕ, Bool, false, nat_le, nat_lt, List, length, find, slice_get, All}
use Rattle.std.specs.Option.{option_map_or}
use Rattle.model_meaning.specs.BoxMeaning.{BoxMeaning}
use Rattle.model_meaning.specs.MapMeaning.{MapMeaning}
use Rattle.store_core.specs.Value.{StoreValue}
use Rattle.store_core.specs.declared.store.OpenBox.{OpenBox}

-- A log of so many entries, which needs so many, is due: it has 1,024 or more, which are more than twice what it needs, and there is
-- a generation behind its own.
abbrev pub is_log_due : ℕ → ℕ → ℕ → Bool
is_log_due entries needs generation = nat_le 1024 entries && (nat_lt (2 * needs) entries && nat_lt generation 4294967294)

-- a mailbox log needs an entry for each message and one for the next UID
abbrev pub needs_of_box : BoxMeaning → ℕ
needs_of_box m = length m.rows + 1

-- the map log needs one for each mailbox, record and sealed file, and one for the highest numbers
abbrev pub needs_of_map : MapMeaning → ℕ
needs_of_map m = length m.boxes + length m.records + length m.sealed + 1

-- the log of an open mailbox is due
abbrev pub is_box_due : OpenBox → Bool
is_box_due b = is_log_due b.log.count (needs_of_box b.index.meaning) b.log.head.generation

-- the log of the mailbox with this number is; of none where there is no such mailbox
abbrev pub is_due_at : {D : Type 0} → ℕ → StoreValue D → Bool
is_due_at number store = option_map_or is_box_due (find (λ b. b.number.0 == number) store.boxes) false

-- the map log is
abbrev pub is_map_due : {D : Type 0} → StoreValue D → Bool
is_map_due store = is_log_due store.map_log.count (needs_of_map store.map) store.map_log.head.generation

-- No log of the store is due.
pub record NoLogDue {D : Type 0} (store : StoreValue D) : Type 0 where
  pub boxes : All (λ b. is_box_due b ≡ false) store.boxes
  pub map_log : is_map_due store ≡ false

-- Each mailbox whose log isn't due is as it was.
abbrev pub KeepsUndue : {D : Type 0} → StoreValue D → StoreValue D → Type 0
KeepsUndue old new = (number : ℕ) → is_due_at number old ≡ false → find (λ b. b.number.0 == number) new.boxes ≡ find (λ b. b.number.0 == number) old.boxes

-- ---- within the crate

-- the logs of the first so many mailboxes aren't due
abbrev pub AreUndueTo : ℕ → List OpenBox → Type 0
AreUndueTo place boxes = (i : ℕ) → i < place → option_map_or is_box_due (slice_get boxes i) false ≡ false
