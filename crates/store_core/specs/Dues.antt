-- What tasks hold and owe of a store, and what they leave to one another.
use Rattle.std.specs.Prelude.{◌≡◌, ◌==◌, ◌+◌, ◌-◌, ◌<◌, ℕ, List, ◌∷◌, map, sum_by, count_by, if◌then◌else◌, Option, Some}
use Rattle.disk_model.specs.Disk.{History, Between}
use Rattle.model_meaning.specs.MapMeaning.{MapRecord, record_at}
use Rattle.model_store.specs.Settled.{files_of}
use Rattle.model_store.specs.Stands.{StoresMessage}
use Rattle.store_core.specs.Value.{StoreValue, indexes_of}

-- ---- by record

-- the number at the place of the record with this map uid, 0 where there is none
abbrev pub number_beside : ℕ → List MapRecord → List ℕ → ℕ
number_beside uid (row ∷ rows) (number ∷ numbers) = if row.uid == uid then number else number_beside uid rows numbers
number_beside uid rows numbers = 0

-- what is due of a record: tasks raised its count and haven't listed a message yet, or removed one and haven't lowered the
-- count yet
abbrev pub due_at : {D : Type 0} → ℕ → StoreValue D → ℕ
due_at uid store = number_beside uid store.map.records store.dues

-- how many listed messages have this map uid
abbrev pub listed_at : {D : Type 0} → ℕ → StoreValue D → ℕ
listed_at uid store = sum_by (λ m. count_by (λ row. row.map_uid == uid) m.rows) (indexes_of store.boxes)

-- what of a record's count is neither listed nor due: no task answers for it
abbrev pub leak_at : {D : Type 0} → ℕ → StoreValue D → ℕ
leak_at uid store = number_beside uid store.map.records (map (λ row. row.count) store.map.records) - (listed_at uid store + due_at uid store)

-- ---- by task

-- What one task holds and owes, or all tasks together: how much is due of each record, by map uid.
pub record Amounts : Type 0 where
  pub due : ℕ → ℕ

abbrev pub no_amounts : Amounts
no_amounts = record { due = λ uid. 0 }

-- of all tasks
abbrev pub amounts_in : {D : Type 0} → StoreValue D → Amounts
amounts_in store = record { due = λ uid. due_at uid store }

-- By as much as a task's own amounts grow or shrink, those of all tasks do.
pub record Moves (mine mine_now all all_now : Amounts) : Type 0 where
  pub due : (uid : ℕ) → all_now.due uid + mine.due uid ≡ all.due uid + mine_now.due uid

-- A record is still there, maybe elsewhere, with its GUID, and stores the text that it stored.
pub record IsSpared {D : Type 0} (uid : ℕ) (row : MapRecord) (new : StoreValue D) (before after : Option History) : Type 0 where
  pub now : MapRecord
  pub there : record_at new.map uid ≡ Some now
  pub guid : now.guid ≡ row.guid
  pub stores : (octets : List ℕ) → Between (λ a b. StoresMessage (files_of a) row octets → StoresMessage (files_of b) now octets) before after

-- Each record of any map stores the text that it stored.
abbrev pub KeepsStored : Option History → Option History → Type 0
KeepsStored = Between (λ a b. (row : MapRecord) (octets : List ℕ) → StoresMessage (files_of a) row octets → StoresMessage (files_of b) row octets)

-- A task with these amounts leaves to the others what is theirs: each record of which more is due than its own.
pub record Spares {D : Type 0} (mine : Amounts) (old new : StoreValue D) (before after : Option History) : Type 0 where
  pub records : (uid : ℕ) (row : MapRecord) → mine.due uid < due_at uid old → record_at old.map uid ≡ Some row → IsSpared uid row new before after
