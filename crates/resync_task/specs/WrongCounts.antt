-- The counts of records that are wrong.
use Rattle.std.specs.Prelude.{◌+◌, ◌==◌, ℕ, List, [], ◌∷◌, if◌then◌else◌}
use Rattle.mdbox_base.specs.declared.entries.MapCount.{MapCount}
use Rattle.model_meaning.specs.MapMeaning.{MapRecord}
use Rattle.store_core.specs.Dues.{due_at, listed_at}
use Rattle.store_core.specs.Value.{StoreValue}

-- Of these records the counts that differ from those that are right, in order of map uid, each as it is right.
abbrev pub wrong_beside : (ℕ → ℕ) → List MapRecord → List MapCount
wrong_beside right [] = []
wrong_beside right (row ∷ rows) = if row.count == right row.uid then wrong_beside right rows else record { uid = record { 0 = row.uid }; count = right row.uid } ∷ wrong_beside right rows

-- the wrong counts of a store, by what its mailboxes list of each record and what is due of it
abbrev pub wrong_of : {D : Type 0} → StoreValue D → List MapCount
wrong_of store = wrong_beside (λ uid. listed_at uid store + due_at uid store) store.map.records
