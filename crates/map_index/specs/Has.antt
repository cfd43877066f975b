-- What holds of the record of a map uid, and of a place that is given to one.
use Rattle.std.specs.Prelude.{◌≡◌, ◌≤◌, ℕ}
use Rattle.mdbox_base.specs.declared.entries.MapCount.{MapCount}
use Rattle.mdbox_base.specs.declared.entries.MapPlace.{MapPlace}
use Rattle.model_meaning.specs.MapMeaning.{MapMeaning}
use Rattle.model_meaning.specs.MapFits.{FitsPlace, HasMapBox, HasRecord, IsKnown}

unfoldable pub HasRow : MapMeaning → ℕ → Type 0
HasRow m uid = IsKnown m uid

unfoldable pub HasCount : MapMeaning → ℕ → Type 0
HasCount m uid = HasRecord m uid (λ row. 1 ≤ row.count)

unfoldable pub IsIn : MapMeaning → ℕ → ℕ → Type 0
IsIn m file uid = HasRecord m uid (λ row. row.file ≡ file)

unfoldable pub IsUnused : MapMeaning → ℕ → ℕ → Type 0
IsUnused m file uid = HasRecord m uid (λ row. (row.file ≡ file) × (row.count ≡ 0))

unfoldable pub HasRoom : MapMeaning → ℕ → MapPlace → Type 0
HasRoom m target place = FitsPlace m target place

unfoldable pub KnowsBox : MapMeaning → ℕ → Type 0
KnowsBox m number = HasMapBox m number (λ box. Unit {0})

unfoldable pub HasAmount : MapMeaning → MapCount → Type 0
HasAmount m given = HasRecord m given.uid.0 (λ row. (1 ≤ given.count) × (given.count ≤ row.count))
