-- The target of a purge that moves records.
use Rattle.map_index.proofs.Common.{◌≡◌, ◌≢◌, ℕ, List, [], ◌∷◌, length, refl, arith, ◌↔◌, All, AllPairs, MapPlace, MapMeaning, ArePlacedApart, IsNumber}
use Rattle.model_meaning.specs.MapFits.{FitsPlace, FitsTarget}

pub no_target : (m : MapMeaning) (file target : ℕ) (moved : List MapPlace) (T : Type 0) → length moved ≡ 0 → (T ↔ (target ≡ 0)) → (T ↔ FitsTarget m file target moved)
no_target m file target [] T none h = h
no_target m file target (p ∷ moved) T none h = absurd (omega (arith, none))

pub some_target : (m : MapMeaning) (file target : ℕ) (moved : List MapPlace) (T : Type 0) → (length moved ≡ 0 → ⊥)
    → (T ↔ (IsNumber target × (target ≢ file) × All (FitsPlace m target) moved × AllPairs (ArePlacedApart m) moved)) → (T ↔ FitsTarget m file target moved)
some_target m file target [] T some h = absurd (some refl)
some_target m file target (p ∷ moved) T some h = h
