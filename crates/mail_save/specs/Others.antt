-- What other deliveries have of the storage files, and keep: the files that they have taken, and the regions that they have placed.
use Rattle.std.specs.Prelude.{◌≡◌, ℕ}
use Rattle.store_core.specs.Value.{StoreValue}
use Rattle.mail_save.specs.Left.{HoldsFile, HoldsRegion}
use Rattle.mail_save.specs.declared.place.SavedAt.{SavedAt}
use Rattle.mail_save.specs.declared.task.SaveStage.{SaveStage}
use Rattle.mail_save.specs.declared.task.SaveStage.TheVariants as stage

-- the storage file that a delivery has taken
abbrev pub IsOwnFile : SaveStage → ℕ → Type 0
IsOwnFile (stage.Placing parts file) number = number ≡ file.0
IsOwnFile (stage.Storing at rows room) number = number ≡ at.file.0
IsOwnFile now number = ⊥

pub record KeepsOthers {D : Type 0} (now : SaveStage) (old new : StoreValue D) : Type 0 where
  pub files : (number size : ℕ) → (IsOwnFile now number → ⊥) → HoldsFile number size old → HoldsFile number size new
  pub regions : (at : SavedAt) → (IsOwnFile now at.file.0 → ⊥) → HoldsRegion at old → HoldsRegion at new
