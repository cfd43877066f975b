-- Sealed storage files that stay, whatever becomes of records.
use Rattle.std.specs.Prelude.{◌≡◌, ℕ, true, List, Option}
use Rattle.disk_model.specs.Disk.{EachImage, Files, History, IfTold, MayLeave}
use Rattle.disk_model.specs.declared.name.FileName.TheVariants as file
use Rattle.mdbox_base.specs.declared.entries.BoxEntry.{BoxEntry}
use Rattle.mdbox_base.specs.declared.entries.MapEntry.{MapEntry}
use Rattle.model_meaning.specs.MapMeaning.{MapMeaning, is_sealed, map_meaning}
use Rattle.model_store.specs.Opening.{Opens}
use Rattle.model_store.specs.Settled.{files_of}

-- An image has of each storage file that this map has sealed what a crash could leave of it.
abbrev pub SealedStay : MapMeaning → Option History → Files → Type 0
SealedStay m old image = IfTold old (λ was. (number : ℕ) → is_sealed m number ≡ true → MayLeave (was (file.Mail number)) (image (file.Mail number)))

-- Whatever store the files open with, each image of each moment has so much of its sealed storage files.
abbrev pub KeepsSealed : Option History → Option History → Type 0
KeepsSealed old new = (store : List ℕ) (entries : List MapEntry) (logs : List (List BoxEntry)) → IfTold old (λ was. Opens (files_of was) store entries logs) → EachImage (λ _ image. SealedStay (map_meaning store entries) old image) old new
