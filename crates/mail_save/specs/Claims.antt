-- What a delivery claims of an open store.
use Rattle.std.specs.Prelude.{◌==◌, ℕ}
use Rattle.task_claims.specs.Claims.{Claims, Due, Held, Taken, one_if}
use Rattle.mail_save.specs.Held.{save_dues, save_holds}
use Rattle.mail_save.specs.declared.task.SaveStage.{SaveStage}
use Rattle.mail_save.specs.declared.task.SaveStage.TheVariants as stage

-- how much it has of a storage file: it has taken one from the event that takes it up to the one that stores its record
abbrev pub own_file_of : SaveStage → ℕ → ℕ
own_file_of (stage.Placing parts file) number = one_if (file.0 == number)
own_file_of (stage.Storing at rows room) number = one_if (at.file.0 == number)
own_file_of now number = 0

-- What is due of the record that it has stored and not added yet, or not given back; the storage file that it has taken; and each
-- instance that it has found and that no record of its own names yet, as often as it was found.
abbrev pub save_claims : SaveStage → Claims
save_claims now (Due uid) = save_dues now uid
save_claims now (Taken file) = own_file_of now file
save_claims now (Held id) = save_holds now id
save_claims now thing = 0
