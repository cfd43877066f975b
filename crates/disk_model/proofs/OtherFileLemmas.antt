-- A run of calls on one file of which nothing is said: the other files stay.
use Rattle.std.proofs.Common.{◌≡◌, ℕ, List, Option}
use Rattle.disk_model.specs.Disk.{FileState, History, Unchanged, AfterFailed, EachImage, OthersStay, after, change, change_all, named}
use Rattle.disk_model.specs.declared.name.FileName.{FileName}
use Rattle.disk_model.proofs.MomentLemmas.{if_told-all, each_image-map}
use Rattle.disk_model.proofs.OneFileLemmas.{IsAlong, Along, along-begins, along-goes_on, along-fails, along-fails_still, along-unchanged, along-named}

abbrev Any : Option (List ℕ) → Type 0
Any octets = Unit {0}

-- so far each image has the other files as an image could have them at the beginning, and each of them is as it was
abbrev pub Apart : FileName → Option History → Option History → Type 0
Apart name old now = Along name Any old now

-- what the images have of the other files
pub apart_images : (name : FileName) (old new : Option History) → EachImage (IsAlong name Any old) old new → EachImage (λ _ image. OthersStay name old image) old new
apart_images name old new each = each_image-map (IsAlong name Any old) (λ _ image. OthersStay name old image) old new (λ m image is. is.1) each

pub apart_begins : (name : FileName) (old : Option History) → Apart name old old
apart_begins name old = along-begins name Any old (if_told-all _ old (λ disk octets leaves. tt))

pub apart_goes_on : (name : FileName) (step : FileState → FileState) (old now new : Option History) → Apart name old now
    → new ≡ after (change name step) now → Apart name old new
apart_goes_on name step old now new apart is = along-goes_on name Any step old now new apart is (if_told-all _ now (λ disk octets leaves. tt))

pub apart_fails : (name : FileName) (step : FileState → FileState) (old now new : Option History) → Apart name old now
    → AfterFailed (change name step) now new → EachImage (λ _ image. OthersStay name old image) old new
apart_fails name step old now new apart failed =
    apart_images name old new (along-fails name Any step old now new apart failed (if_told-all _ now (λ disk octets leaves. tt)))

-- a sync, of the file or of the names, that failed
pub apart_fails_still : (name : FileName) (old now new : Option History) → Apart name old now
    → AfterFailed (λ disk. disk) now new → EachImage (λ _ image. OthersStay name old image) old new
apart_fails_still name old now new apart failed = apart_images name old new (along-fails_still name Any old now new apart failed)

pub apart_unchanged : (name : FileName) (old now new : Option History) → Apart name old now → Unchanged now new → Apart name old new
apart_unchanged name old now new apart unchanged = along-unchanged name Any old now new apart unchanged

pub apart_named : (name : FileName) (old now new : Option History) → Apart name old now
    → new ≡ after (change_all named) now → EachImage (λ _ image. OthersStay name old image) old new
apart_named name old now new apart is =
    apart_images name old new (along-named name Any old now new apart is (if_told-all _ now (λ disk octets leaves. tt)))
