-- The making of a store's files, step after step.
use Rattle.std.proofs.Common.{◌≡◌, ◌⊎◌, inl, inr, false, ℕ, List, Option, refl, sym, ◌∙◌, subst}
use Rattle.std.proofs.lemmas.Bool.{cases_Bool, cond-false, false≢true, true≢false}
use Rattle.disk_model.specs.Disk.{FileState, DiskState, History, IsThere, IfTold, EachImage, named, no_file, IsIdle, Between}
use Rattle.disk_model.specs.declared.name.FileName.{FileName}
use Rattle.disk_model.specs.declared.name.FileName.TheVariants as file
use Rattle.disk_model.proofs.MomentLemmas.{if_told-map, each_image-map, each_image-then}
use Rattle.model_store.specs.Opening.{HasNoEntry}
use Rattle.disk_model.proofs.IdleLemmas.{idle-on, idle-images}
use Rattle.disk_model.specs.Name.{IsLogName}
use Rattle.store_open.specs.Making.{IsFreeForStore, IsEmptyDisk, NeverHasEntry, AreCleared, HasNothingOrInbox}
use Rattle.disk_model.proofs.BetweenLemmas.{between-on}
use Rattle.store_open.proofs.OldLogLemmas.{never-cleared}

log_or_not : (name : FileName) → IsLogName name ⊎ (IsLogName name → ⊥)
log_or_not file.Root = inl refl
log_or_not (file.Map generation) = inl refl
log_or_not (file.Box number generation) = inl refl
log_or_not (file.Mail number) = inr (λ e. false≢true e)
log_or_not (file.Inst hash id) = inr (λ e. false≢true e)

named-there : (f : FileState) → IsThere (named f) → IsThere f
named-there f there = elim (cases_Bool f.is_there) [
  | inl is ↦ is
  | inr not ↦ absurd (false≢true (subst IsThere (cond-false f.is_there (record f { is_name_loose = false }) no_file not) there))
]

still-gone : (f g : FileState) → (g ≡ f) ⊎ (g ≡ named f) → IsThere g → IsThere f
still-gone f g (inl same) there = subst IsThere same there
still-gone f g (inr is) there = named-there f (subst IsThere is there)

bare : (old new : DiskState) → AreCleared old new → IsFreeForStore old → IsEmptyDisk new
bare old new c free = λ name there. elim (log_or_not name) [
  | inl log ↦ elim (cases_Bool (old name).is_there) [
    | inl was ↦ false≢true (subst IsThere ((c name).gone log was) there)
    | inr not ↦ true≢false (sym (still-gone (old name) (new name) ((c name).stays (λ l was. true≢false (sym was ∙ not))) there) ∙ not)
  ]
  | inr other ↦ free.no_mail (name, other, still-gone (old name) (new name) ((c name).stays (λ l was. other l)) there)
]

-- no file is left, once the logs are cleared
pub all-bare : (old now new : Option History) → IfTold old IsFreeForStore → IsIdle old now → Between AreCleared now new → IfTold new IsEmptyDisk
all-bare old now new free idle cleared = between-on AreCleared IsFreeForStore IsEmptyDisk now new bare cleared (idle-on IsFreeForStore old now idle free)

-- what images have while the disk is checked
pub checked-images : (store : List ℕ) (old new : Option History) → IsIdle old new → IfTold old (λ disk. NeverHasEntry (disk file.Root)) → EachImage (λ _ image. HasNothingOrInbox store image) old new
checked-images store old new idle never = idle-images (HasNothingOrInbox store) old new idle (if_told-map _ _ old (λ disk n image is. inl (n (image file.Root) (is file.Root))) never)

-- and while logs are cleared
pub cleared-images : (store : List ℕ) (old now new : Option History) → IsIdle old now → (IfTold now (λ disk. NeverHasEntry (disk file.Root)) → EachImage (λ _ image. HasNoEntry (image file.Root)) now new)
    → IfTold old (λ disk. NeverHasEntry (disk file.Root)) → EachImage (λ _ image. HasNothingOrInbox store image) old new
cleared-images store old now new idle each never =
    each_image-then _ old now new (checked-images store old now idle never)
    (each_image-map _ _ now new (λ m image none. inl none) (each (idle-on _ old now idle never)))

-- and while logs are made
pub made-images : (store : List ℕ) (old now mid new : Option History) → IsIdle old now → Between AreCleared now mid → (IfTold now (λ disk. NeverHasEntry (disk file.Root)) → EachImage (λ _ image. HasNoEntry (image file.Root)) now mid)
    → (IfTold mid (λ disk. NeverHasEntry (disk file.Root)) → EachImage (λ _ image. HasNothingOrInbox store image) mid new)
    → IfTold old (λ disk. NeverHasEntry (disk file.Root)) → EachImage (λ _ image. HasNothingOrInbox store image) old new
made-images store old now mid new idle cleared each made never =
    each_image-then _ old mid new (cleared-images store old now mid idle each never)
    (made (between-on AreCleared _ _ now mid never-cleared cleared (idle-on _ old now idle never)))
