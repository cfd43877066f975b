-- The root log, as it is removed.
use Rattle.std.specs.Prelude.{◌≡◌, ◌⊎◌, ℕ, List, true, false, Option, Some, None, IsTrue, ◌↔◌, refl}
use Rattle.std.proofs.Common.{inl, inr, sym, ◌∙◌, ap, subst}
use Rattle.std.proofs.lemmas.Bool.{cases_Bool, cond-false, false≢true}
use Rattle.disk_model.proofs.BetweenLemmas.{between-after, between-if}
use Rattle.disk_model.proofs.IdleLemmas.{idle-images}
use Rattle.disk_model.proofs.MomentLemmas.{if_told-map, if_told-both, each_image-goes_on, each_image-fails, each_image-fails_still}
use Rattle.disk_model.proofs.OneFileLemmas.{change-here, change-other, named-narrows}
use Rattle.disk_model.specs.Disk.{Files, FileState, DiskState, History, IsImage, IsIdle, IsThere, IfTold, EachImage, Between, AfterFailed, MayLeave, after, change, change_all, half_removed, named, no_file, removed}
use Rattle.disk_model.specs.Name.{IsLogName}
use Rattle.disk_model.specs.declared.name.FileName.TheVariants as file
use Rattle.model_rebuild.specs.RebuildMoments.{IsBeforeLogs, IsBeforeRoot, IsOldButForRoot}
use Rattle.model_store.specs.Opening.{HasNoEntry}
use Rattle.store_rebuild.proofs.FileLemmas.{named_gone}
use Rattle.store_rebuild.specs.Rootless.{IsRootTaken}

-- ---- images

images_before : (first now : DiskState) → IsBeforeLogs first now → (image : Files) → IsImage now image → IsOldButForRoot first image
images_before first now b image is = (λ name apart. b.0 name apart (image name) (is name), b.1 (image file.Root) (is file.Root))

half_root : (f : FileState) → IsThere f → (left : Option (List ℕ)) → MayLeave (half_removed f) left → MayLeave f left ⊎ (left ≡ None)
half_root f there None h = inr refl
half_root f there (Some octets) h = inl (record { named = inl there; least = h.least; greatest = h.greatest; same = h.same; are_octets = h.are_octets })

half_images : (first now : DiskState) → IsBeforeLogs first now → IsThere (now file.Root) → (image : Files) → IsImage (change file.Root half_removed now) image → IsOldButForRoot first image
half_images first now b there image is = (
  λ name apart. b.0 name apart (image name) (subst (λ (f : FileState). MayLeave f (image name)) (change-other file.Root name half_removed now apart) (is name)),
  elim (half_root (now file.Root) there (image file.Root) (subst (λ (f : FileState). MayLeave f (image file.Root)) (change-here file.Root half_removed now) (is file.Root))) [
    | inl h ↦ b.1 (image file.Root) h
    | inr gone ↦ inr gone
  ],
)

-- a look at the disk
pub looked_images : (first : DiskState) (old new : Option History) → IsIdle old new → IfTold old (IsBeforeLogs first) → EachImage (λ _ image. IsOldButForRoot first image) old new
looked_images first old new idle before =
    idle-images (IsOldButForRoot first) old new idle (if_told-map (IsBeforeLogs first) (λ disk. (image : Files) → IsImage disk image → IsOldButForRoot first image) old (λ disk b. images_before first disk b) before)

-- a removal that fails
pub failed_images : (first : DiskState) (old now new : Option History) → EachImage (λ _ image. IsOldButForRoot first image) old now → AfterFailed (change file.Root half_removed) now new → IfTold now (IsBeforeLogs first)
    → IfTold now (λ disk. IsTrue true ↔ IsThere (disk file.Root)) → EachImage (λ _ image. IsOldButForRoot first image) old new
failed_images first old now new each failed before told =
    each_image-fails (λ _ image. IsOldButForRoot first image) (change file.Root half_removed) old now new each failed
    (if_told-both (IsBeforeLogs first) (λ disk. IsTrue true ↔ IsThere (disk file.Root)) (λ disk. (m : ℕ) (image : Files) → IsImage (change file.Root half_removed disk) image → IsOldButForRoot first image) now
    (λ disk b t m image is. half_images first disk b (t.0 refl) image is) before told)

-- a call of which files are left as they could be before the logs are made
pub changed_images : (first : DiskState) (step : DiskState → DiskState) (old now new : Option History) → EachImage (λ _ image. IsOldButForRoot first image) old now → new ≡ after step now
    → ((disk : DiskState) → IsBeforeLogs first disk → IsBeforeLogs first (step disk)) → IfTold now (IsBeforeLogs first) → EachImage (λ _ image. IsOldButForRoot first image) old new
changed_images first step old now new each is keeps before =
    each_image-goes_on (λ _ image. IsOldButForRoot first image) step old now new each is
    (if_told-map (IsBeforeLogs first) (λ disk. (m : ℕ) (image : Files) → IsImage (step disk) image → IsOldButForRoot first image) now (λ disk b m image of. images_before first (step disk) (keeps disk b) image of) before)

-- a sync of names that fails
pub unsynced_images : (first : DiskState) (old now new : Option History) → EachImage (λ _ image. IsOldButForRoot first image) old now → AfterFailed (λ disk. disk) now new → EachImage (λ _ image. IsOldButForRoot first image) old new
unsynced_images first old now new each failed = each_image-fails_still (λ _ image. IsOldButForRoot first image) old now new each failed (λ m image is. is)

-- ---- states

same_taken : (old new : DiskState) → new ≡ old → (IsTrue false ↔ IsThere (old file.Root)) → IsRootTaken old new
same_taken old new e told = subst (IsRootTaken old) (sym e) (record {
  gone = λ there. false≢true (told.1 there);
  others = λ name apart. refl;
  before = λ first b. b;
})

pub none_taken : (old new : Option History) → IsIdle old new → IfTold old (λ disk. IsTrue false ↔ IsThere (disk file.Root)) → Between IsRootTaken old new
none_taken old new idle told = between-if (λ a b. b ≡ a) IsRootTaken (λ disk. IsTrue false ↔ IsThere (disk file.Root)) old new same_taken idle.same told

removed_taken : ((first disk : DiskState) → IsBeforeLogs first disk → IsBeforeLogs first (change file.Root removed disk)) → (old now : DiskState) → now ≡ old → IsRootTaken old (change file.Root removed now)
removed_taken keeps old now e = record {
  gone = λ there. false≢true (subst IsThere (change-here file.Root removed now) there);
  others = λ name apart. change-other file.Root name removed now apart ∙ ap (λ (d : DiskState). d name) e;
  before = λ first b. keeps first now (subst (IsBeforeLogs first) (sym e) b);
}

pub root_taken : ((first disk : DiskState) → IsBeforeLogs first disk → IsBeforeLogs first (change file.Root removed disk)) → (old now new : Option History) → IsIdle old now → new ≡ after (change file.Root removed) now → Between IsRootTaken old new
root_taken keeps old now new idle is =
    between-after (λ a b. b ≡ a) IsRootTaken (λ disk. Unit {0}) (change file.Root removed) old now new (λ a b e u. removed_taken keeps a b e) idle.same (if_told-unit now) is
  where
    if_told-unit : (h : Option History) → IfTold h (λ disk. Unit {0})
    if_told-unit None = tt
    if_told-unit (Some h) = tt

no_root : (left : Option (List ℕ)) → MayLeave no_file left → HasNoEntry left
no_root None leaves = tt
no_root (Some octets) holds = elim holds.named [ inl gone ↦ absurd (false≢true gone) | inr loose ↦ absurd (false≢true loose) ]

pub rootless : (first now : DiskState) → IsBeforeLogs first now → (IsThere (now file.Root) → ⊥) → IsBeforeRoot first (change_all named now)
rootless first now b gone = (
  λ name mail left h. b.0 name (λ e. mail (subst IsLogName (sym e) refl)) left (named-narrows (now name) left h),
  λ left h. no_root left (subst (λ (f : FileState). MayLeave f left) (named_gone (now file.Root) gone) h),
)
