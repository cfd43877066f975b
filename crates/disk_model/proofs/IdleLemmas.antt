-- Calls that change nothing, one after another.
use Rattle.std.proofs.Common.{ℕ, List, Option, Some, None, refl, sym, ◌∙◌, ap, subst}
use Rattle.disk_model.specs.Disk.{Files, DiskState, History, MayLeave, IsImage, IfTold, IsTold, Unchanged, EachImage, Between, SameState, IsIdle, SameButFor}
use Rattle.disk_model.specs.declared.name.FileName.{FileName}
use Rattle.disk_model.proofs.MomentLemmas.{each_image-begins, each_image-map, each_image-then, each_image-unchanged}
use Rattle.disk_model.proofs.BetweenLemmas.{between-begins, between-then, between-map, between-on, between-back, between-told, between-goes_on}
use Rattle.disk_model.proofs.OneFileLemmas.{IsAlong, Along}

-- the state is the same

pub same_state-begins : (old : Option History) → SameState old old
same_state-begins old = between-begins _ old (λ disk. refl)

pub same_state-then : (old now new : Option History) → SameState old now → SameState now new → SameState old new
same_state-then old now new first second = between-then _ _ _ old now new (λ a b c p q. q ∙ p) first second

pub same_state-unchanged : (old now new : Option History) → SameState old now → Unchanged now new → SameState old new
same_state-unchanged old now new same unchanged = between-goes_on _ old now new same unchanged

pub same_state-on : (P : DiskState → Type 0) (old new : Option History) → SameState old new → IfTold old P → IfTold new P
same_state-on P old new same p = between-on _ P P old new (λ a b e q. subst P (sym e) q) same p

pub same_state-back : (P : DiskState → Type 0) (old new : Option History) → SameState old new → IfTold new P → IfTold old P
same_state-back P old new same p = between-back _ P P old new (λ a b e q. subst P e q) same p

-- and each image is one that the disk could leave before

pub idle-begins : (old : Option History) → IsIdle old old
idle-begins old = record { same = same_state-begins old; each = each_image-begins _ old (images old) }
  where
    images : (old : Option History) → IfTold old (λ disk. (m : ℕ) (image : Files) → IsImage disk image → IfTold old (λ d. IsImage d image))
    images None = tt
    images (Some old) = λ m image is. is

pub idle-then : (old now new : Option History) → IsIdle old now → IsIdle now new → IsIdle old new
idle-then old now new first second = record {
  same = same_state-then old now new first.same second.same;
  each = each_image-then _ old now new first.each
      (each_image-map _ _ now new (λ m image is. same_state-back (λ disk. IsImage disk image) old now first.same is) second.each);
}

pub idle-unchanged : (old now new : Option History) → IsIdle old now → Unchanged now new → IsIdle old new
idle-unchanged old now new idle unchanged = record {
  same = same_state-unchanged old now new idle.same unchanged;
  each = each_image-unchanged _ old now new idle.each unchanged (λ m image is. is);
}

-- one call
pub idle-call : (old new : Option History) → Unchanged old new → IsIdle old new
idle-call old new unchanged = idle-unchanged old old new (idle-begins old) unchanged

-- what holds of the state before holds after, and back

pub idle-on : (P : DiskState → Type 0) (old new : Option History) → IsIdle old new → IfTold old P → IfTold new P
idle-on P old new idle p = same_state-on P old new idle.same p

pub idle-back : (P : DiskState → Type 0) (old new : Option History) → IsIdle old new → IfTold new P → IfTold old P
idle-back P old new idle p = same_state-back P old new idle.same p

pub idle-told : (old new : Option History) → IsIdle old new → IsTold old → IsTold new
idle-told old new idle told = between-told _ old new idle.same told

pub idle-between : (R : DiskState → DiskState → Type 0) (old new : Option History) → IsIdle old new → ((disk : DiskState) → R disk disk) → Between R old new
idle-between R old new idle r = between-map _ R old new (λ a b e. subst (R a) (sym e) (r a)) idle.same

-- what holds of each image at the beginning holds of each since
pub idle-images : (P : Files → Type 0) (old new : Option History) → IsIdle old new → IfTold old (λ disk. (image : Files) → IsImage disk image → P image) → EachImage (λ _ image. P image) old new
idle-images P None new idle holds = idle.each
idle-images P (Some old) new idle holds = each_image-map _ _ (Some old) new (λ m image is. holds image is) idle.each

-- what holds of each image since the calls holds of each since their beginning
pub idle-each_image : (P : Files → Type 0) (old now new : Option History) → IsIdle old now → IfTold now (λ disk. (image : Files) → IsImage disk image → P image)
    → EachImage (λ _ image. P image) now new → EachImage (λ _ image. P image) old new
idle-each_image P old now new idle holds each =
    each_image-then _ old now new (idle-images P old now idle (idle-back _ old now idle holds)) each

pub idle-but : (name : FileName) (old new : Option History) → IsIdle old new → SameButFor name old new
idle-but name old new idle = between-map _ _ old new (λ a b e other apart. ap (λ (d : DiskState). d other) e) idle.same

-- what holds of all that a crash may leave of a file holds at each moment
pub idle-along : (name : FileName) (P : Option (List ℕ) → Type 0) (old new : Option History) → IsIdle old new
    → IfTold old (λ disk. (octets : Option (List ℕ)) → MayLeave (disk name) octets → P octets) → Along name P old new
idle-along name P old new idle holds = record { each = go old holds new idle.each; same = idle-but name old new idle }
  where
    go : (old : Option History) → IfTold old (λ disk. (octets : Option (List ℕ)) → MayLeave (disk name) octets → P octets) → (new : Option History) → EachImage (λ _ image. IfTold old (λ disk. IsImage disk image)) old new → EachImage (IsAlong name P old) old new
    go None holds new each = each
    go (Some old) holds new each = each_image-map _ _ (Some old) new (λ m image is. (holds (image name) (is name), λ other apart. is other)) each
