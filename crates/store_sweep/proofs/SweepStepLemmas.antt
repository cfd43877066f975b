-- What single calls of a sweep leave of a store, and runs of them.
use Rattle.std.proofs.Common.{◌≡◌, inl, inr, ℕ, Bool, true, false, Option, Some, None, refl, sym, ◌∙◌, ap, subst}
use Rattle.std.proofs.lemmas.Bool.{cases_Bool, true≢false, false≢true}
use Rattle.disk_model.specs.Disk.{Files, FileState, DiskState, History, IsImage, IfTold, IsTold, IsThere, Unchanged, AfterFailed, SameButFor, after, change, change_all, named, removed, reading}
use Rattle.disk_model.specs.Name.{is_log}
use Rattle.disk_model.specs.declared.name.FileName.{FileName}
use Rattle.disk_model.specs.declared.name.FileName.TheVariants as file
use Rattle.disk_model.proofs.MomentLemmas.{if_told-map, if_told-both, if_told-all, if_told-after, if_told-unchanged, told-after, each_image-begins, each_image-then, each_image-goes_on, each_image-fails, each_image-fails_still, each_image-unchanged}
use Rattle.disk_model.proofs.OneFileLemmas.{change-here, change-other}
use Rattle.model_meaning.specs.MapMeaning.{MapMeaning}
use Rattle.model_store.specs.Carrying.{CarryOver, CarriesOver}
use Rattle.store_sweep.specs.Held.{IsHeldAt, IsHeldStore, IsReadStore}
use Rattle.store_sweep.specs.Wanted.{is_wanted}
use Rattle.store_sweep.specs.Moments.{ImagesCarry, KeepsStore, SameWhere}
use Rattle.store_sweep.proofs.HeldLemmas.{image_carries, unwanted_holds, unwanted_carries, each_changed, named_holds}

abbrev Carries : ℕ → MapMeaning → Files → ℕ → Files → Type 0
Carries g m found moment image = CarryOver g m found image

-- ---- images

pub images_now : (g : ℕ) (m : MapMeaning) (old : Option History) → ImagesCarry g m old old
images_now g m old = λ found k.
    each_image-begins (Carries g m found) old (if_told-map _ _ old (λ disk h moment image is. image_carries g m found disk image h is) k)

-- a call that changed nothing
pub images_unchanged : (g : ℕ) (m : MapMeaning) (old now new : Option History) → ImagesCarry g m old now → Unchanged now new → ImagesCarry g m old new
images_unchanged g m old now new images unchanged = λ found k. each_image-unchanged (Carries g m found) old now new (images found k) unchanged (λ moment image h. h)

-- what is held of a file, it is after this
abbrev pub Keeping : ℕ → MapMeaning → FileName → (FileState → FileState) → DiskState → Type 0
Keeping g m name step disk = (found : Files) → IsHeldAt g m found name (disk name) → IsHeldAt g m found name (step (disk name))

changed_images : (g : ℕ) (m : MapMeaning) (name : FileName) (step : FileState → FileState) (found : Files) (old : Option History) → IfTold old (Keeping g m name step) → IfTold old (IsHeldStore g m found)
    → IfTold old (λ disk. (moment : ℕ) (image : Files) → IsImage (change name step disk) image → Carries g m found moment image)
changed_images g m name step found old keeping k =
    if_told-both _ _ _ old (λ disk keep h moment image is.
    image_carries g m found (change name step disk) image (each_changed (IsHeldAt g m found) name step disk h (keep found (h name))) is) keeping k

-- a call on one file, and one that failed
pub images_goes_on : (g : ℕ) (m : MapMeaning) (name : FileName) (step : FileState → FileState) (old new : Option History) → new ≡ after (change name step) old → IfTold old (Keeping g m name step) → ImagesCarry g m old new
images_goes_on g m name step old new is keeping = λ found k.
    each_image-goes_on (Carries g m found) (change name step) old old new (images_now g m old found k) is (changed_images g m name step found old keeping k)

pub images_fails : (g : ℕ) (m : MapMeaning) (name : FileName) (half : FileState → FileState) (old new : Option History) → AfterFailed (change name half) old new → IfTold old (Keeping g m name half) → ImagesCarry g m old new
images_fails g m name half old new failed keeping = λ found k.
    each_image-fails (Carries g m found) (change name half) old old new (images_now g m old found k) failed (changed_images g m name half found old keeping k)

-- a sync that failed
pub images_fails_still : (g : ℕ) (m : MapMeaning) (old now new : Option History) → ImagesCarry g m old now → AfterFailed (λ disk. disk) now new → ImagesCarry g m old new
images_fails_still g m old now new images failed = λ found k. each_image-fails_still (Carries g m found) old now new (images found k) failed (λ moment image h. h)

-- a sync of names
pub images_named : (g : ℕ) (m : MapMeaning) (old new : Option History) → new ≡ after (change_all named) old → ImagesCarry g m old new
images_named g m old new is = λ found k.
    each_image-goes_on (Carries g m found) (change_all named) old old new (images_now g m old found k) is
    (if_told-map _ _ old (λ disk h moment image of. image_carries g m found (change_all named disk) image (λ name. named_holds g m found name (disk name) (h name)) of) k)

-- what a disk holds, after it
abbrev pub Holds : ℕ → MapMeaning → Option History → Option History → Type 0
Holds g m old new = (found : Files) → IfTold old (IsHeldStore g m found) → IfTold new (IsHeldStore g m found)

pub images_then : (g : ℕ) (m : MapMeaning) (old now new : Option History) → ImagesCarry g m old now → Holds g m old now → ImagesCarry g m now new → ImagesCarry g m old new
images_then g m old now new first holds second = λ found k. each_image-then (Carries g m found) old now new (first found k) (second found (holds found k))

-- ---- what the disk holds and reads

pub holds_goes_on : (g : ℕ) (m : MapMeaning) (name : FileName) (step : FileState → FileState) (old new : Option History) → new ≡ after (change name step) old → IfTold old (Keeping g m name step) → Holds g m old new
holds_goes_on g m name step None new is keeping = λ found k. subst (λ (h : Option History). IfTold h (IsHeldStore g m found)) (sym is) tt
holds_goes_on g m name step (Some old) new is keeping = λ found k.
    subst (λ (h : Option History). IfTold h (IsHeldStore g m found)) (sym is) (each_changed (IsHeldAt g m found) name step old.now k (keeping found (k name)))

pub keeps_now : (g : ℕ) (m : MapMeaning) (old : Option History) → KeepsStore g m old old
keeps_now g m old = record { holds = λ found k. k; reads = λ found k. k; told = λ t. t }

pub keeps_then : (g : ℕ) (m : MapMeaning) (old now new : Option History) → KeepsStore g m old now → KeepsStore g m now new → KeepsStore g m old new
keeps_then g m old now new first second = record {
  holds = λ found k. second.holds found (first.holds found k);
  reads = λ found k. second.reads found (first.reads found k);
  told = λ t. second.told (first.told t);
}

pub keeps_unchanged : (g : ℕ) (m : MapMeaning) (old new : Option History) → Unchanged old new → KeepsStore g m old new
keeps_unchanged g m old new unchanged = record {
  holds = λ found k. if_told-unchanged (IsHeldStore g m found) old new unchanged k;
  reads = λ found k. if_told-unchanged (IsReadStore g m found) old new unchanged k;
  told = told_unchanged old new unchanged;
}
  where
    told_unchanged : (old new : Option History) → Unchanged old new → IsTold old → IsTold new
    told_unchanged old new (inl is) t = told-after (λ disk. disk) old new is t
    told_unchanged old new (inr is) t = subst IsTold (sym is.0) t

-- ---- files that stay

pub where_now : (test : FileName → Bool) (old : Option History) → SameWhere test old old
where_now test None = refl
where_now test (Some old) = λ name passes. refl

pub where_goes_on : (test : FileName → Bool) (name : FileName) (step : FileState → FileState) (old new : Option History) → new ≡ after (change name step) old → test name ≡ false → SameWhere test old new
where_goes_on test name step None new is fails = is
where_goes_on test name step (Some old) new is fails =
    subst (SameWhere test (Some old)) (sym is)
    (λ other passes. change-other name other step old.now (λ e. true≢false (sym passes ∙ ap test e ∙ fails)))

pub where_then : (test : FileName → Bool) (old now new : Option History) → SameWhere test old now → SameWhere test now new → SameWhere test old new
where_then test None None new first second = second
where_then test None (Some now) new first second = absurd (let e : Some now ≡ None = first in cc)
where_then test (Some old) None new first second = elim first [ ]
where_then test (Some old) (Some now) None first second = second
where_then test (Some old) (Some now) (Some new) first second = λ name passes. second name passes ∙ first name passes

pub where_unchanged : (test : FileName → Bool) (old new : Option History) → Unchanged old new → SameWhere test old new
where_unchanged test None new (inl is) = is
where_unchanged test None new (inr is) = is.0
where_unchanged test (Some old) new (inl is) = subst (SameWhere test (Some old)) (sym is) (λ name passes. refl)
where_unchanged test (Some old) new (inr is) = subst (SameWhere test (Some old)) (sym is.0) (λ name passes. refl)

-- where each file that the store needs stays, so does what is held of it
wanted_holds : (g : ℕ) (m : MapMeaning) (found : Files) (old new : DiskState) → ((name : FileName) → is_wanted g m name ≡ true → new name ≡ old name) → IsHeldStore g m found old → IsHeldStore g m found new
wanted_holds g m found old new same k = λ name. elim (cases_Bool (is_wanted g m name)) [
  | inl wanted ↦ subst (IsHeldAt g m found name) (sym (same name wanted)) (k name)
  | inr stray ↦ unwanted_holds g m found name (new name) stray
]

wanted_reads : (g : ℕ) (m : MapMeaning) (found : Files) (old new : DiskState) → ((name : FileName) → is_wanted g m name ≡ true → new name ≡ old name) → IsReadStore g m found old → IsReadStore g m found new
wanted_reads g m found old new same k = λ name. elim (cases_Bool (is_wanted g m name)) [
  | inl wanted ↦ subst (λ (f : FileState). CarriesOver g m found name (reading f)) (sym (same name wanted)) (k name)
  | inr stray ↦ unwanted_carries g m found name _ stray
]

pub keeps_where : (g : ℕ) (m : MapMeaning) (old new : Option History) → SameWhere (is_wanted g m) old new → KeepsStore g m old new
keeps_where g m None None same = record { holds = λ found k. tt; reads = λ found k. tt; told = λ t. t }
keeps_where g m None (Some new) same = absurd (let e : Some new ≡ None = same in cc)
keeps_where g m (Some old) None same = elim same [ ]
keeps_where g m (Some old) (Some new) same = record {
  holds = λ found k. wanted_holds g m found old.now new.now same k;
  reads = λ found k. wanted_reads g m found old.now new.now same k;
  told = λ t. tt;
}

-- ---- a file that is removed

pub removed_gone : (name : FileName) (P : Type 0) (old new : Option History) → new ≡ after (change name removed) old → IfTold new (λ disk. IsThere (disk name) → P)
removed_gone name P old new is =
    if_told-after _ _ (change name removed) old new is
    (λ disk all there. absurd (true≢false (sym there ∙ ap (λ (f : FileState). f.is_there) (change-here name removed disk)))) (if_told-all (λ _. Unit {0}) old (λ _. tt))

-- ---- a walk over the files, of which those that the store needs stay

pub walk_images : (g : ℕ) (m : MapMeaning) (old now mid new : Option History) → ImagesCarry g m old now → SameWhere (is_wanted g m) old now → Unchanged now mid → ImagesCarry g m mid new → ImagesCarry g m old new
walk_images g m old now mid new images same unchanged last =
    images_then g m old mid new (images_unchanged g m old now mid images unchanged)
    (keeps_where g m old mid (where_then (is_wanted g m) old now mid same (where_unchanged (is_wanted g m) now mid unchanged))).holds last

pub walk_same : (test : FileName → Bool) (old now mid new : Option History) → SameWhere test old now → Unchanged now mid → SameWhere test mid new → SameWhere test old new
walk_same test old now mid new same unchanged last = where_then test old now new same (where_then test now mid new (where_unchanged test now mid unchanged) last)

-- ---- what the disk reads

pub reads_goes_on : (g : ℕ) (m : MapMeaning) (name : FileName) (step : FileState → FileState) (old new : Option History) → new ≡ after (change name step) old
    → IfTold old (λ disk. (found : Files) → CarriesOver g m found name (reading (disk name)) → CarriesOver g m found name (reading (step (disk name))))
    → (found : Files) → IfTold old (IsReadStore g m found) → IfTold new (IsReadStore g m found)
reads_goes_on g m name step None new is keeping found k = subst (λ (h : Option History). IfTold h (IsReadStore g m found)) (sym is) tt
reads_goes_on g m name step (Some old) new is keeping found k =
    subst (λ (h : Option History). IfTold h (IsReadStore g m found)) (sym is)
    (each_changed (λ (n : FileName) (f : FileState). CarriesOver g m found n (reading f)) name step old.now k (keeping found (k name)))

-- each log stays where only a storage file changes
pub logs_stay : (n : ℕ) (old new : Option History) → SameButFor (file.Mail n) old new → SameWhere is_log old new
logs_stay n None new same = same
logs_stay n (Some old) None same = same
logs_stay n (Some old) (Some new) same = λ name log. same name (λ e. false≢true (sym (ap is_log e) ∙ log))

-- ---- a walk over the files that keeps the store

pub kept_images : (g : ℕ) (m : MapMeaning) (old now mid new : Option History) → ImagesCarry g m old now → KeepsStore g m old now → Unchanged now mid → ImagesCarry g m mid new → ImagesCarry g m old new
kept_images g m old now mid new images keeps unchanged last =
    images_then g m old mid new (images_unchanged g m old now mid images unchanged) (keeps_then g m old now mid keeps (keeps_unchanged g m now mid unchanged)).holds last

pub kept_keeps : (g : ℕ) (m : MapMeaning) (old now mid new : Option History) → KeepsStore g m old now → Unchanged now mid → KeepsStore g m mid new → KeepsStore g m old new
kept_keeps g m old now mid new keeps unchanged last = keeps_then g m old now new keeps (keeps_then g m now mid new (keeps_unchanged g m now mid unchanged) last)
