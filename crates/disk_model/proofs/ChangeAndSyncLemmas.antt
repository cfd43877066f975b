-- A function of two device calls: a change of one file, and its sync.
use Rattle.std.proofs.Common.{◌≡◌, ℕ, List, Option, sym, subst}
use Rattle.disk_model.specs.Disk.{FileState, History, MayLeave, IsThere, IfTold, AfterFailed, EachImage, SameButFor, after, change, synced}
use Rattle.disk_model.specs.declared.name.FileName.{FileName}
use Rattle.disk_model.proofs.MomentLemmas.{if_told-after, if_told-map}
use Rattle.disk_model.proofs.OneFileLemmas.{IsAlong, Along, change-here, along-begins, along-goes_on, along-fails, along-fails_still}

-- What is to be known before: P holds of all that a crash may leave of the file, now, after the change, after a change
-- that failed, and after the sync; and the change leaves the file there.
pub record Can (name : FileName) (step half : FileState → FileState) (P : Option (List ℕ) → Type 0) (f : FileState) : Type 0 where
  pub before : (octets : Option (List ℕ)) → MayLeave f octets → P octets
  pub halved : (octets : Option (List ℕ)) → MayLeave (half f) octets → P octets
  pub changed : (octets : Option (List ℕ)) → MayLeave (step f) octets → P octets
  pub settled : (octets : Option (List ℕ)) → MayLeave (synced (step f)) octets → P octets
  pub there : IsThere (step f)

abbrev pub CanNow : FileName → (FileState → FileState) → (FileState → FileState) → (Option (List ℕ) → Type 0) → Option History → Type 0
CanNow name step half P old = IfTold old (λ disk. Can name step half P (disk name))

begun : (name : FileName) (step half : FileState → FileState) (P : Option (List ℕ) → Type 0) (old : Option History) → CanNow name step half P old → Along name P old old
begun name step half P old can = along-begins name P old (if_told-map _ _ old (λ disk c. c.before) can)

-- a fact of the file after the change, or after both calls
pub changed_state : (name : FileName) (F G : FileState → Type 0) (step : FileState → FileState) (old mid : Option History)
    → mid ≡ after (change name step) old → ((f : FileState) → F f → G (step f)) → IfTold old (λ disk. F (disk name)) → IfTold mid (λ disk. G (disk name))
changed_state name F G step old mid is f holds =
    if_told-after _ _ (change name step) old mid is (λ disk g. subst G (sym (change-here name step disk)) (f (disk name) g)) holds

pub state : (name : FileName) (F G : FileState → Type 0) (step : FileState → FileState) (old mid new : Option History)
    → mid ≡ after (change name step) old → new ≡ after (change name synced) mid
    → ((f : FileState) → F f → G (synced (step f))) → IfTold old (λ disk. F (disk name)) → IfTold new (λ disk. G (disk name))
state name F G step old mid new is synced_is f holds =
    changed_state name (λ g. G (synced g)) G synced mid new synced_is (λ g h. h)
    (changed_state name F (λ g. G (synced g)) step old mid is f holds)

pub change_fails : (name : FileName) (step half : FileState → FileState) (P : Option (List ℕ) → Type 0) (old new : Option History)
    → CanNow name step half P old → AfterFailed (change name half) old new → EachImage (IsAlong name P old) old new
change_fails name step half P old new can failed =
    along-fails name P half old old new (begun name step half P old can) failed (if_told-map _ _ old (λ disk c. c.halved) can)

pub sync_can : (name : FileName) (step half : FileState → FileState) (P : Option (List ℕ) → Type 0) (old mid : Option History)
    → CanNow name step half P old → mid ≡ after (change name step) old → IfTold mid (λ disk. IsThere (disk name))
sync_can name step half P old mid can is =
    changed_state name (Can name step half P) IsThere step old mid is (λ f c. c.there) can

changed : (name : FileName) (step half : FileState → FileState) (P : Option (List ℕ) → Type 0) (old mid : Option History)
    → CanNow name step half P old → mid ≡ after (change name step) old → Along name P old mid
changed name step half P old mid can is =
    along-goes_on name P step old old mid (begun name step half P old can) is (if_told-map _ _ old (λ disk c. c.changed) can)

pub sync_fails : (name : FileName) (step half : FileState → FileState) (P : Option (List ℕ) → Type 0) (old mid new : Option History)
    → CanNow name step half P old → mid ≡ after (change name step) old → AfterFailed (λ disk. disk) mid new → EachImage (IsAlong name P old) old new
sync_fails name step half P old mid new can is failed =
    along-fails_still name P old mid new (changed name step half P old mid can is) failed

-- after both
pub along : (name : FileName) (step half : FileState → FileState) (P : Option (List ℕ) → Type 0) (old mid new : Option History)
    → CanNow name step half P old → mid ≡ after (change name step) old → new ≡ after (change name synced) mid → Along name P old new
along name step half P old mid new can is synced_is =
    along-goes_on name P synced old mid new (changed name step half P old mid can is) synced_is
    (changed_state name (Can name step half P) (λ g. (octets : Option (List ℕ)) → MayLeave (synced g) octets → P octets) step old mid is (λ f c. c.settled) can)

pub images : (name : FileName) (step half : FileState → FileState) (P : Option (List ℕ) → Type 0) (old mid new : Option History)
    → CanNow name step half P old → mid ≡ after (change name step) old → new ≡ after (change name synced) mid → EachImage (IsAlong name P old) old new
images name step half P old mid new can is synced_is = (along name step half P old mid new can is synced_is).each

pub others : (name : FileName) (step half : FileState → FileState) (P : Option (List ℕ) → Type 0) (old mid new : Option History)
    → CanNow name step half P old → mid ≡ after (change name step) old → new ≡ after (change name synced) mid → SameButFor name old new
others name step half P old mid new can is synced_is = (along name step half P old mid new can is synced_is).same
