-- What a disk is: its files, what each call does to them, and what a crash may leave.
use Rattle.mdbox_base.specs.Streams.{Rose}
use Rattle.std.specs.Prelude.{◌≡◌, ◌≢◌, ◌↔◌, ◌==◌, ◌⊎◌, ℕ, ◌+◌, ◌-◌, ◌^◌, ◌<◌, ◌≤◌, min, max, nat_le, nat_lt, Bool, true, false, not, ◌&&◌, ◌||◌, if◌then◌else◌, List, [], ◌∷◌, ◌++◌, length, take, drop, slice_get, Option, Some, None, MatchOption, Result, IsOk, IsErr, IsErrOf, ⊤, All}
use Rattle.std.specs.declared.cmp.Ordering.{Ordering}
use Rattle.std.specs.declared.cmp.Ordering.TheVariants.{Less}
use Rattle.disk_model.specs.Name.{same_name}
use Rattle.disk_model.specs.declared.name.FileName.{FileName}
use Rattle.disk_model.specs.declared.error.DiskError.{DiskError}
use Rattle.disk_model.specs.declared.error.DiskError.TheVariants.{Failed}

-- what stands at each name, or None where no file does
abbrev pub Files : Type 0
Files = FileName → Option (List ℕ)

-- One file, and what has happened to it since its last sync and since the last sync of names.
pub record FileState : Type 0 where
  -- what a read gives: whether the file is there, and its octets; of a file that was removed, those that a crash may still leave
  pub is_there : Bool
  pub octets : List ℕ
  -- its least and greatest length since its last sync, and the places of octets that were written since
  pub least : ℕ
  pub greatest : ℕ
  pub is_loose : ℕ → Bool
  -- whether it was made or removed since the last sync of names
  pub is_name_loose : Bool

abbrev pub DiskState : Type 0
DiskState = FileName → FileState

-- what the reads of a file give
abbrev pub reading : FileState → Option (List ℕ)
reading f = if f.is_there then Some f.octets else None

abbrev pub IsThere : FileState → Type 0
IsThere f = f.is_there ≡ true

-- the file is there, and as long as this at least
abbrev pub Reaches : FileState → ℕ → Type 0
Reaches f n = (f.is_there ≡ true) × (n ≤ length f.octets)

-- A crash may leave these octets of one file: of a length that it had since its last sync, any octets in each range that
-- was written since and past the shortest length since, and elsewhere those that stand.
pub record MayHold (f : FileState) (octets : List ℕ) : Type 0 where
  pub named : (f.is_there ≡ true) ⊎ (f.is_name_loose ≡ true)
  pub least : f.least ≤ length octets
  pub greatest : length octets ≤ f.greatest
  pub same : (i : ℕ) → i < f.least → f.is_loose i ≡ false → slice_get octets i ≡ slice_get f.octets i
  pub are_octets : All (λ octet. octet < 256) octets

-- What a crash may leave of one file: octets, or no file where it isn't there or was made or removed since the last sync
-- of names.
abbrev pub MayLeave : FileState → Option (List ℕ) → Type 0
MayLeave f None = (f.is_there ≡ false) ⊎ (f.is_name_loose ≡ true)
MayLeave f (Some octets) = MayHold f octets

-- an image of a disk: each file is as a crash may leave it
abbrev pub IsImage : DiskState → Files → Type 0
IsImage disk image = (name : FileName) → MayLeave (disk name) (image name)

-- the file reads these octets, and they are what a crash leaves of it
pub record Keeps (f : FileState) (octets : List ℕ) : Type 0 where
  pub reads : reading f ≡ Some octets
  pub leaves : (left : Option (List ℕ)) → MayLeave f left ↔ (left ≡ Some octets)

-- no file, and nothing was
abbrev pub no_file : FileState
no_file = record { is_there = false; octets = []; least = 0; greatest = 0; is_loose = λ _. false; is_name_loose = false }

-- a file with these octets, synced, and its name too
abbrev pub still : List ℕ → FileState
still octets = record { is_there = true; octets = octets; least = length octets; greatest = length octets; is_loose = λ _. false; is_name_loose = false }

-- no file, or one that a crash leaves just as it reads
abbrev pub IsAtRest : FileState → Type 0
IsAtRest f = (f ≡ no_file) ⊎ ((octets : List ℕ) × All (λ octet. octet < 256) octets × (f ≡ still octets))

-- from `at` on, `n` of them
abbrev pub covers : ℕ → ℕ → ℕ → Bool
covers at n i = nat_le at i && nat_lt i (at + n)

-- these octets lie over the old ones from `at` on
abbrev pub overlaid : List ℕ → ℕ → List ℕ → List ℕ
overlaid old at octets = take at old ++ octets ++ drop (at + length octets) old

-- after a write
abbrev pub written : ℕ → List ℕ → FileState → FileState
written at octets f = record f {
  octets = overlaid f.octets at octets;
  greatest = max f.greatest (at + length octets);
  is_loose = λ i. f.is_loose i || covers at (length octets) i;
}

-- after a cut to n
abbrev pub cut_to : ℕ → FileState → FileState
cut_to n f = record f { octets = take n f.octets; least = min f.least n }

-- after its sync
abbrev pub synced : FileState → FileState
synced f = record f { least = length f.octets; greatest = length f.octets; is_loose = λ _. false }

-- after it was made: there and empty
abbrev pub made : FileState → FileState
made f = record f { is_there = true; octets = []; least = 0; is_name_loose = f.is_name_loose || not f.is_there }

-- after it was removed
abbrev pub removed : FileState → FileState
removed f = record f { is_there = false; is_name_loose = f.is_name_loose || f.is_there }

-- after a sync of names
abbrev pub named : FileState → FileState
named f = if f.is_there then record f { is_name_loose = false } else no_file

-- after a write of n octets that failed: any octets in the range
abbrev pub half_written : ℕ → ℕ → FileState → FileState
half_written at n f = record f { greatest = max f.greatest (at + n); is_loose = λ i. f.is_loose i || covers at n i }

-- after a cut that failed
abbrev pub half_cut : ℕ → FileState → FileState
half_cut n f = record f { least = min f.least n }

-- after it was to be made or removed, and that failed
abbrev pub half_made : FileState → FileState
half_made f = record f { least = 0; is_name_loose = true }

abbrev pub half_removed : FileState → FileState
half_removed f = record f { is_name_loose = true }

-- this file changes so, and no other
unfoldable pub change : FileName → (FileState → FileState) → DiskState → DiskState
change name step disk = λ n. if same_name n name then step (disk n) else disk n

-- each file changes so
abbrev pub change_all : (FileState → FileState) → DiskState → DiskState
change_all step disk = λ n. step (disk n)

-- The states at each moment so far: now, and at the moments before, the latest first.
pub record History : Type 0 where
  pub now : DiskState
  pub before : List DiskState

-- how many calls have returned
abbrev pub calls : History → ℕ
calls h = length h.before

-- This is the number of calls that have returned, or the greatest that a u64 holds. Nothing is asked where no content is
-- modelled.
abbrev pub IsMoment : Option History → ℕ → Type 0
IsMoment None moment = ⊤
IsMoment (Some h) moment = moment ≡ min (calls h) (2 ^ 64 - 1)

-- one more call has returned, and left this state
abbrev pub joined_by : DiskState → History → History
joined_by state h = record { now = state; before = h.now ∷ h.before }

-- a fact of the present state, where the disk tells it
abbrev pub IfTold : Option History → (DiskState → Type 0) → Type 0
IfTold h P = MatchOption h ⊤ (λ told. P told.now)

-- the disk tells its content
abbrev pub IsTold : Option History → Type 0
IsTold None = ⊥
IsTold (Some h) = ⊤

-- A relation of the states at two times, where the disk tells them. A disk that tells goes on to tell, and one that doesn't
-- doesn't.
abbrev pub Between : (DiskState → DiskState → Type 0) → Option History → Option History → Type 0
Between R None new = new ≡ None
Between R (Some old) None = ⊥
Between R (Some old) (Some new) = R old.now new.now

-- the state is the same
abbrev pub SameState : Option History → Option History → Type 0
SameState = Between (λ old new. new ≡ old)

-- a call that did this
abbrev pub after : (DiskState → DiskState) → Option History → Option History
after step None = None
after step (Some h) = Some (joined_by (step h.now) h)

-- The disk has counted as many calls as a u64 holds. From then on a call that changes nothing need not be counted.
abbrev pub IsFull : Option History → Type 0
IsFull h = MatchOption h ⊤ (λ told. 2 ^ 64 ≤ calls told + 1)

-- a call that changed nothing
abbrev pub Unchanged : Option History → Option History → Type 0
Unchanged old new = (new ≡ after (λ disk. disk) old) ⊎ ((new ≡ old) × IsFull old)

-- One more call, which failed. It takes no image away and adds at most those of this state, and a file that it was not about
-- reads as before.
pub record IsWithin (widest : DiskState) (old new : History) : Type 0 where
  pub state : DiskState
  pub is : new ≡ joined_by state old
  pub at_least : (image : Files) → IsImage old.now image → IsImage state image
  pub at_most : (image : Files) → IsImage state image → IsImage widest image
  pub reads : (name : FileName) → widest name ≡ old.now name → reading (state name) ≡ reading (old.now name)

-- a call that failed
abbrev pub AfterFailed : (DiskState → DiskState) → Option History → Option History → Type 0
AfterFailed step None new = new ≡ None
AfterFailed step (Some h) None = ⊥
AfterFailed step (Some h) (Some g) = IsWithin (step h.now) h g ⊎ ((g ≡ h) × IsFull (Some h))

-- Counts of faults: of calls that read, and of those that change.
pub record Faults : Type 0 where
  pub reads : ℕ
  pub changes : ℕ

-- `Failed` comes only if the count of failed reads rose, and any other answer only if it stayed
pub record ReadCause {T : Type 0} (result : Result T DiskError) (old new : Faults) : Type 0 where
  pub no_less : old.reads ≤ new.reads
  pub failed : IsErrOf result Failed → Rose old.reads new.reads
  pub unfailed : (IsErrOf result Failed → ⊥) → new.reads ≡ old.reads
  pub changes : new.changes ≡ old.changes

-- `Failed` is the only error, and comes only if the count of failed changes rose. Success comes only if it stayed.
pub record ChangeCause {T : Type 0} (result : Result T DiskError) (old new : Faults) : Type 0 where
  pub no_less : old.changes ≤ new.changes
  pub failed : IsErr result → IsErrOf result Failed × Rose old.changes new.changes
  pub unfailed : IsOk result → new.changes ≡ old.changes
  pub reads : new.reads ≡ old.reads

-- a name greater than this one
abbrev pub IsPast : (FileName → FileName → Ordering) → Option FileName → FileName → Type 0
IsPast cmp None name = ⊤
IsPast cmp (Some after) name = cmp after name ≡ Less

-- the least name of a file that is there, of those past this one
abbrev pub IsNext : (FileName → FileName → Ordering) → Option FileName → Option FileName → DiskState → Type 0
IsNext cmp after None disk = (name : FileName) → IsThere (disk name) → IsPast cmp after name → ⊥
IsNext cmp after (Some next) disk = IsThere (disk next)
    × ((name : FileName) → IsThere (disk name) → IsPast cmp after name → cmp name next ≢ Less)

-- of states, the latest first, that which has m before it
abbrev pub state_in : List DiskState → ℕ → Option DiskState
state_in [] m = None
state_in (state ∷ earlier) m = if m == length earlier then Some state else state_in earlier m

-- the state as m calls had returned
abbrev pub state_at : History → ℕ → Option DiskState
state_at h m = state_in (h.now ∷ h.before) m

-- Each image of each moment from the one history's present to the other's has P.
pub record EachImageSince (P : ℕ → Files → Type 0) (old new : History) : Type 0 where
  pub later : calls old ≤ calls new
  pub same : (m : ℕ) → m ≤ calls old → state_at new m ≡ state_at old m
  pub each : (m : ℕ) (state : DiskState) (image : Files) → calls old ≤ m → state_at new m ≡ Some state → IsImage state image → P m image

-- the same, where the disk tells its content
abbrev pub EachImage : (ℕ → Files → Type 0) → Option History → Option History → Type 0
EachImage P None new = new ≡ None
EachImage P (Some old) None = ⊥
EachImage P (Some old) (Some new) = EachImageSince P old new

-- of each other file, the image is one that the disk could leave before
abbrev pub OthersStay : FileName → Option History → Files → Type 0
OthersStay name old image = IfTold old (λ disk. (other : FileName) → other ≢ name → MayLeave (disk other) (image other))

-- each other file is as it was
abbrev pub SameButFor : FileName → Option History → Option History → Type 0
SameButFor name = Between (λ old new. (other : FileName) → other ≢ name → new other ≡ old other)

-- Nothing has changed: the state is the same, and each image since is one that the disk could leave before.
pub record IsIdle (old new : Option History) : Type 0 where
  pub same : SameState old new
  pub each : EachImage (λ _ image. IfTold old (λ disk. IsImage disk image)) old new

-- how many calls have returned, or 0 where the disk isn't modelled; and that time has gone on
abbrev pub told_calls : Option History → ℕ
told_calls None = 0
told_calls (Some h) = calls h

abbrev pub Grows : Option History → Option History → Type 0
Grows old new = told_calls old ≤ told_calls new
