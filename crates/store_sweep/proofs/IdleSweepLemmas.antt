-- Calls of a sweep that leave a disk as it is on which they have nothing to do.
use Rattle.std.proofs.Common.{◌≡◌, ◌≤◌, ◌<◌, arith, inl, inr, ℕ, Bool, true, false, refl, ◌||◌, length, Option, Some, None, sym, ◌∙◌, ap, subst}
use Rattle.std.specs.Option.{option_map}
use Rattle.std.proofs.lemmas.Bool.{cases_Bool}
use Rattle.disk_model.specs.Disk.{DiskState, History, IfTold, IsThere, IsNext, IsIdle, SameState, Unchanged, reading}
use Rattle.disk_model.specs.contracts.name.FileNameOrd.TheImpl.{ghosts}
use Rattle.disk_model.specs.declared.name.FileName.{FileName}
use Rattle.disk_model.proofs.IdleLemmas.{idle-begins, idle-then, idle-unchanged, idle-call, same_state-back}
use Rattle.disk_model.proofs.MomentLemmas.{if_told-map}
use Rattle.disk_model.specs.declared.name.FileName.TheVariants as file
use Rattle.model_meaning.specs.MapMeaning.{MapMeaning, is_sealed}
use Rattle.store_files.specs.Regions.{end_of}
use Rattle.store_sweep.specs.Moments.{IdleIf}
use Rattle.store_sweep.specs.Wanted.{is_wanted, HasStray, EndsByLastRegion}
use Rattle.store_sweep.proofs.CutLemmas.{length_of}

pub idle_if : (P : DiskState → Type 0) (old new : Option History) → IsIdle old new → IdleIf P old new
idle_if P None new idle = tt
idle_if P (Some old) new idle = λ p. idle

-- the same disk
pub idle_same : (old new : Option History) → new ≡ old → IsIdle old new
idle_same old new e = subst (IsIdle old) (sym e) (idle-begins old)

-- a disk that is the same
pub idle_same_by : {D : Type 0} → (history : D → Option History) (old new : D) → new ≡ old → IsIdle (history old) (history new)
idle_same_by history old new e = idle_same (history old) (history new) (ap history e)

pub idle_if_not : (P : DiskState → Type 0) (old new : Option History) → IfTold old (λ disk. P disk → ⊥) → IdleIf P old new
idle_if_not P None new none = tt
idle_if_not P (Some old) new none = λ p. absurd (none p)

pub idle_weaker : (P Q : DiskState → Type 0) (old new : Option History) → ((disk : DiskState) → P disk → Q disk) → IdleIf Q old new → IdleIf P old new
idle_weaker P Q None new f idle = tt
idle_weaker P Q (Some old) new f idle = λ p. idle (f old.now p)

-- one part after another
pub idle_parts : (P Q : DiskState → Type 0) (old now new : Option History) → ((disk : DiskState) → P disk → Q disk) → IdleIf P old now → IdleIf Q now new → IdleIf P old new
idle_parts P Q None now new f first second = tt
idle_parts P Q (Some old) None new f first second = λ p. elim (first p).same [ ]
idle_parts P Q (Some old) (Some now) new f first second = λ p.
    let i : IsIdle (Some old) (Some now) = first p in
    let e : now.now ≡ old.now = i.same in
    idle-then (Some old) (Some now) new i (second (subst Q (sym e) (f old.now p)))

pub idle_walk : (P Q : DiskState → Type 0) (old now mid new : Option History) → ((disk : DiskState) → P disk → Q disk) → IdleIf P old now → Unchanged now mid → IdleIf Q mid new → IdleIf P old new
idle_walk P Q old now mid new f first unchanged second = idle_parts P Q old mid new f (idle_goes_on old now mid first unchanged) second
  where
    idle_goes_on : (old now mid : Option History) → IdleIf P old now → Unchanged now mid → IdleIf P old mid
    idle_goes_on None now mid first unchanged = tt
    idle_goes_on (Some old) now mid first unchanged = λ p. idle-unchanged (Some old) now mid (first p) unchanged

pub idle_unchanged : (P : DiskState → Type 0) (old now new : Option History) → IdleIf P old now → Unchanged now new → IdleIf P old new
idle_unchanged P None now new first unchanged = tt
idle_unchanged P (Some old) now new first unchanged = λ p. idle-unchanged (Some old) now new (first p) unchanged

-- ---- a file that is no longer than this isn't cut

pub no_cut : (name : FileName) (size end : ℕ) (old new : Option History) → IfTold old (λ disk. option_map length (reading (disk name)) ≡ Some size) → end < size → IdleIf (λ now. IsThere (now name) → length (now name).octets ≤ end) old new
no_cut name size end old new is long =
    idle_if_not _ old new
    (if_told-map _ _ old (λ disk e short. let l = length_of (disk name) size e in let s : length (disk name).octets ≤ end = short l.0 in absurd (omega (arith, s, l.1, long))) is)

-- a storage file that isn't sealed, where no octet stands after its last region
pub fits_mail : (m : MapMeaning) (name : FileName) (number end : ℕ) → name ≡ file.Mail number → is_sealed m number ≡ false → end ≡ end_of m number → (disk : DiskState)
    → (IsThere (disk name) → EndsByLastRegion m name (disk name)) → IsThere (disk (file.Mail number)) → length (disk (file.Mail number)).octets ≤ end
fits_mail m name number end named unsealed is disk ends there =
    let F : FileName → Type 0 = λ n. IsThere (disk n) → EndsByLastRegion m n (disk n) in
    let own : IsThere (disk (file.Mail number)) → is_sealed m number ≡ false → length (disk (file.Mail number)).octets ≤ end_of m number = subst F named ends in
    subst (λ (n : ℕ). length (disk (file.Mail number)).octets ≤ n) (sym is) (own there unsealed)

-- ---- files that are there, and aren't removed

abbrev pub NoStray : ℕ → MapMeaning → DiskState → Type 0
NoStray g m disk = HasStray g m disk → ⊥

pub stray_walk : (g : ℕ) (m : MapMeaning) (last : Option FileName) (name : FileName) (old now mid new : Option History) → IdleIf (NoStray g m) old now → Unchanged now mid → IfTold now (IsNext ghosts.cmp last (Some name))
    → (is_wanted g m name ≡ true → IsIdle mid new) → IdleIf (NoStray g m) old new
stray_walk g m last name None now mid new first unchanged next idle = tt
stray_walk g m last name (Some old) None mid new first unchanged next idle = λ none. elim (first none).same [ ]
stray_walk g m last name (Some old) (Some now) mid new first unchanged next idle = λ none.
    let i : IsIdle (Some old) (Some now) = first none in
    let e : now.now ≡ old.now = i.same in
    elim (cases_Bool (is_wanted g m name)) [
      | inl wanted ↦ idle-then (Some old) mid new (idle-unchanged (Some old) (Some now) mid i unchanged) (idle wanted)
      | inr stray ↦ absurd (none (name, subst (λ (d : DiskState). IsThere (d name)) e next.0, stray))
    ]

-- the first that is removed was there at the beginning
pub stray_found : (g : ℕ) (m : MapMeaning) (last : Option FileName) (name : FileName) (old now : Option History) → SameState old now → IfTold now (IsNext ghosts.cmp last (Some name)) → is_wanted g m name ≡ false → IfTold old (HasStray g m)
stray_found g m last name old now same next stray = same_state-back (HasStray g m) old now same (if_told-map _ _ now (λ disk is. (name, is.0, stray)) next)

pub stray_so_far : (g : ℕ) (m : MapMeaning) (last : Option FileName) (name : FileName) (removed own : Bool) (old now : Option History) → (removed ≡ true → IfTold old (HasStray g m)) → (removed ≡ false → SameState old now)
    → IfTold now (IsNext ghosts.cmp last (Some name)) → (own ≡ true → is_wanted g m name ≡ false) → (removed || own) ≡ true → IfTold old (HasStray g m)
stray_so_far g m last name true own old now before same next stray e = before refl
stray_so_far g m last name false own old now before same next stray e = stray_found g m last name old now (same refl) next (stray e)

pub no_stray : (g : ℕ) (m : MapMeaning) (P : DiskState → Type 0) (old new : Option History) → ((disk : DiskState) → P disk → NoStray g m disk) → IfTold old (HasStray g m) → IdleIf P old new
no_stray g m P old new f stray = idle_if_not P old new (if_told-map _ _ old (λ disk has p. f disk p has) stray)
