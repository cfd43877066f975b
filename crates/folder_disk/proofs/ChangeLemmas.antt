-- A disk over a system, one change on.
use Rattle.folder_disk.proofs.Common.{◌≡◌, inl, inr, ℕ, ◌<◌, ◌≤◌, Bool, true, false, List, [], ◌∷◌, length, take, All, Option, Some, None, refl, sym, ◌∙◌, ap, subst, arith, ∥∥₁_elim, ∥∥₁_map, props, cases_Bool, cond-true, cond-false, false≢true, FileState, DiskState, History, MayLeave, IfTold}
use Rattle.folder_disk.proofs.Common.{AfterFailed, reading, written, half_written, after, same_name, FileName, same_name-true, path_text, IsStoreFile, own_paths, System, with_content, Modelled, IfModelled, IsLocked, Becomes, octets_at, FollowsSystem, CoversSystem, covered, content_follows}
use Rattle.folder_disk.proofs.Common.{reads_there, Change, state_after, HasFileAt, IsChanged, IsPartlyChanged, IsStoreSystem, IsDiskOf, IsStoreDisk, IsOver, IsDiskOver, IsFailedChange, told_history, hold_is}
use Rattle.disk_model.specs.Disk.{Reaches, change, overlaid}
use Rattle.folder_model.specs.System.{IsHalfWritten}
use Rattle.folder_model.proofs.PartLemmas.{length-overlaid, overlaid-octets}
use Rattle.folder_calls.specs.Writing.{IsWriting}
use Rattle.disk_files.specs.Follows.{half_written_as}
use Rattle.disk_files.proofs.StepLemmas.{written-alike, half-alike}
use Rattle.disk_record.specs.declared.change.Change.TheVariants.{Written, HalfWritten}
use Rattle.folder_disk.specs.Files.{IfFile, AreAfter}
use Rattle.folder_disk.proofs.OverLemmas.{so_far, next_of, over_goes_on}
use Rattle.folder_disk.proofs.WideLemmas.{front_leaves, front_half_leaves, half_leaves, covers_more, change_leaves, covers_weakened, wider_leaves, wider_reads, failed_wider, failed_after}

-- a change of one file, of that file and of another
pub by_name : (P : FileState → Type 0) (name n : FileName) (step : FileState → FileState) (disk : DiskState) → (n ≡ name → P (step (disk n))) → P (disk n) → P (change name step disk n)
unfolding change
by_name P name n step disk here elsewhere = elim (cases_Bool (same_name n name)) [
  | inl is ↦ subst P (sym (cond-true (same_name n name) (step (disk n)) (disk n) is)) (here (same_name-true n name is))
  | inr differs ↦ subst P (sym (cond-false (same_name n name) (step (disk n)) (disk n) differs)) elsewhere
]

-- a disk's files after a change of one that keeps it there
pub changed_store : (name : FileName) (step : FileState → FileState) (disk : DiskState) → IsStoreFile name → MayLeave (step (disk name)) (reading (step (disk name))) → IsStoreDisk disk
    → IsStoreDisk (change name step disk)
changed_store name step disk file left store = record {
  reads = λ n. by_name (λ f. MayLeave f (reading f)) name n step disk
      (λ e. let F : FileName → Type 0 = λ k. MayLeave (step (disk k)) (reading (step (disk k))) in subst F (sym e) left) (store.reads n);
  none = λ n other. by_name (λ f. f.is_there ≡ false) name n step disk
      (λ e. let F : FileName → Type 0 = IsStoreFile in absurd (other (subst F (sym e) file))) (store.none n other);
}

-- a disk's files after a change that failed
pub failed_store : (c : Change) (octets : List ℕ) (disk : DiskState) → IsFailedChange c → IsStoreDisk disk → IsStoreDisk (state_after c octets disk)
failed_store c octets disk is store = record {
  reads = λ n. wider_reads (disk n) (state_after c octets disk n) (failed_wider c is octets disk n) (store.reads n);
  none = λ n other. (failed_wider c is octets disk n).there ∙ store.none n other;
}

-- a file that a write may be made of is there, and no longer than it may be
written_reads : (f : FileState) (at : ℕ) (octets : List ℕ) → Reaches f at → All (λ octet. octet < 256) octets → MayLeave f (reading f) → MayLeave (written at octets f) (reading (written at octets f))
written_reads f at octets reaches fit left =
    let there : f.is_there ≡ true = reaches.0 in
    let hold = hold_is f there left in
    let long = length-overlaid f.octets at octets reaches.1 in
    let least : f.least ≤ length f.octets = hold.least in
    let greatest : length f.octets ≤ f.greatest = hold.greatest in
    let F : Option (List ℕ) → Type 0 = MayLeave (written at octets f) in
    subst F (sym (cond-true f.is_there (Some (overlaid f.octets at octets)) None there)) (record {
      named = inl there;
      least = omega (arith, long, least);
      greatest = omega (arith, long, greatest);
      same = λ i below firm. refl;
      are_octets = overlaid-octets f.octets at octets hold.are_octets fit;
    })

-- a change of content leaves the rest of the system
pub content_stays : (number : ℕ) (step : FileState → FileState) (s : System) → IsStoreSystem s → IsStoreSystem (with_content number step s)
content_stays number step s is = record { sound = is.sound; own = record { own = is.own.own; one = is.own.one }; folders = is.folders }

-- a write on its way
way_covered : (m : Modelled) (disk wide : DiskState) (name : FileName) (at : ℕ) (octets : List ℕ) (s : System) → IsStoreFile name → IsDiskOf disk m.now
    → ((done : ℕ) → (n : FileName) → (left : Option (List ℕ)) → MayLeave (change name (written at (take done octets)) disk n) left → MayLeave (wide n) left)
    → HasFileAt m.now (path_text name) (λ k. IsWriting k at octets m.now s) → CoversSystem wide s
way_covered m disk wide name at octets s file is more way =
    let number = way.0 in
    let part = take way.2.0 octets in
    let follows = content_follows number (written at part) (written at part) m.now name disk own_paths is.system.own file way.1 (written-alike at part (disk name) (m.now.content number)) is.follows in
    let F : System → Type 0 = CoversSystem wide in
    subst F (sym way.2.2) (covers_more (change name (written at part) disk) wide (with_content number (written at part) m.now) (more way.2.0) (covered (change name (written at part) disk) (with_content number (written at part) m.now) follows))

pub by_path : (path : List ℕ) (name : FileName) (s : System) (P : ℕ → Type 0) → path ≡ path_text name → HasFileAt s path P → HasFileAt s (path_text name) P
by_path path name s P is has = let F : List ℕ → Type 0 = λ p. HasFileAt s p P in subst F is has

-- a write was made
wrote : (m n : Modelled) (before after : List System) (changes : List (Change × List ℕ)) (name : FileName) (path : List ℕ) (at : ℕ) (octets : List ℕ)
    → IsStoreFile name → path ≡ path_text name → All (λ octet. octet < 256) octets → Reaches ((so_far m changes).now name) at
    → IsOver m before changes false → Becomes (IsChanged path (written at octets)) (Some m) (Some n)
    → AreAfter (λ b s. HasFileAt b path (λ number. IsWriting number at octets b s)) (Some m) before after
    → IsOver n after ((Written name at, octets) ∷ changes) false
wrote m n before after changes name path at octets file is fit reaches over becomes since =
    let disk = (so_far m changes).now in
    let next = change name (written at octets) disk in
    let d = over.is refl in
    let has = by_path path name m.now (λ number. n.now ≡ with_content number (written at octets) m.now) is becomes.1 in
    let number = has.0 in
    let hold = hold_is (disk name) reaches.0 (over.disk.reads name) in
    let follows : FollowsSystem next n.now =
    let F : System → Type 0 = FollowsSystem next in
    subst F (sym has.2) (content_follows number (written at octets) (written at octets) m.now name disk own_paths d.system.own file has.1 (written-alike at octets (disk name) (m.now.content number)) d.follows) in
    let system : IsStoreSystem n.now = let F : System → Type 0 = IsStoreSystem in subst F (sym has.2) (content_stays number (written at octets) m.now d.system) in
    over_goes_on m n before after changes (Written name at) octets false false over becomes.0
    (λ s h. elim (since s h) [
      | inl earlier ↦ inl earlier
      | inr way ↦ inr (inr (way_covered m disk next name at octets s file d
          (λ done. change_leaves name (written at (take done octets)) (written at octets) disk (front_leaves (disk name) at done octets reaches.1 hold.least))
          (by_path path name m.now (λ number. IsWriting number at octets m.now s) is way)))
    ])
    (covered next n.now follows)
    (changed_store name (written at octets) disk file (written_reads (disk name) at octets reaches fit (over.disk.reads name)) over.disk)
    (λ e. record { follows = follows; system = system })

pub wrote_over : (old new : Option Modelled) (before after : List System) (changes : List (Change × List ℕ)) (name : FileName) (path : List ℕ) (at : ℕ) (octets : List ℕ)
    → IsStoreFile name → path ≡ path_text name → All (λ octet. octet < 256) octets → IfTold (told_history old changes) (λ disk. Reaches (disk name) at)
    → ∥ IsDiskOver old before changes false ∥₁ → Becomes (IsChanged path (written at octets)) old new
    → AreAfter (λ b s. HasFileAt b path (λ number. IsWriting number at octets b s)) old before after
    → ∥ IsDiskOver new after ((Written name at, octets) ∷ changes) false ∥₁
wrote_over None new before after changes name path at octets file is fit reaches over becomes since =
    let F : Option Modelled → Type 0 = λ n. ∥ IsDiskOver n after ((Written name at, octets) ∷ changes) false ∥₁ in
    subst F (sym becomes) ∣ tt ∣₁
wrote_over (Some m) None before after changes name path at octets file is fit reaches over becomes since = elim becomes [ ]
wrote_over (Some m) (Some n) before after changes name path at octets file is fit reaches over becomes since =
    ∥∥₁_map over (λ o. wrote m n before after changes name path at octets file is fit reaches o becomes since)

-- a write failed
half_wrote : (m n : Modelled) (before after : List System) (changes : List (Change × List ℕ)) (name : FileName) (path : List ℕ) (at : ℕ) (octets none : List ℕ)
    → IsStoreFile name → path ≡ path_text name → Reaches ((so_far m changes).now name) at
    → IsOver m before changes false → Becomes (IsPartlyChanged path (IsHalfWritten at (length octets))) (Some m) (Some n)
    → AreAfter (λ b s. HasFileAt b path (λ number. IsWriting number at octets b s)) (Some m) before after
    → IsOver n after ((HalfWritten name at (length octets), none) ∷ changes) true
half_wrote m n before after changes name path at octets none file is reaches over becomes since =
    let disk = (so_far m changes).now in
    let size = length octets in
    let next = change name (half_written at size) disk in
    let d = over.is refl in
    let hold = hold_is (disk name) reaches.0 (over.disk.reads name) in
    let covers : CoversSystem next n.now = elim becomes.1 [
      | inl same ↦
          let F : System → Type 0 = CoversSystem next in
          subst F (sym same) (covers_more disk next m.now (λ k. wider_leaves (disk k) (next k) (failed_wider (HalfWritten name at size) tt none disk k)) over.now)
      | inr part ↦
          let has = by_path path name m.now _ is part in
          let number = has.0 in
          let f = has.2.0 in
          let half = has.2.1 in
          let same = reads_there (disk name) (m.now.content number).octets ((d.follows name file).reads ∙ ap (octets_at m.now) has.1) in
          let follows = content_follows number (half_written_as at size f.octets) (λ _. f) m.now name disk own_paths d.system.own file has.1 (half-alike at size (disk name) (m.now.content number) f half) d.follows in
          let F : System → Type 0 = CoversSystem next in
          subst F (sym has.2.3) (covers_weakened next has.2.2 (with_content number (λ _. f) m.now)
          (covers_more (change name (half_written_as at size f.octets) disk) next (with_content number (λ _. f) m.now)
          (change_leaves name (half_written_as at size f.octets) (half_written at size) disk (half_leaves (disk name) (m.now.content number) f at size same.1 hold.least half))
          (covered (change name (half_written_as at size f.octets) disk) (with_content number (λ _. f) m.now) follows)))
    ] in
    over_goes_on m n before after changes (HalfWritten name at size) none false true over becomes.0
    (λ s h. elim (since s h) [
      | inl earlier ↦ inl earlier
      | inr way ↦ inr (inr (way_covered m disk next name at octets s file d
          (λ done. change_leaves name (written at (take done octets)) (half_written at size) disk (front_half_leaves (disk name) at done octets reaches.1 hold.least))
          (by_path path name m.now (λ number. IsWriting number at octets m.now s) is way)))
    ])
    covers
    (failed_store (HalfWritten name at size) none disk tt over.disk)
    (λ e. absurd (false≢true (sym e)))

pub half_wrote_over : (old new : Option Modelled) (before after : List System) (changes : List (Change × List ℕ)) (name : FileName) (path : List ℕ) (at : ℕ) (octets none : List ℕ)
    → IsStoreFile name → path ≡ path_text name → IfTold (told_history old changes) (λ disk. Reaches (disk name) at)
    → ∥ IsDiskOver old before changes false ∥₁ → Becomes (IsPartlyChanged path (IsHalfWritten at (length octets))) old new
    → AreAfter (λ b s. HasFileAt b path (λ number. IsWriting number at octets b s)) old before after
    → ∥ IsDiskOver new after ((HalfWritten name at (length octets), none) ∷ changes) true ∥₁
half_wrote_over None new before after changes name path at octets none file is reaches over becomes since =
    let F : Option Modelled → Type 0 = λ n. ∥ IsDiskOver n after ((HalfWritten name at (length octets), none) ∷ changes) true ∥₁ in
    subst F (sym becomes) ∣ tt ∣₁
half_wrote_over (Some m) None before after changes name path at octets none file is reaches over becomes since = elim becomes [ ]
half_wrote_over (Some m) (Some n) before after changes name path at octets none file is reaches over becomes since =
    ∥∥₁_map over (λ o. half_wrote m n before after changes name path at octets none file is reaches o becomes since)

-- a change that failed before anything was done
pub nothing_done : (m : Option Modelled) (past : List System) (changes : List (Change × List ℕ)) (c : Change) (none : List ℕ) (spoiled : Bool) → IsFailedChange c
    → ∥ IsDiskOver m past changes spoiled ∥₁ → ∥ IsDiskOver m past ((c, none) ∷ changes) true ∥₁
nothing_done None past changes c none spoiled failed over = ∣ tt ∣₁
nothing_done (Some m) past changes c none spoiled failed over = ∥∥₁_map over (λ o.
    let disk = (so_far m changes).now in
    let next = next_of m changes c none in
    over_goes_on m m past past changes c none spoiled true o refl (λ s has. inl has)
    (covers_more disk next m.now (λ k. wider_leaves (disk k) (next k) (failed_wider c failed none disk k)) o.now)
    (failed_store c none disk failed o.disk) (λ e. absurd (false≢true (sym e))))

-- the lock stays
pub locked_changed : (old new : Option Modelled) (path : List ℕ) (step : FileState → FileState) (held spoiled : Bool) → ∥ (held ≡ true → spoiled ≡ false → IsLocked old) ∥₁
    → Becomes (IsChanged path step) old new → ∥ (held ≡ true → spoiled ≡ false → IsLocked new) ∥₁
locked_changed None new path step held spoiled locked becomes = let F : Option Modelled → Type 0 = IsLocked in ∣ (λ h s. subst F (sym becomes) tt) ∣₁
locked_changed (Some m) None path step held spoiled locked becomes = elim becomes [ ]
locked_changed (Some m) (Some n) path step held spoiled locked becomes = ∥∥₁_map locked (λ l h s.
    let F : System → Type 0 = λ t. t.is_locked ≡ true in
    subst F (sym becomes.1.2) (l h s))

-- where the write begins within the file
pub reaches_told : (m : Option Modelled) (past : List System) (changes : List (Change × List ℕ)) (spoiled : Bool) (name : FileName) (path : List ℕ) (at : ℕ)
    → ∥ IsDiskOver m past changes spoiled ∥₁ → spoiled ≡ false → IsStoreFile name → path ≡ path_text name → IfTold (told_history m changes) (λ disk. Reaches (disk name) at)
    → IfModelled m (λ s. IfFile s path (λ number. at ≤ length (s.content number).octets))
reaches_told None past changes spoiled name path at over un file is reaches = tt
reaches_told (Some m) past changes spoiled name path at over un file is reaches = λ number stands.
    let f = (so_far m changes).now name in
    ∥∥₁_elim over (hlevel props) (λ o.
    let reads = ((o.is un).follows name file).reads ∙ ap (λ p. octets_at m.now (m.now.node p)) (sym is) ∙ ap (octets_at m.now) stands in
    let same = reads_there f (m.now.content number).octets reads in
    let G : List ℕ → Type 0 = λ l. at ≤ length l in
    subst G same.1 reaches.1)

-- Where what is told is the same at a later moment.
pub reaches_then : (old mid : Option History) (name : FileName) (at : ℕ) → mid ≡ old → IfTold old (λ disk. Reaches (disk name) at) → IfTold mid (λ disk. Reaches (disk name) at)
reaches_then old mid name at same reaches = let F : Option History → Type 0 = λ h. IfTold h (λ disk. Reaches (disk name) at) in subst F (sym same) reaches

pub after_then : (step : DiskState → DiskState) (old mid new : Option History) → mid ≡ old → new ≡ after step mid → new ≡ after step old
after_then step old mid new same is = is ∙ ap (after step) same

-- a write that failed
pub half_written_then : (name : FileName) (at n : ℕ) (old mid new : Option History) → mid ≡ old → new ≡ after (change name (half_written at n)) mid
    → AfterFailed (change name (half_written at n)) old new
half_written_then name at n old mid new same is =
    let F : Option History → Type 0 = AfterFailed (change name (half_written at n)) old in
    subst F (sym (after_then (change name (half_written at n)) old mid new same is)) (failed_after (HalfWritten name at n) [] old tt)
