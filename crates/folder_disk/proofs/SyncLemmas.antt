-- A disk over a system, one sync on.
use Rattle.folder_disk.proofs.Common.{◌≡◌, ◌⊎◌, inl, inr, ℕ, suc, Bool, true, false, if◌then◌else◌, List, ◌∷◌, [], length, Option, Some, None, Contains, refl, sym, ◌∙◌, ap, subst, arith, ∥∥₁_map, cases_Bool, cond-true, cond-false, false≢true, FileState, DiskState, History, MayLeave, AfterFailed}
use Rattle.folder_disk.proofs.Common.{reading, synced, after, FileName, path_text, IsStoreFile, own_paths, System, with_synced_file, Modelled, IsLocked, IsDoneOrNot, HasPassed, Becomes, AreSince, first_or_later, FollowsSystem, CoversSystem, covered, content_follows, Change, HasFileAt, IsStoreSystem}
use Rattle.folder_disk.proofs.Common.{IsCovered, IsOver, IsDiskOver, told_history, hold_is}
use Rattle.std.proofs.Common.{◌-◌, ◌^◌, min}
use Rattle.disk_model.specs.Disk.{IsMoment, change}
use Rattle.folder_model.specs.System.{with_failed_sync}
use Rattle.disk_files.proofs.StepLemmas.{synced-alike}
use Rattle.disk_record.specs.declared.change.Change.TheVariants.{Nothing, Synced}
use Rattle.disk_record.specs.Record.{history_of}
use Rattle.folder_disk.proofs.OverLemmas.{so_far, over_goes_on, now_covered}
use Rattle.folder_disk.proofs.WideLemmas.{covers_weakened, failed_after}
use Rattle.folder_disk.proofs.ChangeLemmas.{after_then, by_path, changed_store, content_stays}

-- the system before a call was covered
pub passed_covered : (m n : Modelled) (before after : List System) (changes : List (Change × List ℕ)) (spoiled : Bool) (wide : DiskState) → IsOver m before changes spoiled
    → HasPassed (Some m) before (Some n) after → AreSince (λ s. IsCovered (so_far m changes) s ⊎ CoversSystem wide s) before after
passed_covered m n before after changes spoiled wide over (inl e) s has =
    let F : List System → Type 0 = λ l. Contains l s in
    elim (first_or_later m.now s before (subst F e has)) [
      | inl here ↦ let G : System → Type 0 = IsCovered (so_far m changes) in inr (inl (subst G (sym here) (now_covered m before changes spoiled over)))
      | inr earlier ↦ inl earlier
    ]
passed_covered m n before after changes spoiled wide over (inr e) s has = let F : List System → Type 0 = λ l. Contains l s in inl (subst F e.0 has)

synced_reads : (f : FileState) → MayLeave f (reading f) → MayLeave (synced f) (reading (synced f))
synced_reads f left = elim (cases_Bool f.is_there) [
  | inl there ↦
      let hold = hold_is f there left in
      let F : Option (List ℕ) → Type 0 = MayLeave (synced f) in
      subst F (sym (cond-true f.is_there (Some f.octets) None there)) (record { named = inl there; least = omega arith; greatest = omega arith; same = λ i below firm. refl; are_octets = hold.are_octets })
  | inr gone ↦
      let F : Option (List ℕ) → Type 0 = MayLeave (synced f) in
      subst F (sym (cond-false f.is_there (Some f.octets) None gone)) (inl gone)
]

-- a file was synced
synced_one : (m n : Modelled) (before after : List System) (changes : List (Change × List ℕ)) (name : FileName) (path none : List ℕ) → IsStoreFile name → path ≡ path_text name
    → IsOver m before changes false → Becomes (λ b s. HasFileAt b path (λ number. s ≡ with_synced_file number b)) (Some m) (Some n) → HasPassed (Some m) before (Some n) after
    → IsOver n after ((Synced name, none) ∷ changes) false
synced_one m n before after changes name path none file is over becomes has_passed =
    let disk = (so_far m changes).now in
    let next = change name synced disk in
    let d = over.is refl in
    let has = by_path path name m.now (λ number. n.now ≡ with_synced_file number m.now) is becomes.1 in
    let number = has.0 in
    let step : FileState → FileState = λ f. if m.now.is_sound then synced f else f in
    let follows : FollowsSystem next n.now =
    let F : System → Type 0 = FollowsSystem next in
    subst F (sym has.2) (content_follows number synced step m.now name disk own_paths d.system.own file has.1 (synced-alike m.now.is_sound (disk name) (m.now.content number) d.system.sound) d.follows) in
    let system : IsStoreSystem n.now = let F : System → Type 0 = IsStoreSystem in subst F (sym has.2) (content_stays number step m.now d.system) in
    over_goes_on m n before after changes (Synced name) none false false over becomes.0
    (passed_covered m n before after changes false next over has_passed)
    (covered next n.now follows)
    (changed_store name synced disk file (synced_reads (disk name) (over.disk.reads name)) over.disk)
    (λ e. record { follows = follows; system = system })

pub synced_over : (old new : Option Modelled) (before after : List System) (changes : List (Change × List ℕ)) (name : FileName) (path none : List ℕ) → IsStoreFile name → path ≡ path_text name
    → ∥ IsDiskOver old before changes false ∥₁ → Becomes (λ b s. HasFileAt b path (λ number. s ≡ with_synced_file number b)) old new → HasPassed old before new after
    → ∥ IsDiskOver new after ((Synced name, none) ∷ changes) false ∥₁
synced_over None new before after changes name path none file is over becomes has =
    let F : Option Modelled → Type 0 = λ n. ∥ IsDiskOver n after ((Synced name, none) ∷ changes) false ∥₁ in
    subst F (sym becomes) ∣ tt ∣₁
synced_over (Some m) None before after changes name path none file is over becomes has = elim becomes [ ]
synced_over (Some m) (Some n) before after changes name path none file is over becomes has = ∥∥₁_map over (λ o. synced_one m n before after changes name path none file is o becomes has)

-- a sync failed
pub unsynced_over : (old new : Option Modelled) (before after : List System) (changes : List (Change × List ℕ)) (none : List ℕ) (spoiled : Bool)
    → ∥ IsDiskOver old before changes spoiled ∥₁ → IsDoneOrNot with_failed_sync old new → HasPassed old before new after
    → ∥ IsDiskOver new after ((Nothing, none) ∷ changes) true ∥₁
unsynced_over None new before after changes none spoiled over (inl e) has = let F : Option Modelled → Type 0 = λ n. ∥ IsDiskOver n after ((Nothing, none) ∷ changes) true ∥₁ in subst F (sym e) ∣ tt ∣₁
unsynced_over None new before after changes none spoiled over (inr e) has = let F : Option Modelled → Type 0 = λ n. ∥ IsDiskOver n after ((Nothing, none) ∷ changes) true ∥₁ in subst F (sym e) ∣ tt ∣₁
unsynced_over (Some m) new before after changes none spoiled over (inl e) has =
    let F : Option Modelled → Type 0 = λ n. ∥ IsDiskOver n after ((Nothing, none) ∷ changes) true ∥₁ in
    let G : Option Modelled → Type 0 = λ n. HasPassed (Some m) before n after in
    subst F (sym e) (∥∥₁_map over (λ o.
    over_goes_on m m before after changes Nothing none spoiled true o refl (passed_covered m m before after changes spoiled (so_far m changes).now o (subst G e has)) o.now o.disk (λ f. absurd (false≢true (sym f)))))
unsynced_over (Some m) new before after changes none spoiled over (inr e) has =
    let n = record m { now = with_failed_sync m.now } in
    let F : Option Modelled → Type 0 = λ k. ∥ IsDiskOver k after ((Nothing, none) ∷ changes) true ∥₁ in
    let G : Option Modelled → Type 0 = λ k. HasPassed (Some m) before k after in
    subst F (sym e) (∥∥₁_map over (λ o.
    over_goes_on m n before after changes Nothing none spoiled true o refl (passed_covered m n before after changes spoiled (so_far m changes).now o (subst G e has))
    (covers_weakened (so_far m changes).now false m.now o.now) o.disk (λ f. absurd (false≢true (sym f)))))

pub unsynced_told : (old new : Option Modelled) (changes : List (Change × List ℕ)) (none : List ℕ) → IsDoneOrNot with_failed_sync old new
    → told_history new ((Nothing, none) ∷ changes) ≡ after (λ disk. disk) (told_history old changes)
unsynced_told None new changes none (inl e) = ap (λ n. told_history n ((Nothing, none) ∷ changes)) e
unsynced_told None new changes none (inr e) = ap (λ n. told_history n ((Nothing, none) ∷ changes)) e
unsynced_told (Some m) new changes none (inl e) = ap (λ n. told_history n ((Nothing, none) ∷ changes)) e
unsynced_told (Some m) new changes none (inr e) = ap (λ n. told_history n ((Nothing, none) ∷ changes)) e

-- the lock stays
pub locked_synced : (old new : Option Modelled) (path : List ℕ) (held spoiled : Bool) → ∥ (held ≡ true → spoiled ≡ false → IsLocked old) ∥₁
    → Becomes (λ b s. HasFileAt b path (λ number. s ≡ with_synced_file number b)) old new → ∥ (held ≡ true → spoiled ≡ false → IsLocked new) ∥₁
locked_synced None new path held spoiled locked becomes = let F : Option Modelled → Type 0 = IsLocked in ∣ (λ h s. subst F (sym becomes) tt) ∣₁
locked_synced (Some m) None path held spoiled locked becomes = elim becomes [ ]
locked_synced (Some m) (Some n) path held spoiled locked becomes = ∥∥₁_map locked (λ l h s.
    let F : System → Type 0 = λ t. t.is_locked ≡ true in
    subst F (sym becomes.1.2) (l h s))

-- a sync that failed, in the words of `Disk`
pub unsynced_then : (old mid new : Option History) → mid ≡ old → new ≡ after (λ disk. disk) mid → AfterFailed (λ disk. disk) old new
unsynced_then old mid new same is =
    let F : Option History → Type 0 = AfterFailed (λ disk. disk) old in
    subst F (sym (after_then (λ disk. disk) old mid new same is)) (failed_after Nothing [] old tt)

length_before : (start : DiskState) (changes : List (Change × List ℕ)) → length (history_of start changes).before ≡ length changes
length_before start [] = refl
length_before start (call ∷ changes) = ap (λ n. suc n) (length_before start changes)

-- how many calls have returned
pub moment_is : (m : Option Modelled) (changes : List (Change × List ℕ)) (n : ℕ) → n ≡ min (length changes) (2 ^ 64 - 1) → IsMoment (told_history m changes) n
moment_is None changes n is = tt
moment_is (Some m) changes n is = is ∙ ap (λ k. min k (2 ^ 64 - 1)) (sym (length_before _ changes))
