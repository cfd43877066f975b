-- A disk over a system, one file made or removed.
use Rattle.folder_disk.proofs.Common.{◌≡◌, ◌≢◌, ◌⊎◌, inl, inr, ℕ, ◌<◌, ◌≤◌, not, ◌||◌, Bool, true, false, if◌then◌else◌, List, [], ◌∷◌, length, Option, Some, None, Contains, codes, refl, sym, ◌∙◌, ap, subst, arith, ∥∥₁_map, cases_Bool, cond-true, cond-false, false≢true, FileState, DiskState}
use Rattle.folder_disk.proofs.Common.{History, MayLeave, reading, cut_to, half_cut, made, half_made, removed, half_removed, same_name, FileName, same_name-true, path_text, IsStoreFile, own_paths, folder_at, Nothing, PlainFile, AFolder, System, IsSystem, IsHalfCut, MayStand, with_node, with_new_file}
use Rattle.folder_disk.proofs.Common.{Modelled, HasPassed, Becomes, first_or_later, octets_at, FollowsSystem, CoversSystem, covered, reads_there, Change, state_after, HasFileAt, HasNoFile, IsChanged, IsPartlyChanged, folder_text, folder_for, IsSyncedFolder, IsStoreSystem, IsDiskOf, IsStoreDisk}
use Rattle.folder_disk.proofs.Common.{IsCovered, IsOver, IsFailedChange}
use Rattle.std.proofs.Common.{min}
use mathlib.Core.Path.{fun_ext}
use Rattle.disk_model.specs.Disk.{joined_by, change}
use Rattle.disk_files.proofs.NameStepLemmas.{making_follows, removal_follows}
use Rattle.disk_files.proofs.OwnLemmas.{owns_put, owns_new}
use Rattle.disk_record.specs.declared.change.Change.TheVariants as change
use Rattle.folder_disk.specs.declared.folder_name.FolderName.TheVariants as folder
use Rattle.folder_disk.proofs.OverLemmas.{so_far, over_goes_on, more_in}
use Rattle.folder_disk.proofs.ChangeLemmas.{by_path, changed_store, failed_store}
use Rattle.folder_disk.proofs.CutLemmas.{cut_one, half_cut_one}
use Rattle.folder_disk.proofs.PlaceLemmas.{file_folder, no_file_at}
use Rattle.folder_disk.proofs.SyncLemmas.{passed_covered}
use Rattle.folder_disk.proofs.SystemLemmas.{folders_put}
use Rattle.folder_disk.proofs.WideLemmas.{Leaves, covers_more, change_leaves, covers_weakened, wider_leaves, failed_wider}

-- The same state by another change.
over_as : (n : Modelled) (past : List System) (changes : List (Change × List ℕ)) (c d : Change) (none : List ℕ) (spoiled : Bool)
    → state_after c none (so_far n changes).now ≡ state_after d none (so_far n changes).now → IsOver n past ((c, none) ∷ changes) spoiled → IsOver n past ((d, none) ∷ changes) spoiled
over_as n past changes c d none spoiled same over =
    let H : DiskState → History = λ k. joined_by k (so_far n changes) in
    record {
      covered = λ s has. let F : DiskState → Type 0 = λ k. IsCovered (H k) s in subst F same (over.covered s has);
      now = let F : DiskState → Type 0 = λ k. CoversSystem k n.now in subst F same over.now;
      disk = let F : DiskState → Type 0 = IsStoreDisk in subst F same over.disk;
      is = λ e. let F : DiskState → Type 0 = λ k. IsDiskOf k n.now in subst F same (over.is e);
    }

-- A change that leaves more, of a disk that is spoiled.
over_wider : (n : Modelled) (past : List System) (changes : List (Change × List ℕ)) (c d : Change) (none : List ℕ)
    → ((k : FileName) → Leaves (state_after c none (so_far n changes).now k) (state_after d none (so_far n changes).now k)) → IsStoreDisk (state_after d none (so_far n changes).now)
    → IsOver n past ((c, none) ∷ changes) true → IsOver n past ((d, none) ∷ changes) true
over_wider n past changes c d none more store over =
    let old = so_far n changes in
    let less = state_after c none old.now in
    let wide = state_after d none old.now in
    record {
      covered = λ s has.
          let was = over.covered s has in
          elim (first_or_later less was.0 (old.now ∷ old.before) was.1) [
            | inl here ↦
                let F : DiskState → Type 0 = λ k. CoversSystem k s in
                (wide, (0, omega arith, refl), covers_more less wide s more (subst F here was.2))
            | inr earlier ↦ (was.0, more_in wide was.0 (old.now ∷ old.before) earlier, was.2)
          ];
      now = covers_more less wide n.now more over.now;
      disk = store;
      is = λ e. absurd (false≢true (sym e));
    }

-- one file changes to the same
change_same : (name : FileName) (step other : FileState → FileState) (disk : DiskState) → step (disk name) ≡ other (disk name) → change name step disk ≡ change name other disk
unfolding change
change_same name step other disk same = fun_ext (λ n. at n (cases_Bool (same_name n name)))
  where
    at : (n : FileName) → (same_name n name ≡ true) ⊎ (same_name n name ≡ false) → change name step disk n ≡ change name other disk n
    at n (inl is) =
        let F : FileName → Type 0 = λ k. step (disk k) ≡ other (disk k) in
        cond-true (same_name n name) (step (disk n)) (disk n) is ∙ subst F (sym (same_name-true n name is)) same ∙ sym (cond-true (same_name n name) (other (disk n)) (disk n) is)
    at n (inr differs) = cond-false (same_name n name) (step (disk n)) (disk n) differs ∙ sym (cond-false (same_name n name) (other (disk n)) (disk n) differs)

unchanged_by : (name : FileName) (step : FileState → FileState) (disk : DiskState) → step (disk name) ≡ disk name → change name step disk ≡ disk
unfolding change
unchanged_by name step disk same = fun_ext (λ n. at n (cases_Bool (same_name n name)))
  where
    at : (n : FileName) → (same_name n name ≡ true) ⊎ (same_name n name ≡ false) → change name step disk n ≡ disk n
    at n (inl is) =
        let F : FileName → Type 0 = λ k. step (disk k) ≡ disk k in
        cond-true (same_name n name) (step (disk n)) (disk n) is ∙ subst F (sym (same_name-true n name is)) same
    at n (inr differs) = cond-false (same_name n name) (step (disk n)) (disk n) differs

or_none : (a b : Bool) → b ≡ false → a || b ≡ a
or_none true b e = refl
or_none false b e = e

-- a file that is there is made: it is emptied
emptied : (f : FileState) → f.is_there ≡ true → cut_to 0 f ≡ made f
emptied f there =
    let least : min f.least 0 ≡ 0 = omega arith in
    ap (λ n. record (cut_to 0 f) { least = n }) least
    ∙ ap (λ b. record f { is_there = b; octets = []; least = 0 }) there
    ∙ ap (λ b. record f { is_there = true; octets = []; least = 0; is_name_loose = b }) (sym (or_none f.is_name_loose (not f.is_there) (ap not there)))

-- no file is removed
not_removed : (f : FileState) → f.is_there ≡ false → removed f ≡ f
not_removed f gone =
    ap (λ b. record f { is_there = false; is_name_loose = b }) (or_none f.is_name_loose f.is_there gone)
    ∙ ap (λ b. record f { is_there = b }) (sym gone)

made_leaves : (f : FileState) → Leaves (made f) (half_made f)
made_leaves f None left = inr refl
made_leaves f (Some text) left = record {
  named = inr refl;
  least = omega arith;
  greatest = left.greatest;
  same = λ i below firm. absurd (let b : i < 0 = below in omega arith);
  are_octets = left.are_octets;
}

cut_leaves : (f : FileState) → Leaves (half_cut 0 f) (half_made f)
cut_leaves f None left = inr refl
cut_leaves f (Some text) left = record {
  named = inr refl;
  least = omega arith;
  greatest = left.greatest;
  same = λ i below firm. absurd (let b : i < 0 = below in omega arith);
  are_octets = left.are_octets;
}

removed_leaves : (f : FileState) → Leaves (removed f) (half_removed f)
removed_leaves f None left = inr refl
removed_leaves f (Some text) left = record { named = inr refl; least = left.least; greatest = left.greatest; same = left.same; are_octets = left.are_octets }

made_reads : (f : FileState) → MayLeave (made f) (reading (made f))
made_reads f = record {
  named = inl refl;
  least = omega arith;
  greatest = omega arith;
  same = λ i below firm. refl;
  are_octets = λ k d below. absurd (let b : k < 0 = below in omega arith);
}

-- a file may be made here: nothing stands there, nor may a file after a crash, and the folder is there
pub record CanMake (name : FileName) (s : System) : Type 0 where
  pub system : IsSystem s
  pub nothing : s.node (path_text name) ≡ Nothing
  pub folder : IsSyncedFolder s (folder_text (folder_for name))

not_folder : Nothing ≢ AFolder
not_folder e = let d : Nothing ≡ AFolder = e in cc

no_plain : (number : ℕ) → PlainFile number ≢ Nothing
no_plain number e = let d : PlainFile number ≡ Nothing = e in cc

none_stands : (name : FileName) (s : System) → IsStoreFile name → CanMake name s → (number : ℕ) → MayStand s (path_text name) (PlainFile number) → ⊥
none_stands name s file can number (inl now) = no_plain number (now ∙ can.nothing)
none_stands name s file can number (inr earlier) =
    let F : List _ → Type 0 = λ l. Contains l (PlainFile number) in
    let has = subst F (can.folder.names (path_text name) (file_folder name file)) earlier in
    let below : has.0 < 0 = has.1 in
    omega arith

made_system : (name : FileName) (s : System) → IsStoreFile name → CanMake name s → IsStoreSystem s → IsStoreSystem (with_new_file (path_text name) s)
made_system name s file can is =
    let path = path_text name in
    let folders = folders_put path (PlainFile s.count) s (ap (λ p. s.node p) (file_folder name file) ∙ can.folder.there) (λ e. not_folder (sym can.nothing ∙ e)) is.folders in
    record { sound = is.sound; own = owns_new path s can.system (none_stands name s file can) is.own; folders = folders }

-- a file was made
pub made_one : (m : Modelled) (before after : List System) (changes : List (Change × List ℕ)) (name : FileName) (none : List ℕ) → IsStoreFile name → CanMake name m.now
    → IsOver m before changes false → HasPassed (Some m) before (Some (record m { now = with_new_file (path_text name) m.now })) after
    → IsOver (record m { now = with_new_file (path_text name) m.now }) after ((change.Made name, none) ∷ changes) false
made_one m before after changes name none file can over has =
    let disk = (so_far m changes).now in
    let next = change name made disk in
    let n = record m { now = with_new_file (path_text name) m.now } in
    let d = over.is refl in
    let follows = making_follows name disk m.now own_paths file can.system can.nothing d.follows in
    over_goes_on m n before after changes (change.Made name) none false false over refl (passed_covered m n before after changes false next over has)
    (covered next n.now follows) (changed_store name made disk file (made_reads (disk name)) over.disk)
    (λ e. record { follows = follows; system = made_system name m.now file can d.system })

-- the making failed
pub unmade_one : (m : Modelled) (before after : List System) (changes : List (Change × List ℕ)) (name : FileName) (none : List ℕ) → IsStoreFile name → CanMake name m.now
    → IsOver m before changes false → HasPassed (Some m) before (Some (record m { now = with_new_file (path_text name) m.now })) after
    → IsOver (record m { now = with_new_file (path_text name) m.now }) after ((change.HalfMade name, none) ∷ changes) true
unmade_one m before after changes name none file can over has =
    let disk = (so_far m changes).now in
    let next = change name half_made disk in
    let n = record m { now = with_new_file (path_text name) m.now } in
    let follows = making_follows name disk m.now own_paths file can.system can.nothing (over.is refl).follows in
    over_goes_on m n before after changes (change.HalfMade name) none false true over refl (passed_covered m n before after changes false next over has)
    (covers_more (change name made disk) next n.now (change_leaves name made half_made disk (made_leaves (disk name))) (covered (change name made disk) n.now follows))
    (failed_store (change.HalfMade name) none disk tt over.disk) (λ e. absurd (false≢true (sym e)))

-- a change that failed and did nothing
pub nothing_passed : (m : Modelled) (before after : List System) (changes : List (Change × List ℕ)) (c : Change) (none : List ℕ) → IsFailedChange c
    → IsOver m before changes false → HasPassed (Some m) before (Some m) after → IsOver m after ((c, none) ∷ changes) true
nothing_passed m before after changes c none failed over has =
    let disk = (so_far m changes).now in
    let next = state_after c none disk in
    over_goes_on m m before after changes c none false true over refl (passed_covered m m before after changes false next over has)
    (covers_more disk next m.now (λ k. wider_leaves (disk k) (next k) (failed_wider c failed none disk k)) over.now)
    (failed_store c none disk failed over.disk) (λ e. absurd (false≢true (sym e)))

-- a file that stands is there
file_stands : (m : Modelled) (past : List System) (changes : List (Change × List ℕ)) (name : FileName) (number : ℕ) → IsStoreFile name → IsOver m past changes false
    → m.now.node (path_text name) ≡ PlainFile number → ((so_far m changes).now name).is_there ≡ true
file_stands m past changes name number file over stands =
    (reads_there ((so_far m changes).now name) (m.now.content number).octets (((over.is refl).follows name file).reads ∙ ap (octets_at m.now) stands)).0

so_far_as : (m n : Modelled) (changes : List (Change × List ℕ)) → n.start ≡ m.start → (P : History → Type 0) → P (so_far m changes) → P (so_far n changes)
so_far_as m n changes same P p = let F : System → Type 0 = λ s. P (so_far (record { start = s; now = n.now }) changes) in subst F (sym same) p

-- a file that stands was made: it was emptied
pub emptied_one : (m n : Modelled) (before after : List System) (changes : List (Change × List ℕ)) (name : FileName) (path none : List ℕ) → IsStoreFile name → path ≡ path_text name
    → IsOver m before changes false → Becomes (IsChanged path (cut_to 0)) (Some m) (Some n) → HasPassed (Some m) before (Some n) after
    → IsOver n after ((change.Made name, none) ∷ changes) false
emptied_one m n before after changes name path none file is over becomes has =
    let stands = by_path path name m.now _ is becomes.1 in
    let there = file_stands m before changes name stands.0 file over stands.1 in
    let same = so_far_as m n changes becomes.0 (λ h. (h.now name).is_there ≡ true) there in
    over_as n after changes (change.Cut name 0) (change.Made name) none false
    (change_same name (cut_to 0) made (so_far n changes).now (emptied ((so_far n changes).now name) same))
    (cut_one m n before after changes name path 0 none file is (there, omega arith) over becomes has)

pub unemptied_one : (m n : Modelled) (before after : List System) (changes : List (Change × List ℕ)) (name : FileName) (path none : List ℕ) → IsStoreFile name → path ≡ path_text name
    → IsOver m before changes false → Becomes (IsPartlyChanged path (IsHalfCut 0)) (Some m) (Some n) → HasPassed (Some m) before (Some n) after
    → IsOver n after ((change.HalfMade name, none) ∷ changes) true
unemptied_one m n before after changes name path none file is over becomes has =
    let disk = (so_far n changes).now in
    over_wider n after changes (change.HalfCut name 0) (change.HalfMade name) none (change_leaves name (half_cut 0) half_made disk (cut_leaves (disk name)))
    (failed_store (change.HalfMade name) none disk tt (so_far_as m n changes becomes.0 (λ h. IsStoreDisk h.now) over.disk))
    (half_cut_one m n before after changes name path 0 none file is over becomes has)

-- a file was removed
pub removed_one : (m : Modelled) (before after : List System) (changes : List (Change × List ℕ)) (name : FileName) (number : ℕ) (none : List ℕ) → IsStoreFile name
    → m.now.node (path_text name) ≡ PlainFile number → IsOver m before changes false → HasPassed (Some m) before (Some (record m { now = with_node (path_text name) Nothing m.now })) after
    → IsOver (record m { now = with_node (path_text name) Nothing m.now }) after ((change.Removed name, none) ∷ changes) false
removed_one m before after changes name number none file stands over has =
    let path = path_text name in
    let disk = (so_far m changes).now in
    let next = change name removed disk in
    let n = record m { now = with_node path Nothing m.now } in
    let d = over.is refl in
    let follows = removal_follows name number disk m.now own_paths file stands d.follows in
    let above : m.now.node (folder_at path) ≡ AFolder = elim (d.system.folders path (no_file_at folder.Top tt name file)) [
      | inl up ↦ up
      | inr none ↦ absurd (no_plain number (sym stands ∙ none.0))
    ] in
    let plain_folder : PlainFile number ≢ AFolder = λ e. let p : PlainFile number ≡ AFolder = e in cc in
    over_goes_on m n before after changes (change.Removed name) none false false over refl (passed_covered m n before after changes false next over has)
    (covered next n.now follows) (changed_store name removed disk file (inl refl) over.disk)
    (λ e. record {
      follows = follows;
      system = record {
        sound = d.system.sound;
        own = owns_put path Nothing m.now no_plain d.system.own;
        folders = folders_put path Nothing m.now above (λ e. plain_folder (sym stands ∙ e)) d.system.folders;
      };
    })

pub unremoved_one : (m : Modelled) (before after : List System) (changes : List (Change × List ℕ)) (name : FileName) (number : ℕ) (none : List ℕ) → IsStoreFile name
    → m.now.node (path_text name) ≡ PlainFile number → IsOver m before changes false → HasPassed (Some m) before (Some (record m { now = with_node (path_text name) Nothing m.now })) after
    → IsOver (record m { now = with_node (path_text name) Nothing m.now }) after ((change.HalfRemoved name, none) ∷ changes) true
unremoved_one m before after changes name number none file stands over has =
    let path = path_text name in
    let disk = (so_far m changes).now in
    let next = change name half_removed disk in
    let n = record m { now = with_node path Nothing m.now } in
    let follows = removal_follows name number disk m.now own_paths file stands (over.is refl).follows in
    over_goes_on m n before after changes (change.HalfRemoved name) none false true over refl (passed_covered m n before after changes false next over has)
    (covers_more (change name removed disk) next n.now (change_leaves name removed half_removed disk (removed_leaves (disk name))) (covered (change name removed disk) n.now follows))
    (failed_store (change.HalfRemoved name) none disk tt over.disk) (λ e. absurd (false≢true (sym e)))

-- a file that isn't there was removed: nothing was done
pub none_removed : (m : Modelled) (past : List System) (changes : List (Change × List ℕ)) (name : FileName) (none : List ℕ) → ((so_far m changes).now name).is_there ≡ false
    → IsOver m past changes false → IsOver m past ((change.Removed name, none) ∷ changes) false
none_removed m past changes name none gone over =
    let disk = (so_far m changes).now in
    over_as m past changes change.Nothing (change.Removed name) none false (sym (unchanged_by name removed disk (not_removed (disk name) gone)))
    (over_goes_on m m past past changes change.Nothing none false false over refl (λ s has. inl has) over.now over.disk over.is)
