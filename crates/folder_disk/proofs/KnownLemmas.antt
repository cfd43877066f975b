-- The names that a disk knows, one call on.
use Rattle.folder_disk.proofs.Common.{◌≡◌, ◌≢◌, ◌⊎◌, inl, inr, ℕ, Bool, true, false, List, [], ◌∷◌, Option, Some, None, Result, Ok, Err, IfSome, IfNone, IsTrue, Contains, refl, sym, ◌∙◌, ap, subst, ∥∥₁_elim, ∥∥₁_map, props, BTreeSet, contains, Ordering, Less, Greater, cases_Bool, cond-true}
use Rattle.folder_disk.proofs.Common.{cond-false, false≢true, FileState, DiskState, History, IfTold, IsNext, after, change_all, written, cut_to, half_written, half_cut, half_made, half_removed, synced, made, removed, named, no_file, FileName, ghosts, System, Modelled, IfModelled, Change}
use Rattle.folder_disk.proofs.Common.{state_after, AreKnownNames, AreFileNames, HasFolders, IsOver, IsDiskOver, IsFailedChange, told_history}
use Rattle.std.proofs.Common.{cond, IfOk}
use Rattle.std.specs.BTreeSet.{Updates}
use Rattle.std.specs.BTreeMap.{is_at}
use Rattle.std.specs.Ordering.{is_eq, ordering_reverse}
use Rattle.std.specs.declared.cmp.Ordering.TheVariants.{Equal}
use Rattle.disk_model.specs.Disk.{IsThere, change}
use Rattle.disk_model.specs.contracts.name.FileNameOrd.TheImpl.Laws.{total-law}
use Rattle.disk_model.proofs.OneFileLemmas.{change-here, change-other}
use Rattle.folder_model.specs.declared.folder.CallError.{CallError}
use Rattle.disk_record.specs.declared.change.Change.TheVariants.{Nothing}
use Rattle.folder_disk.specs.Known.{AreToldNames}
use Rattle.folder_disk.specs.Names.{IsNextName}
use Rattle.folder_disk.proofs.ChangeLemmas.{by_name}
use Rattle.folder_disk.proofs.NamesLemmas.{at_same}
use Rattle.folder_disk.proofs.NextLemmas.{there_stands, stands_there, not_before}
use Rattle.folder_disk.proofs.OverLemmas.{so_far}
use Rattle.folder_disk.proofs.WideLemmas.{failed_wider}

-- a change that makes and removes no file
abbrev pub KeepsThere : (DiskState → DiskState) → Type 0
KeepsThere step = (disk : DiskState) (name : FileName) → (step disk name).is_there ≡ (disk name).is_there

pub keeps_one : (name : FileName) (step : FileState → FileState) → ((f : FileState) → (step f).is_there ≡ f.is_there) → KeepsThere (change name step)
keeps_one name step same disk n = by_name (λ f. f.is_there ≡ (disk n).is_there) name n step disk (λ e. same (disk n)) refl

pub keeps_all : KeepsThere (change_all named)
keeps_all disk n = elim (cases_Bool (disk n).is_there) [
  | inl there ↦ ap (λ (f : FileState). f.is_there) (cond-true (disk n).is_there (record (disk n) { is_name_loose = false }) no_file there)
  | inr gone ↦ ap (λ (f : FileState). f.is_there) (cond-false (disk n).is_there (record (disk n) { is_name_loose = false }) no_file gone) ∙ sym gone
]

-- the names that were known still are
pub known_then : (step : DiskState → DiskState) (old new : Option History) (known : Option (BTreeSet FileName)) → KeepsThere step → new ≡ after step old
    → ∥ AreKnownNames ghosts.cmp old known ∥₁ → ∥ AreKnownNames ghosts.cmp new known ∥₁
known_then step old new None keeps is are = ∣ tt ∣₁
known_then step None new (Some names) keeps is are = let F : Option History → Type 0 = λ h. ∥ AreToldNames ghosts.cmp h names ∥₁ in subst F (sym is) ∣ tt ∣₁
known_then step (Some h) new (Some names) keeps is are =
    let F : Option History → Type 0 = λ h. ∥ AreToldNames ghosts.cmp h names ∥₁ in
    subst F (sym is) (∥∥₁_map are (λ k name. (λ has. keeps h.now name ∙ (k name).0 has, λ there. (k name).1 (sym (keeps h.now name) ∙ there))))

-- the same where nothing was told
pub known_same : (old new : Option History) (known : Option (BTreeSet FileName)) → new ≡ old → ∥ AreKnownNames ghosts.cmp old known ∥₁ → ∥ AreKnownNames ghosts.cmp new known ∥₁
known_same old new known is are = let F : Option History → Type 0 = λ h. ∥ AreKnownNames ghosts.cmp h known ∥₁ in subst F (sym is) are

-- a name was put in, or taken out
one_more : (disk : DiskState) (name : FileName) (step : FileState → FileState) (b : Bool) (before names : BTreeSet FileName) → ((f : FileState) → (step f).is_there ≡ b)
    → Updates ghosts.cmp before names name b → (n : FileName) → (contains ghosts.cmp before n ≡ (disk n).is_there) → contains ghosts.cmp names n ≡ (change name step disk n).is_there
one_more disk name step b before names is updates n are = elim (cases_Bool (is_at (ghosts.cmp name) n)) [
  | inl here ↦
      let F : FileName → Type 0 = λ k. b ≡ (change name step disk k).is_there in
      updates.0 n ∙ cond-true (is_at (ghosts.cmp name) n) b (contains ghosts.cmp before n) here
      ∙ subst F (at_same name n here) (sym (ap (λ (f : FileState). f.is_there) (change-here name step disk) ∙ is (disk name)))
  | inr other ↦
      updates.0 n ∙ cond-false (is_at (ghosts.cmp name) n) b (contains ghosts.cmp before n) other ∙ are
      ∙ sym (ap (λ (f : FileState). f.is_there) (change-other name n step disk (λ e. let F : FileName → Type 0 = λ k. is_at (ghosts.cmp name) k ≡ true in false≢true (sym other ∙ subst F (sym e) (at_itself name)))))
]
  where
    equal_to_itself : (o : Ordering) → o ≡ ordering_reverse o → is_eq o ≡ true
    equal_to_itself Less e = absurd (let d : Less ≡ Greater = e in cc)
    equal_to_itself Equal e = refl
    equal_to_itself Greater e = absurd (let d : Greater ≡ Less = e in cc)

    at_itself : (name : FileName) → is_at (ghosts.cmp name) name ≡ true
    at_itself name = equal_to_itself (ghosts.cmp name name) (total-law.antisymm name name)

-- both say the same of a name
same_bool : (a b : Bool) → ((a ≡ true) → (b ≡ true)) → ((b ≡ true) → (a ≡ true)) → a ≡ b
same_bool true true f g = refl
same_bool true false f g = sym (f refl)
same_bool false true f g = g refl
same_bool false false f g = refl

-- a name that was put in, or taken out, is known
pub known_changed : (name : FileName) (step : FileState → FileState) (b : Bool) (old new : Option History) (known names : Option (BTreeSet FileName)) → ((f : FileState) → (step f).is_there ≡ b)
    → IfSome names (λ after. IfSome known (λ before. Updates ghosts.cmp before after name b)) → IfNone known (names ≡ None) → new ≡ after (change name step) old
    → ∥ AreKnownNames ghosts.cmp old known ∥₁ → ∥ AreKnownNames ghosts.cmp new names ∥₁
known_changed name step b old new known None is updates none e are = ∣ tt ∣₁
known_changed name step b old new None (Some names) is updates none e are = let F : Option (BTreeSet FileName) → Type 0 = λ k. ∥ AreKnownNames ghosts.cmp new k ∥₁ in subst F (sym none) ∣ tt ∣₁
known_changed name step b None new (Some before) (Some names) is updates none e are = let F : Option History → Type 0 = λ h. ∥ AreToldNames ghosts.cmp h names ∥₁ in subst F (sym e) ∣ tt ∣₁
known_changed name step b (Some h) new (Some before) (Some names) is updates none e are =
    let F : Option History → Type 0 = λ h. ∥ AreToldNames ghosts.cmp h names ∥₁ in
    subst F (sym e) (∥∥₁_map are (λ k n.
    let same = one_more h.now name step b before names is updates n (same_bool (contains ghosts.cmp before n) (h.now n).is_there (k n).0 (k n).1) in
    (λ has. sym same ∙ has, λ there. same ∙ there)))

-- the names that were looked up
pub looked_up : (m : Option Modelled) (past : List System) (changes : List (Change × List ℕ)) (spoiled : Bool) (names : BTreeSet FileName)
    → ∥ IsDiskOver m past changes spoiled ∥₁ → spoiled ≡ false → IfModelled m (λ s. HasFolders s → AreFileNames ghosts.cmp s names) → ∥ AreToldNames ghosts.cmp (told_history m changes) names ∥₁
looked_up None past changes spoiled names over un are = ∣ tt ∣₁
looked_up (Some m) past changes spoiled names over un are = ∥∥₁_map over (λ o name.
    let F : Bool → Type 0 = IsOver m past changes in
    let p = subst F un o in
    let is = are (p.is refl).system.folders in
    (λ has. stands_there m past changes name p (is.only name has), λ there. is.all name (there_stands m past changes name p there)))

-- the next name, as the disk tells it
pub next_known : (told : Option History) (names : BTreeSet FileName) (from next : Option FileName) → ∥ AreToldNames ghosts.cmp told names ∥₁ → IsNextName ghosts.cmp from next names
    → IfTold told (IsNext ghosts.cmp from next)
next_known None names from next are is = tt
next_known (Some h) names from None are is = λ name there later. ∥∥₁_elim are (hlevel props) (λ a. is name ((a name).1 there) later)
next_known (Some h) names from (Some next) are is = (
  ∥∥₁_elim are (hlevel props) (λ a. (a next).0 is.0),
  λ name there later before. ∥∥₁_elim are (hlevel props) (λ a. not_before next name (is.2 name ((a name).1 there) later) before),
)

pub looked_found : (r : Result (BTreeSet FileName) CallError) (m n : Option Modelled) (past : List System) (changes : List (Change × List ℕ)) (spoiled : Bool)
    → ∥ IsDiskOver m past changes spoiled ∥₁ → spoiled ≡ false → n ≡ m → IfOk r (λ names. IfModelled m (λ s. HasFolders s → AreFileNames ghosts.cmp s names))
    → IfOk r (λ names. ∥ AreToldNames ghosts.cmp (told_history n changes) names ∥₁)
looked_found (Err e) m n past changes spoiled over un same are = tt
looked_found (Ok names) m n past changes spoiled over un same are =
    let F : Option Modelled → Type 0 = λ k. ∥ AreToldNames ghosts.cmp (told_history k changes) names ∥₁ in
    subst F (sym same) (looked_up m past changes spoiled names over un are)

-- what a call tells, of a system that it left as it was
pub told_step : (m : Option Modelled) (c : Change) (octets : List ℕ) (changes : List (Change × List ℕ)) → told_history m ((c, octets) ∷ changes) ≡ after (state_after c octets) (told_history m changes)
told_step None c octets changes = refl
told_step (Some m) c octets changes = refl

-- a call that changed nothing
pub known_stays : (m : Option Modelled) (changes : List (Change × List ℕ)) (octets : List ℕ) (known : Option (BTreeSet FileName))
    → ∥ AreKnownNames ghosts.cmp (told_history m changes) known ∥₁ → ∥ AreKnownNames ghosts.cmp (told_history m ((Nothing, octets) ∷ changes)) known ∥₁
known_stays m changes octets known are =
    known_then (λ disk. disk) (told_history m changes) (told_history m ((Nothing, octets) ∷ changes)) known (λ disk name. refl) (told_step m Nothing octets changes) are

-- a change that failed
pub known_fails : (m : Option Modelled) (changes : List (Change × List ℕ)) (c : Change) (octets : List ℕ) (known : Option (BTreeSet FileName)) → IsFailedChange c
    → ∥ AreKnownNames ghosts.cmp (told_history m changes) known ∥₁ → ∥ AreKnownNames ghosts.cmp (told_history m ((c, octets) ∷ changes)) known ∥₁
known_fails m changes c octets known is are =
    known_then (state_after c octets) (told_history m changes) (told_history m ((c, octets) ∷ changes)) known (λ disk name. (failed_wider c is octets disk name).there) (told_step m c octets changes) are

-- what was known was taken out before
pub known_taken : (told : Option History) (known taken : Option (BTreeSet FileName)) → taken ≡ known → ∥ AreKnownNames ghosts.cmp told known ∥₁ → ∥ AreKnownNames ghosts.cmp told taken ∥₁
known_taken told known taken is are = let F : Option (BTreeSet FileName) → Type 0 = λ k. ∥ AreKnownNames ghosts.cmp told k ∥₁ in subst F (sym is) are
