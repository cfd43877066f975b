-- The names that a disk reads, and those of the files that stand at their paths.
use Rattle.folder_disk.proofs.Common.{◌≡◌, ◌≢◌, ◌⊎◌, inl, inr, ℕ, Bool, true, false, List, Option, Some, None, IfSome, IsTrue, refl, sym, ◌∙◌, ap, subst, BTreeSet, contains, Ordering, Less, Greater, ∥∥₁_elim, props, cases_Bool, cond-true, false≢true, FileState, DiskState, History, IfTold, IsNext}
use Rattle.folder_disk.proofs.Common.{reading, FileName, ghosts, path_text, IsStoreFile, System, Modelled, IfModelled, octets_at, reads_there, Change, AreFileNames, HasFolders, IsOver, IsDiskOver, told_history, is_store_file}
use Rattle.std.specs.Ordering.{is_gt, ordering_reverse}
use Rattle.disk_model.specs.Disk.{IsThere, IsPast}
use Rattle.disk_model.specs.contracts.name.FileNameOrd.TheImpl.Laws.{total-law}
use Rattle.disk_files.proofs.NameStepLemmas.{file_there}
use Rattle.folder_disk.specs.Names.{IsFileThere, IsNextName}
use Rattle.folder_disk.proofs.NameTestLemmas.{file_true, file_from}
use Rattle.folder_disk.proofs.OverLemmas.{so_far}

-- a file that the disk reads stands at its path
pub there_stands : (m : Modelled) (past : List System) (changes : List (Change × List ℕ)) (name : FileName) → IsOver m past changes false → IsThere ((so_far m changes).now name) → IsFileThere m.now name
there_stands m past changes name over there =
    let f = (so_far m changes).now name in
    let file : IsStoreFile name = elim (cases_Bool (is_store_file name)) [
      | inl is ↦ file_true name is
      | inr other ↦ absurd (false≢true (sym (over.disk.none name (λ file. false≢true (sym other ∙ file_from name file))) ∙ there))
    ] in
    let has = file_there m.now (m.now.node (path_text name)) f.octets (sym ((over.is refl).follows name file).reads ∙ cond-true f.is_there (Some f.octets) None there) in
    record { file = file; number = has.0; stands = has.1 }

pub stands_there : (m : Modelled) (past : List System) (changes : List (Change × List ℕ)) (name : FileName) → IsOver m past changes false → IsFileThere m.now name → IsThere ((so_far m changes).now name)
stands_there m past changes name over is =
    (reads_there ((so_far m changes).now name) (m.now.content is.number).octets (((over.is refl).follows name is.file).reads ∙ ap (octets_at m.now) is.stands)).0

pub not_before : (a b : FileName) → is_gt (ghosts.cmp a b) ≡ false → ghosts.cmp b a ≢ Less
not_before a b least e =
    let greater : ghosts.cmp a b ≡ Greater = total-law.antisymm a b ∙ ap ordering_reverse e in
    false≢true (sym least ∙ ap is_gt greater)

next_over : (m : Modelled) (past : List System) (changes : List (Change × List ℕ)) (names : BTreeSet FileName) (from next : Option FileName) → IsOver m past changes false → AreFileNames ghosts.cmp m.now names
    → IsNextName ghosts.cmp from next names → IsNext ghosts.cmp from next (so_far m changes).now
next_over m past changes names from None over are is = λ name there later. is name (are.all name (there_stands m past changes name over there)) later
next_over m past changes names from (Some next) over are is =
    (stands_there m past changes next over (are.only next is.0), λ name there later. not_before next name (is.2 name (are.all name (there_stands m past changes name over there)) later))

-- the next name, as the disk tells it
pub next_told : (m : Option Modelled) (past : List System) (changes : List (Change × List ℕ)) (spoiled : Bool) (names : BTreeSet FileName) (from next : Option FileName)
    → ∥ IsDiskOver m past changes spoiled ∥₁ → spoiled ≡ false → IfModelled m (λ s. HasFolders s → AreFileNames ghosts.cmp s names) → IsNextName ghosts.cmp from next names
    → IfTold (told_history m changes) (IsNext ghosts.cmp from next)
next_told None past changes spoiled names from next over un are is = tt
next_told (Some m) past changes spoiled names from None over un are is = λ name there later. ∥∥₁_elim over (hlevel props) (λ o.
    let F : Bool → Type 0 = IsOver m past changes in
    let p = subst F un o in
    next_over m past changes names from None p (are (p.is refl).system.folders) is name there later)
next_told (Some m) past changes spoiled names from (Some next) over un are is = (
  ∥∥₁_elim over (hlevel props) (λ o.
      let F : Bool → Type 0 = IsOver m past changes in
      let p = subst F un o in
      (next_over m past changes names from (Some next) p (are (p.is refl).system.folders) is).0),
  λ name there later before. ∥∥₁_elim over (hlevel props) (λ o.
      let F : Bool → Type 0 = IsOver m past changes in
      let p = subst F un o in
      (next_over m past changes names from (Some next) p (are (p.is refl).system.folders) is).1 name there later before),
)

-- what is past a name is so by the names that are there
pub next_past : (names : BTreeSet FileName) (from next : Option FileName) → IsNextName ghosts.cmp from next names → IfSome next (IsPast ghosts.cmp from)
next_past names from None is = tt
next_past names from (Some next) is = is.1
