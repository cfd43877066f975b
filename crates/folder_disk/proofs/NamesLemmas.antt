-- The names that a walk over folders adds.
use Rattle.folder_disk.proofs.Common.{◌≡◌, ◌≢◌, ◌⊎◌, inl, inr, ℕ, ◌≤◌, Bool, true, false, List, [], length, map, Option, Some, None, IsTrue, Contains, codes, refl, sym, ◌∙◌, ap, subst, BTreeSet, contains, Ordering, Less, Greater, cases_Bool, false≢true, FileName, ghosts, path_text, IsStoreFile}
use Rattle.folder_disk.proofs.Common.{own_paths, folder_at, Node, Nothing, PlainFile, AFolder, Another, System, ArePathsIn, Modelled, IfModelled, IfSound, kind_of_node, Kind, IsSoundSystem, folder_text, folder_for, StandInFolders, HasAllFolders, AddsFiles, AreFileNames, HasFolders, FolderName}
use Rattle.std.proofs.Common.{cond}
use Rattle.std.specs.BTreeSet.{Updates}
use Rattle.std.specs.BTreeMap.{is_at}
use Rattle.std.specs.Ordering.{is_eq}
use Rattle.std.specs.declared.cmp.Ordering.TheVariants.{Equal}
use Rattle.disk_model.proofs.NameOrderLemmas.{same_order}
use Rattle.folder_model.specs.System.{StandsIn}
use Rattle.folder_model.specs.declared.folder.Kind.TheVariants as kind
use Rattle.folder_disk.specs.Names.{IsFileThere}
use Rattle.folder_disk.specs.declared.folder_name.FolderName.TheVariants as folder
use Rattle.folder_disk.proofs.EachLemmas.{EachSoFar}
use Rattle.folder_disk.proofs.ListingLemmas.{found_in, among}
use Rattle.folder_disk.proofs.PlaceLemmas.{file_folder, file_folder_name, no_file_at}
use Rattle.folder_disk.proofs.TextLemmas.{path_is_text}

-- the files at such a path are among the names
abbrev pub HasFilesAt : (List ℕ → Type 0) → BTreeSet FileName → System → Type 0
HasFilesAt at names s = (name : FileName) → IsFileThere s name → at (path_text name) → IsTrue (contains ghosts.cmp names name)

-- nothing was added
pub adds_none : (at : List ℕ → Type 0) (m : Option Modelled) (names : BTreeSet FileName) → IfModelled m (λ s. (name : FileName) → IsFileThere s name → at (path_text name) → ⊥) → IfModelled m (λ s. AddsFiles ghosts.cmp at s names names)
adds_none at None names none = tt
adds_none at (Some m) names none = record { keeps = λ name has. has; only = λ name has. inl has; all = λ name there is. absurd (none name there is) }

-- no path of a file
pub no_name : (m : Option Modelled) (path : List ℕ) → ((name : FileName) → IsStoreFile name → path ≡ path_text name → ⊥) → IfModelled m (λ s. (name : FileName) → IsFileThere s name → path_text name ≡ path → ⊥)
no_name None path none = tt
no_name (Some m) path none = λ name there at. none name there.file (sym at)

file_kind : (number : ℕ) (k : Kind) → k ≡ kind_of_node (PlainFile number) → k ≡ kind.File
file_kind number k e = e

-- no plain file stands there
pub no_plain_file : (m : Option Modelled) (path : List ℕ) (k : Kind) → IfModelled m (λ s. k ≡ kind_of_node (s.node path)) → k ≢ kind.File → IfModelled m (λ s. (name : FileName) → IsFileThere s name → path_text name ≡ path → ⊥)
no_plain_file None path k is other = tt
no_plain_file (Some m) path k is other = λ name there at. other (is ∙ ap (λ p. kind_of_node (m.now.node p)) (sym at) ∙ ap kind_of_node there.stands)

plain_of : (node : Node) → kind.File ≡ kind_of_node node → (n : ℕ) × (node ≡ PlainFile n)
plain_of Nothing e = absurd (let d : kind.File ≡ kind.Nothing = e in cc)
plain_of (PlainFile n) e = (n, refl)
plain_of AFolder e = absurd (let d : kind.File ≡ kind.Folder = e in cc)
plain_of Another e = absurd (let d : kind.File ≡ kind.Other = e in cc)

pub at_same : (a b : FileName) → is_at (ghosts.cmp a) b ≡ true → a ≡ b
at_same a b e = same_order a b (equal_of (ghosts.cmp a b) e)
  where
    equal_of : (o : Ordering) → is_eq o ≡ true → o ≡ Equal
    equal_of Less e = absurd (false≢true e)
    equal_of Equal e = refl
    equal_of Greater e = absurd (false≢true e)

kept : (b c : Bool) → c ≡ true → cond b true c ≡ true
kept true c e = refl
kept false c e = e

one_of : (b c : Bool) → cond b true c ≡ true → (b ≡ true) ⊎ (c ≡ true)
one_of true c e = inl refl
one_of false c e = inr e

-- the name of a file that stands there was added
pub adds_one : (m : Option Modelled) (path : List ℕ) (name : FileName) (old new : BTreeSet FileName) → IfModelled m (λ s. kind.File ≡ kind_of_node (s.node path)) → IsStoreFile name → path ≡ path_text name
    → Updates ghosts.cmp old new name true → IfModelled m (λ s. AddsFiles ghosts.cmp (λ p. p ≡ path) s old new)
adds_one None path name old new is file at updates = tt
adds_one (Some m) path name old new is file at updates = record {
  keeps = λ q has. updates.0 q ∙ kept (is_at (ghosts.cmp name) q) (contains ghosts.cmp old q) has;
  only = λ q has. elim (one_of (is_at (ghosts.cmp name) q) (contains ghosts.cmp old q) (sym (updates.0 q) ∙ has)) [
    | inl own ↦
        let e = at_same name q own in
        let plain = plain_of (m.now.node path) is in
        let F : FileName → Type 0 = IsFileThere m.now in
        inr (subst F e (record { file = file; number = plain.0; stands = ap (λ p. m.now.node p) (sym at) ∙ plain.1 }))
    | inr before ↦ inl before
  ];
  all = λ q there p.
      let e : name ≡ q = own_paths name q file there.file (sym at ∙ sym p) in
      let F : FileName → Type 0 = λ n. IsTrue (contains ghosts.cmp new n) in
      subst F e updates.1;
}

pub adds_named : (m : Option Modelled) (k : Kind) (path : List ℕ) (name : FileName) (old new : BTreeSet FileName) → k ≡ kind.File → IfModelled m (λ s. k ≡ kind_of_node (s.node path)) → IsStoreFile name → path ≡ path_text name
    → Updates ghosts.cmp old new name true → IfModelled m (λ s. AddsFiles ghosts.cmp (λ p. p ≡ path) s old new)
adds_named m k path name old new is found file at updates =
    let F : Kind → Type 0 = λ j. IfModelled m (λ s. j ≡ kind_of_node (s.node path)) in
    adds_one m path name old new (subst F is found) file at updates

-- No path counts yet.
abbrev pub NoPath : List ℕ → Type 0
NoPath path = ⊥

pub none_so_far : (m : Option Modelled) (names : BTreeSet FileName) → IfModelled m (λ s. AddsFiles ghosts.cmp NoPath s names names)
none_so_far m names = adds_none NoPath m names (go m)
  where
    go : (m : Option Modelled) → IfModelled m (λ s. (name : FileName) → IsFileThere s name → NoPath (path_text name) → ⊥)
    go None = tt
    go (Some m) = λ name there none. none

pub adds_so_far : (at : List ℕ → Type 0) (m : Option Modelled) (first old new : BTreeSet FileName) → IfModelled m (λ s. AddsFiles ghosts.cmp NoPath s first old) → IfModelled m (λ s. AddsFiles ghosts.cmp at s old new)
    → IfModelled m (λ s. AddsFiles ghosts.cmp NoPath s first new)
adds_so_far at None first old new so_far more = tt
adds_so_far at (Some m) first old new so_far more = record {
  keeps = λ name has. more.keeps name (so_far.keeps name has);
  only = λ name has. elim (more.only name has) [ inl before ↦ so_far.only name before | inr there ↦ inr there ];
  all = λ name there none. absurd none;
}

-- the same system at another moment
pub adds_at : (at : List ℕ → Type 0) (m n : Option Modelled) (old new : BTreeSet FileName) → m ≡ n → IfModelled m (λ s. AddsFiles ghosts.cmp at s old new) → IfModelled n (λ s. AddsFiles ghosts.cmp at s old new)
adds_at at m n old new same adds = let F : Option Modelled → Type 0 = λ k. IfModelled k (λ s. AddsFiles ghosts.cmp at s old new) in subst F same adds

pub files_stay : (at other : List ℕ → Type 0) (m : Option Modelled) (old new : BTreeSet FileName) → IfModelled m (λ s. AddsFiles ghosts.cmp other s old new) → IfModelled m (HasFilesAt at old) → IfModelled m (HasFilesAt at new)
files_stay at other None old new more has = tt
files_stay at other (Some m) old new more has = λ name there is. more.keeps name (has name there is)

pub files_added : (at : List ℕ → Type 0) (m : Option Modelled) (old new : BTreeSet FileName) → IfModelled m (λ s. AddsFiles ghosts.cmp at s old new) → IfModelled m (HasFilesAt at new)
files_added at None old new more = tt
files_added at (Some m) old new more = more.all

-- all files in a folder were added
pub adds_folder : {S : Type 0} (view : S → List ℕ) (m : Option Modelled) (above : List ℕ) (within : FolderName) (paths : List S) (i : ℕ) (d : S) (old new : BTreeSet FileName) → above ≡ folder_text within → length paths ≤ i
    → IsSoundSystem m → IfSound m (λ s. ArePathsIn s above (map view paths))
    → IfModelled m (λ s. AddsFiles ghosts.cmp NoPath s old new) → EachSoFar (λ path. IfModelled m (HasFilesAt (λ p. p ≡ view path) new)) paths i
    → IfModelled m (λ s. AddsFiles ghosts.cmp (λ p. folder_at p ≡ folder_text within) s old new)
adds_folder view None above within paths i d old new at done sound listed so_far each = tt
adds_folder view (Some m) above within paths i d old new at done sound listed so_far each = record {
  keeps = so_far.keeps;
  only = so_far.only;
  all = λ name there is.
      let path = path_text name in
      let stands : StandsIn m.now above path = record {
        in_folder = is ∙ sym at;
        below = no_file_at folder.Top tt name there.file;
        there = λ e. let p : PlainFile there.number ≡ Nothing = sym there.stands ∙ e in cc;
      } in
      let x = found_in view (λ q. HasFilesAt (λ p. p ≡ view q) new m.now) paths i d path done each ((listed sound).all path stands (path_is_text name there.file)) in
      x.2 name there (sym x.1);
}

-- all files in all folders were added to none
pub adds_all : (m : Option Modelled) (folders : List FolderName) (i : ℕ) (none new : BTreeSet FileName) → none.keys ≡ [] → length folders ≤ i
    → IfModelled m (λ s. StandInFolders s → HasAllFolders s folders) → IfModelled m (λ s. AddsFiles ghosts.cmp NoPath s none new)
    → EachSoFar (λ within. IfModelled m (HasFilesAt (λ p. folder_at p ≡ folder_text within) new)) folders i
    → IfModelled m (λ s. HasFolders s → AreFileNames ghosts.cmp s new)
adds_all None folders i none new empty done are so_far each = tt
adds_all (Some m) folders i none new empty done are so_far each = λ stand. record {
  only = λ name has. elim (so_far.only name has) [
    | inl before ↦
        let F : List FileName → Type 0 = λ l. IsTrue (contains ghosts.cmp (record none { keys = l }) name) in
        absurd (false≢true (subst F empty before))
    | inr there ↦ there
  ];
  all = λ name there.
      let at = file_folder name there.file in
      let up : m.now.node (folder_at (path_text name)) ≡ AFolder = elim (stand (path_text name) (no_file_at folder.Top tt name there.file)) [
        | inl up ↦ up
        | inr gone ↦ absurd (let e : PlainFile there.number ≡ Nothing = sym there.stands ∙ gone.0 in cc)
      ] in
      let has = (are (λ path below. elim (stand path below) [ inl up ↦ inl up | inr gone ↦ inr gone.0 ])).all (folder_for name) (file_folder_name name there.file) (ap (λ p. m.now.node p) (sym at) ∙ up) in
      among (λ within. HasFilesAt (λ p. folder_at p ≡ folder_text within) new m.now) folders i (folder_for name) done each has name there at;
}
