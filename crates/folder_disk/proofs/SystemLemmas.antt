-- A system's folders and their names, one call on.
use Rattle.folder_disk.proofs.Common.{◌≡◌, ◌≢◌, ◌⊎◌, inl, inr, ℕ, ◌≤◌, length, Bool, true, false, if◌then◌else◌, List, [], ◌∷◌, Option, Some, None, All, Contains, codes, refl, sym, ◌∙◌, ap, subst, cases_Bool, cond-true, cond-false, DiskState, same_octets, FileName, same_octets-true, path_text}
use Rattle.folder_disk.proofs.Common.{IsStoreFile, folder_at, Node, Nothing, PlainFile, AFolder, Another, System, with_node, with_synced_names, Modelled, IfModelled, IfSound, IsLocked, IsDoneOrNot, HasPassed, Becomes, done_by, kind_of_node, Kind, CoversSystem, covered, IsSoundSystem, HasNoFile}
use Rattle.folder_disk.proofs.Common.{folder_text, upper_of, IsFolderName, IsSyncedFolder, AreSynced, HasSameNodes, HasAllFolders, StandInFolders, IsUnseen, HasFolders, IsDiskOf, FolderName}
use Rattle.disk_model.proofs.NameLemmas.{same_octets-refl}
use Rattle.folder_model.specs.System.{with_failed_sync}
use Rattle.folder_model.specs.declared.folder.Kind.TheVariants as kind
use Rattle.disk_files.proofs.NameStepLemmas.{node-apart, node-put, folder_follows, names_kept}
use Rattle.disk_files.proofs.OwnLemmas.{owns_put, owns_synced}
use Rattle.folder_disk.specs.declared.folder_name.FolderName.TheVariants as folder
use Rattle.folder_disk.proofs.EachLemmas.{EachSoFar, each_all}
use Rattle.folder_disk.proofs.FileLemmas.{both_told}
use Rattle.folder_disk.proofs.PlaceLemmas.{upper_at, no_file_at}
use Rattle.folder_disk.proofs.UnseenLemmas.{unseen_step, unseen_failed}
use Rattle.folder_disk.proofs.WideLemmas.{covers_weakened}

-- a thing is put in a folder that is there, in the place of one that is no folder
pub folders_put : (path : List ℕ) (put : Node) (s : System) → s.node (folder_at path) ≡ AFolder → s.node path ≢ AFolder → HasFolders s → HasFolders (with_node path put s)
folders_put path put s above other folders q below = elim (cases_Bool (same_octets q path)) [
  | inl is ↦
      let up : s.node (folder_at q) ≡ AFolder = ap (λ p. s.node (folder_at p)) (same_octets-true q path is) ∙ above in
      inl (node-apart path (folder_at q) put s (λ same. other (ap (λ p. s.node p) (sym same) ∙ up)) ∙ up)
  | inr differs ↦ elim (folders q below) [
    | inl up ↦ inl (node-apart path (folder_at q) put s (λ same. other (ap (λ p. s.node p) (sym same) ∙ up)) ∙ up)
    | inr none ↦ inr (cond-false (same_octets q path) put (s.node q) differs ∙ none.0, cond-false (same_octets q path) (s.node q ∷ s.earlier q) (s.earlier q) differs ∙ none.1)
  ]
]

pub still_none : (sound here : Bool) (earlier : List Node) → earlier ≡ [] → (if sound then (if here then [] else earlier) else earlier) ≡ []
still_none true true earlier e = refl
still_none true false earlier e = e
still_none false here earlier e = e

folders_synced : (path : List ℕ) (s : System) → HasFolders s → HasFolders (with_synced_names path s)
folders_synced path s folders q below = elim (folders q below) [
  | inl up ↦ inl up
  | inr none ↦ inr (none.0, still_none s.is_sound (same_octets (folder_at q) path) (s.earlier q) none.1)
]

-- names are synced
synced_here : (path : List ℕ) (s : System) → s.is_sound ≡ true → s.node path ≡ AFolder → IsSyncedFolder (with_synced_names path s) path
synced_here path s sound there = record {
  there = there;
  names = λ p at.
      let F : List ℕ → Type 0 = λ l. same_octets l path ≡ true in
      cond-true s.is_sound (if same_octets (folder_at p) path then [] else s.earlier p) (s.earlier p) sound
      ∙ cond-true (same_octets (folder_at p) path) [] (s.earlier p) (subst F (sym at) (same_octets-refl path));
}

pub synced_stays : (path other : List ℕ) (s : System) → IsSyncedFolder s path → IsSyncedFolder (with_synced_names other s) path
synced_stays path other s is = record {
  there = is.there;
  names = λ p at. still_none s.is_sound (same_octets (folder_at p) other) (s.earlier p) (is.names p at);
}

disk_synced : (path : List ℕ) (disk : DiskState) (s : System) → IsDiskOf disk s → IsDiskOf disk (with_synced_names path s)
disk_synced path disk s is = record {
  follows = names_kept path disk s is.follows;
  system = record { sound = is.system.sound; own = owns_synced path s is.system.own; folders = folders_synced path s is.system.folders };
}

-- nothing stands here, in a folder that is there
abbrev IsFree : List ℕ → System → Type 0
IsFree path s = (s.node (folder_at path) ≡ AFolder) × (s.node path ≡ Nothing)

disk_with_folder : (name : FolderName) → IsFolderName name → (disk : DiskState) (s : System) → IsFree (folder_text name) s → IsDiskOf disk s → IsDiskOf disk (with_node (folder_text name) AFolder s)
disk_with_folder name is disk s free old =
    let path = folder_text name in
    record {
      follows = folder_follows path disk s free.1 (no_file_at name is) old.follows;
      system = record {
        sound = old.system.sound;
        own = owns_put path AFolder s (λ number e. let d : PlainFile number ≡ AFolder = e in cc) old.system.own;
        folders = folders_put path AFolder s free.0 (λ e. let d : Nothing ≡ AFolder = sym free.1 ∙ e in cc) old.system.folders;
      };
    }

free_below : (name : FolderName) → IsFolderName name → (m : Option Modelled) → IfModelled m (λ s. s.node (folder_text (upper_of name)) ≡ AFolder)
    → IfModelled m (λ s. s.node (folder_text name) ≡ Nothing) → IfModelled m (IsFree (folder_text name))
free_below name is m above nothing =
    both_told _ _ _ m (λ s a n. (ap (λ p. s.node p) (upper_at name is) ∙ a, n)) above nothing

-- a folder was made
pub made_folder : (name : FolderName) (path : List ℕ) (old new : Option Modelled) (before after : List System) → path ≡ folder_text name → IsFolderName name
    → IfModelled old (λ s. s.node (folder_text (upper_of name)) ≡ AFolder) → IfModelled old (λ s. s.node (folder_text name) ≡ Nothing)
    → new ≡ done_by (with_node path AFolder) old → HasPassed old before new after → IsUnseen old before new after false
made_folder name path old new before after at is above nothing done has =
    let F : List ℕ → Type 0 = λ p. new ≡ done_by (with_node p AFolder) old in
    unseen_step (with_node (folder_text name) AFolder) (IsFree (folder_text name)) old new before after (λ s. refl) (disk_with_folder name is)
    (free_below name is old above nothing) (subst F at done) has

-- the making of a folder failed
pub unmade_folder : (name : FolderName) (path : List ℕ) (old new : Option Modelled) (before after : List System) → path ≡ folder_text name → IsFolderName name
    → IfModelled old (λ s. s.node (folder_text (upper_of name)) ≡ AFolder) → IfModelled old (λ s. s.node (folder_text name) ≡ Nothing)
    → IsDoneOrNot (with_node path AFolder) old new → HasPassed old before new after → IsUnseen old before new after true
unmade_folder name path old new before after at is above nothing done has =
    let F : List ℕ → Type 0 = λ p. IsDoneOrNot (with_node p AFolder) old new in
    unseen_failed (with_node (folder_text name) AFolder) (IsFree (folder_text name)) old new before after (λ s. refl)
    (λ disk s free d. covered disk (with_node (folder_text name) AFolder s) (disk_with_folder name is disk s free d).follows)
    (free_below name is old above nothing) (subst F at done) has

pub made_there : (path : List ℕ) (put : Node) (old new : Option Modelled) → new ≡ done_by (with_node path put) old → IfModelled new (λ s. s.node path ≡ put)
made_there path put None new done = let F : Option Modelled → Type 0 = λ m. IfModelled m (λ s. s.node path ≡ put) in subst F (sym done) tt
made_there path put (Some m) new done = let F : Option Modelled → Type 0 = λ n. IfModelled n (λ s. s.node path ≡ put) in subst F (sym done) (node-put path put m.now)

-- a call leaves a sound system sound
pub sound_by : (step : System → System) (old new : Option Modelled) → ((s : System) → (step s).is_sound ≡ s.is_sound) → new ≡ done_by step old → IsSoundSystem old → IsSoundSystem new
sound_by step None new same done sound = let F : Option Modelled → Type 0 = IsSoundSystem in subst F (sym done) tt
sound_by step (Some m) new same done sound = let F : Option Modelled → Type 0 = IsSoundSystem in subst F (sym done) (same m.now ∙ sound)

-- names were synced
pub synced_unseen : (path : List ℕ) (old new : Option Modelled) (before after : List System) → new ≡ done_by (with_synced_names path) old → HasPassed old before new after
    → IsUnseen old before new after false
synced_unseen path old new before after done has =
    unseen_step (with_synced_names path) (λ s. s ≡ s) old new before after (λ s. refl) (λ disk s same d. disk_synced path disk s d) (here old) done has
  where
    here : (m : Option Modelled) → IfModelled m (λ s. s ≡ s)
    here None = tt
    here (Some m) = refl

pub unsynced_unseen : (old new : Option Modelled) (before after : List System) → IsDoneOrNot with_failed_sync old new → HasPassed old before new after → IsUnseen old before new after true
unsynced_unseen old new before after done has =
    unseen_failed with_failed_sync (λ s. s ≡ s) old new before after (λ s. refl) (λ disk s same d. covers_weakened disk false s (covered disk s d.follows)) (here old) done has
  where
    here : (m : Option Modelled) → IfModelled m (λ s. s ≡ s)
    here None = tt
    here (Some m) = refl

pub synced_done : (path : List ℕ) (old new : Option Modelled) → IsSoundSystem old → IfSound old (λ s. s.node path ≡ AFolder) → new ≡ done_by (with_synced_names path) old
    → IfModelled new (λ s. IsSyncedFolder s path)
synced_done path None new sound there done = let F : Option Modelled → Type 0 = λ n. IfModelled n (λ s. IsSyncedFolder s path) in subst F (sym done) tt
synced_done path (Some m) new sound there done =
    let F : Option Modelled → Type 0 = λ n. IfModelled n (λ s. IsSyncedFolder s path) in
    subst F (sym done) (synced_here path m.now sound (there sound))

-- names of other folders were synced
pub synced_stays_told : (path other : List ℕ) (old new : Option Modelled) → new ≡ done_by (with_synced_names other) old → IfModelled old (λ s. IsSyncedFolder s path) → IfModelled new (λ s. IsSyncedFolder s path)
synced_stays_told path other None new done is = let F : Option Modelled → Type 0 = λ n. IfModelled n (λ s. IsSyncedFolder s path) in subst F (sym done) tt
synced_stays_told path other (Some m) new done is = let F : Option Modelled → Type 0 = λ n. IfModelled n (λ s. IsSyncedFolder s path) in subst F (sym done) (synced_stays path other m.now is)

pub same_nodes : (m : Option Modelled) → Becomes HasSameNodes m m
same_nodes None = refl
same_nodes (Some m) = (refl, λ path. refl)

pub same_nodes_then : (other : List ℕ) (first old new : Option Modelled) → new ≡ done_by (with_synced_names other) old → Becomes HasSameNodes first old → Becomes HasSameNodes first new
same_nodes_then other first old new done same = let F : Option Modelled → Type 0 = Becomes HasSameNodes first in subst F (sym done) (go first old same)
  where
    go : (a b : Option Modelled) → Becomes HasSameNodes a b → Becomes HasSameNodes a (done_by (with_synced_names other) b)
    go None None is = refl
    go None (Some m) is = absurd (let e : Some m ≡ None = is in cc)
    go (Some m) None is = elim is [ ]
    go (Some m) (Some n) is = (is.0, is.1)

stand_in : (before s : System) → HasSameNodes before s → HasFolders s → StandInFolders before
stand_in before s same folders path below = elim (folders path below) [
  | inl up ↦ inl (sym (same (folder_at path)) ∙ up)
  | inr none ↦ inr (sym (same path) ∙ none.0)
]

among : {A : Type 0} (P : A → Type 0) (xs : List A) (x : A) → All P xs → Contains xs x → P x
among P xs x all has = subst P has.2 (all has.0 x has.1)

are_synced : (before s : System) (names : List FolderName) → HasSameNodes before s → HasAllFolders before names → All (λ name. IsSyncedFolder s (folder_text name)) names → AreSynced s
are_synced before s names same folders synced = record {
  top = among (λ name. IsSyncedFolder s (folder_text name)) names folder.Top synced folders.top;
  all = λ name is there. among (λ n. IsSyncedFolder s (folder_text n)) names name synced (folders.all name is (sym (same (folder_text name)) ∙ there));
}

-- the names in all folders were synced
pub all_are_synced : (names : List FolderName) (old new : Option Modelled) → IfModelled old (λ s. StandInFolders s → HasAllFolders s names) → Becomes HasSameNodes old new
    → IfModelled new (λ s. All (λ name. IsSyncedFolder s (folder_text name)) names) → IfModelled new (λ s. HasFolders s → AreSynced s)
all_are_synced names None new are same synced = let F : Option Modelled → Type 0 = λ n. IfModelled n (λ s. HasFolders s → AreSynced s) in subst F (sym same) tt
all_are_synced names (Some m) None are same synced = elim same [ ]
all_are_synced names (Some m) (Some n) are same synced = λ folders. are_synced m.now n.now names same.1 (are (stand_in m.now n.now same.1 folders)) synced

folder_of_kind : (node : Node) → kind.Folder ≡ kind_of_node node → node ≡ AFolder
folder_of_kind Nothing e = absurd (let d : kind.Folder ≡ kind.Nothing = e in cc)
folder_of_kind (PlainFile n) e = absurd (let d : kind.Folder ≡ kind.File = e in cc)
folder_of_kind AFolder e = refl
folder_of_kind Another e = absurd (let d : kind.Folder ≡ kind.Other = e in cc)

nothing_of_kind : (node : Node) → kind.Nothing ≡ kind_of_node node → node ≡ Nothing
nothing_of_kind Nothing e = refl
nothing_of_kind (PlainFile n) e = absurd (let d : kind.Nothing ≡ kind.File = e in cc)
nothing_of_kind AFolder e = absurd (let d : kind.Nothing ≡ kind.Folder = e in cc)
nothing_of_kind Another e = absurd (let d : kind.Nothing ≡ kind.Other = e in cc)

file_of_kind : (node : Node) → kind.File ≡ kind_of_node node → (n : ℕ) × (node ≡ PlainFile n)
file_of_kind Nothing e = absurd (let d : kind.File ≡ kind.Nothing = e in cc)
file_of_kind (PlainFile n) e = (n, refl)
file_of_kind AFolder e = absurd (let d : kind.File ≡ kind.Folder = e in cc)
file_of_kind Another e = absurd (let d : kind.File ≡ kind.Other = e in cc)

-- What a look at a path has found.
pub folder_found : (path : List ℕ) (k : Kind) (old new : Option Modelled) → new ≡ old → k ≡ kind.Folder → IfModelled old (λ s. k ≡ kind_of_node (s.node path)) → IfModelled new (λ s. s.node path ≡ AFolder)
folder_found path k old new same is found =
    let F : Option Modelled → Type 0 = λ m. IfModelled m (λ s. s.node path ≡ AFolder) in
    subst F (sym same) (go old found)
  where
    go : (m : Option Modelled) → IfModelled m (λ s. k ≡ kind_of_node (s.node path)) → IfModelled m (λ s. s.node path ≡ AFolder)
    go None found = tt
    go (Some m) found = folder_of_kind (m.now.node path) (sym is ∙ found)

pub nothing_found : (path : List ℕ) (k : Kind) (old new : Option Modelled) → new ≡ old → k ≡ kind.Nothing → IfModelled old (λ s. k ≡ kind_of_node (s.node path)) → IfModelled new (λ s. s.node path ≡ Nothing)
nothing_found path k old new same is found =
    let F : Option Modelled → Type 0 = λ m. IfModelled m (λ s. s.node path ≡ Nothing) in
    subst F (sym same) (go old found)
  where
    go : (m : Option Modelled) → IfModelled m (λ s. k ≡ kind_of_node (s.node path)) → IfModelled m (λ s. s.node path ≡ Nothing)
    go None found = tt
    go (Some m) found = nothing_of_kind (m.now.node path) (sym is ∙ found)

pub file_found : (path : List ℕ) (k : Kind) (old new : Option Modelled) → new ≡ old → k ≡ kind.File → IfModelled old (λ s. k ≡ kind_of_node (s.node path)) → IfModelled new (λ s. (n : ℕ) × (s.node path ≡ PlainFile n))
file_found path k old new same is found =
    let F : Option Modelled → Type 0 = λ m. IfModelled m (λ s. (n : ℕ) × (s.node path ≡ PlainFile n)) in
    subst F (sym same) (go old found)
  where
    go : (m : Option Modelled) → IfModelled m (λ s. k ≡ kind_of_node (s.node path)) → IfModelled m (λ s. (n : ℕ) × (s.node path ≡ PlainFile n))
    go None found = tt
    go (Some m) found = file_of_kind (m.now.node path) (sym is ∙ found)

pub no_file_found : (path : List ℕ) (k : Kind) (m : Option Modelled) → k ≢ kind.File → IfModelled m (λ s. k ≡ kind_of_node (s.node path)) → IfModelled m (λ s. HasNoFile s path)
no_file_found path k None other found = tt
no_file_found path k (Some m) other found = λ number stands. other (found ∙ ap kind_of_node stands)

-- a walk over all folders has synced each
pub all_told_of : (m : Option Modelled) (names : List FolderName) (i : ℕ) → length names ≤ i → EachSoFar (λ name. IfModelled m (λ s. IsSyncedFolder s (folder_text name))) names i
    → IfModelled m (λ s. All (λ name. IsSyncedFolder s (folder_text name)) names)
all_told_of None names i done each = tt
all_told_of (Some m) names i done each = each_all (λ name. IsSyncedFolder m.now (folder_text name)) names i done each
