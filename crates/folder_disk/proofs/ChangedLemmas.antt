-- The folders in which names have changed, one call on.
use Rattle.folder_disk.proofs.Common.{◌≡◌, ◌≢◌, ◌⊎◌, inl, inr, ℕ, ◌<◌, length, Bool, true, false, if◌then◌else◌, List, [], ◌∷◌, ◌++◌, Option, Some, None, Result, Ok, Err, All, Contains, codes, refl, sym, ◌∙◌, ap, subst, arith, ∥∥₁_elim, ∥∥₁_map, props, cases_Bool, cond-true, cond-false, false≢true}
use Rattle.folder_disk.proofs.Common.{FileState, synced, after, same_octets, FileName, same_octets-true, path_text, IsStoreFile, folder_at, Node, Nothing, PlainFile, AFolder, System, with_node, with_new_file, with_content, with_synced_file, with_synced_names, Modelled, IfModelled, Becomes, done_by}
use Rattle.folder_disk.proofs.Common.{HasDurableNames, state_after, Change, IsToSync, KeepsNames, ChangesName, NotesNames, HasFileAt, IsChanged, folder_text, folder_for, upper_of, IsFolderName, IsSyncedFolder, AreSynced, HasSameNodes, IsUnseen, HasFolders, IsDiskOver, FolderName}
use Rattle.std.proofs.Common.{OnOk}
use Rattle.std.proofs.lemmas.List.Elements.{Contains-push, Contains-append_left, All-contains}
use Rattle.disk_model.proofs.NameLemmas.{same_octets-refl}
use Rattle.disk_files.proofs.NameStepLemmas.{node-apart}
use Rattle.disk_record.specs.declared.change.Change.TheVariants as change
use Rattle.folder_disk.specs.Changed.{KeepsToSync, AreSyncedBut, StaysSynced}
use Rattle.folder_disk.specs.Folders.{IsSeenAs}
use Rattle.folder_disk.specs.declared.changed.Changed.{Changed}
use Rattle.folder_disk.specs.declared.folder_name.FolderName.TheVariants as folder
use Rattle.folder_disk.proofs.DurableLemmas.{durable}
use Rattle.folder_disk.proofs.PlaceLemmas.{file_folder, upper_at}
use Rattle.folder_disk.proofs.SeenLemmas.{history_as, names_seen}
use Rattle.folder_disk.proofs.SystemLemmas.{still_none}

stays_same : (s : System) (path : List ℕ) → StaysSynced s s path
stays_same s path = record { there = λ e. e; names = λ p at e. e }

stays_then : (a b c : System) (path : List ℕ) → StaysSynced a b path → StaysSynced b c path → StaysSynced a c path
stays_then a b c path first second = record { there = λ e. first.there (second.there e); names = λ p at e. second.names p at (first.names p at e) }

pub names_same : (s : System) → KeepsNames s s
names_same s path = stays_same s path

pub names_then : (a b c : System) → KeepsNames a b → KeepsNames b c → KeepsNames a c
names_then a b c first second path = stays_then a b c path (first path) (second path)

pub notes_same : (changed : Changed) (s : System) → NotesNames changed changed s s
notes_same changed s = record { keeps = λ path is. is; folders = λ path. inr (stays_same s path) }

pub notes_then : (a b c : Changed) (s t u : System) → NotesNames a b s t → NotesNames b c t u → NotesNames a c s u
notes_then a b c s t u first second = record {
  keeps = λ path is. second.keeps path (first.keeps path is);
  folders = λ path. elim (second.folders path) [
    | inl noted ↦ inl noted
    | inr stays ↦ elim (first.folders path) [
      | inl noted ↦ inl (second.keeps path noted)
      | inr before ↦ inr (stays_then s t u path before stays)
    ]
  ];
}

pub notes_keeps : (changed : Changed) (s t : System) → KeepsNames s t → NotesNames changed changed s t
notes_keeps changed s t keeps = record { keeps = λ path is. is; folders = λ path. inr (keeps path) }

-- what was noted covers what isn't durable
pub but_notes : (old new : Changed) (before s : System) → NotesNames old new before s → AreSyncedBut old before → AreSyncedBut new s
but_notes old new before s notes but name is there = elim (notes.folders (folder_text name)) [
  | inl noted ↦ inl noted
  | inr stays ↦ elim (but name is (stays.there there)) [
    | inl noted ↦ inl (notes.keeps (folder_text name) noted)
    | inr synced ↦ inr (record { there = there; names = λ p at. stays.names p at (synced.names p at) })
  ]
]

-- Calls that change no name.
pub content_keeps : (number : ℕ) (step : FileState → FileState) (s : System) → KeepsNames s (with_content number step s)
content_keeps number step s path = record { there = λ e. e; names = λ p at e. e }

pub synced_keeps : (folder : List ℕ) (s : System) → KeepsNames s (with_synced_names folder s)
synced_keeps folder s path = record { there = λ e. e; names = λ p at e. still_none s.is_sound (same_octets (folder_at p) folder) (s.earlier p) e }

-- another thing stands at a path
put_stays : (path : List ℕ) (put : Node) (s : System) (q : List ℕ) → q ≢ folder_at path → (q ≡ path → put ≢ AFolder) → StaysSynced s (with_node path put s) q
put_stays path put s q apart no_folder = record {
  there = λ e. elim (cases_Bool (same_octets q path)) [
    | inl is ↦ absurd (no_folder (same_octets-true q path is) (sym (cond-true (same_octets q path) put (s.node q) is) ∙ e))
    | inr differs ↦ sym (cond-false (same_octets q path) put (s.node q) differs) ∙ e
  ];
  names = λ p at e. elim (cases_Bool (same_octets p path)) [
    | inl is ↦ absurd (apart (sym at ∙ ap folder_at (same_octets-true p path is)))
    | inr differs ↦ cond-false (same_octets p path) (s.node p ∷ s.earlier p) (s.earlier p) differs ∙ e
  ];
}

same_or : (a b : List ℕ) → (a ≡ b) ⊎ (a ≢ b)
same_or a b = elim (cases_Bool (same_octets a b)) [
  | inl is ↦ inl (same_octets-true a b is)
  | inr differs ↦ inr (λ e. let F : List ℕ → Type 0 = λ l. same_octets a l ≡ true in false≢true (sym differs ∙ subst F e (same_octets-refl a)))
]

pub put_changes : (path : List ℕ) (put : Node) (s : System) → put ≢ AFolder → ChangesName path s (with_node path put s)
put_changes path put s no_folder q = elim (same_or q (folder_at path)) [ inl at ↦ inl at | inr apart ↦ inr (put_stays path put s q apart (λ e. no_folder)) ]

pub new_changes : (path : List ℕ) (s : System) → ChangesName path s (with_new_file path s)
new_changes path s q = elim (same_or q (folder_at path)) [
  | inl at ↦ inl at
  | inr apart ↦
      let is = put_stays path (PlainFile s.count) s q apart (λ e f. let d : PlainFile s.count ≡ AFolder = f in cc) in
      inr (record { there = is.there; names = is.names })
]

pub content_changes : (path : List ℕ) (before s : System) → KeepsNames before s → ChangesName path before s
content_changes path before s keeps q = inr (keeps q)

-- a folder was made, and it and the one above are noted
pub folder_notes : (old new : Changed) (path : List ℕ) (s : System) → KeepsToSync old new → IsToSync new path → IsToSync new (folder_at path) → NotesNames old new s (with_node path AFolder s)
folder_notes old new path s keeps noted above = record {
  keeps = keeps;
  folders = λ q. elim (same_or q (folder_at path)) [
    | inl at ↦ let F : List ℕ → Type 0 = IsToSync new in inl (subst F (sym at) above)
    | inr apart ↦ elim (same_or q path) [
      | inl here ↦ let F : List ℕ → Type 0 = IsToSync new in inl (subst F (sym here) noted)
      | inr elsewhere ↦ inr (put_stays path AFolder s q apart (λ e. absurd (elsewhere e)))
    ]
  ];
}

-- a name was changed, and its folder is noted
pub change_notes : (old new : Changed) (path : List ℕ) (before s : System) → ChangesName path before s → KeepsToSync old new → IsToSync new (folder_at path) → NotesNames old new before s
change_notes old new path before s changes keeps noted = record {
  keeps = keeps;
  folders = λ q. elim (changes q) [
    | inl at ↦ let F : List ℕ → Type 0 = IsToSync new in inl (subst F (sym at) noted)
    | inr stays ↦ inr stays
  ];
}

-- The same of systems that may be modelled.
pub becomes_same : (R : System → System → Type 0) (old new : Option Modelled) → ((s : System) → R s s) → new ≡ old → Becomes R old new
becomes_same R None new same e = e
becomes_same R (Some m) new same e = let F : Option Modelled → Type 0 = Becomes R (Some m) in subst F (sym e) (refl, same m.now)

pub becomes_done : (R : System → System → Type 0) (step : System → System) (old new : Option Modelled) → ((s : System) → R s (step s)) → new ≡ done_by step old → Becomes R old new
becomes_done R step None new does e = e
becomes_done R step (Some m) new does e = let F : Option Modelled → Type 0 = Becomes R (Some m) in subst F (sym e) (refl, does m.now)

pub becomes_map : (R S : System → System → Type 0) (old new : Option Modelled) → ((a b : System) → R a b → S a b) → Becomes R old new → Becomes S old new
becomes_map R S None new f is = is
becomes_map R S (Some m) None f is = elim is [ ]
becomes_map R S (Some m) (Some n) f is = (is.0, f m.now n.now is.1)

pub becomes_then : (R S T : System → System → Type 0) (old mid new : Option Modelled) → ((a b c : System) → R a b → S b c → T a c) → Becomes R old mid → Becomes S mid new → Becomes T old new
becomes_then R S T None mid new f first second =
    let F : Option Modelled → Type 0 = λ m. Becomes S m new in
    subst F first second
becomes_then R S T (Some m) None new f first second = elim first [ ]
becomes_then R S T (Some m) (Some n) None f first second = elim second [ ]
becomes_then R S T (Some m) (Some n) (Some o) f first second = (second.0 ∙ first.0, f m.now n.now o.now first.1 second.1)

-- what is noted, while no change has failed
pub noted_through : (spoiled : Bool) (old new : Changed) (m n : Option Modelled) → Becomes (NotesNames old new) m n → ∥ (spoiled ≡ false → IfModelled m (AreSyncedBut old)) ∥₁
    → ∥ (spoiled ≡ false → IfModelled n (AreSyncedBut new)) ∥₁
noted_through spoiled old new None n becomes is = let F : Option Modelled → Type 0 = λ k. ∥ (spoiled ≡ false → IfModelled k (AreSyncedBut new)) ∥₁ in subst F (sym becomes) ∣ (λ e. tt) ∣₁
noted_through spoiled old new (Some m) None becomes is = elim becomes [ ]
noted_through spoiled old new (Some m) (Some n) becomes is = ∥∥₁_map is (λ but sound. but_notes old new m.now n.now becomes.1 (but sound))

pub noted_kept : (spoiled : Bool) (changed : Changed) (m n : Option Modelled) → Becomes KeepsNames m n → ∥ (spoiled ≡ false → IfModelled m (AreSyncedBut changed)) ∥₁
    → ∥ (spoiled ≡ false → IfModelled n (AreSyncedBut changed)) ∥₁
noted_kept spoiled changed m n becomes is = noted_through spoiled changed changed m n (becomes_map KeepsNames (NotesNames changed changed) m n (notes_keeps changed) becomes) is

pub noted_same : (spoiled : Bool) (changed : Changed) (m n : Option Modelled) → n ≡ m → ∥ (spoiled ≡ false → IfModelled m (AreSyncedBut changed)) ∥₁ → ∥ (spoiled ≡ false → IfModelled n (AreSyncedBut changed)) ∥₁
noted_same spoiled changed m n same is = let F : Option Modelled → Type 0 = λ k. ∥ (spoiled ≡ false → IfModelled k (AreSyncedBut changed)) ∥₁ in subst F (sym same) is

pub all_noted : (changed : Changed) (m : Option Modelled) → changed.is_all ≡ true → IfModelled m (AreSyncedBut changed)
all_noted changed None all = tt
all_noted changed (Some m) all = λ name is there. inl (inl all)

pub noted_all : (spoiled : Bool) (changed : Changed) (m : Option Modelled) → changed.is_all ≡ true → ∥ (spoiled ≡ false → IfModelled m (AreSyncedBut changed)) ∥₁
noted_all spoiled changed m all = ∣ (λ e. all_noted changed m all) ∣₁

pub noted_spoiled : (spoiled : Bool) (changed : Changed) (m : Option Modelled) → spoiled ≡ true → ∥ (spoiled ≡ false → IfModelled m (AreSyncedBut changed)) ∥₁
noted_spoiled spoiled changed m is = ∣ (λ e. absurd (false≢true (sym e ∙ is))) ∣₁

-- what is noted, of a disk that goes on
pub noted_now : (spoiled : Bool) (changed : Changed) (m : Option Modelled) → spoiled ≡ false → ∥ (spoiled ≡ false → IfModelled m (AreSyncedBut changed)) ∥₁ → ∥ IfModelled m (AreSyncedBut changed) ∥₁
noted_now spoiled changed m sound is = ∥∥₁_map is (λ but. but sound)

-- a changed file's system
pub changed_keeps : (path : List ℕ) (step : FileState → FileState) (before s : System) → IsChanged path step before s → KeepsNames before s
changed_keeps path step before s is = let F : System → Type 0 = KeepsNames before in subst F (sym is.2) (content_keeps is.0 step before)

pub file_synced_keeps : (path : List ℕ) (before s : System) → HasFileAt before path (λ number. s ≡ with_synced_file number before) → KeepsNames before s
file_synced_keeps path before s is = let F : System → Type 0 = KeepsNames before in subst F (sym is.2) (content_keeps is.0 (λ f. if before.is_sound then synced f else f) before)

-- all that is noted was synced
noted_synced : (changed : Changed) (before s : System) → changed.is_all ≡ false → AreSyncedBut changed before → HasSameNodes before s → KeepsNames before s
    → All (λ name. IsSyncedFolder s (folder_text name)) changed.folders.items → (name : FolderName) → IsFolderName name → s.node (folder_text name) ≡ AFolder → IsSyncedFolder s (folder_text name)
noted_synced changed before s some but same keeps done name is there = elim (but name is (sym (same (folder_text name)) ∙ there)) [
  | inl noted ↦ elim noted [
    | inl all ↦ absurd (false≢true (sym some ∙ all))
    | inr one ↦
        let F : List ℕ → Type 0 = IsSyncedFolder s in
        subst F one.2 (All-contains (λ n. IsSyncedFolder s (folder_text n)) changed.folders.items one.0 done one.1)
  ]
  | inr synced ↦ record { there = there; names = λ p at. (keeps (folder_text name)).names p at (synced.names p at) }
]

pub all_synced : (changed : Changed) (folders : List FolderName) (old new : Option Modelled) → folders ≡ changed.folders.items → changed.is_all ≡ false → ∥ IfModelled old (AreSyncedBut changed) ∥₁
    → IfModelled old (λ s. s.node (folder_text folder.Top) ≡ AFolder) → Becomes HasSameNodes old new → Becomes KeepsNames old new
    → IfModelled new (λ s. All (λ name. IsSyncedFolder s (folder_text name)) folders) → ∥ IfModelled new (λ s. HasFolders s → AreSynced s) ∥₁
all_synced changed folders None new are some but top same keeps done = let F : Option Modelled → Type 0 = λ k. ∥ IfModelled k (λ s. HasFolders s → AreSynced s) ∥₁ in subst F (sym same) ∣ tt ∣₁
all_synced changed folders (Some m) None are some but top same keeps done = elim same [ ]
all_synced changed folders (Some m) (Some n) are some but top same keeps done = ∥∥₁_map but (λ b _.
    let F : List FolderName → Type 0 = All (λ name. IsSyncedFolder n.now (folder_text name)) in
    let each = noted_synced changed m.now n.now some b same.1 keeps.1 (subst F are done) in
    record { top = each folder.Top tt (same.1 (folder_text folder.Top) ∙ top); all = each })

-- after a sync of names none is noted
pub cleared_noted : (spoiled : Bool) (changed : Changed) (m : Option Modelled) (past : List System) (changes : List (Change × List ℕ)) → ∥ IfModelled m (λ s. HasFolders s → AreSynced s) ∥₁
    → ∥ IsDiskOver m past changes false ∥₁ → ∥ (spoiled ≡ false → IfModelled m (AreSyncedBut changed)) ∥₁
cleared_noted spoiled changed None past changes synced over = ∣ (λ e. tt) ∣₁
cleared_noted spoiled changed (Some m) past changes synced over = ∥∥₁_elim synced (hlevel props) (λ are. ∥∥₁_map over (λ o e name is there. inr ((are (o.is refl).system.folders).all name is there)))

-- a folder was made
pub made_notes : (name upper : FolderName) (path : List ℕ) (old mid new : Changed) (m n : Option Modelled) → path ≡ folder_text name → upper ≡ upper_of name → IsFolderName name
    → KeepsToSync old mid → IsToSync mid (folder_text upper) → KeepsToSync mid new → IsToSync new (folder_text name) → n ≡ done_by (with_node path AFolder) m → Becomes (NotesNames old new) m n
made_notes name upper path old mid new m n at up is first above second noted done =
    let F : List ℕ → Type 0 = IsToSync new in
    let folder_is : folder_text upper ≡ folder_at path = ap folder_text up ∙ sym (upper_at name is) ∙ ap folder_at (sym at) in
    becomes_done (NotesNames old new) (with_node path AFolder) m n
    (λ s. folder_notes old new path s (λ q is_noted. second q (first q is_noted)) (subst F (sym at) noted) (subst F folder_is (second (folder_text upper) above))) done

-- a file was removed, if one was there
pub removal_notes : (removed : Bool) (name : FileName) (path : List ℕ) (old new : Changed) (m n : Option Modelled) → IsStoreFile name → path ≡ path_text name
    → (removed ≡ true → Becomes (ChangesName path) m n) → (removed ≡ false → n ≡ m) → (removed ≡ true → IsToSync new (folder_text (folder_for name))) → KeepsToSync old new → Becomes (NotesNames old new) m n
removal_notes true name path old new m n file is changes same noted keeps =
    let F : List ℕ → Type 0 = IsToSync new in
    let at : folder_text (folder_for name) ≡ folder_at path = sym (file_folder name file) ∙ ap folder_at (sym is) in
    becomes_map (ChangesName path) (NotesNames old new) m n (λ before s c. change_notes old new path before s c keeps (subst F at (noted refl))) (changes refl)
removal_notes false name path old new m n file is changes same noted keeps =
    becomes_same (NotesNames old new) m n (λ s. record { keeps = keeps; folders = λ q. inr (stays_same s q) }) (same refl)

-- all names are durable, and no change of the disk but their sync is told
pub synced_seen : (old new : Option Modelled) (before past : List System) → IsUnseen old before new past false → ∥ IfModelled new (λ s. HasFolders s → AreSynced s) ∥₁ → IsSeenAs change.NamesSynced old before new past false
synced_seen old new before past is are = record {
  told = λ changes. history_as new changes change.NamesSynced ∙ ap (after (state_after change.NamesSynced [])) (is.told changes);
  over = λ changes over. ∥∥₁_elim are (hlevel props) (λ a. (names_seen old new before past is (durable_then new a)).over changes over);
  locked = is.locked;
}
  where
    durable_then : (m : Option Modelled) → IfModelled m (λ s. HasFolders s → AreSynced s) → IfModelled m (λ s. HasFolders s → HasDurableNames s)
    durable_then None a = tt
    durable_then (Some m) a = λ folders. durable m.now folders (a folders)

-- a file was made, after its folder and a sync of the names there
pub file_notes : (name : FileName) (path : List ℕ) (old mid new : Changed) (m n o p : Option Modelled) → IsStoreFile name → path ≡ path_text name → Becomes (NotesNames old mid) m n → Becomes KeepsNames n o
    → KeepsToSync mid new → IsToSync new (folder_text (folder_for name)) → Becomes (ChangesName path) o p → Becomes (NotesNames old new) m p
file_notes name path old mid new m n o p file is way synced keeps noted made =
    let F : List ℕ → Type 0 = IsToSync new in
    let at : folder_text (folder_for name) ≡ folder_at path = sym (file_folder name file) ∙ ap folder_at (sym is) in
    becomes_then (NotesNames old mid) (NotesNames mid new) (NotesNames old new) m n p (notes_then old mid new) way
    (becomes_then KeepsNames (ChangesName path) (NotesNames mid new) n o p (λ a b c stays changes. change_notes mid new path a c (λ q. elim (changes q) [
      | inl here ↦ inl here
      | inr after ↦ inr (stays_then a b c q (stays q) after)
    ]) keeps (subst F at noted)) synced made)
