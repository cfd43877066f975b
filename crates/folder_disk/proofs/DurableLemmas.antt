-- The names of a disk, once those of each folder were synced.
use Rattle.folder_disk.proofs.Common.{◌≡◌, ◌≢◌, inl, inr, ℕ, ◌<◌, Bool, true, false, List, [], ◌∷◌, length, Option, Some, None, Contains, codes, refl, sym, ◌∙◌, ap, subst, arith, cases_Bool, cond-true, cond-false, false≢true, FileState, DiskState, MayLeave, reading, no_file, change_all, named}
use Rattle.folder_disk.proofs.Common.{FileName, path_text, IsStoreFile, folder_at, Node, Nothing, PlainFile, AFolder, System, MayStand, Modelled, StaysFolder, FollowsSystem, HasDurableNames, covered, Change, folder_text, folder_for, upper_of, IsFolderName, IsSyncedFolder, AreSynced, HasFolders}
use Rattle.folder_disk.proofs.Common.{IsStoreDisk, IsOver, FolderName, hold_is}
use Rattle.disk_files.specs.Follows.{Current, Below}
use Rattle.disk_files.proofs.NameStepLemmas.{names_follow}
use Rattle.disk_record.specs.declared.change.Change.TheVariants.{NamesSynced}
use Rattle.folder_disk.specs.declared.folder_name.FolderName.TheVariants as folder
use Rattle.folder_disk.proofs.OverLemmas.{so_far, over_goes_on}
use Rattle.folder_disk.proofs.PlaceLemmas.{file_folder, file_folder_name, folder_not_top, upper_at, no_file_at}

none_earlier : (s : System) (path : List ℕ) (node : Node) → s.earlier path ≡ [] → MayStand s path node → node ≡ s.node path
none_earlier s path node none (inl now) = now
none_earlier s path node none (inr earlier) =
    let F : List Node → Type 0 = λ l. Contains l node in
    let has = subst F none earlier in
    absurd (let below : has.0 < 0 = has.1 in omega arith)

-- a folder stays where the one above does
below_stays : (s : System) (name : FolderName) → IsFolderName name → s.node (folder_text name) ≡ AFolder → IsSyncedFolder s (folder_text (upper_of name)) → StaysFolder s (folder_text (upper_of name))
    → StaysFolder s (folder_text name)
below_stays s name is there synced above =
    let path = folder_text name in
    let F : List ℕ → Type 0 = StaysFolder s in
    Below path (λ node may. none_earlier s path node (synced.names path (upper_at name is)) may ∙ there) (subst F (sym (upper_at name is)) above)

upper_there : (s : System) (name : FolderName) → name ≢ folder.Top → IsFolderName name → HasFolders s → s.node (folder_text name) ≡ AFolder → s.node (folder_text (upper_of name)) ≡ AFolder
upper_there s name below is folders there = elim (folders (folder_text name) (folder_not_top name below)) [
  | inl up ↦ ap (λ p. s.node p) (sym (upper_at name is)) ∙ up
  | inr none ↦ absurd (let e : Nothing ≡ AFolder = sym none.0 ∙ there in cc)
]

outer_stays : (s : System) (first : ℕ) → first < 256 → HasFolders s → AreSynced s → s.node (folder_text (folder.Outer first)) ≡ AFolder → StaysFolder s (folder_text (folder.Outer first))
outer_stays s first is folders synced there =
    let up = upper_there s (folder.Outer first) (λ e. let d : folder.Outer first ≡ folder.Top = e in cc) is folders there in
    below_stays s (folder.Outer first) is there (synced.all folder.Attachments tt up) (below_stays s folder.Attachments tt up synced.top Current)

stays : (s : System) (name : FolderName) → IsFolderName name → HasFolders s → AreSynced s → s.node (folder_text name) ≡ AFolder → StaysFolder s (folder_text name)
stays s folder.Top is folders synced there = Current
stays s folder.Storage is folders synced there = below_stays s folder.Storage tt there synced.top Current
stays s folder.Mailboxes is folders synced there = below_stays s folder.Mailboxes tt there synced.top Current
stays s folder.Attachments is folders synced there = below_stays s folder.Attachments tt there synced.top Current
stays s (folder.Outer first) is folders synced there = outer_stays s first is folders synced there
stays s (folder.Inner first second) is folders synced there =
    let up = upper_there s (folder.Inner first second) (λ e. let d : folder.Inner first second ≡ folder.Top = e in cc) is folders there in
    below_stays s (folder.Inner first second) is there (synced.all (folder.Outer first) is.0 up) (outer_stays s first is.0 folders synced up)

-- each name of a file is durable, once those in each folder are
pub durable : (s : System) → HasFolders s → AreSynced s → HasDurableNames s
durable s folders synced = record {
  stays = λ name file node may.
      let path = path_text name in
      elim (folders path (no_file_at folder.Top tt name file)) [
        | inl up ↦
            let at = file_folder name file in
            let is = synced.all (folder_for name) (file_folder_name name file) (ap (λ p. s.node p) (sym at) ∙ up) in
            none_earlier s path node (is.names path at) may
        | inr none ↦ none_earlier s path node none.1 may
      ];
  folders = λ name number file stands.
      let path = path_text name in
      let at = file_folder name file in
      elim (folders path (no_file_at folder.Top tt name file)) [
        | inl up ↦
            let F : List ℕ → Type 0 = StaysFolder s in
            subst F (sym at) (stays s (folder_for name) (file_folder_name name file) folders synced (ap (λ p. s.node p) (sym at) ∙ up))
        | inr none ↦ absurd (let e : PlainFile number ≡ Nothing = sym stands ∙ none.0 in cc)
      ];
}

named_reads : (f : FileState) → MayLeave f (reading f) → MayLeave (named f) (reading (named f))
named_reads f left = elim (cases_Bool f.is_there) [
  | inl there ↦
      let hold = hold_is f there left in
      let g = record f { is_name_loose = false } in
      let F : FileState → Type 0 = λ h. MayLeave h (reading h) in
      let G : Option (List ℕ) → Type 0 = MayLeave g in
      subst F (sym (cond-true f.is_there g no_file there)) (subst G (sym (cond-true f.is_there (Some f.octets) None there))
      (record { named = inl there; least = hold.least; greatest = hold.greatest; same = hold.same; are_octets = hold.are_octets }))
  | inr gone ↦
      let F : FileState → Type 0 = λ h. MayLeave h (reading h) in
      subst F (sym (cond-false f.is_there (record f { is_name_loose = false }) no_file gone)) (inl refl)
]

named_gone : (f : FileState) → f.is_there ≡ false → (named f).is_there ≡ false
named_gone f gone = ap (λ (h : FileState). h.is_there) (cond-false f.is_there (record f { is_name_loose = false }) no_file gone)

-- all names were synced
pub named_one : (m : Modelled) (past : List System) (changes : List (Change × List ℕ)) (none : List ℕ) → (HasFolders m.now → HasDurableNames m.now) → IsOver m past changes false
    → IsOver m past ((NamesSynced, none) ∷ changes) false
named_one m past changes none are over =
    let disk = (so_far m changes).now in
    let next = change_all named disk in
    let d = over.is refl in
    let follows : FollowsSystem next m.now = names_follow disk m.now (are d.system.folders) d.follows in
    over_goes_on m m past past changes NamesSynced none false false over refl (λ s has. inl has) (covered next m.now follows)
    (record { reads = λ n. named_reads (disk n) (over.disk.reads n); none = λ n other. named_gone (disk n) (over.disk.none n other) })
    (λ e. record { follows = follows; system = d.system })
