-- What is listed of a store's folders.
use Rattle.folder_disk.proofs.Common.{◌≡◌, ◌≢◌, ◌⊎◌, inl, inr, ℕ, ◌+◌, ◌<◌, ◌≤◌, Bool, true, false, List, [], ◌∷◌, ◌++◌, length, get_or, map, Option, Some, None, All, Contains, IsTrue, IsUtf8, codes, refl, sym, ◌∙◌, ap, subst, arith, Contains-append_right, encode_lower, folder_at, Node, Nothing}
use Rattle.folder_disk.proofs.Common.{PlainFile, AFolder, Another, System, ArePathsIn, Modelled, IfModelled, IfSound, kind_of_node, Kind, IsSoundSystem, folder_text, upper_of, IsFolderName, StandInFolders, KeepsAll, HasFoldersOf, HasAllFolders, HasOctetNames, FolderName}
use Rattle.std.proofs.Common.{append_assoc}
use Rattle.std.proofs.lemmas.List.{length-append, length-map, get_or-map}
use Rattle.std.proofs.lemmas.List.Elements.{Contains-append_left}
use Rattle.file_paths.proofs.InstLemmas.{one_octet}
use Rattle.model_octets.proofs.PiecesLemmas.{split_same}
use Rattle.model_storage.proofs.ReferenceLemmas.{hex_same}
use Rattle.folder_model.specs.System.{StandsIn}
use Rattle.folder_model.specs.declared.folder.Kind.TheVariants as kind
use Rattle.disk_files.proofs.SpelledLemmas.{two_digits, octet_name}
use Rattle.folder_disk.specs.declared.folder_name.FolderName.TheVariants as folder
use Rattle.folder_disk.proofs.EachLemmas.{EachSoFar}
use Rattle.folder_disk.proofs.PlaceLemmas.{folder_apart, upper_at, folder_not_top}
use Rattle.folder_disk.proofs.TextLemmas.{below_text}

-- an element with this view has what each has
pub found_in : {S : Type 0} (view : S → List ℕ) (P : S → Type 0) (xs : List S) (i : ℕ) (d : S) (p : List ℕ) → length xs ≤ i → EachSoFar P xs i → Contains (map view xs) p → (x : S) × (view x ≡ p) × P x
found_in view P xs i d p done each has =
    let long = length-map xs view in
    let within : has.0 < length xs = let b = has.1 in omega (arith, b, long) in
    (get_or xs has.0 d, sym (get_or-map view xs has.0 d p within) ∙ has.2, each has.0 d (omega (arith, within, done)))

-- what is found in a list
pub among : {A : Type 0} (P : A → Type 0) (xs : List A) (i : ℕ) (x : A) → length xs ≤ i → EachSoFar P xs i → Contains xs x → P x
among P xs i x done each has = let within = has.1 in subst P has.2 (each has.0 x (omega (arith, within, done)))

below_top : (above : List ℕ) (octet : ℕ) → above ++ (codes "/" ++ encode_lower (octet ∷ [])) ≢ codes "."
below_top above octet e =
    let long = length-append above (codes "/" ++ encode_lower (octet ∷ [])) in
    let two = two_digits octet in
    let l = ap length e in
    omega (arith, long, two, l)

-- the octet that this path spells in this folder is among these
abbrev pub ListsOctet : {S : Type 0} → (S → List ℕ) → List ℕ → List ℕ → S → Type 0
ListsOctet view above octets path = (octet : ℕ) → octet < 256 → view path ≡ above ++ (codes "/" ++ encode_lower (octet ∷ [])) → Contains octets octet

-- each octet that names what stands in a folder was listed
has_octets : {S : Type 0} (view : S → List ℕ) (s : System) (above : List ℕ) (paths : List S) (i : ℕ) (d : S) (octets : List ℕ) → IsUtf8 above → length paths ≤ i
    → ArePathsIn s above (map view paths)
    → EachSoFar (ListsOctet view above octets) paths i → HasOctetNames s above octets
has_octets view s above paths i d octets text done listed each octet fits stands =
    let p = above ++ (codes "/" ++ encode_lower (octet ∷ [])) in
    let x = found_in view (ListsOctet view above octets) paths i d p done each
    (listed.all p (record { in_folder = folder_apart above (encode_lower (octet ∷ [])) (octet_name octet fits).no_slash; below = below_top above octet; there = stands })
    (below_text above octet fits text)) in
    x.2 octet fits x.1

pub octets_told : {S : Type 0} (view : S → List ℕ) (m : Option Modelled) (above name : List ℕ) (paths : List S) (i : ℕ) (d : S) (octets : List ℕ) → IsUtf8 above → above ≡ name → length paths ≤ i
    → IsSoundSystem m → IfSound m (λ s. ArePathsIn s above (map view paths))
    → EachSoFar (ListsOctet view above octets) paths i → IfModelled m (λ s. HasOctetNames s name octets)
octets_told view None above name paths i d octets text at done sound listed each = tt
octets_told view (Some m) above name paths i d octets text at done sound listed each =
    let F : List ℕ → Type 0 = λ p. HasOctetNames m.now p octets in
    subst F at (has_octets view m.now above paths i d octets text done (listed sound) each)

-- a list that grows at its end
pub keeps_more : {A : Type 0} (xs : List A) (x : A) → KeepsAll xs (xs ++ x ∷ [])
keeps_more xs x name has = Contains-append_left xs (x ∷ []) name has

pub has_last : {A : Type 0} (xs : List A) (x : A) → Contains (xs ++ x ∷ []) x
has_last xs x = Contains-append_right xs (x ∷ []) x (0, omega arith, refl)

-- a folder that is there was added
pub added_told : (m : Option Modelled) (name : FolderName) (k : Kind) (names : List FolderName) → IfModelled m (λ s. k ≡ kind_of_node (s.node (folder_text name))) → (k ≡ kind.Folder → Contains names name)
    → IfModelled m (λ s. s.node (folder_text name) ≡ AFolder → Contains names name)
added_told None name k names is has = tt
added_told (Some m) name k names is has = λ there. has (is ∙ ap kind_of_node there)

-- more folders of instances
pub folders_more : (m : Option Modelled) (first : ℕ) (old new : List FolderName) → KeepsAll old new → IfModelled m (λ s. HasFoldersOf s first old) → IfModelled m (λ s. HasFoldersOf s first new)
folders_more None first old new keeps has = tt
folders_more (Some m) first old new keeps has = record {
  outer = λ there. keeps (folder.Outer first) (has.outer there);
  inner = λ second fits there. keeps (folder.Inner first second) (has.inner second fits there);
}

pub told_more : (m : Option Modelled) (name : FolderName) (old new : List FolderName) → KeepsAll old new → IfModelled m (λ s. s.node (folder_text name) ≡ AFolder → Contains old name)
    → IfModelled m (λ s. s.node (folder_text name) ≡ AFolder → Contains new name)
told_more None name old new keeps has = tt
told_more (Some m) name old new keeps has = λ there. keeps name (has there)

-- an outer folder and those in it were added
pub outer_told : (m : Option Modelled) (first : ℕ) (octets : List ℕ) (i : ℕ) (names : List FolderName) → IfModelled m (λ s. s.node (folder_text (folder.Outer first)) ≡ AFolder → Contains names (folder.Outer first))
    → IfModelled m (λ s. HasOctetNames s (folder_text (folder.Outer first)) octets) → length octets ≤ i
    → EachSoFar (λ second. IfModelled m (λ s. s.node (folder_text (folder.Inner first second)) ≡ AFolder → Contains names (folder.Inner first second))) octets i
    → IfModelled m (λ s. HasFoldersOf s first names)
outer_told None first octets i names outer has done each = tt
outer_told (Some m) first octets i names outer has done each = record {
  outer = outer;
  inner = λ second fits there.
      let stands : m.now.node (folder_text (folder.Outer first) ++ (codes "/" ++ encode_lower (second ∷ []))) ≢ Nothing = λ e. no_folder (sym there ∙ ap (λ p. m.now.node p) (inner_as first second) ∙ e) in
      among (λ second. m.now.node (folder_text (folder.Inner first second)) ≡ AFolder → Contains names (folder.Inner first second)) octets i second done each (has second fits stands) there;
}
  where
    no_folder : AFolder ≢ Nothing
    no_folder e = let d : AFolder ≡ Nothing = e in cc

    inner_as : (first second : ℕ) → folder_text (folder.Inner first second) ≡ folder_text (folder.Outer first) ++ (codes "/" ++ encode_lower (second ∷ []))
    inner_as first second = sym (append_three first second)
      where
        append_three : (first second : ℕ) → (codes "attachments/" ++ encode_lower (first ∷ [])) ++ (codes "/" ++ encode_lower (second ∷ [])) ≡ folder_text (folder.Inner first second)
        append_three first second = append_assoc (codes "attachments/") (encode_lower (first ∷ [])) (codes "/" ++ encode_lower (second ∷ []))

-- all folders were added
pub all_told : (m : Option Modelled) (octets : List ℕ) (i : ℕ) (names : List FolderName) → Contains names folder.Top
    → IfModelled m (λ s. s.node (folder_text folder.Storage) ≡ AFolder → Contains names folder.Storage)
    → IfModelled m (λ s. s.node (folder_text folder.Mailboxes) ≡ AFolder → Contains names folder.Mailboxes)
    → IfModelled m (λ s. s.node (folder_text folder.Attachments) ≡ AFolder → Contains names folder.Attachments)
    → IfModelled m (λ s. HasOctetNames s (folder_text folder.Attachments) octets) → length octets ≤ i
    → EachSoFar (λ first. IfModelled m (λ s. HasFoldersOf s first names)) octets i → IfModelled m (λ s. StandInFolders s → HasAllFolders s names)
all_told None octets i names top storage mailboxes attachments has done each = tt
all_told (Some m) octets i names top storage mailboxes attachments has done each = λ folders. record { top = top; all = all folders }
  where
    no_folder : AFolder ≢ Nothing
    no_folder e = let d : AFolder ≡ Nothing = e in cc

    outer : (first : ℕ) → first < 256 → m.now.node (folder_text (folder.Outer first)) ≡ AFolder → HasFoldersOf m.now first names
    outer first fits there = among (λ first. HasFoldersOf m.now first names) octets i first done each (has first fits (λ e. no_folder (sym there ∙ e)))

    all : StandInFolders m.now → (name : FolderName) → IsFolderName name → m.now.node (folder_text name) ≡ AFolder → Contains names name
    all folders folder.Top is there = top
    all folders folder.Storage is there = storage there
    all folders folder.Mailboxes is there = mailboxes there
    all folders folder.Attachments is there = attachments there
    all folders (folder.Outer first) is there = (outer first is there).outer there
    all folders (folder.Inner first second) is there =
        let name = folder.Inner first second in
        let up : m.now.node (folder_text (folder.Outer first)) ≡ AFolder = elim (folders (folder_text name) (folder_not_top name (λ e. let d : folder.Inner first second ≡ folder.Top = e in cc))) [
          | inl up ↦ ap (λ p. m.now.node p) (sym (upper_at name is)) ∙ up
          | inr none ↦ absurd (no_folder (sym there ∙ none))
        ] in
        (outer first is.0 up).inner second is.1 there

-- no octet but this one is spelled so
pub one_octet_spelled : (path above : List ℕ) (a b : ℕ) → a < 256 → b < 256 → path ≡ above ++ (codes "/" ++ encode_lower (a ∷ [])) → path ≡ above ++ (codes "/" ++ encode_lower (b ∷ [])) → a ≡ b
one_octet_spelled path above a b fits_a fits_b p q =
    let e = (split_same above above _ _ refl (sym p ∙ q)).1 in
    let d = (split_same (codes "/") (codes "/") _ _ refl e).1 in
    let same = hex_same (a ∷ []) (b ∷ []) (one_octet a fits_a) (one_octet b fits_b) d in
    cc same

-- an octet that was added at the end, of a list of octets
pub added_octet : (path above old new : List ℕ) (o : ℕ) → ((i d : ℕ) → i < length new → get_or new i d < 256) → new ≡ old ++ o ∷ [] → path ≡ above ++ (codes "/" ++ encode_lower (o ∷ []))
    → (octet : ℕ) → octet < 256 → path ≡ above ++ (codes "/" ++ encode_lower (octet ∷ [])) → Contains new octet
added_octet path above old new o are is spelled octet fits also =
    let F : List ℕ → Type 0 = λ l. Contains l o in
    let has : Contains new o = subst F (sym is) (has_last old o) in
    let G : ℕ → Type 0 = λ n. n < 256 in
    let own : o < 256 = subst G has.2 (are has.0 o has.1) in
    let H : ℕ → Type 0 = λ n. Contains new n in
    subst H (one_octet_spelled path above o octet own fits spelled also) has

-- the same system at another moment
pub told_at : (m n : Option Modelled) (name : FolderName) (names : List FolderName) → m ≡ n → IfModelled m (λ s. s.node (folder_text name) ≡ AFolder → Contains names name)
    → IfModelled n (λ s. s.node (folder_text name) ≡ AFolder → Contains names name)
told_at m n name names same told = let F : Option Modelled → Type 0 = λ k. IfModelled k (λ s. s.node (folder_text name) ≡ AFolder → Contains names name) in subst F same told

pub outer_at : (m n : Option Modelled) (first : ℕ) (names : List FolderName) → m ≡ n → IfModelled m (λ s. HasFoldersOf s first names) → IfModelled n (λ s. HasFoldersOf s first names)
outer_at m n first names same told = let F : Option Modelled → Type 0 = λ k. IfModelled k (λ s. HasFoldersOf s first names) in subst F same told
