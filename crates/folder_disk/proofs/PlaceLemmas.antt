-- The paths of a store's folders, and what stands in them.
use Rattle.folder_disk.proofs.Common.{◌≡◌, ◌≢◌, ◌⊎◌, inl, inr, ℕ, ◌+◌, ◌<◌, ◌==◌, not, ◌&&◌, Bool, true, false, List, [], ◌∷◌, ◌++◌, length, Option, Some, None, codes, IsTrue, refl, sym, ◌∙◌, ap, subst, arith, list_all, cond-false, false≢true, encode_lower, FileName, path_text, IsStoreFile}
use Rattle.folder_disk.proofs.Common.{folder_at, IsPath, spelled, folder_text, folder_for, upper_of, IsFolderName, FolderName}
use Rattle.std.proofs.Common.{slice_index}
use Rattle.std.proofs.lemmas.List.{length-append}
use Rattle.hex.specs.Hex.{encode_with}
use Rattle.mdbox_base.specs.Numbers.{decimal_text}
use Rattle.mdbox_base.specs.Words.{is_other_than}
use Rattle.disk_model.specs.declared.name.FileName.TheVariants as file
use Rattle.file_paths.proofs.InstLemmas.{inst_text}
use Rattle.folder_model.specs.Paths.{put_before_slash, before_slash, or_current, IsPathName, Within, IsFolderPath}
use Rattle.disk_files.proofs.SpelledLemmas.{HasNo, none_in, no_slash_in_number, storage, mailboxes, attachments, digits_of, two_digits, octet_name, outer_path, regroup, inst_name}
use Rattle.folder_disk.specs.declared.folder_name.FolderName.TheVariants as folder
use Rattle.folder_disk.proofs.NameTestLemmas.{and_parts}

is_not : (b : Bool) → not b ≡ true → b ≡ false
is_not true e = absurd (false≢true e)
is_not false e = refl

before_none : (name : List ℕ) → HasNo 47 name → before_slash name ≡ None
before_none [] none = refl
before_none (octet ∷ rest) none =
    let parts = and_parts (is_other_than 47 octet) (list_all (is_other_than 47) rest) none in
    ap (put_before_slash octet) (before_none rest parts.1) ∙ cond-false (octet == 47) (Some []) None (is_not (octet == 47) parts.0)

before_within : (above name : List ℕ) → before_slash name ≡ None → before_slash (above ++ 47 ∷ name) ≡ Some above
before_within [] name none = ap (put_before_slash 47) none
before_within (octet ∷ above) name none = ap (put_before_slash octet) (before_within above name none)

-- what stands in a folder
pub folder_apart : (above name : List ℕ) → HasNo 47 name → folder_at (above ++ 47 ∷ name) ≡ above
folder_apart above name none = ap or_current (before_within above name (before_none name none))

inner_text : (first second : ℕ) → folder_text (folder.Inner first second) ≡ (codes "attachments/" ++ digits_of first) ++ 47 ∷ digits_of second
unfolding encode_with
inner_text first second = refl

-- the folder of a file
pub file_folder : (name : FileName) → IsStoreFile name → folder_at (path_text name) ≡ folder_text (folder_for name)
file_folder file.Root is = refl
file_folder (file.Map generation) is =
    folder_apart (codes "storage") (codes "map." ++ (decimal_text generation ++ codes ".log")) (none_in 47 (decimal_text generation) (codes ".log") (no_slash_in_number generation is) refl)
file_folder (file.Box number generation) is =
    folder_apart (codes "mailboxes") (codes "b." ++ (decimal_text number ++ (codes "." ++ (decimal_text generation ++ codes ".log"))))
    (none_in 47 (decimal_text number) (codes "." ++ (decimal_text generation ++ codes ".log")) (no_slash_in_number number is.0)
    (none_in 47 (decimal_text generation) (codes ".log") (no_slash_in_number generation is.1) refl))
file_folder (file.Mail number) is = folder_apart (codes "storage") (codes "m." ++ decimal_text number) (no_slash_in_number number is)
file_folder (file.Inst hash id) is =
    let first = slice_index hash 0 in
    let second = slice_index hash 1 in
    let text = encode_lower hash ++ (codes "-" ++ encode_lower id) in
    ap folder_at (inst_text hash id (omega (arith, is.0)) ∙ regroup first second text)
    ∙ folder_apart ((codes "attachments/" ++ digits_of first) ++ 47 ∷ digits_of second) text (inst_name hash id is).no_slash
    ∙ sym (inner_text first second)

-- a file's folder has the name of one
pub file_folder_name : (name : FileName) → IsStoreFile name → IsFolderName (folder_for name)
file_folder_name file.Root is = tt
file_folder_name (file.Map generation) is = tt
file_folder_name (file.Box number generation) is = tt
file_folder_name (file.Mail number) is = tt
file_folder_name (file.Inst hash id) is = (is.1 0 0 (omega (arith, is.0)), is.1 1 0 (omega (arith, is.0)))

-- a folder below the current one
pub folder_spelled : (name : FolderName) → name ≢ folder.Top → IsFolderName name → IsPath (folder_text name)
folder_spelled folder.Top below is = absurd (below refl)
folder_spelled folder.Storage below is = storage
folder_spelled folder.Mailboxes below is = mailboxes
folder_spelled folder.Attachments below is = attachments
folder_spelled (folder.Outer first) below is = outer_path first is
folder_spelled (folder.Inner first second) below is =
    let F : List ℕ → Type 0 = IsPath in
    subst F (sym (inner_text first second)) (Within (codes "attachments/" ++ digits_of first) (digits_of second) (outer_path first is.0) (octet_name second is.1))

pub folder_is_path : (name : FolderName) → IsFolderName name → IsFolderPath (folder_text name)
folder_is_path folder.Top is = inl refl
folder_is_path folder.Storage is = inr storage
folder_is_path folder.Mailboxes is = inr mailboxes
folder_is_path folder.Attachments is = inr attachments
folder_is_path (folder.Outer first) is = inr (outer_path first is)
folder_is_path (folder.Inner first second) is = inr (folder_spelled (folder.Inner first second) (λ e. let d : folder.Inner first second ≡ folder.Top = e in cc) is)

-- the folder that a folder stands in
pub upper_at : (name : FolderName) → IsFolderName name → folder_at (folder_text name) ≡ folder_text (upper_of name)
upper_at folder.Top is = refl
upper_at folder.Storage is = refl
upper_at folder.Mailboxes is = refl
upper_at folder.Attachments is = refl
upper_at (folder.Outer first) is = folder_apart (codes "attachments") (digits_of first) (octet_name first is).no_slash
upper_at (folder.Inner first second) is =
    ap folder_at (inner_text first second) ∙ folder_apart (codes "attachments/" ++ digits_of first) (digits_of second) (octet_name second is.1).no_slash

file_lengths : (name : FileName) → ((length (folder_text (folder_for name)) ≡ 7) ⊎ (length (folder_text (folder_for name)) ≡ 9)) ⊎ (length (folder_text (folder_for name)) ≡ 17)
file_lengths file.Root = inl (inl refl)
file_lengths (file.Map generation) = inl (inl refl)
file_lengths (file.Box number generation) = inl (inr refl)
file_lengths (file.Mail number) = inl (inl refl)
file_lengths (file.Inst hash id) =
    let first = slice_index hash 0 in
    let second = slice_index hash 1 in
    let a = two_digits first in
    let b = two_digits second in
    let long = length-append (digits_of first) (codes "/" ++ digits_of second) in
    inr (omega (arith, a, b, long))

upper_lengths : (name : FolderName) → ((length (folder_text (upper_of name)) ≡ 1) ⊎ (length (folder_text (upper_of name)) ≡ 11)) ⊎ (length (folder_text (upper_of name)) ≡ 14)
upper_lengths folder.Top = inl (inl refl)
upper_lengths folder.Storage = inl (inl refl)
upper_lengths folder.Mailboxes = inl (inl refl)
upper_lengths folder.Attachments = inl (inl refl)
upper_lengths (folder.Outer first) = inl (inr refl)
upper_lengths (folder.Inner first second) = let a = two_digits first in inr (omega (arith, a))

apart_lengths : (m n : ℕ) → ((m ≡ 7) ⊎ (m ≡ 9)) ⊎ (m ≡ 17) → ((n ≡ 1) ⊎ (n ≡ 11)) ⊎ (n ≡ 14) → m ≢ n
apart_lengths m n (inl (inl a)) (inl (inl b)) e = omega (arith, a, b, e)
apart_lengths m n (inl (inl a)) (inl (inr b)) e = omega (arith, a, b, e)
apart_lengths m n (inl (inl a)) (inr b) e = omega (arith, a, b, e)
apart_lengths m n (inl (inr a)) (inl (inl b)) e = omega (arith, a, b, e)
apart_lengths m n (inl (inr a)) (inl (inr b)) e = omega (arith, a, b, e)
apart_lengths m n (inl (inr a)) (inr b) e = omega (arith, a, b, e)
apart_lengths m n (inr a) (inl (inl b)) e = omega (arith, a, b, e)
apart_lengths m n (inr a) (inl (inr b)) e = omega (arith, a, b, e)
apart_lengths m n (inr a) (inr b) e = omega (arith, a, b, e)

-- no file of a store has a folder's path
pub no_file_at : (name : FolderName) → IsFolderName name → (n : FileName) → IsStoreFile n → path_text n ≢ folder_text name
no_file_at name is n file e =
    apart_lengths (length (folder_text (folder_for n))) (length (folder_text (upper_of name))) (file_lengths n) (upper_lengths name)
    (ap length (sym (file_folder n file) ∙ ap folder_at e ∙ upper_at name is))

-- a folder below the current one has another path
pub folder_not_top : (name : FolderName) → name ≢ folder.Top → folder_text name ≢ codes "."
folder_not_top folder.Top below e = below refl
folder_not_top folder.Storage below e = let l : 7 ≡ 1 = ap length e in omega (arith, l)
folder_not_top folder.Mailboxes below e = let l : 9 ≡ 1 = ap length e in omega (arith, l)
folder_not_top folder.Attachments below e = let l : 11 ≡ 1 = ap length e in omega (arith, l)
folder_not_top (folder.Outer first) below e = let l = ap length e in omega (arith, l)
folder_not_top (folder.Inner first second) below e = let l = ap length e in omega (arith, l)

-- the same of a path's text
pub folder_path_is : (name : FolderName) (path : List ℕ) → IsFolderName name → path ≡ folder_text name → IsFolderPath path
folder_path_is name path is at = let F : List ℕ → Type 0 = IsFolderPath in subst F (sym at) (folder_is_path name is)

pub folder_spelled_is : (name : FolderName) (path : List ℕ) → name ≢ folder.Top → IsFolderName name → path ≡ folder_text name → IsPath path
folder_spelled_is name path below is at = let F : List ℕ → Type 0 = IsPath in subst F (sym at) (folder_spelled name below is)

pub file_path_is : (name : FileName) (path : List ℕ) → IsStoreFile name → path ≡ path_text name → IsFolderPath path
file_path_is name path file at = let F : List ℕ → Type 0 = IsFolderPath in subst F (sym at) (inr (spelled name file))
