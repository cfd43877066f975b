-- The file that was taken is found as its taker's.
use Rattle.std.specs.Prelude.{Contains, slice_get}
use Rattle.std.proofs.Common.{◌≡◌, ℕ, ◌+◌, ◌≤◌, List, [], ◌∷◌, ◌++◌, true, false, Option, Some, None, All, refl, ◌∙◌, ap, arith}
use Rattle.std.specs.Option.{option_map, option_map_or, option_and_then}
use Rattle.std.proofs.lemmas.Option.{slice_get-get_or}
use Rattle.mdbox_base.specs.declared.ids.FileNo.{FileNo}
use Rattle.storage_files.specs.declared.file.MailFile.{MailFile}
use Rattle.storage_files.specs.Files.{file_in, end_in, is_taken_in, changed_in, with_taken, file_begun, MayBeTakenFor}
use Rattle.storage_files.proofs.SearchLemmas.{Rise}
use Rattle.storage_files.proofs.FileListLemmas.{file-none, file-found, file-here, file-begun}

-- a file that is among them is found by its number
pub contained-found : (n : ℕ) (files : List MailFile) (f : MailFile) → Rise files → Contains files f → f.file.0 ≡ n → file_in n files ≡ Some f
contained-found n files f rise at same = file-found files n at.0 f rise (slice_get-get_or files at.0 f at.1 ∙ ap Some at.2) same

pub given-known : (size n : ℕ) (files : List MailFile) (f : MailFile) → Rise files → Contains files f → f.file.0 ≡ n → MayBeTakenFor size f
    → (is_taken_in n (changed_in n (with_taken true) files) ≡ true) × ((end : ℕ) × (end_in n (changed_in n (with_taken true) files) ≡ Some end) × (end + size ≤ 10485760))
given-known size n files f rise at same room =
    let get : slice_get files at.0 ≡ Some f = slice_get-get_or files at.0 f at.1 ∙ ap Some at.2 in
    let old : file_in n files ≡ Some f = file-found files n at.0 f rise get same in
    let now : file_in n (changed_in n (with_taken true) files) ≡ Some (with_taken true f) = file-here n (with_taken true) files (λ g. refl) ∙ ap (option_map (with_taken true)) old in
    (ap (λ (o : Option MailFile). option_map_or (λ g. g.taken) o false) now, (room.end, ap (option_and_then (λ g. g.end)) now ∙ room.ends, room.room))

pub given-new : (file : FileNo) (highest : ℕ) (files : List MailFile) → All (λ f. f.file.0 ≤ highest) files → file.0 ≡ highest + 1
    → (is_taken_in file.0 (files ++ file_begun file ∷ []) ≡ true) × (end_in file.0 (files ++ file_begun file ∷ []) ≡ None)
given-new file highest files below next =
    let none : file_in file.0 files ≡ None = file-none file.0 files (λ k d lt e. let l = below k d lt in omega (arith, l, e, next)) in
    let now : file_in file.0 (files ++ file_begun file ∷ []) ≡ Some (file_begun file) = file-begun file files none in
    (ap (λ (o : Option MailFile). option_map_or (λ g. g.taken) o false) now, ap (option_and_then (λ g. g.end)) now)
