-- What the events of a delivery make of what is known of the storage files.
use Rattle.mail_save.proofs.Common.{◌≡◌, ◌≢◌, ◌==◌, ℕ, Bool, true, false, List, [], ◌∷◌, ◌++◌, Option, Some, None, refl, sym, ◌∙◌, ap, subst, inl, inr, is_some, if◌then◌else◌, option_map, option_map_or, option_and_then, cases_eq, FileNo, file-before_begun, file-begun, file-other, AreFilesInOrder}
use Rattle.mail_save.proofs.Common.{FilesValue, IsTakeFor, changed_in, end_in, ending_at, file_begun, file_in, given_back, is_taken_in, place_begun_in, released_in, with_taken, without_file, MailFile, Take, Known, New, Full, StoreValue, TookAs, roomy_files, taken_files}
use Rattle.std.proofs.lemmas.Bool.{false≢true}
use Rattle.std.proofs.lemmas.Option.{slice_get-get_or}
use Rattle.model_octets.proofs.PairLemmas.{found_holds}
use Rattle.storage_files.proofs.FileListLemmas.{KeepsNumber, file-found, file-here}
use Rattle.storage_files.specs.Files.{IsUsedFile}

-- ---- one file changes

-- what stays of the one that changes stays of each
pub value_changed : {X : Type 0} → (value : Option MailFile → X) (n m : ℕ) (step : MailFile → MailFile) (files : List MailFile) → KeepsNumber step → ((f : MailFile) → file_in n files ≡ Some f → value (Some (step f)) ≡ value (Some f)) → value (file_in m (changed_in n step files)) ≡ value (file_in m files)
value_changed value n m step files keeps stays = elim (cases_eq m n) [
  | inl same ↦ subst (λ (k : ℕ). value (file_in k (changed_in n step files)) ≡ value (file_in k files)) (sym same) (ap value (file-here n step files keeps) ∙ by_file (file_in n files) refl)
  | inr apart ↦ ap value (file-other n m step files keeps apart)
]
  where
    by_file : (o : Option MailFile) → file_in n files ≡ o → value (option_map step o) ≡ value o
    by_file None e = refl
    by_file (Some f) e = stays f e

-- what a new file has as none does
pub value_begun : {X : Type 0} → (value : Option MailFile → X) (file : FileNo) (m : ℕ) (files : List MailFile) → file_in file.0 files ≡ None → value (Some (file_begun file)) ≡ value None → value (file_in m (files ++ file_begun file ∷ [])) ≡ value (file_in m files)
value_begun value file m files none bare = elim (cases_eq m file.0) [
  | inl same ↦ subst (λ (k : ℕ). value (file_in k (files ++ file_begun file ∷ [])) ≡ value (file_in k files)) (sym same) (ap value (file-begun file files none) ∙ (bare ∙ sym (ap value none)))
  | inr apart ↦ ap value (file-before_begun file m files apart)
]

-- ---- a file is given back

-- one that is there
pub released_as : (n end : ℕ) (files : List MailFile) → end_in n files ≡ Some end → released_in n files ≡ changed_in n given_back files
released_as n end files ends = ap (λ (o : Option ℕ). if is_some o then changed_in n given_back files else without_file n files) ends

pub released_other : (n m end : ℕ) (files : List MailFile) → end_in n files ≡ Some end → m ≢ n → file_in m (released_in n files) ≡ file_in m files
released_other n m end files ends apart = ap (file_in m) (released_as n end files ends) ∙ file-other n m given_back files (λ f. refl) apart

-- nobody has taken it then
pub released_free : (n end : ℕ) (files : List MailFile) → end_in n files ≡ Some end → is_taken_in n (released_in n files) ≡ false
released_free n end files ends = ap (λ (o : Option MailFile). option_map_or (λ f. f.taken) o false) (ap (file_in n) (released_as n end files ends) ∙ file-here n given_back files (λ f. refl)) ∙ untaken (file_in n files)
  where
    untaken : (o : Option MailFile) → option_map_or (λ f. f.taken) (option_map given_back o) false ≡ false
    untaken None = refl
    untaken (Some f) = refl

-- ---- a file is used as it may be

found_used : (n : ℕ) (files : FilesValue) (f : MailFile) → AreFilesInOrder files → file_in n files.files ≡ Some f → IsUsedFile f
found_used n files f order found = (found_holds (λ g. g.file.0 == n) files.files f IsUsedFile found order.used).0

both_so : (b : Bool) → (b ≡ true → ⊥) → b ≡ false
both_so true f = absurd (f refl)
both_so false f = refl

unplaced : (o : Option ℕ) → ((start : ℕ) → o ≡ Some start → ⊥) → o ≡ None
unplaced None never = refl
unplaced (Some start) never = absurd (never start refl)

-- nothing is placed in pieces in one that nobody has taken
untaken_unplaced : (n : ℕ) (files : FilesValue) (f : MailFile) → AreFilesInOrder files → file_in n files.files ≡ Some f → f.taken ≡ false → f.begun ≡ None
untaken_unplaced n files f order found free = unplaced f.begun (λ start is. false≢true (sym free ∙ ((found_used n files f order found).placing start is).0))

-- one that is taken is neither emptied nor doomed
pub taken_unemptied : (n : ℕ) (files : FilesValue) (f : MailFile) → AreFilesInOrder files → file_in n files.files ≡ Some f → f.taken ≡ true → f.emptied ≡ false
taken_unemptied n files f order found taken = both_so f.emptied (λ e. false≢true (sym ((found_used n files f order found).emptied e).1 ∙ taken))

pub taken_undoomed : (n : ℕ) (files : FilesValue) (f : MailFile) → AreFilesInOrder files → file_in n files.files ≡ Some f → f.taken ≡ true → f.doomed ≡ false
taken_undoomed n files f order found taken = both_so f.doomed (λ e. false≢true (sym ((found_used n files f order found).doomed e).1 ∙ taken))

-- ---- a file is taken

-- the known one that was taken
pub take_found : (size : ℕ) (file : FileNo) (files : FilesValue) → AreFilesInOrder files → (is : IsTakeFor size files (Known file)) → file_in file.0 files.files ≡ Some is.0
take_found size file files order is = file-found files.files file.0 is.1.0 is.0 order.rising (slice_get-get_or files.files is.1.0 is.0 is.1.1 ∙ ap Some is.1.2) (ap (λ (n : FileNo). n.0) is.2)

-- files but the one that was taken are as they were
pub taken_other : {D : Type 0} → (take : Take) (header : ℕ) (file : FileNo) (old new : StoreValue D) (n : ℕ) → n ≢ file.0 → TookAs take header file old new → file_in n (taken_files take header (roomy_files old.files)).files ≡ file_in n old.files.files
taken_other (Known k) header file old new n apart t = file-other k.0 n (with_taken true) old.files.files (λ f. refl) (λ e. apart (e ∙ ap (λ (x : FileNo). x.0) t.0))
taken_other (New k) header file old new n apart t =
    let away : n ≢ k.0 = λ e. apart (e ∙ ap (λ (x : FileNo). x.0) t.0) in
    file-other k.0 n (ending_at header) (old.files.files ++ file_begun k ∷ []) (λ f. refl) away ∙ file-before_begun k n old.files.files away
taken_other Full header file old new n apart t = absurd t

-- nothing is being placed in it
known_begun : (n : ℕ) (files : List MailFile) (f : MailFile) → file_in n files ≡ Some f → f.begun ≡ None → place_begun_in n (changed_in n (with_taken true) files) ≡ None
known_begun n files f found none = ap (λ (o : Option MailFile). option_and_then (λ g. g.begun) o) (file-here n (with_taken true) files (λ g. refl) ∙ ap (option_map (with_taken true)) found) ∙ none

pub known_unbegun : {D : Type 0} → (size : ℕ) (file : FileNo) (old : StoreValue D) → AreFilesInOrder old.files → IsTakeFor size (roomy_files old.files) (Known file) → place_begun_in file.0 (changed_in file.0 (with_taken true) old.files.files) ≡ None
known_unbegun size file old order is =
    let found : file_in file.0 old.files.files ≡ Some is.0 = file-found old.files.files file.0 is.1.0 is.0 order.rising (slice_get-get_or old.files.files is.1.0 is.0 is.1.1 ∙ ap Some is.1.2) (ap (λ (n : FileNo). n.0) is.2) in
    known_begun file.0 old.files.files is.0 found (untaken_unplaced file.0 old.files is.0 order found is.3.free.free.untaken)

pub new_unbegun : (end : ℕ) (file : FileNo) (files : List MailFile) → file_in file.0 files ≡ None → place_begun_in file.0 (changed_in file.0 (ending_at end) (files ++ file_begun file ∷ [])) ≡ None
new_unbegun end file files none =
    ap (λ (o : Option MailFile). option_and_then (λ g. g.begun) o) (file-here file.0 (ending_at end) (files ++ file_begun file ∷ []) (λ g. refl) ∙ ap (option_map (ending_at end)) (file-begun file files none))
