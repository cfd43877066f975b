-- A store of which a storage file was pinned, taken to be emptied or taken anew, or in which placing in pieces was begun.
use Rattle.store_core.proofs.Common.{◌⊎◌, list_any, option_map_or, inl, inr, ◌≡◌, ◌≤◌, ◌-◌, ℕ, true, Option, Some, refl, sym, subst, arith, History, FileNo, MailFile, FilesValue, AreFilesInOrder, end_in, file_in, changed_in, StoreValue, IsStore}
use Rattle.std.specs.Prelude.{◌==◌}
use Rattle.storage_files.specs.declared.file.Take.{Take}
use Rattle.storage_files.specs.declared.file.Take.TheVariants.{Known, New, Full}
use Rattle.storage_files.specs.Files.{IsTakeNew, after_take, pins_in, with_pins, to_empty, placing_begun}
use Rattle.store_core.proofs.KeptFileLemmas.{IsStep, came_changed, pins_changed}
use Rattle.store_core.proofs.StoreFileLemmas.{store_came, store_begun}

pub stepped_store : {D : Type 0} → (h : Option History) (v : StoreValue D) (files : FilesValue) (n : ℕ) (step : MailFile → MailFile) → IsStep n step v.files.files → files ≡ record v.files { files = changed_in n step v.files.files }
    → ((f : MailFile) → file_in n v.files.files ≡ Some f → 1 ≤ (step f).pins → (1 ≤ f.pins) ⊎ (list_any (λ row. row.file == n) v.map.records ≡ true)) → ((number : ℕ) → end_in number files.files ≡ end_in number v.files.files) → IsStore h v → IsStore h (record v { files = files })
stepped_store h v files n step steps is pins ends s =
    subst (λ (f : FilesValue). IsStore h (record v { files = f })) (sym is)
    (store_came h v (record v.files { files = changed_in n step v.files.files }) (came_changed n step v.files.files steps) refl (pins_changed n step v.files.files v.map.records steps.number steps.doomed pins s.files.pinned) (λ number. subst (λ (f : FilesValue). end_in number f.files ≡ end_in number v.files.files) is (ends number)) s)

-- a file that has a region is pinned
pub pinned_store : {D : Type 0} → (h : Option History) (v : StoreValue D) (files : FilesValue) (n pins : ℕ) → files ≡ record v.files { files = changed_in n (with_pins pins) v.files.files } → list_any (λ row. row.file == n) v.map.records ≡ true
    → ((number : ℕ) → end_in number files.files ≡ end_in number v.files.files) → IsStore h v → IsStore h (record v { files = files })
pinned_store h v files n pins is has ends s =
    stepped_store h v files n (with_pins pins) (record { number = λ f. refl; sealed = λ f. refl; barred = λ f. refl; doomed = λ f. refl; taken = λ f at t. inl t; ends = λ f end at e. (end, e, omega arith) }) is (λ f at more. inr has) ends s

-- a pin is given back
pub unpinned_store : {D : Type 0} → (h : Option History) (v : StoreValue D) (files : FilesValue) (n pins : ℕ) → 1 ≤ pins_in n v.files.files → files ≡ record v.files { files = changed_in n (with_pins pins) v.files.files }
    → ((number : ℕ) → end_in number files.files ≡ end_in number v.files.files) → IsStore h v → IsStore h (record v { files = files })
unpinned_store h v files n pins pinned is ends s =
    stepped_store h v files n (with_pins pins) (record { number = λ f. refl; sealed = λ f. refl; barred = λ f. refl; doomed = λ f. refl; taken = λ f at t. inl t; ends = λ f end at e. (end, e, omega arith) }) is
    (λ f at more. inl (subst (λ (o : Option MailFile). 1 ≤ option_map_or (λ g. g.pins) o 0) at pinned)) ends s

pub emptied_store : {D : Type 0} → (h : Option History) (v : StoreValue D) (files : FilesValue) (n : ℕ) → files ≡ record v.files { files = changed_in n to_empty v.files.files }
    → ((number : ℕ) → end_in number files.files ≡ end_in number v.files.files) → IsStore h v → IsStore h (record v { files = files })
emptied_store h v files n is ends s =
    stepped_store h v files n to_empty (record { number = λ f. refl; sealed = λ f. refl; barred = λ f. refl; doomed = λ f. refl; taken = λ f at t. inl t; ends = λ f end at e. (end, e, omega arith) }) is (λ f at more. inl more) ends s

pub placing_store : {D : Type 0} → (h : Option History) (v : StoreValue D) (files : FilesValue) (n : ℕ) → files ≡ record v.files { files = changed_in n placing_begun v.files.files }
    → ((number : ℕ) → end_in number files.files ≡ end_in number v.files.files) → IsStore h v → IsStore h (record v { files = files })
placing_store h v files n is ends s =
    stepped_store h v files n placing_begun (record { number = λ f. refl; sealed = λ f. refl; barred = λ f. refl; doomed = λ f. refl; taken = λ f at t. inl t; ends = λ f end at e. (end, e, omega arith) }) is (λ f at more. inl more) ends s

pub taken_new_store : {D : Type 0} → (h : Option History) (v : StoreValue D) (files : FilesValue) (file_no : FileNo) → AreFilesInOrder v.files → IsTakeNew v.files (New file_no) → files ≡ after_take (New file_no) v.files
    → ((number : ℕ) → end_in number files.files ≡ end_in number v.files.files) → IsStore h v → IsStore h (record v { files = files; drawn = record v.drawn { file = file_no.0 } })
taken_new_store h v files file_no order is after ends s =
    subst (λ (f : FilesValue). IsStore h (record v { files = f; drawn = record v.drawn { file = file_no.0 } })) (sym after)
    (store_begun h v file_no (v.files.spare - 1) order is.0 is.1 (λ number. subst (λ (f : FilesValue). end_in number f.files ≡ end_in number v.files.files) after (ends number)) s)

-- all numbers are used up
pub full_store : {D : Type 0} → (h : Option History) (v : StoreValue D) (files : FilesValue) (take : Take) → ((file_no : FileNo) → take ≡ New file_no → ⊥) → IsTakeNew v.files take → files ≡ after_take take v.files → IsStore h v → IsStore h (record v { files = files })
full_store h v files (Known file_no) other is after s = absurd is
full_store h v files (New file_no) other is after s = absurd (other file_no refl)
full_store h v files Full other is after s = subst (λ (f : FilesValue). IsStore h (record v { files = f })) (sym after) s
