-- A disk that was swept has each storage file as it was found before.
use Rattle.std.specs.Prelude.{find}
use Rattle.std.proofs.Common.{◌≡◌, ◌==◌, ◌||◌, inl, inr, ℕ, Bool, true, false, cond, List, [], ◌∷◌, length, map, Option, Some, None, All, refl, sym, ◌∙◌, ap, subst, arith}
use Rattle.std.specs.Option.{option_map, option_and_then}
use Rattle.std.proofs.lemmas.Bool.{cases_Bool, cond-true, cond-false, true≢false}
use Rattle.std.proofs.lemmas.Grind.{common_steps}
use Rattle.std.proofs.lemmas.List.Folds.{Any-from_list_any}
use Rattle.disk_model.specs.Disk.{FileState as FileOnDisk, DiskState, History, IfTold, IsThere, reading}
use Rattle.disk_model.specs.declared.name.FileName.TheVariants as file
use Rattle.model_meaning.specs.MapMeaning.{MapRecord, MapMeaning, is_sealed}
use Rattle.model_store.specs.Safe.{LiesInFile}
use Rattle.model_store.specs.Settled.{files_of}
use Rattle.storage_files.specs.Files.{end_in, file_in, file_found}
use Rattle.storage_files.specs.OnDisk.{IsAsKnown}
use Rattle.storage_files.specs.declared.file.FileState.{FileState}
use Rattle.storage_files.specs.declared.file.MailFile.{MailFile}
use Rattle.store_files.specs.Found.{length_on, end_found, AreFilesFound}
use Rattle.store_files.specs.Regions.{has_region, end_of, last_end}
use Rattle.store_sweep.specs.Moments.{IsFitted}
use Rattle.store_sweep.specs.Swept.{OpensWith, IsSwept}
use Rattle.store_sweep.specs.Wanted.{is_wanted}

-- ---- as a store knows it

pub found_in : (number : ℕ) (states : List FileState) → file_in number (map file_found states) ≡ option_map file_found (find (λ s. s.file.0 == number) states)
found_in number [] = refl
found_in number (s ∷ ss) = ap (λ (o : Option MailFile). cond (s.file.0 == number) (Some (file_found s)) o) (found_in number ss) ∙ step (s.file.0 == number) (find (λ t. t.file.0 == number) ss)
  where
    step : (b : Bool) (o : Option FileState) → cond b (Some (file_found s)) (option_map file_found o) ≡ option_map file_found (cond b (Some s) o)
    step true o = refl
    step false o = refl

end_known : (number : ℕ) (states : List FileState) → end_in number (map file_found states) ≡ end_found number states
end_known number states = ap (option_and_then (λ f. f.end)) (found_in number states) ∙ same (find (λ s. s.file.0 == number) states)
  where
    same : (o : Option FileState) → option_and_then (λ f. f.end) (option_map file_found o) ≡ option_map (λ s. s.end) o
    same None = refl
    same (Some s) = refl

-- ---- on the disk

long_there : (f : FileOnDisk) → IsThere f → option_map length (reading f) ≡ Some (length f.octets)
long_there f there = ap (option_map length) (cond-true f.is_there (Some f.octets) None there)

long_gone : (f : FileOnDisk) → f.is_there ≡ false → option_map length (reading f) ≡ None
long_gone f gone = ap (option_map length) (cond-false f.is_there (Some f.octets) None gone)

there_read : (f : FileOnDisk) (octets : List ℕ) → reading f ≡ Some octets → IsThere f
there_read f octets e = elim (cases_Bool f.is_there) [
  | inl there ↦ there
  | inr gone ↦ absurd (let w : None ≡ Some octets = sym (cond-false f.is_there (Some f.octets) None gone) ∙ e in cc)
]

-- a file that is cut isn't sealed
same_length : (m : MapMeaning) (number : ℕ) (f g : FileOnDisk) → is_sealed m number ≡ true → IsFitted m number f g → length g.octets ≡ length f.octets
same_length m number f g is fitted = elim fitted.content [
  | inl same ↦ ap length same.octets
  | inr cut ↦ absurd (true≢false (sym is ∙ cut.unsealed))
]

-- the states before a sweep and after it
abbrev Kept : ℕ → MapMeaning → DiskState → DiskState → Type 0
Kept generation m a b = (number : ℕ) → is_wanted generation m (file.Mail number) ≡ true → IsThere (a (file.Mail number)) → IsThere (b (file.Mail number))

abbrev Fitted : MapMeaning → DiskState → DiskState → Type 0
Fitted m a b = (number : ℕ) → IsThere (b (file.Mail number)) → IsFitted m number (a (file.Mail number)) (b (file.Mail number))

or_left : (a b : Bool) → a ≡ true → (a || b) ≡ true
or_left true b e = refl
or_left false b e = absurd (cc e)

or_right : (a b : Bool) → b ≡ true → (a || b) ≡ true
or_right true b e = refl
or_right false b e = e

or_none : (a b : Bool) → a ≡ false → b ≡ false → (a || b) ≡ true → ⊥
or_none false false e f t = cc t
or_none false true e f t = cc f
or_none true b e f t = cc e

-- a sealed file is as long as before, or not there
sealed_stays : (generation : ℕ) (m : MapMeaning) (number : ℕ) (a b : DiskState) → is_sealed m number ≡ true → Kept generation m a b → Fitted m a b → length_on b number ≡ length_on a number
sealed_stays generation m number a b is kept fitted = elim (cases_Bool (a (file.Mail number)).is_there) [
  | inl was ↦
      let there : IsThere (b (file.Mail number)) = kept number (or_left (is_sealed m number) (has_region m number) is) was in
      long_there (b (file.Mail number)) there ∙ ap Some (same_length m number (a (file.Mail number)) (b (file.Mail number)) is (fitted number there)) ∙ sym (long_there (a (file.Mail number)) was)
  | inr was_gone ↦ elim (cases_Bool (b (file.Mail number)).is_there) [
    | inl there ↦ absurd (true≢false (sym (fitted number there).was ∙ was_gone))
    | inr gone ↦ long_gone (b (file.Mail number)) gone ∙ sym (long_gone (a (file.Mail number)) was_gone)
  ]
]

same_number : (a b : ℕ) → (a == b) ≡ true → a ≡ b
same_number a b h = grind (arith, common_steps, h)

-- a file with a region is there
region_there : (m : MapMeaning) (number : ℕ) (a : DiskState) → All (LiesInFile (files_of a)) m.records → has_region m number ≡ true → IsThere (a (file.Mail number))
region_there m number a lie some =
    let x = Any-from_list_any (λ (row : MapRecord). row.file == number) m.records some in
    let in_file : LiesInFile (files_of a) x.1 = subst (LiesInFile (files_of a)) x.3 (lie x.0 x.1 x.2) in
    subst (λ (n : ℕ). IsThere (a (file.Mail n))) (same_number x.1.file number x.4) (there_read (a (file.Mail x.1.file)) in_file.octets in_file.there)

-- one that isn't sealed ends with its last region
open_ends : (generation : ℕ) (m : MapMeaning) (number : ℕ) (a b : DiskState) → is_sealed m number ≡ false → All (LiesInFile (files_of a)) m.records → Kept generation m a b
    → ((n : ℕ) → IsThere (b (file.Mail n)) → is_wanted generation m (file.Mail n) ≡ true) → ((n : ℕ) → IsThere (b (file.Mail n)) → is_sealed m n ≡ false → length (b (file.Mail n)).octets ≡ end_of m n)
    → length_on b number ≡ last_end m number
open_ends generation m number a b is_not lie kept only ends = elim (cases_Bool (has_region m number)) [
  | inl some ↦
      let there : IsThere (b (file.Mail number)) = kept number (or_right (is_sealed m number) (has_region m number) some) (region_there m number a lie some) in
      long_there (b (file.Mail number)) there ∙ ap Some (ends number there is_not) ∙ sym (cond-true (has_region m number) (Some (end_of m number)) None some)
  | inr none ↦ elim (cases_Bool (b (file.Mail number)).is_there) [
    | inl there ↦ absurd (or_none (is_sealed m number) (has_region m number) is_not none (only number there))
    | inr gone ↦ long_gone (b (file.Mail number)) gone ∙ sym (cond-false (has_region m number) (Some (end_of m number)) None none)
  ]
]

regions_lie : (generation : ℕ) (m : MapMeaning) (disk : DiskState) → OpensWith generation m disk → All (LiesInFile (files_of disk)) m.records
regions_lie generation m disk o = subst (λ (k : MapMeaning). All (LiesInFile (files_of disk)) k.records) (sym o.map_is) o.opens.regions

-- ---- behind a sweep

pub swept_known : (generation : ℕ) (m : MapMeaning) (states : List FileState) (old new : Option History) → IfTold old (OpensWith generation m) → AreFilesFound m old states → IsSwept generation m old new → (number : ℕ) → IsAsKnown (map file_found states) number new
swept_known generation m states old None opens found swept number = tt
swept_known generation m states None (Some b) opens found swept number = absurd (let w : Some b ≡ None = swept.reads in cc)
swept_known generation m states (Some a) (Some b) opens found swept number =
    let long : length_on b.now number ≡ end_found number states = elim (cases_Bool (is_sealed m number)) [
      | inl is ↦ sealed_stays generation m number a.now b.now is (λ n. swept.kept (file.Mail n)) swept.mail ∙ sym ((found.ends number).sealed is)
      | inr is_not ↦ open_ends generation m number a.now b.now is_not (regions_lie generation m a.now opens) (λ n. swept.kept (file.Mail n)) (λ n. swept.only (file.Mail n)) swept.ends ∙ sym ((found.ends number).unsealed is_not)
    ] in
    long ∙ sym (end_known number states)
