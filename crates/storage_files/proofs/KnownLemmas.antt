-- A disk that has its storage files as they are known has them so after each call.
use Rattle.std.proofs.Common.{◌≡◌, ◌≢◌, inl, inr, ℕ, ◌+◌, List, length, true, false, Option, Some, None, refl, sym, ◌∙◌, ap, subst, length-append}
use Rattle.std.specs.Option.{option_map, option_map_or}
use Rattle.std.proofs.lemmas.Bool.{cases_Bool, cases_eq, cond-true, cond-false, false≢true}
use Rattle.std.proofs.lemmas.Option.{same_Some}
use Rattle.disk_model.specs.Disk.{FileState, DiskState, History, IfTold, Between, SameButFor, Keeps, reading, named, no_file}
use Rattle.disk_model.specs.declared.name.FileName.{FileName}
use Rattle.disk_model.specs.declared.name.FileName.TheVariants.{Root, Map, Box, Mail, Inst}
use Rattle.disk_model.proofs.MomentLemmas.{if_told-map}
use Rattle.disk_model.proofs.BetweenLemmas.{between-map, between-on}
use Rattle.storage_files.specs.declared.file.MailFile.{MailFile}
use Rattle.storage_files.specs.Files.{file_in, end_in, is_taken_in, changed_in, without_file, ending_at}
use Rattle.storage_files.specs.OnDisk.{IsAsKnown, IsAddedTo, OthersAreNamed}
use Rattle.storage_files.proofs.FileListLemmas.{ends-other, ends-here, ends-without, ends-without_it}

-- names of storage files

number_in : FileName → ℕ
number_in Root = 0
number_in (Map g) = 0
number_in (Box k g) = 0
number_in (Mail n) = n
number_in (Inst h i) = 0

mail_apart : (m n : ℕ) → m ≢ n → Mail m ≢ Mail n
unfolding number_in
mail_apart m n apart e = apart (ap number_in e)

-- a file that is looked up

pub taken-there : (files : List MailFile) (n : ℕ) → is_taken_in n files ≡ true → (f : MailFile) × (file_in n files ≡ Some f)
taken-there files n taken = there (file_in n files) taken
  where
    there : (o : Option MailFile) → option_map_or (λ f. f.taken) o false ≡ true → (f : MailFile) × (o ≡ Some f)
    there None t = absurd (false≢true t)
    there (Some f) t = (f, refl)

-- the other files read the same

abbrev pub ReadsTheOthers : ℕ → DiskState → DiskState → Type 0
ReadsTheOthers n a b = (other : FileName) → other ≢ Mail n → reading (b other) ≡ reading (a other)

pub same-reads : (n : ℕ) (old new : Option History) → SameButFor (Mail n) old new → Between (ReadsTheOthers n) old new
same-reads n old new same = between-map _ (ReadsTheOthers n) old new (λ a b e other apart. ap reading (e other apart)) same

named_reads : (f : FileState) → reading (named f) ≡ reading f
named_reads f = elim (cases_Bool f.is_there) [
  | inl there ↦
      ap reading (cond-true f.is_there (record f { is_name_loose = false }) no_file there)
  | inr gone ↦
      ap reading (cond-false f.is_there (record f { is_name_loose = false }) no_file gone)
      ∙ sym (cond-false f.is_there (Some f.octets) None gone)
]

pub named-reads : (n : ℕ) (old new : Option History) → OthersAreNamed (Mail n) old new → Between (ReadsTheOthers n) old new
named-reads n old new same = between-map _ (ReadsTheOthers n) old new (λ a b e other apart. ap reading (e other apart) ∙ named_reads (a other)) same

known_other : (n m : ℕ) (files later : List MailFile) (old new : Option History) → m ≢ n → end_in m later ≡ end_in m files → Between (ReadsTheOthers n) old new → IsAsKnown files m old → IsAsKnown later m new
known_other n m files later old new apart ends reads known =
    between-on (ReadsTheOthers n) (λ disk. option_map length (reading (disk (Mail m))) ≡ end_in m files) (λ disk. option_map length (reading (disk (Mail m))) ≡ end_in m later) old new
    (λ a b r k. ap (option_map length) (r (Mail m) (mail_apart m n apart)) ∙ k ∙ sym ends) reads known

-- this file has another end

pub known-ending : (n end : ℕ) (files : List MailFile) (f : MailFile) (old new : Option History) → file_in n files ≡ Some f → Between (ReadsTheOthers n) old new
    → IfTold new (λ disk. option_map length (reading (disk (Mail n))) ≡ Some end)
    → (m : ℕ) → IsAsKnown files m old → IsAsKnown (changed_in n (ending_at end) files) m new
known-ending n end files f old new there reads long m known = elim (cases_eq m n) [
  | inl same ↦
      let here : IsAsKnown (changed_in n (ending_at end) files) n new = if_told-map _ _ new (λ disk e. e ∙ sym (ends-here n end files f there)) long in
      subst (λ (k : ℕ). IsAsKnown (changed_in n (ending_at end) files) k new) (sym same) here
  | inr apart ↦ known_other n m files (changed_in n (ending_at end) files) old new apart (ends-other n m (ending_at end) files (λ g. refl) apart) reads known
]

pub kept-length : (name : FileName) (text : List ℕ) (new : Option History) → IfTold new (λ now. Keeps (now name) text) → IfTold new (λ disk. option_map length (reading (disk name)) ≡ Some (length text))
kept-length name text new keeps = if_told-map _ _ new (λ disk k. ap (option_map length) k.reads) keeps

pub added-length : (name : FileName) (end : ℕ) (from : List ℕ) (old new : Option History) → IfTold old (λ disk. option_map length (reading (disk name)) ≡ Some end)
    → Between (λ a b. IsAddedTo from (a name) (b name)) old new → IfTold new (λ disk. option_map length (reading (disk name)) ≡ Some (end + length from))
added-length name end from old new long added =
    between-on (λ a b. IsAddedTo from (a name) (b name)) (λ disk. option_map length (reading (disk name)) ≡ Some end) (λ disk. option_map length (reading (disk name)) ≡ Some (end + length from)) old new
    (λ a b r l.
    let before : length r.before ≡ end = same_Some _ _ (sym (ap (option_map length) r.read) ∙ l) in
    ap (option_map length) r.reads ∙ ap Some (length-append r.before from ∙ ap (λ (k : ℕ). k + length from) before)) added long

-- this file is gone

pub known-without : (n : ℕ) (files : List MailFile) (old new : Option History) → Between (ReadsTheOthers n) old new → IfTold new (λ disk. reading (disk (Mail n)) ≡ None)
    → (m : ℕ) → IsAsKnown files m old → IsAsKnown (without_file n files) m new
known-without n files old new reads gone m known = elim (cases_eq m n) [
  | inl same ↦
      let here : IsAsKnown (without_file n files) n new = if_told-map _ _ new (λ disk e. ap (option_map length) e ∙ sym (ends-without_it n files)) gone in
      subst (λ (k : ℕ). IsAsKnown (without_file n files) k new) (sym same) here
  | inr apart ↦ known_other n m files (without_file n files) old new apart (ends-without n m files apart) reads known
]
