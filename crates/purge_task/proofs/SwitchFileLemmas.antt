-- What is known of the storage files where one was switched.
use Rattle.purge_task.proofs.Common.{◌≡◌, ◌≢◌, ◌==◌, ℕ, Bool, true, false, List, Option, Some, None, refl, sym, ◌∙◌, ap, subst, inl, inr, All, is_some, nat_lt, if◌then◌else◌, option_and_then, option_map, option_map_or, cases_eq, eq-eqb, ne_eqb, All-contains, FileNo, found_one, IsUsedFile}
use Rattle.purge_task.proofs.Common.{changed_in, end_in, file_in, given_back, is_doomed_in, is_taken_in, made_doomed, pins_in, released_in, without_file, MailFile, ends-kept, file-here, file-other, files_switched, fall}
use Rattle.storage_files.specs.Files.{placing_ended}
use Rattle.purge_task.proofs.SwitchSeenLemmas.{IsDoomedOf}

-- ---- a target that is there

-- It is known, its taker's, and there.
pub record IsWrittenFile (t : ℕ) (files : List MailFile) : Type 0 where
  pub f : MailFile
  pub found : file_in t files ≡ Some f
  pub taken : f.taken ≡ true
  pub end : ℕ
  pub ends : f.end ≡ Some end
  pub used : IsUsedFile f

pub written_file : (t end : ℕ) (files : List MailFile) → All IsUsedFile files → is_taken_in t files ≡ true → end_in t files ≡ Some end → IsWrittenFile t files
written_file t end files used taken ends = by_case (file_in t files) refl
  where
    by_case : (o : Option MailFile) → file_in t files ≡ o → IsWrittenFile t files
    by_case None is = absurd (let k : false ≡ true = sym (ap (λ (o : Option MailFile). option_map_or (λ f. f.taken) o false) is) ∙ taken in cc k)
    by_case (Some f) is = record {
      f = f;
      found = is;
      taken = sym (ap (λ (o : Option MailFile). option_map_or (λ f. f.taken) o false) is) ∙ taken;
      end = end;
      ends = sym (ap (λ (o : Option MailFile). option_and_then (λ f. f.end) o) is) ∙ ends;
      used = All-contains IsUsedFile files f used (found_one (λ (g : MailFile). g.file.0 == t) files f is).0;
    }

unflagged : (b c : Bool) → c ≡ true → (b ≡ true → c ≡ false) → b ≡ false
unflagged true c taken never = absurd (fall c taken (never refl))
unflagged false c taken never = refl

pub written_unemptied : (t : ℕ) (files : List MailFile) → (w : IsWrittenFile t files) → w.f.emptied ≡ false
written_unemptied t files w = unflagged w.f.emptied w.f.taken w.taken (λ e. (w.used.emptied e).1)

pub written_undoomed : (t : ℕ) (files : List MailFile) → (w : IsWrittenFile t files) → w.f.doomed ≡ false
written_undoomed t files w = unflagged w.f.doomed w.f.taken w.taken (λ e. (w.used.doomed e).1)

-- ---- by file

abbrev pub at_target : Option FileNo → ℕ → Bool
at_target target n = option_map_or (λ t. t.0 == n) target false

-- what changes of the file that was switched, of its target, and of others
abbrev pub switched_file : Bool → Bool → MailFile → MailFile
switched_file true target f = made_doomed f
switched_file false true f = given_back f
switched_file false false f = f

-- the target, if there is one, is another file, which is there
abbrev pub IsOtherThere : ℕ → Option FileNo → List MailFile → Type 0
IsOtherThere s None files = Unit {0}
IsOtherThere s (Some t) files = (t.0 ≢ s) × ((end : ℕ) × (end_in t.0 files ≡ Some end))

mapped : (step other : MailFile → MailFile) (o : Option MailFile) → ((f : MailFile) → step f ≡ other f) → option_map step o ≡ option_map other o
mapped step other None same = refl
mapped step other (Some f) same = ap Some (same f)

mapped_twice : (o : Option MailFile) → option_map given_back (option_map placing_ended o) ≡ option_map given_back o
mapped_twice None = refl
mapped_twice (Some f) = refl

mapped_once : (o : Option MailFile) → o ≡ option_map (λ (f : MailFile). f) o
mapped_once None = refl
mapped_once (Some f) = refl

as_step : (a b : Bool) (step : MailFile → MailFile) (o : Option MailFile) (c d : Bool) → a ≡ c → b ≡ d → ((f : MailFile) → step f ≡ switched_file c d f) → option_map step o ≡ option_map (switched_file a b) o
as_step a b step o c d first second same = mapped step (switched_file c d) o same ∙ ap (λ (x : Bool). option_map (switched_file x d) o) (sym first) ∙ ap (λ (x : Bool). option_map (switched_file a x) o) (sym second)

pub file_switched : (n s : ℕ) (target : Option FileNo) (files : List MailFile) → IsOtherThere s target files → file_in n (files_switched s target files) ≡ option_map (switched_file (n == s) (at_target target n)) (file_in n files)
file_switched n s None files h = elim (cases_eq n s) [
  | inl is ↦ ap (λ (i : ℕ). file_in i (changed_in s made_doomed files)) is ∙ (file-here s made_doomed files (λ f. refl) ∙ (ap (λ (i : ℕ). option_map made_doomed (file_in i files)) (sym is) ∙ as_step (n == s) false made_doomed (file_in n files) true false (eq-eqb n s is) refl (λ f. refl)))
  | inr apart ↦ file-other s n made_doomed files (λ f. refl) apart ∙ (mapped_once (file_in n files) ∙ as_step (n == s) false (λ f. f) (file_in n files) false false (ne_eqb n s apart) refl (λ f. refl))
]
file_switched n s (Some t) files h = ap (λ (fs : List MailFile). file_in n fs) released ∙ by_file
  where
    ended : List MailFile
    ended = changed_in t.0 placing_ended files

    doomed : List MailFile
    doomed = changed_in s made_doomed ended

    there : is_some (end_in t.0 doomed) ≡ true
    there = ap is_some (ends-kept s t.0 made_doomed ended (λ f. refl) (λ f. refl) ∙ (ends-kept t.0 t.0 placing_ended files (λ f. refl) (λ f. refl) ∙ h.1.1))

    released : released_in t.0 doomed ≡ changed_in t.0 given_back doomed
    released = ap (λ (b : Bool). if b then changed_in t.0 given_back doomed else without_file t.0 doomed) there

    by_file : file_in n (changed_in t.0 given_back doomed) ≡ option_map (switched_file (n == s) (t.0 == n)) (file_in n files)
    by_file = elim (cases_eq n t.0) [
      | inl is ↦
          let apart : n ≢ s = λ e. h.0 (sym is ∙ e) in
          let first : file_in n (changed_in t.0 given_back doomed) ≡ option_map given_back (file_in n doomed) = subst (λ (i : ℕ). file_in i (changed_in t.0 given_back doomed) ≡ option_map given_back (file_in i doomed)) (sym is) (file-here t.0 given_back doomed (λ f. refl)) in
          let second : file_in n doomed ≡ file_in n ended = file-other s n made_doomed ended (λ f. refl) apart in
          let third : file_in n ended ≡ option_map placing_ended (file_in n files) = subst (λ (i : ℕ). file_in i ended ≡ option_map placing_ended (file_in i files)) (sym is) (file-here t.0 placing_ended files (λ f. refl)) in
          first ∙ (ap (λ (o : Option MailFile). option_map given_back o) (second ∙ third) ∙ (mapped_twice (file_in n files) ∙ as_step (n == s) (t.0 == n) given_back (file_in n files) false true (ne_eqb n s apart) (eq-eqb t.0 n (sym is)) (λ f. refl)))
      | inr other ↦
          let miss : (t.0 == n) ≡ false = ne_eqb t.0 n (λ e. other (sym e)) in
          let first : file_in n (changed_in t.0 given_back doomed) ≡ file_in n doomed = file-other t.0 n given_back doomed (λ f. refl) other in
          let third : file_in n ended ≡ file_in n files = file-other t.0 n placing_ended files (λ f. refl) other in
          first ∙ elim (cases_eq n s) [
            | inl is ↦
                let second : file_in n doomed ≡ option_map made_doomed (file_in n ended) = subst (λ (i : ℕ). file_in i doomed ≡ option_map made_doomed (file_in i ended)) (sym is) (file-here s made_doomed ended (λ f. refl)) in
                second ∙ (ap (λ (o : Option MailFile). option_map made_doomed o) third ∙ as_step (n == s) (t.0 == n) made_doomed (file_in n files) true false (eq-eqb n s is) miss (λ f. refl))
            | inr apart ↦ file-other s n made_doomed ended (λ f. refl) apart ∙ (third ∙ (mapped_once (file_in n files) ∙ as_step (n == s) (t.0 == n) (λ f. f) (file_in n files) false false (ne_eqb n s apart) miss (λ f. refl)))
          ]
    ]

-- where it is known which file it is
pub switched_at : (n s : ℕ) (target : Option FileNo) (files : List MailFile) (a b : Bool) → IsOtherThere s target files → (n == s) ≡ a → at_target target n ≡ b → file_in n (files_switched s target files) ≡ option_map (switched_file a b) (file_in n files)
switched_at n s target files a b h first second = file_switched n s target files h ∙ (ap (λ (x : Bool). option_map (switched_file x (at_target target n)) (file_in n files)) first ∙ ap (λ (x : Bool). option_map (switched_file a x) (file_in n files)) second)

-- another file is as it was
pub switched_other : (n s : ℕ) (target : Option FileNo) (files : List MailFile) → IsOtherThere s target files → (n == s) ≡ false → at_target target n ≡ false → file_in n (files_switched s target files) ≡ file_in n files
switched_other n s target files h first second = switched_at n s target files false false h first second ∙ sym (mapped_once (file_in n files))

-- ---- what stays

-- what a switch changes of no file
pub switched_keeps : {X : Type 0} → (value : MailFile → X) (d : X) (n s : ℕ) (target : Option FileNo) (files : List MailFile) → IsOtherThere s target files → ((a b : Bool) (f : MailFile) → value (switched_file a b f) ≡ value f) → option_map_or value (file_in n (files_switched s target files)) d ≡ option_map_or value (file_in n files) d
switched_keeps value d n s target files h same = ap (λ (o : Option MailFile). option_map_or value o d) (file_switched n s target files h) ∙ by_case (file_in n files)
  where
    by_case : (o : Option MailFile) → option_map_or value (option_map (switched_file (n == s) (at_target target n)) o) d ≡ option_map_or value o d
    by_case None = refl
    by_case (Some f) = same (n == s) (at_target target n) f

-- what it changes of no other than the one that was switched
pub switched_keeps_other : {X : Type 0} → (value : MailFile → X) (d : X) (n s : ℕ) (target : Option FileNo) (files : List MailFile) → IsOtherThere s target files → n ≢ s → ((b : Bool) (f : MailFile) → value (switched_file false b f) ≡ value f) → option_map_or value (file_in n (files_switched s target files)) d ≡ option_map_or value (file_in n files) d
switched_keeps_other value d n s target files h apart same = ap (λ (o : Option MailFile). option_map_or value o d) (switched_at n s target files false (at_target target n) h (ne_eqb n s apart) refl) ∙ by_case (file_in n files)
  where
    by_case : (o : Option MailFile) → option_map_or value (option_map (switched_file false (at_target target n)) o) d ≡ option_map_or value o d
    by_case None = refl
    by_case (Some f) = same (at_target target n) f

same_pins : (a b : Bool) (f : MailFile) → (switched_file a b f).pins ≡ f.pins
same_pins true b f = refl
same_pins false true f = refl
same_pins false false f = refl

same_barred : (a b : Bool) (f : MailFile) → (switched_file a b f).barred ≡ f.barred
same_barred true b f = refl
same_barred false true f = refl
same_barred false false f = refl

same_end : (a b : Bool) (f : MailFile) → (switched_file a b f).end ≡ f.end
same_end true b f = refl
same_end false true f = refl
same_end false false f = refl

same_doomed : (b : Bool) (f : MailFile) → (switched_file false b f).doomed ≡ f.doomed
same_doomed true f = refl
same_doomed false f = refl

pub switched_pins : (n s : ℕ) (target : Option FileNo) (files : List MailFile) → IsOtherThere s target files → pins_in n (files_switched s target files) ≡ pins_in n files
switched_pins n s target files h = switched_keeps (λ f. f.pins) 0 n s target files h same_pins

pub switched_ends : (n s : ℕ) (target : Option FileNo) (files : List MailFile) → IsOtherThere s target files → end_in n (files_switched s target files) ≡ end_in n files
switched_ends n s target files h = ap (λ (o : Option MailFile). option_and_then (λ f. f.end) o) (file_switched n s target files h) ∙ by_case (file_in n files)
  where
    by_case : (o : Option MailFile) → option_and_then (λ f. f.end) (option_map (switched_file (n == s) (at_target target n)) o) ≡ option_and_then (λ f. f.end) o
    by_case None = refl
    by_case (Some f) = same_end (n == s) (at_target target n) f

pub switched_doomed : (s : ℕ) (target : Option FileNo) (files : List MailFile) (f : MailFile) → IsOtherThere s target files → file_in s files ≡ Some f → is_doomed_in s (files_switched s target files) ≡ true
switched_doomed s target files f h found = ap (λ (o : Option MailFile). option_map_or (λ f. f.doomed) o false) (switched_at s s target files true (at_target target s) h (eq-eqb s s refl) refl ∙ ap (λ (o : Option MailFile). option_map (switched_file true (at_target target s)) o) found)

pub doomed_of : (s : ℕ) (target : Option FileNo) (files : List MailFile) (f : MailFile) → IsOtherThere s target files → file_in s files ≡ Some f → IsDoomedOf s files (files_switched s target files)
doomed_of s target files f h found = record {
  here = switched_doomed s target files f h found;
  pins = λ n. switched_pins n s target files h;
  doomed = λ n apart. switched_keeps_other (λ f. f.doomed) false n s target files h apart same_doomed;
  used = λ n apart. switched_keeps_other (λ f. f.doomed) true n s target files h apart same_doomed;
  barred = λ n. switched_keeps (λ f. f.barred) true n s target files h same_barred;
  ended = λ n. switched_ends n s target files h;
  before = λ n offset. switched_keeps (λ f. option_map_or (λ end. nat_lt offset end) f.end false) true n s target files h (λ a b f. ap (λ (o : Option ℕ). option_map_or (λ end. nat_lt offset end) o false) (same_end a b f));
}
