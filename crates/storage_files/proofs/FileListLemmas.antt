-- One file among those of a store: found, changed, or left out.
use Rattle.std.specs.Prelude.{is_some, not, remove, if◌then◌else◌}
use Rattle.std.proofs.Common.{◌≡◌, ◌≢◌, inl, inr, ℕ, zero, suc, ◌<◌, ◌==◌, true, false, List, [], ◌∷◌, ◌++◌, length, slice_get, get_or, set, Option, Some, None, All, refl, sym, ◌∙◌, ap, subst, arith}
use Rattle.std.specs.Option.{option_map, option_and_then, option_map_or}
use Rattle.std.proofs.lemmas.Bool.{cases_Bool, cases_eq, cond-true, cond-false, eq-eqb, ne_eqb, true≢false}
use Rattle.std.proofs.lemmas.List.Elements.{All-nil, All-cons, All-head, All-tail}
use Rattle.model_octets.proofs.PairLemmas.{pairs_head, pairs_tail}
use Rattle.mdbox_base.specs.declared.ids.FileNo.{FileNo}
use Rattle.std.proofs.lemmas.Option.{same_Some}
use Rattle.storage_files.specs.declared.file.FileChange.{FileChange}
use Rattle.storage_files.specs.declared.file.FileChange.TheVariants as change
use Rattle.storage_files.specs.declared.file.MailFile.{MailFile}
use Rattle.storage_files.specs.Files.{change_of, file_in, end_in, changed_in, without_file, ending_at, file_begun, is_taken_in}
use Rattle.storage_files.proofs.SearchLemmas.{Rise, got}

-- no file has this number
abbrev pub HasNone : ℕ → List MailFile → Type 0
HasNone n files = All (λ f. f.file.0 ≢ n) files

abbrev R : MailFile → MailFile → Type 0
R a b = a.file.0 < b.file.0

-- the file at a place is past the first
later : (x : MailFile) (xs : List MailFile) (at : ℕ) (f : MailFile) → Rise (x ∷ xs) → slice_get xs at ≡ Some f → x.file.0 < f.file.0
later x xs at f rise e =
    let w : at < length xs = within xs at f e in
    let h = pairs_head R x xs rise at f w in
    subst (λ (y : MailFile). x.file.0 < y.file.0) (got xs at f f e) h
  where
    within : (ys : List MailFile) (k : ℕ) (g : MailFile) → slice_get ys k ≡ Some g → k < length ys
    within [] k g e = absurd (let w : None ≡ Some g = e in cc)
    within (y ∷ ys) zero g e = omega arith
    within (y ∷ ys) (suc k) g e = let w = within ys k g e in omega (arith, w)

others_apart : (x : MailFile) (xs : List MailFile) → Rise (x ∷ xs) → HasNone x.file.0 xs
others_apart x xs rise = λ k d lt e. let h = pairs_head R x xs rise k d lt in omega (arith, h, e)

-- the file with a number

pub file-none : (n : ℕ) (files : List MailFile) → HasNone n files → file_in n files ≡ None
file-none n [] none = refl
file-none n (x ∷ xs) none =
    cond-false (x.file.0 == n) (Some x) (file_in n xs) (ne_eqb x.file.0 n (All-head (λ f. f.file.0 ≢ n) x xs none)) ∙ file-none n xs (All-tail (λ f. f.file.0 ≢ n) x xs none)

pub file-at : (files : List MailFile) (at : ℕ) (f : MailFile) → Rise files → slice_get files at ≡ Some f → file_in f.file.0 files ≡ Some f
file-at [] at f rise e = absurd (let w : None ≡ Some f = e in cc)
file-at (x ∷ xs) zero f rise e =
    let same : x ≡ f = let w : Some x ≡ Some f = e in cc in
    cond-true (x.file.0 == f.file.0) (Some x) (file_in f.file.0 xs) (eq-eqb x.file.0 f.file.0 (ap (λ (y : MailFile). y.file.0) same)) ∙ ap Some same
file-at (x ∷ xs) (suc at) f rise e =
    let l = later x xs at f rise e in
    cond-false (x.file.0 == f.file.0) (Some x) (file_in f.file.0 xs) (ne_eqb x.file.0 f.file.0 (λ same. omega (arith, l, same))) ∙ file-at xs at f (pairs_tail R x xs rise) e

-- the same where the number is another name for it
pub file-found : (files : List MailFile) (n at : ℕ) (f : MailFile) → Rise files → slice_get files at ≡ Some f → f.file.0 ≡ n → file_in n files ≡ Some f
file-found files n at f rise e same = subst (λ (k : ℕ). file_in k files ≡ Some f) same (file-at files at f rise e)

-- the file changes

pub changed-none : (n : ℕ) (step : MailFile → MailFile) (files : List MailFile) → HasNone n files → changed_in n step files ≡ files
changed-none n step [] none = refl
changed-none n step (x ∷ xs) none =
    let here : (if x.file.0 == n then step x else x) ≡ x = cond-false (x.file.0 == n) (step x) x (ne_eqb x.file.0 n (All-head (λ f. f.file.0 ≢ n) x xs none)) in
    let rest : changed_in n step xs ≡ xs = changed-none n step xs (All-tail (λ f. f.file.0 ≢ n) x xs none) in
    ap (λ (y : MailFile). y ∷ changed_in n step xs) here ∙ ap (λ (ys : List MailFile). x ∷ ys) rest

pub changed-at : (files : List MailFile) (n at : ℕ) (step : MailFile → MailFile) (f : MailFile) → Rise files → slice_get files at ≡ Some f → f.file.0 ≡ n → set files at (step f) ≡ changed_in n step files
changed-at [] n at step f rise e same = absurd (let w : None ≡ Some f = e in cc)
changed-at (x ∷ xs) n zero step f rise e same =
    let is : x ≡ f = let w : Some x ≡ Some f = e in cc in
    let number : x.file.0 ≡ n = ap (λ (y : MailFile). y.file.0) is ∙ same in
    let here : (if x.file.0 == n then step x else x) ≡ step x = cond-true (x.file.0 == n) (step x) x (eq-eqb x.file.0 n number) in
    let rest : changed_in n step xs ≡ xs = changed-none n step xs (subst (λ (k : ℕ). HasNone k xs) number (others_apart x xs rise)) in
    ap (λ (y : MailFile). step y ∷ xs) (sym is) ∙ ap (λ (y : MailFile). y ∷ xs) (sym here) ∙ ap (λ (ys : List MailFile). (if x.file.0 == n then step x else x) ∷ ys) (sym rest)
changed-at (x ∷ xs) n (suc at) step f rise e same =
    let l = later x xs at f rise e in
    let here : (if x.file.0 == n then step x else x) ≡ x = cond-false (x.file.0 == n) (step x) x (ne_eqb x.file.0 n (λ k. omega (arith, l, k, same))) in
    ap (λ (ys : List MailFile). x ∷ ys) (changed-at xs n at step f (pairs_tail R x xs rise) e same) ∙ ap (λ (y : MailFile). y ∷ changed_in n step xs) (sym here)

-- the file is left out

pub without-none : (n : ℕ) (files : List MailFile) → HasNone n files → without_file n files ≡ files
without-none n [] none = refl
without-none n (x ∷ xs) none =
    let out : (x.file.0 == n) ≡ false = ne_eqb x.file.0 n (All-head (λ f. f.file.0 ≢ n) x xs none) in
    cond-true (not (x.file.0 == n)) (x ∷ without_file n xs) (without_file n xs) (ap not out) ∙ ap (λ (ys : List MailFile). x ∷ ys) (without-none n xs (All-tail (λ f. f.file.0 ≢ n) x xs none))

pub without-at : (files : List MailFile) (n at : ℕ) (f : MailFile) → Rise files → slice_get files at ≡ Some f → f.file.0 ≡ n → remove files at ≡ without_file n files
without-at [] n at f rise e same = absurd (let w : None ≡ Some f = e in cc)
without-at (x ∷ xs) n zero f rise e same =
    let is : x ≡ f = let w : Some x ≡ Some f = e in cc in
    let number : x.file.0 ≡ n = ap (λ (y : MailFile). y.file.0) is ∙ same in
    let out : not (x.file.0 == n) ≡ false = ap not (eq-eqb x.file.0 n number) in
    sym (cond-false (not (x.file.0 == n)) (x ∷ without_file n xs) (without_file n xs) out ∙ without-none n xs (subst (λ (k : ℕ). HasNone k xs) number (others_apart x xs rise)))
without-at (x ∷ xs) n (suc at) f rise e same =
    let l = later x xs at f rise e in
    let kept : not (x.file.0 == n) ≡ true = ap not (ne_eqb x.file.0 n (λ k. omega (arith, l, k, same))) in
    ap (λ (ys : List MailFile). x ∷ ys) (without-at xs n at f (pairs_tail R x xs rise) e same) ∙ sym (cond-true (not (x.file.0 == n)) (x ∷ without_file n xs) (without_file n xs) kept)

-- the file with a number, by what was done to one

-- a change that keeps numbers
abbrev pub KeepsNumber : (MailFile → MailFile) → Type 0
KeepsNumber step = (f : MailFile) → (step f).file.0 ≡ f.file.0

pub number_kept : (n : ℕ) (step : MailFile → MailFile) (x : MailFile) → KeepsNumber step → (if x.file.0 == n then step x else x).file.0 ≡ x.file.0
number_kept n step x keeps = elim (cases_Bool (x.file.0 == n)) [
  | inl hit ↦ ap (λ (y : MailFile). y.file.0) (cond-true (x.file.0 == n) (step x) x hit) ∙ keeps x
  | inr miss ↦ ap (λ (y : MailFile). y.file.0) (cond-false (x.file.0 == n) (step x) x miss)
]

-- of another number
pub file-other : (n m : ℕ) (step : MailFile → MailFile) (files : List MailFile) → KeepsNumber step → m ≢ n → file_in m (changed_in n step files) ≡ file_in m files
file-other n m step [] keeps apart = refl
file-other n m step (x ∷ xs) keeps apart =
    let y : MailFile = if x.file.0 == n then step x else x in
    let e : (y.file.0 == m) ≡ (x.file.0 == m) = ap (λ (k : ℕ). k == m) (number_kept n step x keeps) in
    elim (cases_eq x.file.0 m) [
      | inl is ↦
          let same : y ≡ x = cond-false (x.file.0 == n) (step x) x (ne_eqb x.file.0 n (λ k. apart (sym is ∙ k))) in
          cond-true (y.file.0 == m) (Some y) (file_in m (changed_in n step xs)) (e ∙ eq-eqb x.file.0 m is)
          ∙ ap Some same
          ∙ sym (cond-true (x.file.0 == m) (Some x) (file_in m xs) (eq-eqb x.file.0 m is))
      | inr not_is ↦
          cond-false (y.file.0 == m) (Some y) (file_in m (changed_in n step xs)) (e ∙ ne_eqb x.file.0 m not_is)
          ∙ file-other n m step xs keeps apart
          ∙ sym (cond-false (x.file.0 == m) (Some x) (file_in m xs) (ne_eqb x.file.0 m not_is))
    ]

-- of the one that changes
pub file-here : (n : ℕ) (step : MailFile → MailFile) (files : List MailFile) → KeepsNumber step → file_in n (changed_in n step files) ≡ option_map step (file_in n files)
file-here n step [] keeps = refl
file-here n step (x ∷ xs) keeps =
    let y : MailFile = if x.file.0 == n then step x else x in
    let e : (y.file.0 == n) ≡ (x.file.0 == n) = ap (λ (k : ℕ). k == n) (number_kept n step x keeps) in
    elim (cases_Bool (x.file.0 == n)) [
      | inl hit ↦
          cond-true (y.file.0 == n) (Some y) (file_in n (changed_in n step xs)) (e ∙ hit)
          ∙ ap Some (cond-true (x.file.0 == n) (step x) x hit)
          ∙ sym (ap (option_map step) (cond-true (x.file.0 == n) (Some x) (file_in n xs) hit))
      | inr miss ↦
          cond-false (y.file.0 == n) (Some y) (file_in n (changed_in n step xs)) (e ∙ miss)
          ∙ file-here n step xs keeps
          ∙ sym (ap (option_map step) (cond-false (x.file.0 == n) (Some x) (file_in n xs) miss))
    ]

-- without one file
pub file-gone : (n : ℕ) (files : List MailFile) → file_in n (without_file n files) ≡ None
file-gone n [] = refl
file-gone n (x ∷ xs) = elim (cases_Bool (x.file.0 == n)) [
  | inl hit ↦ ap (file_in n) (cond-false (not (x.file.0 == n)) (x ∷ without_file n xs) (without_file n xs) (ap not hit)) ∙ file-gone n xs
  | inr miss ↦
      ap (file_in n) (cond-true (not (x.file.0 == n)) (x ∷ without_file n xs) (without_file n xs) (ap not miss))
      ∙ cond-false (x.file.0 == n) (Some x) (file_in n (without_file n xs)) miss
      ∙ file-gone n xs
]

pub file-without : (n m : ℕ) (files : List MailFile) → m ≢ n → file_in m (without_file n files) ≡ file_in m files
file-without n m [] apart = refl
file-without n m (x ∷ xs) apart = elim (cases_eq x.file.0 n) [
  | inl same ↦
      ap (file_in m) (cond-false (not (x.file.0 == n)) (x ∷ without_file n xs) (without_file n xs) (ap not (eq-eqb x.file.0 n same)))
      ∙ file-without n m xs apart
      ∙ sym (cond-false (x.file.0 == m) (Some x) (file_in m xs) (ne_eqb x.file.0 m (λ k. apart (sym k ∙ same))))
  | inr other ↦
      ap (file_in m) (cond-true (not (x.file.0 == n)) (x ∷ without_file n xs) (without_file n xs) (ap not (ne_eqb x.file.0 n other)))
      ∙ elim (cases_Bool (x.file.0 == m)) [
        | inl hit ↦ cond-true (x.file.0 == m) (Some x) (file_in m (without_file n xs)) hit ∙ sym (cond-true (x.file.0 == m) (Some x) (file_in m xs) hit)
        | inr miss ↦
            cond-false (x.file.0 == m) (Some x) (file_in m (without_file n xs)) miss
            ∙ file-without n m xs apart
            ∙ sym (cond-false (x.file.0 == m) (Some x) (file_in m xs) miss)
      ]
]

-- with one that somebody is about to make
pub file-begun : (file : FileNo) (files : List MailFile) → file_in file.0 files ≡ None → file_in file.0 (files ++ file_begun file ∷ []) ≡ Some (file_begun file)
file-begun file [] none = cond-true (file.0 == file.0) (Some (file_begun file)) None (eq-eqb file.0 file.0 refl)
file-begun file (x ∷ xs) none = elim (cases_Bool (x.file.0 == file.0)) [
  | inl hit ↦ absurd (let w : Some x ≡ None = sym (cond-true (x.file.0 == file.0) (Some x) (file_in file.0 xs) hit) ∙ none in cc)
  | inr miss ↦
      cond-false (x.file.0 == file.0) (Some x) (file_in file.0 (xs ++ file_begun file ∷ [])) miss
      ∙ file-begun file xs (sym (cond-false (x.file.0 == file.0) (Some x) (file_in file.0 xs) miss) ∙ none)
]

pub file-before_begun : (file : FileNo) (m : ℕ) (files : List MailFile) → m ≢ file.0 → file_in m (files ++ file_begun file ∷ []) ≡ file_in m files
file-before_begun file m [] apart = cond-false (file.0 == m) (Some (file_begun file)) None (ne_eqb file.0 m (λ e. apart (sym e)))
file-before_begun file m (x ∷ xs) apart = elim (cases_Bool (x.file.0 == m)) [
  | inl hit ↦ cond-true (x.file.0 == m) (Some x) (file_in m (xs ++ file_begun file ∷ [])) hit ∙ sym (cond-true (x.file.0 == m) (Some x) (file_in m xs) hit)
  | inr miss ↦
      cond-false (x.file.0 == m) (Some x) (file_in m (xs ++ file_begun file ∷ [])) miss
      ∙ file-before_begun file m xs apart
      ∙ sym (cond-false (x.file.0 == m) (Some x) (file_in m xs) miss)
]

-- where files end

pub ends-other : (n m : ℕ) (step : MailFile → MailFile) (files : List MailFile) → KeepsNumber step → m ≢ n → end_in m (changed_in n step files) ≡ end_in m files
ends-other n m step files keeps apart = ap (option_and_then (λ f. f.end)) (file-other n m step files keeps apart)

pub ends-kept : (n m : ℕ) (step : MailFile → MailFile) (files : List MailFile) → KeepsNumber step → ((f : MailFile) → (step f).end ≡ f.end) → end_in m (changed_in n step files) ≡ end_in m files
ends-kept n m step files keeps same = elim (cases_eq m n) [
  | inl is ↦
      let here : end_in n (changed_in n step files) ≡ end_in n files = ap (option_and_then (λ f. f.end)) (file-here n step files keeps) ∙ kept (file_in n files) in
      subst (λ (k : ℕ). end_in k (changed_in n step files) ≡ end_in k files) (sym is) here
  | inr apart ↦ ends-other n m step files keeps apart
]
  where
    kept : (o : Option MailFile) → option_and_then (λ f. f.end) (option_map step o) ≡ option_and_then (λ f. f.end) o
    kept None = refl
    kept (Some f) = same f

pub ends-here : (n end : ℕ) (files : List MailFile) (f : MailFile) → file_in n files ≡ Some f → end_in n (changed_in n (ending_at end) files) ≡ Some end
ends-here n end files f e =
    ap (option_and_then (λ g. g.end)) (file-here n (ending_at end) files (λ g. refl)) ∙ ap (λ (o : Option MailFile). option_and_then (λ g. g.end) (option_map (ending_at end) o)) e

pub ends-without_it : (n : ℕ) (files : List MailFile) → end_in n (without_file n files) ≡ None
ends-without_it n files = ap (option_and_then (λ g. g.end)) (file-gone n files)

pub ends-without : (n m : ℕ) (files : List MailFile) → m ≢ n → end_in m (without_file n files) ≡ end_in m files
ends-without n m files apart = ap (option_and_then (λ g. g.end)) (file-without n m files apart)

-- who has taken files, by a change that keeps that
pub takers-kept : (n m : ℕ) (step : MailFile → MailFile) (files : List MailFile) → KeepsNumber step → ((f : MailFile) → (step f).taken ≡ f.taken) → is_taken_in m (changed_in n step files) ≡ is_taken_in m files
takers-kept n m step files keeps same = elim (cases_eq m n) [
  | inl is ↦
      let here : is_taken_in n (changed_in n step files) ≡ is_taken_in n files = ap (λ (o : Option MailFile). option_map_or (λ f. f.taken) o false) (file-here n step files keeps) ∙ kept (file_in n files) in
      subst (λ (k : ℕ). is_taken_in k (changed_in n step files) ≡ is_taken_in k files) (sym is) here
  | inr apart ↦ ap (λ (o : Option MailFile). option_map_or (λ f. f.taken) o false) (file-other n m step files keeps apart)
]
  where
    kept : (o : Option MailFile) → option_map_or (λ f. f.taken) (option_map step o) false ≡ option_map_or (λ f. f.taken) o false
    kept None = refl
    kept (Some f) = same f

-- a new file has no end yet
pub ends-begun : (m : ℕ) (file : FileNo) (files : List MailFile) → end_in m (files ++ file_begun file ∷ []) ≡ end_in m files
ends-begun m file [] = elim (cases_Bool (file.0 == m)) [
  | inl hit ↦ ap (option_and_then (λ g. g.end)) (cond-true (file.0 == m) (Some (file_begun file)) None hit)
  | inr miss ↦ ap (option_and_then (λ g. g.end)) (cond-false (file.0 == m) (Some (file_begun file)) None miss)
]
ends-begun m file (x ∷ xs) = elim (cases_Bool (x.file.0 == m)) [
  | inl is ↦
      ap (option_and_then (λ g. g.end)) (cond-true (x.file.0 == m) (Some x) (file_in m (xs ++ file_begun file ∷ [])) is)
      ∙ sym (ap (option_and_then (λ g. g.end)) (cond-true (x.file.0 == m) (Some x) (file_in m xs) is))
  | inr not_is ↦
      ap (option_and_then (λ g. g.end)) (cond-false (x.file.0 == m) (Some x) (file_in m (xs ++ file_begun file ∷ [])) not_is)
      ∙ ends-begun m file xs
      ∙ sym (ap (option_and_then (λ g. g.end)) (cond-false (x.file.0 == m) (Some x) (file_in m xs) not_is))
]

-- without a file that was not made
pub ends-unmade : (n m : ℕ) (files : List MailFile) → is_some (end_in n files) ≡ false → end_in m (without_file n files) ≡ end_in m files
ends-unmade n m files unmade = elim (cases_eq m n) [
  | inl same ↦ subst (λ (k : ℕ). end_in k (without_file n files) ≡ end_in k files) (sym same) (ends-without_it n files ∙ sym (is_none (end_in n files) unmade))
  | inr apart ↦ ends-without n m files apart
]
  where
    is_none : (end : Option ℕ) → is_some end ≡ false → end ≡ None
    is_none None not_some = refl
    is_none (Some k) not_some = absurd (true≢false not_some)

-- a change of the file at a place
pub changed-set : (files : List MailFile) (n at : ℕ) (step : MailFile → MailFile) (f d : MailFile) → Rise files → slice_get files at ≡ Some f → f.file.0 ≡ n → set files at (step (get_or files at d)) ≡ changed_in n step files
changed-set files n at step f d rise e same = ap (λ (g : MailFile). set files at (step g)) (got files at f d e) ∙ changed-at files n at step f rise e same

-- each file that is found under a number is the one
pub each-found : (n : ℕ) (files : List MailFile) (f : MailFile) → Rise files → file_in n files ≡ Some f → All (λ g. g.file.0 ≡ n → g ≡ f) files
each-found n [] f rise found = All-nil (λ g. g.file.0 ≡ n → g ≡ f)
each-found n (x ∷ xs) f rise found = elim (cases_eq x.file.0 n) [
  | inl same ↦
      let here : file_in n (x ∷ xs) ≡ Some x = cond-true (x.file.0 == n) (Some x) (file_in n xs) (eq-eqb x.file.0 n same) in
      let is : x ≡ f = same_Some x f (sym here ∙ found) in
      All-cons (λ g. g.file.0 ≡ n → g ≡ f) x xs (λ e. is) (λ k d lt e. let l = pairs_head (λ a b. a.file.0 < b.file.0) x xs rise k d lt in absurd (omega (arith, l, e, same)))
  | inr apart ↦
      let behind : file_in n (x ∷ xs) ≡ file_in n xs = cond-false (x.file.0 == n) (Some x) (file_in n xs) (ne_eqb x.file.0 n apart) in
      All-cons (λ g. g.file.0 ≡ n → g ≡ f) x xs (λ e. absurd (apart e)) (each-found n xs f (pairs_tail (λ a b. a.file.0 < b.file.0) x xs rise) (sym behind ∙ found))
]

-- no change is of the number
pub numbers-kept : (how : FileChange) → KeepsNumber (change_of how)
numbers-kept (change.Ends end) f = refl
numbers-kept change.Taken f = refl
numbers-kept change.Emptied f = refl
numbers-kept change.GivenBack f = refl
numbers-kept change.PlacingBegun f = refl
numbers-kept change.PlacingEnded f = refl
numbers-kept (change.Pins pins) f = refl
numbers-kept change.Doomed f = refl
