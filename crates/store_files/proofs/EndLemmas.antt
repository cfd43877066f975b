-- Files gathered in order of number, and where each ends.
use Rattle.std.specs.Prelude.{find, Contains}
use Rattle.std.proofs.Common.{◌≡◌, ◌≢◌, ◌<◌, ◌≤◌, ◌+◌, ◌==◌, ℕ, suc, zero, cond, List, [], ◌∷◌, ◌++◌, length, take, get_or, slice_get, Option, Some, None, All, AllPairs, refl, sym, ◌∙◌, ap, subst, arith, take_all}
use Rattle.std.specs.Option.{option_map}
use Rattle.std.proofs.lemmas.Bool.{cond-true, cond-false, eq-eqb, ne_eqb}
use Rattle.std.proofs.lemmas.List.Elements.{All-nil, All-cons, All-head, All-tail, All-more, All-push}
use Rattle.std.proofs.lemmas.Option.{slice_get_within, get_or_from_slice_get}
use Rattle.model_octets.proofs.PairLemmas.{pairs_head, pairs_tail, pairs_nil, pairs_push}
use Rattle.storage_files.specs.declared.file.FileState.{FileState}
use Rattle.disk_model.specs.Disk.{DiskState, History, IsIdle}
use Rattle.disk_model.proofs.IdleLemmas.{idle-back}
use Rattle.model_meaning.specs.MapMeaning.{MapMeaning}
use Rattle.store_files.specs.Found.{length_on, end_found, IsFoundEnd}

-- ---- the file with a number

abbrev pub state_in : ℕ → List FileState → Option FileState
state_in number states = find (λ s. s.file.0 == number) states

pub state_none : (number : ℕ) (states : List FileState) → All (λ s. s.file.0 ≢ number) states → state_in number states ≡ None
state_none number [] none = refl
state_none number (x ∷ xs) none =
    cond-false (x.file.0 == number) (Some x) (state_in number xs) (ne_eqb x.file.0 number (All-head (λ s. s.file.0 ≢ number) x xs none)) ∙ state_none number xs (All-tail (λ s. s.file.0 ≢ number) x xs none)

pushed_here : (number : ℕ) (states : List FileState) (s : FileState) → All (λ t. t.file.0 ≢ number) states → s.file.0 ≡ number → state_in number (states ++ s ∷ []) ≡ Some s
pushed_here number [] s none same = cond-true (s.file.0 == number) (Some s) None (eq-eqb s.file.0 number same)
pushed_here number (x ∷ xs) s none same =
    cond-false (x.file.0 == number) (Some x) (state_in number (xs ++ s ∷ [])) (ne_eqb x.file.0 number (All-head (λ t. t.file.0 ≢ number) x xs none)) ∙ pushed_here number xs s (All-tail (λ t. t.file.0 ≢ number) x xs none) same

pushed_other : (number : ℕ) (states : List FileState) (s : FileState) → s.file.0 ≢ number → state_in number (states ++ s ∷ []) ≡ state_in number states
pushed_other number [] s apart = cond-false (s.file.0 == number) (Some s) None (ne_eqb s.file.0 number apart)
pushed_other number (x ∷ xs) s apart = ap (λ (o : Option FileState). cond (x.file.0 == number) (Some x) o) (pushed_other number xs s apart)

-- ---- the files of the first numbers

-- Files were gathered for the first of these numbers, each in order, and where each ends is so.
pub record Gathered (Q : ℕ → Option ℕ → Type 0) (numbers : List ℕ) (k : ℕ) (states : List FileState) : Type 0 where
  pub rising : AllPairs (λ a b. a.file.0 < b.file.0) states
  pub only : All (λ s. Contains numbers s.file.0) states
  pub before : All (λ s. (n : ℕ) → slice_get numbers k ≡ Some n → s.file.0 < n) states
  pub ends : All (λ n. Q n (end_found n states)) (take k numbers)

abbrev Less : ℕ → ℕ → Type 0
Less a b = a < b

-- the numbers before a place are less
before_place : (numbers : List ℕ) (k n : ℕ) → AllPairs Less numbers → slice_get numbers k ≡ Some n → All (λ m. m < n) (take k numbers)
before_place [] k n rise e = absurd (let w : None ≡ Some n = e in cc)
before_place (x ∷ xs) zero n rise e = All-nil (λ m. m < n)
before_place (x ∷ xs) (suc k) n rise e =
    let w = slice_get_within xs k n e in
    let l : x < get_or xs k n = pairs_head Less x xs rise k n w in
    let same : get_or xs k n ≡ n = get_or_from_slice_get xs k n n e in
    All-cons (λ m. m < n) x (take k xs) (omega (arith, l, same)) (before_place xs k n (pairs_tail Less x xs rise) e)

next_less : (numbers : List ℕ) (k n p : ℕ) → AllPairs Less numbers → slice_get numbers k ≡ Some n → slice_get numbers (k + 1) ≡ Some p → n < p
next_less numbers k n p rise e f =
    let l : get_or numbers k 0 < get_or numbers (k + 1) 0 = rise k (k + 1) 0 (omega arith) (slice_get_within numbers (k + 1) p f) in
    let a : get_or numbers k 0 ≡ n = get_or_from_slice_get numbers k n 0 e in
    let b : get_or numbers (k + 1) 0 ≡ p = get_or_from_slice_get numbers (k + 1) p 0 f in
    omega (arith, l, a, b)

-- one number more
one_more : (P : ℕ → Type 0) (numbers : List ℕ) (k n : ℕ) → slice_get numbers k ≡ Some n → All P (take k numbers) → P n → All P (take (k + 1) numbers)
one_more P numbers k n e all p = All-more P numbers k n (slice_get_within numbers k n e) all (subst P (sym (get_or_from_slice_get numbers k n n e)) p)

pub gathered_none : (Q : ℕ → Option ℕ → Type 0) (numbers : List ℕ) → Gathered Q numbers 0 []
gathered_none Q numbers = record {
  rising = pairs_nil (λ a b. a.file.0 < b.file.0);
  only = All-nil (λ s. Contains numbers s.file.0);
  before = All-nil (λ s. (n : ℕ) → slice_get numbers 0 ≡ Some n → s.file.0 < n);
  ends = none numbers;
}
  where
    none : (ns : List ℕ) → All (λ n. Q n (end_found n [])) (take 0 ns)
    none [] = All-nil (λ n. Q n (end_found n []))
    none (n ∷ ns) = All-nil (λ m. Q m (end_found m []))

-- files before a number lie before the next
still_before : (numbers : List ℕ) (k n : ℕ) (states : List FileState) → AllPairs Less numbers → slice_get numbers k ≡ Some n → All (λ s. (m : ℕ) → slice_get numbers k ≡ Some m → s.file.0 < m) states
    → All (λ s. (m : ℕ) → slice_get numbers (k + 1) ≡ Some m → s.file.0 < m) states
still_before numbers k n states rise e before = λ j d lt m f.
    let l : (get_or states j d).file.0 < n = before j d lt n e in
    let next : n < m = next_less numbers k n m rise e f in
    omega (arith, l, next)

apart_from : (numbers : List ℕ) (k n : ℕ) (states : List FileState) → slice_get numbers k ≡ Some n → All (λ s. (m : ℕ) → slice_get numbers k ≡ Some m → s.file.0 < m) states → All (λ s. s.file.0 ≢ n) states
apart_from numbers k n states e before = λ j d lt same. let l : (get_or states j d).file.0 < n = before j d lt n e in omega (arith, l, same)

-- the file of the next number
pub gathered_push : (Q : ℕ → Option ℕ → Type 0) (numbers : List ℕ) (k n : ℕ) (states : List FileState) (s : FileState) → AllPairs (λ a b. a < b) numbers → slice_get numbers k ≡ Some n → Gathered Q numbers k states → s.file.0 ≡ n → Q n (Some s.end)
    → Gathered Q numbers (k + 1) (states ++ s ∷ [])
gathered_push Q numbers k n states s rise e g same q = record {
  rising = pairs_push (λ a b. a.file.0 < b.file.0) states s g.rising (λ j d lt. let l : (get_or states j d).file.0 < n = g.before j d lt n e in omega (arith, l, same));
  only = All-push (λ t. Contains numbers t.file.0) states s g.only (k, slice_get_within numbers k s.file.0 (e ∙ ap Some (sym same)), get_or_from_slice_get numbers k s.file.0 s.file.0 (e ∙ ap Some (sym same)));
  before = All-push (λ t. (m : ℕ) → slice_get numbers (k + 1) ≡ Some m → t.file.0 < m) states s (still_before numbers k n states rise e g.before)
      (λ m f. let next : n < m = next_less numbers k n m rise e f in omega (arith, next, same));
  ends = one_more (λ m. Q m (end_found m (states ++ s ∷ []))) numbers k n e
      (λ j d lt.
      let m : ℕ = get_or (take k numbers) j d in
      let l : m < n = before_place numbers k n rise e j d lt in
      subst (Q m) (sym (ap (option_map (λ t. t.end)) (pushed_other m states s (λ is. omega (arith, l, is, same))))) (g.ends j d lt))
      (subst (Q n) (sym (ap (option_map (λ t. t.end)) (pushed_here n states s (apart_from numbers k n states e g.before) same))) q);
}

-- the next number has none
pub gathered_skip : (Q : ℕ → Option ℕ → Type 0) (numbers : List ℕ) (k n : ℕ) (states : List FileState) → AllPairs (λ a b. a < b) numbers → slice_get numbers k ≡ Some n → Gathered Q numbers k states → Q n None → Gathered Q numbers (k + 1) states
gathered_skip Q numbers k n states rise e g q = record {
  rising = g.rising;
  only = g.only;
  before = still_before numbers k n states rise e g.before;
  ends = one_more (λ m. Q m (end_found m states)) numbers k n e g.ends (subst (Q n) (sym (ap (option_map (λ t. t.end)) (state_none n states (apart_from numbers k n states e g.before)))) q);
}

pub gathered_all : (Q : ℕ → Option ℕ → Type 0) (numbers : List ℕ) (k : ℕ) (states : List FileState) → length numbers ≤ k → Gathered Q numbers k states → All (λ n. Q n (end_found n states)) numbers
gathered_all Q numbers k states le g = subst (All (λ n. Q n (end_found n states))) (take_all k numbers le) g.ends

-- what was found of a file after calls that change nothing
pub idle-end : (m : MapMeaning) (old new : Option History) (number : ℕ) (end : Option ℕ) → IsIdle old new → IsFoundEnd m new number end → IsFoundEnd m old number end
idle-end m old new number end idle f = record {
  unsealed = f.unsealed;
  sealed = λ is. idle-back (λ (disk : DiskState). end ≡ length_on disk number) old new idle (f.sealed is);
}
