-- The storage files that an opening finds, and that there is one way to find them.
use Rattle.std.specs.Prelude.{Contains}
use Rattle.std.proofs.Common.{◌≡◌, ◌≢◌, ◌<◌, ◌≤◌, ◌==◌, inl, inr, ℕ, Bool, true, false, cond, List, [], ◌∷◌, map, get_or, Option, Some, None, All, AllPairs, if◌then◌else◌, refl, sym, ◌∙◌, ap, subst, arith}
use Rattle.std.specs.List.{list_any}
use Rattle.std.specs.Option.{option_map}
use Rattle.std.proofs.lemmas.Bool.{cases_Bool, cases_eq, cases_order, cond-true, cond-false, eq-eqb, ne_eqb}
use Rattle.std.proofs.lemmas.Grind.{common_steps}
use Rattle.std.proofs.lemmas.List.Elements.{All-nil, All-cons, All-head, All-tail, All-contains}
use Rattle.std.proofs.lemmas.List.Folds.{Any-from_list_any}
use Rattle.disk_model.specs.Disk.{History}
use Rattle.mdbox_base.specs.declared.ids.FileNo.{FileNo}
use Rattle.model_meaning.specs.MapMeaning.{MapMeaning, is_sealed}
use Rattle.model_octets.proofs.PairLemmas.{pairs_head, pairs_tail, pairs_map, all_map, found_holds}
use Rattle.storage_files.specs.declared.file.FileState.{FileState}
use Rattle.store_files.specs.Barred.{is_barred, barred_in}
use Rattle.store_files.specs.Found.{end_found, IsFoundEnd, IsUnbarred, IsMarked, AreFilesFound, HasHighestFile}
use Rattle.store_files.specs.Regions.{has_region, end_of, last_end}
use Rattle.store_files.proofs.BarredLemmas.{bar}
use Rattle.store_files.proofs.EndLemmas.{state_in, state_none}

abbrev Rise : List FileState → Type 0
Rise states = AllPairs (λ a b. a.file.0 < b.file.0) states

-- ---- each file of the map

same_number : (a b : ℕ) → (a == b) ≡ true → a ≡ b
same_number a b h = grind (arith, common_steps, h)

-- what was gathered, of each number
record IsGathered (m : MapMeaning) (history : Option History) (numbers : List ℕ) (states : List FileState) : Type 0 where
  regions : (number : ℕ) → has_region m number ≡ true → Contains numbers number
  sealed : (number : ℕ) → is_sealed m number ≡ true → Contains numbers number
  only : All (λ s. Contains numbers s.file.0) states
  ends : All (λ number. IsFoundEnd m history number (end_found number states)) numbers

end_at : (m : MapMeaning) (history : Option History) (numbers : List ℕ) (states : List FileState) (number : ℕ) → IsGathered m history numbers states → Contains numbers number → IsFoundEnd m history number (end_found number states)
end_at m history numbers states number g c = All-contains (λ n. IsFoundEnd m history n (end_found n states)) numbers number g.ends c

-- a file without a region that is not sealed is not there
no_region : (m : MapMeaning) (history : Option History) (numbers : List ℕ) (states : List FileState) (number : ℕ) (o : Option FileState) → state_in number states ≡ o → IsGathered m history numbers states → is_sealed m number ≡ false → has_region m number ≡ false
    → end_found number states ≡ last_end m number
no_region m history numbers states number None e g is_not none = ap (option_map (λ s. s.end)) e ∙ sym (cond-false (has_region m number) (Some (end_of m number)) None none)
no_region m history numbers states number (Some s) e g is_not none =
    let f = found_holds (λ t. t.file.0 == number) states s (λ t. Contains numbers t.file.0) e g.only in
    let c : Contains numbers number = subst (Contains numbers) (same_number s.file.0 number f.1) f.0 in
    (end_at m history numbers states number g c).unsealed is_not

each_end : (m : MapMeaning) (history : Option History) (numbers : List ℕ) (states : List FileState) → IsGathered m history numbers states → (number : ℕ) → IsFoundEnd m history number (end_found number states)
each_end m history numbers states g number = record {
  unsealed = λ is_not. elim (cases_Bool (has_region m number)) [
    | inl some ↦ (end_at m history numbers states number g (g.regions number some)).unsealed is_not
    | inr none ↦ no_region m history numbers states number (state_in number states) refl g is_not none
  ];
  sealed = λ is. (end_at m history numbers states number g (g.sealed number is)).sealed is;
}

-- ---- barred

number_kept : (b : Bool) (s : FileState) → (if b then bar s else s).file ≡ s.file
number_kept true s = refl
number_kept false s = refl

end_kept : (b : Bool) (s : FileState) → (if b then bar s else s).end ≡ s.end
end_kept true s = refl
end_kept false s = refl

number_same : (m : MapMeaning) (s : FileState) → (barred_in m s).file.0 ≡ s.file.0
number_same m s = ap (λ (f : FileNo). f.0) (number_kept (is_barred m s.file.0 s.end) s)

ends_kept : (m : MapMeaning) (number : ℕ) (states : List FileState) → end_found number (map (barred_in m) states) ≡ end_found number states
ends_kept m number [] = refl
ends_kept m number (s ∷ ss) =
    let t : FileState = barred_in m s in
    let rest : end_found number (map (barred_in m) ss) ≡ end_found number ss = ends_kept m number ss in
    ap (λ (n : ℕ). option_map (λ u. u.end) (cond (n == number) (Some t) (state_in number (map (barred_in m) ss)))) (number_same m s)
    ∙ step (s.file.0 == number) t s (state_in number (map (barred_in m) ss)) (state_in number ss) (end_kept (is_barred m s.file.0 s.end) s) rest
  where
    step : (b : Bool) (t s : FileState) (o p : Option FileState) → t.end ≡ s.end → option_map (λ u. u.end) o ≡ option_map (λ u. u.end) p → option_map (λ u. u.end) (cond b (Some t) o) ≡ option_map (λ u. u.end) (cond b (Some s) p)
    step true t s o p e rest = ap Some e
    step false t s o p e rest = rest

marked : (m : MapMeaning) (s : FileState) → IsUnbarred m s → IsMarked m (barred_in m s)
marked m s u = by_test (is_barred m s.file.0 s.end) refl
  where
    by_test : (b : Bool) → is_barred m s.file.0 s.end ≡ b → IsMarked m (if b then bar s else s)
    by_test true e = (u.0, sym e)
    by_test false e = (u.0, u.1 ∙ sym e)

pub bars_rise : (m : MapMeaning) (states : List FileState) → Rise states → Rise (map (barred_in m) states)
bars_rise m states rising =
    pairs_map (λ a b. a.file.0 < b.file.0) (λ a b. a.file.0 < b.file.0) (barred_in m) (λ a b less. let x = number_same m a in let y = number_same m b in omega (arith, x, y, less)) states rising

-- what was gathered and barred is what an opening finds
pub found_files : (m : MapMeaning) (history : Option History) (numbers : List ℕ) (states : List FileState)
    → ((number : ℕ) → has_region m number ≡ true → Contains numbers number) → ((number : ℕ) → is_sealed m number ≡ true → Contains numbers number)
    → Rise states → All (λ s. Contains numbers s.file.0) states → All (λ number. IsFoundEnd m history number (end_found number states)) numbers → All (IsUnbarred m) states
    → AreFilesFound m history (map (barred_in m) states)
found_files m history numbers states regions sealed rising only ends marks = record {
  rising = bars_rise m states rising;
  ends = λ number. subst (IsFoundEnd m history number) (sym (ends_kept m number states)) (each_end m history numbers states (record { regions = regions; sealed = sealed; only = only; ends = ends }) number);
  marks = all_map (IsUnbarred m) (IsMarked m) (barred_in m) (marked m) states marks;
}

-- ---- no number above the highest

-- each file is found by its number
found_self : (states : List FileState) → Rise states → All (λ s. state_in s.file.0 states ≡ Some s) states
found_self [] rise = All-nil (λ s. state_in s.file.0 [] ≡ Some s)
found_self (x ∷ xs) rise =
    All-cons (λ s. state_in s.file.0 (x ∷ xs) ≡ Some s) x xs (cond-true (x.file.0 == x.file.0) (Some x) (state_in x.file.0 xs) (eq-eqb x.file.0 x.file.0 refl))
    (λ k d lt.
    let s : FileState = get_or xs k d in
    let l : x.file.0 < s.file.0 = pairs_head (λ a b. a.file.0 < b.file.0) x xs rise k d lt in
    cond-false (x.file.0 == s.file.0) (Some x) (state_in s.file.0 xs) (ne_eqb x.file.0 s.file.0 (λ e. omega (arith, l, e))) ∙ found_self xs (pairs_tail (λ a b. a.file.0 < b.file.0) x xs rise) k d lt)

-- a number that a test finds is no greater than each that is tested
tested_below : {X : Type 0} → (f : X → ℕ) (xs : List X) (n top : ℕ) → All (λ x. f x ≤ top) xs → list_any (λ x. f x == n) xs ≡ true → n ≤ top
tested_below {X} f xs n top all any =
    let a = Any-from_list_any (λ x. f x == n) xs any in
    let le : f a.1 ≤ top = subst (λ (y : X). f y ≤ top) a.3 (all a.0 a.1 a.2) in
    let same : f a.1 ≡ n = same_number (f a.1) n a.4 in
    omega (arith, le, same)

-- a file that ends with its last region has one
has_some : (m : MapMeaning) (number end : ℕ) → last_end m number ≡ Some end → has_region m number ≡ true
has_some m number end e = elim (cases_Bool (has_region m number)) [
  | inl some ↦ some
  | inr none ↦ absurd (let w : None ≡ Some end = sym (cond-false (has_region m number) (Some (end_of m number)) None none) ∙ e in cc)
]

pub files_below : (m : MapMeaning) (history : Option History) (states : List FileState) → HasHighestFile m → AreFilesFound m history states → All (λ s. s.file.0 ≤ m.highest.file) states
files_below m history states h f = λ k d lt.
    let s : FileState = get_or states k d in
    let here : end_found s.file.0 states ≡ Some s.end = ap (option_map (λ t. t.end)) (found_self states f.rising k d lt) in
    elim (cases_Bool (is_sealed m s.file.0)) [
      | inl is ↦ tested_below (λ n. n) m.sealed s.file.0 m.highest.file h.sealed is
      | inr is_not ↦ tested_below (λ row. row.file) m.records s.file.0 m.highest.file h.regions (has_some m s.file.0 s.end (sym ((f.ends s.file.0).unsealed is_not) ∙ here))
    ]

-- ---- one way

one_end : (m : MapMeaning) (disk : History) (number : ℕ) (a b : Option ℕ) → IsFoundEnd m (Some disk) number a → IsFoundEnd m (Some disk) number b → a ≡ b
one_end m disk number a b p q = elim (cases_Bool (is_sealed m number)) [
  | inl is ↦ p.sealed is ∙ sym (q.sealed is)
  | inr is_not ↦ p.unsealed is_not ∙ sym (q.unsealed is_not)
]

-- the first file is found by its number, and no file behind it is
first_end : (x : FileState) (xs : List FileState) (number : ℕ) → x.file.0 ≡ number → end_found number (x ∷ xs) ≡ Some x.end
first_end x xs number e = ap (option_map (λ s. s.end)) (cond-true (x.file.0 == number) (Some x) (state_in number xs) (eq-eqb x.file.0 number e))

past_end : (x : FileState) (xs : List FileState) (number : ℕ) → Rise (x ∷ xs) → number ≤ x.file.0 → end_found number xs ≡ None
past_end x xs number rise le =
    ap (option_map (λ s. s.end)) (state_none number xs (λ k d lt e. let l : x.file.0 < (get_or xs k d).file.0 = pairs_head (λ a b. a.file.0 < b.file.0) x xs rise k d lt in omega (arith, l, le, e)))

behind_end : (x : FileState) (xs : List FileState) (number : ℕ) → x.file.0 ≢ number → end_found number (x ∷ xs) ≡ end_found number xs
behind_end x xs number apart = ap (option_map (λ s. s.end)) (cond-false (x.file.0 == number) (Some x) (state_in number xs) (ne_eqb x.file.0 number apart))

before_end : (x : FileState) (xs : List FileState) (number : ℕ) → Rise (x ∷ xs) → number < x.file.0 → end_found number (x ∷ xs) ≡ None
before_end x xs number rise less = behind_end x xs number (λ e. omega (arith, e, less)) ∙ past_end x xs number rise (omega (arith, less))

same_state : (m : MapMeaning) (x y : FileState) → x.file.0 ≡ y.file.0 → x.end ≡ y.end → IsMarked m x → IsMarked m y → x ≡ y
same_state m x y number end p q =
    let made : ℕ → ℕ → Bool → Bool → FileState = λ n e s b. record { file = record { 0 = n }; end = e; sealed = s; barred = b } in
    let sealed : x.sealed ≡ y.sealed = p.0 ∙ ap (is_sealed m) number ∙ sym q.0 in
    let barred : x.barred ≡ y.barred = p.1 ∙ ap (λ (n : ℕ). is_barred m n x.end) number ∙ ap (is_barred m y.file.0) end ∙ sym q.1 in
    ap (λ (n : ℕ). made n x.end x.sealed x.barred) number ∙ ap (λ (e : ℕ). made y.file.0 e x.sealed x.barred) end
    ∙ ap (λ (s : Bool). made y.file.0 y.end s x.barred) sealed ∙ ap (made y.file.0 y.end y.sealed) barred

none_some : (n : ℕ) (o : Option ℕ) → o ≡ None → o ≡ Some n → ⊥
none_some n o e f = let w : None ≡ Some n = sym e ∙ f in cc

same_files : (m : MapMeaning) (a b : List FileState) → Rise a → Rise b → All (IsMarked m) a → All (IsMarked m) b → ((number : ℕ) → end_found number a ≡ end_found number b) → a ≡ b
same_files m [] [] p q r s same = refl
same_files m [] (y ∷ ys) p q r s same = absurd (none_some y.end (end_found y.file.0 []) refl (same y.file.0 ∙ first_end y ys y.file.0 refl))
same_files m (x ∷ xs) [] p q r s same = absurd (none_some x.end (end_found x.file.0 []) refl (sym (same x.file.0) ∙ first_end x xs x.file.0 refl))
same_files m (x ∷ xs) (y ∷ ys) p q r s same = elim (cases_order x.file.0 y.file.0) [
  | inl number ↦
      let end : Some x.end ≡ Some y.end = sym (first_end x xs x.file.0 refl) ∙ same x.file.0 ∙ first_end y ys x.file.0 (sym number) in
      let first : x ≡ y = same_state m x y number (let h : x.end ≡ y.end = cc end in h) (All-head (IsMarked m) x xs r) (All-head (IsMarked m) y ys s) in
      let rest : xs ≡ ys = same_files m xs ys (pairs_tail (λ a b. a.file.0 < b.file.0) x xs p) (pairs_tail (λ a b. a.file.0 < b.file.0) y ys q) (All-tail (IsMarked m) x xs r) (All-tail (IsMarked m) y ys s)
      (λ n. elim (cases_eq x.file.0 n) [
        | inl here ↦ past_end x xs n p (omega (arith, here)) ∙ sym (past_end y ys n q (omega (arith, here, number)))
        | inr apart ↦ sym (behind_end x xs n apart) ∙ same n ∙ behind_end y ys n (λ e. apart (number ∙ e))
      ]) in
      ap (λ (z : FileState). z ∷ xs) first ∙ ap (λ (zs : List FileState). y ∷ zs) rest
  | inr other ↦ elim other [
    | inl less ↦ absurd (none_some x.end (end_found x.file.0 (y ∷ ys)) (before_end y ys x.file.0 q less) (sym (same x.file.0) ∙ first_end x xs x.file.0 refl))
    | inr more ↦ absurd (none_some y.end (end_found y.file.0 (x ∷ xs)) (before_end x xs y.file.0 p more) (same y.file.0 ∙ first_end y ys y.file.0 refl))
  ]
]

pub one_way : (m : MapMeaning) (disk : History) (a b : List FileState) → AreFilesFound m (Some disk) a → AreFilesFound m (Some disk) b → a ≡ b
one_way m disk a b p q = same_files m a b p.rising q.rising p.marks q.marks (λ n. one_end m disk n (end_found n a) (end_found n b) (p.ends n) (q.ends n))
