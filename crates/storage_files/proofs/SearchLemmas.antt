-- What a search finds among files in order of number.
use Rattle.std.specs.Prelude.{AllPairs, Contains}
use Rattle.std.proofs.Common.{◌≡◌, ◌≢◌, inl, inr, ℕ, zero, suc, ◌+◌, ◌<◌, ◌≤◌, Bool, true, false, ◌&&◌, List, [], ◌∷◌, length, take, drop, slice_get, get_or, ◌-◌, Option, Some, None, Result, Ok, Err, IfOk, IfErr, All, refl, sym, ◌∙◌, ap, arith}
use Rattle.std.specs.Prelude.{find, is_some, nat_lt}
use Rattle.std.specs.Option.{option_map}
use Rattle.std.specs.List.Sorted.{IsSearchInRange, IsBinarySearchResult, IsNonDecreasingBy}
use Rattle.std.specs.Ordering.{nat_cmp, ordering_index}
use Rattle.std.proofs.lemmas.Cmp.{ranked}
use Rattle.std.proofs.lemmas.Bool.{cases_lt, cases_eq, le-ltb, lt-ltb, and_right}
use Rattle.std.proofs.lemmas.List.{take_all, length-drop}
use Rattle.std.proofs.lemmas.Bool.Decides.{nat_tests}
use Rattle.std.proofs.lemmas.List.Elements.{All-nil, All-cons, All-head, All-tail}
use Rattle.mdbox_base.specs.declared.ids.FileNo.{FileNo}
use Rattle.storage_files.specs.declared.file.MailFile.{MailFile}
use Rattle.storage_files.specs.Files.{is_number_past, file_past}

-- numbers rise
abbrev pub Rise : List MailFile → Type 0
Rise files = AllPairs (λ a b. a.file.0 < b.file.0) files

-- what a search says of a number
pub record Sought (files : List MailFile) (n at : ℕ) : Type 0 where
  pub within : at ≤ length files
  pub before : (k : ℕ) (d : MailFile) → k < at → (get_or files k d).file.0 < n
  pub behind : (k : ℕ) (d : MailFile) → at ≤ k → k < length files → n < (get_or files k d).file.0

pub record Found (files : List MailFile) (n at : ℕ) : Type 0 where
  pub within : at < length files
  pub is : (d : MailFile) → (get_or files at d).file.0 ≡ n

-- the answers rise along the files
answers_rise : (files : List MailFile) (n : ℕ) → Rise files → IsNonDecreasingBy (λ f. ordering_index (nat_cmp f.file.0 n)) files
answers_rise files n rise i j d le lt =
    let up : (get_or files i d).file.0 ≤ (get_or files j d).file.0 = elim (cases_eq i j) [
      | inl same ↦ let e : (get_or files i d).file.0 ≡ (get_or files j d).file.0 = ap (λ (k : ℕ). (get_or files k d).file.0) same in omega (arith, e)
      | inr apart ↦ let l : (get_or files i d).file.0 < (get_or files j d).file.0 = rise i j d (omega (arith, le, apart)) lt in omega (arith, l)
    ] in
    higher (get_or files i d).file.0 (get_or files j d).file.0 up
  where
    higher : (a b : ℕ) → a ≤ b → ordering_index (nat_cmp a n) ≤ ordering_index (nat_cmp b n)
    higher a b le = grind (arith, nat_tests)

pub searched : (files : List MailFile) (n : ℕ) → Rise files → (r : Result ℕ ℕ) → IsSearchInRange r (length files) → IsBinarySearchResult (λ f. nat_cmp f.file.0 n) files r
    → record { found : IfOk r (Found files n); absent : IfErr r (Sought files n) }
searched files n rise (Ok at) within equal = record { found = record { within = within; is = λ d. ranked _ n _ (sym (equal d)) }; absent = tt }
searched files n rise (Err at) within parted = record {
  found = tt;
  absent = record {
    within = within;
    before = λ k d lt. ranked _ n _ (sym ((parted (answers_rise files n rise)).0 k d (omega arith) lt));
    behind = λ k d le lt. ranked _ n _ (sym ((parted (answers_rise files n rise)).1 k d le lt));
  };
}

-- a place that was found

get_at : (files : List MailFile) (at : ℕ) → at < length files → (f : MailFile) × (slice_get files at ≡ Some f)
get_at [] at within = absurd (omega (arith, within))
get_at (f ∷ files) zero within = (f, refl)
get_at (f ∷ files) (suc at) within = get_at files at (omega (arith, within))

pub got : (files : List MailFile) (at : ℕ) (f d : MailFile) → slice_get files at ≡ Some f → get_or files at d ≡ f
got [] at f d e = absurd (let w : None ≡ Some f = e in cc)
got (x ∷ files) zero f d e = let w : Some x ≡ Some f = e in cc
got (x ∷ files) (suc at) f d e = got files at f d e

pub found-file : (files : List MailFile) (n at : ℕ) → Found files n at → (f : MailFile) × (slice_get files at ≡ Some f) × (f.file.0 ≡ n)
found-file files n at found =
    let g = get_at files at found.within in
    (g.0, g.1, let e : get_or files at g.0 ≡ g.0 = got files at g.0 g.0 g.1 in sym (ap (λ (x : MailFile). x.file.0) e) ∙ found.is g.0)

pub sought-none : (files : List MailFile) (n at : ℕ) → Sought files n at → All (λ f. f.file.0 ≢ n) files
sought-none files n at s = λ k d lt e. elim (cases_lt k at) [
  | inl before ↦ let l : (get_or files k d).file.0 < n = s.before k d before in omega (arith, l, e)
  | inr behind ↦ let l : n < (get_or files k d).file.0 = s.behind k d behind lt in omega (arith, l, e)
]

-- the place past a number

-- all in the front, or in the rest
pub all-take : {X : Type 0} → (Q : X → Type 0) (n : ℕ) (xs : List X) → n ≤ length xs → ((k : ℕ) (d : X) → k < n → Q (get_or xs k d)) → All Q (take n xs)
all-take Q zero xs le h = All-nil Q
all-take Q (suc n) [] le h = absurd (omega (arith, le))
all-take Q (suc n) (x ∷ xs) le h = All-cons Q x (take n xs) (h 0 x (omega arith)) (all-take Q n xs (omega (arith, le)) (λ k d lt. h (suc k) d (omega (arith, lt))))

pub all-drop : {X : Type 0} → (Q : X → Type 0) (n : ℕ) (xs : List X) → ((k : ℕ) (d : X) → n ≤ k → k < length xs → Q (get_or xs k d)) → All Q (drop n xs)
all-drop Q zero xs h = λ k d lt. h k d (omega arith) lt
all-drop Q (suc n) [] h = All-nil Q
all-drop Q (suc n) (x ∷ xs) h = all-drop Q n xs (λ k d le lt. h (suc k) d (omega (arith, le)) (omega (arith, lt)))

past_is : (n m : ℕ) → n < m → nat_lt n m ≡ true
past_is n m l = lt-ltb n m l

not_past : (n m : ℕ) → m ≤ n → nat_lt n m ≡ false
not_past n m l = le-ltb n m l

pub past-found_before : (files : List MailFile) (after : FileNo) (at : ℕ) → Rise files → Found files after.0 at → All (λ f. is_number_past (Some after) f.file.0 ≡ false) (take (at + 1) files)
past-found_before files after at rise found = all-take (λ f. is_number_past (Some after) f.file.0 ≡ false) (at + 1) files (let w = found.within in omega (arith, w)) (λ k d lt.
    not_past after.0 (get_or files k d).file.0 (elim (cases_eq k at) [
      | inl same ↦ let e : (get_or files k d).file.0 ≡ (get_or files at d).file.0 = ap (λ (i : ℕ). (get_or files i d).file.0) same in omega (arith, e, found.is d)
      | inr apart ↦ let l : (get_or files k d).file.0 < (get_or files at d).file.0 = rise k at d (omega (arith, lt, apart)) found.within in omega (arith, l, found.is d)
    ]))

pub past-found_behind : (files : List MailFile) (after : FileNo) (at : ℕ) → Rise files → Found files after.0 at → All (λ f. is_number_past (Some after) f.file.0 ≡ true) (drop (at + 1) files)
past-found_behind files after at rise found = all-drop (λ f. is_number_past (Some after) f.file.0 ≡ true) (at + 1) files (λ k d le lt.
    past_is after.0 (get_or files k d).file.0 (let l : (get_or files at d).file.0 < (get_or files k d).file.0 = rise at k d (omega (arith, le)) lt in omega (arith, l, found.is d)))

pub past-sought_before : (files : List MailFile) (after : FileNo) (at : ℕ) → Sought files after.0 at → All (λ f. is_number_past (Some after) f.file.0 ≡ false) (take at files)
past-sought_before files after at s = all-take (λ f. is_number_past (Some after) f.file.0 ≡ false) at files s.within (λ k d lt.
    not_past after.0 (get_or files k d).file.0 (let l : (get_or files k d).file.0 < after.0 = s.before k d lt in omega (arith, l)))

pub past-sought_behind : (files : List MailFile) (after : FileNo) (at : ℕ) → Sought files after.0 at → All (λ f. is_number_past (Some after) f.file.0 ≡ true) (drop at files)
past-sought_behind files after at s = all-drop (λ f. is_number_past (Some after) f.file.0 ≡ true) at files (λ k d le lt.
    past_is after.0 (get_or files k d).file.0 (s.behind k d le lt))

-- the first file that passes, behind those that don't

find_step : (p q : MailFile → Bool) (x : MailFile) (xs ys : List MailFile) → p x ≡ false → find p xs ≡ find q ys → find p (x ∷ xs) ≡ find q ys
find_step p q x xs ys fails rest = rw fails rest

pub find-behind : (p q : MailFile → Bool) (n : ℕ) (xs : List MailFile) → All (λ x. p x ≡ false) (take n xs) → All (λ x. p x ≡ q x) (drop n xs) → find p xs ≡ find q (drop n xs)
find-behind p q zero [] before behind = refl
find-behind p q zero (x ∷ xs) before behind =
    let e : p x ≡ q x = All-head (λ y. p y ≡ q y) x xs behind in
    let rest : find p xs ≡ find q xs = find-behind p q zero xs (All-nil (λ y. p y ≡ false)) (All-tail (λ y. p y ≡ q y) x xs behind) in
    rw (e, rest) refl
find-behind p q (suc n) [] before behind = refl
find-behind p q (suc n) (x ∷ xs) before behind =
    find_step p q x xs (drop n xs) (All-head (λ y. p y ≡ false) x (take n xs) before) (find-behind p q n xs (All-tail (λ y. p y ≡ false) x (take n xs) before) behind)

-- of the files with this property, the last has the greatest number
pub greatest : (Q : MailFile → Type 0) (files : List MailFile) (at : ℕ) (f : MailFile) → Rise files → at < length files → slice_get files at ≡ Some f → All (λ g. Q g → ⊥) (drop (at + 1) files)
    → All (λ g. Q g → g.file.0 ≤ f.file.0) files
greatest Q files at f rise within e none k d lt q = elim (cases_lt at k) [
  | inl past ↦ absurd (none_past (at + 1) k files none (omega arith) lt d q)
  | inr before ↦
      let here : get_or files at d ≡ f = got files at f d e in
      let same : (get_or files at d).file.0 ≡ f.file.0 = ap (λ (g : MailFile). g.file.0) here in
      elim (cases_eq k at) [
        | inl is ↦ let w : (get_or files k d).file.0 ≡ (get_or files at d).file.0 = ap (λ (i : ℕ). (get_or files i d).file.0) is in omega (arith, w, same)
        | inr apart ↦ let l : (get_or files k d).file.0 < (get_or files at d).file.0 = rise k at d (omega (arith, before, apart)) within in omega (arith, l, same)
      ]
]
  where
    none_past : (n k : ℕ) (xs : List MailFile) → All (λ g. Q g → ⊥) (drop n xs) → n ≤ k → k < length xs → (d : MailFile) → Q (get_or xs k d) → ⊥
    none_past zero k xs none le lt d q = none k d lt q
    none_past (suc n) k [] none le lt d q = omega (arith, lt)
    none_past (suc n) zero (x ∷ xs) none le lt d q = omega (arith, le)
    none_past (suc n) (suc k) (x ∷ xs) none le lt d q = none_past n k xs none (omega (arith, le)) (omega (arith, lt)) d q

pub contained : (files : List MailFile) (at : ℕ) (f : MailFile) → at < length files → slice_get files at ≡ Some f → Contains files f
contained files at f within e = (at, within, got files at f f e)

pub within : (files : List MailFile) (at : ℕ) (f : MailFile) → slice_get files at ≡ Some f → at < length files
within [] at f e = absurd (let w : None ≡ Some f = e in cc)
within (x ∷ xs) zero f e = omega arith
within (x ∷ xs) (suc at) f e = let w = within xs at f e in omega (arith, w)

-- the first file past a number that is there
pub next-is : (files : List MailFile) (after : Option FileNo) (at : ℕ) → All (λ f. is_number_past after f.file.0 ≡ false) (take at files) → All (λ f. is_number_past after f.file.0 ≡ true) (drop at files)
    → option_map (λ f. f.file) (find (λ f. is_some f.end) (take (length files - at) (drop at files))) ≡ file_past after files
next-is files after at before behind =
    let all : take (length files - at) (drop at files) ≡ drop at files = take_all (length files - at) (drop at files) (let l = length-drop at files in omega (arith, l)) in
    let p : MailFile → Bool = λ f. is_some f.end && is_number_past after f.file.0 in
    let q : MailFile → Bool = λ f. is_some f.end in
    let found : find p files ≡ find q (drop at files) =
    find-behind p q at files (λ k d lt. and_right (q (get_or (take at files) k d)) (is_number_past after (get_or (take at files) k d).file.0) (before k d lt))
    (λ k d lt. and_is (q (get_or (drop at files) k d)) (is_number_past after (get_or (drop at files) k d).file.0) (behind k d lt)) in
    ap (λ (fs : List MailFile). option_map (λ f. f.file) (find q fs)) all ∙ sym (ap (option_map (λ f. f.file)) found)
  where
    and_is : (a b : Bool) → b ≡ true → (a && b) ≡ a
    and_is true b e = e
    and_is false b e = refl
