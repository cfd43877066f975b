-- The records of a storage file, one after another in order of offset.
use Rattle.purge_task.proofs.Common.{◌≡◌, inl, inr, ℕ, zero, suc, ◌+◌, ◌<◌, ◌≤◌, ◌==◌, ◌&&◌, Bool, true, false, cond, Some, None, List, [], ◌∷◌, length, get_or, fold, All, refl, sym, ap, subst, ◌∙◌, arith, nat_le, nat_lt, AllPairs, ◌⊎◌, Contains, sum_by, option_map, cases_lt, cases_eq, nat_tests}
use Rattle.purge_task.proofs.Common.{get_or_default, All-nil, All-cons, All-head, All-tail, All-filter, All-contains, All-contains_itself, sum_by-cons, MapRecord, MapMeaning, IsSoundMap, IsSoundRecord, MapRow, record_from, shown_record, equal_is, equal_yes}
use Rattle.std.proofs.Common.{filter}
use Rattle.std.proofs.lemmas.List.Elements.{filter_passes}
use Rattle.model_meaning.specs.Sound.{AreApart}
use Rattle.map_index.proofs.ShownLemmas.{shown_behind, none_behind}
use Rattle.model_meaning.proofs.MapPlaceLemmas.{turned}
use Rattle.map_rows.specs.Lookups.{nearer, least, is_from}

-- ---- tests

pub at_most_is : (a b : ℕ) → nat_le a b ≡ true → a ≤ b
at_most_is a b h = grind (arith, nat_tests, h)

more_is : (a b : ℕ) → nat_le a b ≡ false → b < a
more_is a b h = grind (arith, nat_tests, h)

at_most : (a b : ℕ) → a ≤ b → nat_le a b ≡ true
at_most a b h = grind (arith, nat_tests, h)

pub below : (a b : ℕ) → a < b → nat_lt a b ≡ true
below a b h = grind (arith, nat_tests, h)

pub not_below : (a b : ℕ) → b ≤ a → nat_lt a b ≡ false
not_below a b h = grind (arith, nat_tests, h)

pub below_is : (a b : ℕ) → nat_lt a b ≡ true → a < b
below_is a b h = grind (arith, nat_tests, h)

pub not_below_is : (a b : ℕ) → nat_lt a b ≡ false → b ≤ a
not_below_is a b h = grind (arith, nat_tests, h)

pub unequal : (a b : ℕ) → (a ≡ b → ⊥) → (a == b) ≡ false
unequal a b h = grind (arith, nat_tests, h)

pub both : (a b : Bool) → (a && b) ≡ true → (a ≡ true) × (b ≡ true)
both true b e = (refl, e)
both false b e = absurd (let w : false ≡ true = e in cc w)

-- ---- the nearest of some records

nearest_step : (P : MapRecord → Type 0) (first r best : MapRecord) (rows : List MapRecord) (b : Bool) → P first → P r → ((x : MapRecord) → P x → fold nearer (Some x) rows ≡ Some best → P best) → fold nearer (cond b (Some first) (Some r)) rows ≡ Some best → P best
nearest_step P first r best rows true p q rest e = rest first p e
nearest_step P first r best rows false p q rest e = rest r q e

nearest_holds : (P : MapRecord → Type 0) (first best : MapRecord) (rows : List MapRecord) → P first → All P rows → fold nearer (Some first) rows ≡ Some best → P best
nearest_holds P first best [] p a e = let same : first ≡ best = cc e in subst P same p
nearest_holds P first best (r ∷ rows) p a e = nearest_step P first r best rows (nat_le first.offset r.offset) p (All-head P r rows a) (λ x q f. nearest_holds P x best rows q (All-tail P r rows a) f) e

-- what holds of each holds of the nearest
least_holds : (P : MapRecord → Type 0) (rows : List MapRecord) (best : MapRecord) → All P rows → least rows ≡ Some best → P best
least_holds P [] best a e = absurd (let w : None ≡ Some best = e in cc w)
least_holds P (r ∷ rows) best a e = nearest_holds P r best rows (All-head P r rows a) (All-tail P r rows a) e

abbrev NoneBefore : MapRecord → List MapRecord → Type 0
NoneBefore best rows = All (λ r. best.offset ≤ r.offset) rows

before_step : (first r best : MapRecord) (rows : List MapRecord) (b : Bool) → nat_le first.offset r.offset ≡ b → ((x : MapRecord) → fold nearer (Some x) rows ≡ Some best → (best.offset ≤ x.offset) × NoneBefore best rows)
    → fold nearer (cond b (Some first) (Some r)) rows ≡ Some best → (best.offset ≤ first.offset) × NoneBefore best (r ∷ rows)
before_step first r best rows true h rest e =
    let k = rest first e in
    let low = k.0 in
    let le = at_most_is first.offset r.offset h in
    (low, All-cons (λ x. best.offset ≤ x.offset) r rows (omega (arith, low, le)) k.1)
before_step first r best rows false h rest e =
    let k = rest r e in
    let low = k.0 in
    let le = more_is first.offset r.offset h in
    (omega (arith, low, le), All-cons (λ x. best.offset ≤ x.offset) r rows low k.1)

none_before : (first best : MapRecord) (rows : List MapRecord) → fold nearer (Some first) rows ≡ Some best → (best.offset ≤ first.offset) × NoneBefore best rows
none_before first best [] e = let same : first ≡ best = cc e in let low = ap (λ (r : MapRecord). r.offset) same in (omega (arith, low), All-nil (λ x. best.offset ≤ x.offset))
none_before first best (r ∷ rows) e = before_step first r best rows (nat_le first.offset r.offset) refl (λ x f. none_before x best rows f) e

-- none is before the nearest
least_first : (rows : List MapRecord) (best : MapRecord) → least rows ≡ Some best → NoneBefore best rows
least_first [] best e = All-nil (λ x. best.offset ≤ x.offset)
least_first (r ∷ rows) best e = let k = none_before r best rows e in All-cons (λ x. best.offset ≤ x.offset) r rows k.0 k.1

never_step : (first r : MapRecord) (rows : List MapRecord) (b : Bool) → ((x : MapRecord) → fold nearer (Some x) rows ≡ None → ⊥) → fold nearer (cond b (Some first) (Some r)) rows ≡ None → ⊥
never_step first r rows true rest e = rest first e
never_step first r rows false rest e = rest r e

never : (first : MapRecord) (rows : List MapRecord) → fold nearer (Some first) rows ≡ None → ⊥
never first [] e = let w : Some first ≡ None = e in cc w
never first (r ∷ rows) e = never_step first r rows (nat_le first.offset r.offset) (λ x f. never x rows f) e

no_least : (rows : List MapRecord) → least rows ≡ None → rows ≡ []
no_least [] e = refl
no_least (r ∷ rows) e = absurd (never r rows e)

-- ---- those that pass a test

unfilter_step : (p : MapRecord → Bool) (P : MapRecord → Type 0) (r : MapRecord) (rows : List MapRecord) (b : Bool) → p r ≡ b → (All P (filter p rows) → All (λ x. p x ≡ true → P x) rows) → All P (cond b (r ∷ filter p rows) (filter p rows)) → All (λ x. p x ≡ true → P x) (r ∷ rows)
unfilter_step p P r rows true h rest a = All-cons (λ x. p x ≡ true → P x) r rows (λ _. All-head P r (filter p rows) a) (rest (All-tail P r (filter p rows) a))
unfilter_step p P r rows false h rest a = All-cons (λ x. p x ≡ true → P x) r rows (λ k. absurd (let w : false ≡ true = sym h ∙ k in cc w)) (rest a)

unfiltered : (p : MapRecord → Bool) (P : MapRecord → Type 0) (rows : List MapRecord) → All P (filter p rows) → All (λ x. p x ≡ true → P x) rows
unfiltered p P [] a = All-nil (λ x. p x ≡ true → P x)
unfiltered p P (r ∷ rows) a = unfilter_step p P r rows (p r) refl (λ b. unfiltered p P rows b) a

starts : (file from : ℕ) (r : MapRecord) → r.file ≡ file → from ≤ r.offset → is_from file from r ≡ true
starts file from r e le = rw (equal_yes r.file file e, at_most from r.offset le) refl

-- ---- the record that is found

-- the record of a file with the least offset from this one on
pub record IsFoundRow (m : MapMeaning) (file from : ℕ) (r : MapRecord) : Type 0 where
  pub has : Contains m.records r
  pub here : r.file ≡ file
  pub behind : from ≤ r.offset
  pub first : All (λ o. o.file ≡ file → from ≤ o.offset → r.offset ≤ o.offset) m.records

-- there is none
abbrev pub HasNoRow : MapMeaning → ℕ → ℕ → Type 0
HasNoRow m file from = All (λ o. o.file ≡ file → from ≤ o.offset → ⊥) m.records

nearest_found : (m : MapMeaning) (file from : ℕ) (r : MapRecord) → record_from m file from ≡ Some r → IsFoundRow m file from r
nearest_found m file from r e =
    let passes = both (r.file == file) (nat_le from r.offset) (least_holds (λ o. is_from file from o ≡ true) (filter (is_from file from) m.records) r (filter_passes (is_from file from) m.records) e) in
    record {
      has = least_holds (Contains m.records) (filter (is_from file from) m.records) r (All-filter (is_from file from) (Contains m.records) m.records (All-contains_itself m.records)) e;
      here = equal_is r.file file passes.0;
      behind = at_most_is from r.offset passes.1;
      first = λ k d lt same le. unfiltered (is_from file from) (λ o. r.offset ≤ o.offset) m.records (least_first (filter (is_from file from) m.records) r e) k d lt (starts file from (get_or m.records k d) same le);
    }

pub found_row : (m : MapMeaning) (file from : ℕ) (row : MapRow) → Some row ≡ option_map shown_record (record_from m file from) → (r : MapRecord) × (row ≡ shown_record r) × IsFoundRow m file from r
found_row m file from row e = let b = shown_behind (record_from m file from) row e in (b.0, b.2, nearest_found m file from b.0 b.1)

pub none_found : (m : MapMeaning) (file from : ℕ) → None ≡ option_map shown_record (record_from m file from) → HasNoRow m file from
none_found m file from e = λ k d lt same high.
    unfiltered (is_from file from) (λ r. ⊥) m.records (subst (λ (rs : List MapRecord). All (λ r. ⊥) rs) (sym (no_least (filter (is_from file from) m.records) (none_behind _ e))) (All-nil (λ r. ⊥))) k d lt (starts file from (get_or m.records k d) same high)

-- its region has octets, and ends within a file
pub sound_row : (m : MapMeaning) (r : MapRecord) → IsSoundMap m → Contains m.records r → IsSoundRecord m.highest.map r
sound_row m r sound has = All-contains (IsSoundRecord m.highest.map) m.records r sound.records has

pub row_bounds : (m : MapMeaning) (file from : ℕ) (row : MapRow) → IsSoundMap m → Some row ≡ option_map shown_record (record_from m file from) → (from ≤ row.offset) × (1 ≤ row.size) × (row.offset + row.size ≤ 4294967295)
row_bounds m file from row sound e =
    let b = found_row m file from row e in
    let found = b.2 in
    let s = sound_row m b.0 sound found.has in
    let low = found.behind in
    let some = s.size in
    let ends = s.ends in
    let offset = ap (λ (w : MapRow). w.offset) b.1 in
    let size = ap (λ (w : MapRow). w.size) b.1 in
    (omega (arith, low, offset), omega (arith, some, size), omega (arith, ends, offset, size))

-- ---- one after another

turn_apart : (a b : MapRecord) → AreApart a b → AreApart b a
turn_apart a b h e = turned _ _ _ _ (h (sym e))

-- of two records either both are one, or their regions don't overlap
one_or_apart : (rows : List MapRecord) → AllPairs AreApart rows → All (λ r. All (λ s. (s ≡ r) ⊎ AreApart s r) rows) rows
one_or_apart rows apart = λ i d lt j e le.
    elim (cases_lt j i) [
      | inl before ↦ inr (subst (λ (s : MapRecord). AreApart s (get_or rows i d)) (get_or_default rows j d e le) (apart j i d before lt))
      | inr behind ↦ elim (cases_eq j i) [
        | inl same ↦ inl (get_or_default rows j e d le ∙ ap (λ (k : ℕ). get_or rows k d) same)
        | inr other ↦ inr (subst (λ (s : MapRecord). AreApart s (get_or rows i d)) (get_or_default rows j d e le) (turn_apart (get_or rows i d) (get_or rows j d) (apart i j d (omega (arith, behind, other)) le)))
      ]
    ]

-- from there on the file has it, and others behind its end
pub next_or_behind : (m : MapMeaning) (file from : ℕ) (r : MapRecord) → IsSoundMap m → IsFoundRow m file from r → All (λ o. o.file ≡ file → from ≤ o.offset → (o ≡ r) ⊎ (r.offset + r.size ≤ o.offset)) m.records
next_or_behind m file from r sound found = λ k d lt same high.
    let some = (sound_row m (get_or m.records k d) sound (All-contains_itself m.records k d lt)).size in
    let low = found.first k d lt same high in
    elim (All-contains (λ x. All (λ s. (s ≡ x) ⊎ AreApart s x) m.records) m.records r (one_or_apart m.records sound.apart) found.has k d lt) [
      | inl is ↦ inl is
      | inr away ↦ elim (away (same ∙ sym found.here)) [
        | inl l ↦ absurd (omega (arith, l, low, some))
        | inr l ↦ inr l
      ]
    ]

-- what holds of the file's records before an offset, and of the next one, holds of each that begins before that one ends
pub more_walked : (m : MapMeaning) (file from : ℕ) (r : MapRecord) (P : MapRecord → Type 0) → IsSoundMap m → IsFoundRow m file from r → P r
    → All (λ o. o.file ≡ file → o.offset < from → P o) m.records → All (λ o. o.file ≡ file → o.offset < r.offset + r.size → P o) m.records
more_walked m file from r P sound found holds walked = λ k d lt same before.
    elim (cases_lt (get_or m.records k d).offset from) [
      | inl low ↦ walked k d lt same low
      | inr high ↦ elim (next_or_behind m file from r sound found k d lt same high) [
        | inl is ↦ subst P (sym is) holds
        | inr behind ↦ absurd (omega (arith, before, behind))
      ]
    ]

-- where none is left, it holds of each
pub all_walked : (m : MapMeaning) (file from : ℕ) (P : MapRecord → Type 0) → HasNoRow m file from → All (λ o. o.file ≡ file → o.offset < from → P o) m.records → All (λ o. o.file ≡ file → P o) m.records
all_walked m file from P none walked = λ k d lt same.
    elim (cases_lt (get_or m.records k d).offset from) [
      | inl low ↦ walked k d lt same low
      | inr high ↦ absurd (none k d lt same high)
    ]

-- ---- sums over them

-- what is added up of the file's records that begin before an offset, and of all of them
abbrev pub upto : ℕ → ℕ → (MapRecord → ℕ) → MapRecord → ℕ
upto file from g = λ o. cond ((o.file == file) && nat_lt o.offset from) (g o) 0

abbrev pub in_all : ℕ → (MapRecord → ℕ) → MapRecord → ℕ
in_all file g = λ o. cond (o.file == file) (g o) 0

upto_inside : (file from : ℕ) (g : MapRecord → ℕ) (o : MapRecord) → o.file ≡ file → o.offset < from → upto file from g o ≡ g o
upto_inside file from g o e h = rw (equal_yes o.file file e, below o.offset from h) refl

upto_outside : (file from : ℕ) (g : MapRecord → ℕ) (o : MapRecord) → o.file ≡ file → from ≤ o.offset → upto file from g o ≡ 0
upto_outside file from g o e h = rw (equal_yes o.file file e, not_below o.offset from h) refl

upto_elsewhere : (file from : ℕ) (g : MapRecord → ℕ) (o : MapRecord) → (o.file ≡ file → ⊥) → upto file from g o ≡ 0
upto_elsewhere file from g o n = rw (unequal o.file file n) refl

all_inside : (file : ℕ) (g : MapRecord → ℕ) (o : MapRecord) → o.file ≡ file → in_all file g o ≡ g o
all_inside file g o e = rw (equal_yes o.file file e) refl

all_elsewhere : (file : ℕ) (g : MapRecord → ℕ) (o : MapRecord) → (o.file ≡ file → ⊥) → in_all file g o ≡ 0
all_elsewhere file g o n = rw (unequal o.file file n) refl

pub sum_same : {X : Type 0} → (f g : X → ℕ) (xs : List X) → All (λ x. g x ≡ f x) xs → sum_by g xs ≡ sum_by f xs
sum_same f g [] a = refl
sum_same f g (x ∷ xs) a =
    let p = sum_by-cons g x xs in
    let q = sum_by-cons f x xs in
    let h = All-head (λ y. g y ≡ f y) x xs a in
    let r = sum_same f g xs (All-tail (λ y. g y ≡ f y) x xs a) in
    omega (arith, p, q, h, r)

pub sum_less : {X : Type 0} → (f g : X → ℕ) (xs : List X) → All (λ x. f x ≤ g x) xs → sum_by f xs ≤ sum_by g xs
sum_less f g [] a = omega arith
sum_less f g (x ∷ xs) a =
    let p = sum_by-cons g x xs in
    let q = sum_by-cons f x xs in
    let h = All-head (λ y. f y ≤ g y) x xs a in
    let r = sum_less f g xs (All-tail (λ y. f y ≤ g y) x xs a) in
    omega (arith, p, q, h, r)

pub sum_none : {X : Type 0} → (f : X → ℕ) (xs : List X) → All (λ x. f x ≡ 0) xs → sum_by f xs ≡ 0
sum_none f [] a = refl
sum_none f (x ∷ xs) a =
    let q = sum_by-cons f x xs in
    let h = All-head (λ y. f y ≡ 0) x xs a in
    let r = sum_none f xs (All-tail (λ y. f y ≡ 0) x xs a) in
    omega (arith, q, h, r)

-- two functions that differ at one place
sum_one : {X : Type 0} → (f g : X → ℕ) (v : ℕ) (xs : List X) (j : ℕ) → j < length xs → ((d : X) → g (get_or xs j d) ≡ f (get_or xs j d) + v)
    → ((k : ℕ) (d : X) → k < length xs → (k ≡ j → ⊥) → g (get_or xs k d) ≡ f (get_or xs k d)) → sum_by g xs ≡ sum_by f xs + v
sum_one f g v [] j lt at same = absurd (omega (arith, lt))
sum_one f g v (x ∷ xs) zero lt at same =
    let p = sum_by-cons g x xs in
    let q = sum_by-cons f x xs in
    let h : g x ≡ f x + v = at x in
    let r = sum_same f g xs (λ k d l. same (suc k) d (omega (arith, l)) (λ e. omega (arith, e))) in
    omega (arith, p, q, h, r)
sum_one f g v (x ∷ xs) (suc j) lt at same =
    let p = sum_by-cons g x xs in
    let q = sum_by-cons f x xs in
    let h : g x ≡ f x = same zero x (omega arith) (λ e. omega (arith, e)) in
    let r = sum_one f g v xs j (omega (arith, lt)) at (λ k d l n. same (suc k) d (omega (arith, l)) (λ e. n (omega (arith, e)))) in
    omega (arith, p, q, h, r)

-- one record at two places of the list
uid_differs : (rows : List MapRecord) (i j : ℕ) (d : MapRecord) → AllPairs (λ a b. a.uid < b.uid) rows → i < length rows → j < length rows → (i ≡ j → ⊥) → get_or rows i d ≡ get_or rows j d → ⊥
uid_differs rows i j d rising li lj n same =
    let e = ap (λ (o : MapRecord). o.uid) same in
    elim (cases_lt i j) [
      | inl l ↦ (let u = rising i j d l lj in omega (arith, e, u))
      | inr l ↦ (let u = rising j i d (omega (arith, l, n)) li in omega (arith, e, u))
    ]

others_same : (m : MapMeaning) (file from : ℕ) (r : MapRecord) (g : MapRecord → ℕ) (o : MapRecord) → (o ≡ r → ⊥) → 1 ≤ r.size → from ≤ r.offset → (o.file ≡ file → from ≤ o.offset → (o ≡ r) ⊎ (r.offset + r.size ≤ o.offset)) → upto file (r.offset + r.size) g o ≡ upto file from g o
others_same m file from r g o n some low next =
    elim (cases_eq o.file file) [
      | inr away ↦ upto_elsewhere file (r.offset + r.size) g o away ∙ sym (upto_elsewhere file from g o away)
      | inl here ↦ elim (cases_lt o.offset from) [
        | inl l ↦ upto_inside file (r.offset + r.size) g o here (omega (arith, l, some, low)) ∙ sym (upto_inside file from g o here l)
        | inr l ↦ elim (next here l) [
          | inl is ↦ absurd (n is)
          | inr behind ↦ upto_outside file (r.offset + r.size) g o here behind ∙ sym (upto_outside file from g o here l)
        ]
      ]
    ]

-- the next record adds what is counted of it
pub sum_walked : (m : MapMeaning) (file from : ℕ) (r : MapRecord) (g : MapRecord → ℕ) → IsSoundMap m → IsFoundRow m file from r → sum_by (upto file (r.offset + r.size) g) m.records ≡ sum_by (upto file from g) m.records + g r
sum_walked m file from r g sound found =
    let j = found.has.0 in
    let lt = found.has.1 in
    let at : (d : MapRecord) → get_or m.records j d ≡ r = λ d. get_or_default m.records j d r lt ∙ found.has.2 in
    let some = (sound_row m r sound found.has).size in
    let low = found.behind in
    sum_one (upto file from g) (upto file (r.offset + r.size) g) (g r) m.records j lt
    (λ d. rw (at d) (
    let up = upto_inside file (r.offset + r.size) g r found.here (omega (arith, some)) in
    let out = upto_outside file from g r found.here low in
    omega (arith, up, out)
    ))
    (λ k d l n. others_same m file from r g (get_or m.records k d) (λ is. uid_differs m.records k j d sound.rising l lt n (is ∙ sym (at d))) some low (next_or_behind m file from r sound found k d l))

nothing_at : (file : ℕ) (g : MapRecord → ℕ) (o : MapRecord) → upto file 0 g o ≡ 0
nothing_at file g o = elim (cases_eq o.file file) [ inl here ↦ upto_outside file 0 g o here (omega arith) | inr away ↦ upto_elsewhere file 0 g o away ]

pub sum_begins : (m : MapMeaning) (file : ℕ) (g : MapRecord → ℕ) → sum_by (upto file 0 g) m.records ≡ 0
sum_begins m file g = sum_none (upto file 0 g) m.records (λ k d lt. nothing_at file g (get_or m.records k d))

ends_at : (m : MapMeaning) (file from : ℕ) (g : MapRecord → ℕ) (o : MapRecord) → (o.file ≡ file → from ≤ o.offset → ⊥) → in_all file g o ≡ upto file from g o
ends_at m file from g o none =
    elim (cases_eq o.file file) [
      | inr away ↦ all_elsewhere file g o away ∙ sym (upto_elsewhere file from g o away)
      | inl here ↦ elim (cases_lt o.offset from) [
        | inl l ↦ all_inside file g o here ∙ sym (upto_inside file from g o here l)
        | inr l ↦ absurd (none here l)
      ]
    ]

-- where none is left, the sum is of all
pub sum_ends : (m : MapMeaning) (file from : ℕ) (g : MapRecord → ℕ) → HasNoRow m file from → sum_by (in_all file g) m.records ≡ sum_by (upto file from g) m.records
sum_ends m file from g none = sum_same (upto file from g) (in_all file g) m.records (λ k d lt. ends_at m file from g (get_or m.records k d) (none k d lt))

upto_less : (m : MapMeaning) (file from : ℕ) (g : MapRecord → ℕ) (o : MapRecord) → upto file from g o ≤ in_all file g o
upto_less m file from g o =
    elim (cases_eq o.file file) [
      | inr away ↦ (let a = upto_elsewhere file from g o away in omega (arith, a))
      | inl here ↦ elim (cases_lt o.offset from) [
        | inl l ↦ (let a = all_inside file g o here in let b = upto_inside file from g o here l in omega (arith, a, b))
        | inr l ↦ (let b = upto_outside file from g o here l in omega (arith, b))
      ]
    ]

-- it never passes that of all
pub sum_within : (m : MapMeaning) (file from : ℕ) (g : MapRecord → ℕ) → sum_by (upto file from g) m.records ≤ sum_by (in_all file g) m.records
sum_within m file from g = sum_less (upto file from g) (in_all file g) m.records (λ k d lt. upto_less m file from g (get_or m.records k d))
