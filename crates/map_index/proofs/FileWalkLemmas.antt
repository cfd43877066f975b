-- The records of a storage file, one after another in order of offset.
use Rattle.map_index.proofs.Common.{◌≡◌, inl, inr, ℕ, ◌+◌, ◌<◌, ◌≤◌, ◌==◌, Bool, true, false, cond, Option, Some, None, List, [], ◌∷◌, get_or, filter, fold, refl, sym, ap, subst, ◌∙◌, arith, AllPairs, option_map, nat_tests, All-nil, All-cons, All-head, All-tail, MapRecord, MapRow, shown_record}
use Rattle.map_index.proofs.Common.{equal_is}
use Rattle.std.proofs.Common.{◌&&◌, All}
use Rattle.std.specs.Prelude.{nat_le, ◌⊎◌}
use Rattle.std.proofs.lemmas.Bool.{cases_lt, cases_eq}
use Rattle.std.proofs.lemmas.List.{get_or_default}
use Rattle.std.proofs.lemmas.List.Elements.{All-filter, filter_passes}
use Rattle.model_meaning.specs.Sound.{AreApart}
use Rattle.map_rows.specs.TableKept.{AreTableRows, IsTableRow}
use Rattle.map_index.proofs.ShownLemmas.{shown_behind, none_behind}
use Rattle.model_meaning.proofs.MapPlaceLemmas.{turned, equal_yes}
use Rattle.map_rows.specs.Lookups.{nearer, least, is_from}

-- ---- the nearest of some records

nearest_step : (P : MapRecord → Type 0) (first r best : MapRecord) (rows : List MapRecord) (b : Bool) → P first → P r → ((x : MapRecord) → P x → fold nearer (Some x) rows ≡ Some best → P best) → fold nearer (cond b (Some first) (Some r)) rows ≡ Some best → P best
nearest_step P first r best rows true p q rest e = rest first p e
nearest_step P first r best rows false p q rest e = rest r q e

nearest_holds : (P : MapRecord → Type 0) (first best : MapRecord) (rows : List MapRecord) → P first → All P rows → fold nearer (Some first) rows ≡ Some best → P best
nearest_holds P first best [] p a e = let same : first ≡ best = cc e in subst P same p
nearest_holds P first best (r ∷ rows) p a e = nearest_step P first r best rows (nat_le first.offset r.offset) p (All-head P r rows a) (λ x q f. nearest_holds P x best rows q (All-tail P r rows a) f) e

-- what holds of each holds of the nearest
least_holds : (P : MapRecord → Type 0) (rows : List MapRecord) (best : MapRecord) → All P rows → least rows ≡ Some best → P best
least_holds P [] best a e = absurd (let w : None ≡ Some best = e in cc w)
least_holds P (r ∷ rows) best a e = nearest_holds P r best rows (All-head P r rows a) (All-tail P r rows a) e

abbrev NoneBefore : MapRecord → List MapRecord → Type 0
NoneBefore best rows = All (λ r. best.offset ≤ r.offset) rows

at_most_is : (a b : ℕ) → nat_le a b ≡ true → a ≤ b
at_most_is a b h = grind (arith, nat_tests, h)

more_is : (a b : ℕ) → nat_le a b ≡ false → b < a
more_is a b h = grind (arith, nat_tests, h)

at_most : (a b : ℕ) → a ≤ b → nat_le a b ≡ true
at_most a b h = grind (arith, nat_tests, h)

before_step : (first r best : MapRecord) (rows : List MapRecord) (b : Bool) → nat_le first.offset r.offset ≡ b → ((x : MapRecord) → fold nearer (Some x) rows ≡ Some best → (best.offset ≤ x.offset) × NoneBefore best rows)
    → fold nearer (cond b (Some first) (Some r)) rows ≡ Some best → (best.offset ≤ first.offset) × NoneBefore best (r ∷ rows)
before_step first r best rows true h rest e =
    let k = rest first e in
    let low = k.0 in
    let le = at_most_is first.offset r.offset h in
    (low, All-cons (λ x. best.offset ≤ x.offset) r rows (omega (arith, low, le)) k.1)
before_step first r best rows false h rest e =
    let k = rest r e in
    let low = k.0 in
    let le = more_is first.offset r.offset h in
    (omega (arith, low, le), All-cons (λ x. best.offset ≤ x.offset) r rows low k.1)

none_before : (first best : MapRecord) (rows : List MapRecord) → fold nearer (Some first) rows ≡ Some best → (best.offset ≤ first.offset) × NoneBefore best rows
none_before first best [] e = let same : first ≡ best = cc e in let low = ap (λ (r : MapRecord). r.offset) same in (omega (arith, low), All-nil (λ x. best.offset ≤ x.offset))
none_before first best (r ∷ rows) e = before_step first r best rows (nat_le first.offset r.offset) refl (λ x f. none_before x best rows f) e

-- none is before the nearest
least_first : (rows : List MapRecord) (best : MapRecord) → least rows ≡ Some best → NoneBefore best rows
least_first [] best e = All-nil (λ x. best.offset ≤ x.offset)
least_first (r ∷ rows) best e = let k = none_before r best rows e in All-cons (λ x. best.offset ≤ x.offset) r rows k.0 k.1

never_step : (first r : MapRecord) (rows : List MapRecord) (b : Bool) → ((x : MapRecord) → fold nearer (Some x) rows ≡ None → ⊥) → fold nearer (cond b (Some first) (Some r)) rows ≡ None → ⊥
never_step first r rows true rest e = rest first e
never_step first r rows false rest e = rest r e

never : (first : MapRecord) (rows : List MapRecord) → fold nearer (Some first) rows ≡ None → ⊥
never first [] e = let w : Some first ≡ None = e in cc w
never first (r ∷ rows) e = never_step first r rows (nat_le first.offset r.offset) (λ x f. never x rows f) e

no_least : (rows : List MapRecord) → least rows ≡ None → rows ≡ []
no_least [] e = refl
no_least (r ∷ rows) e = absurd (never r rows e)

-- ---- those that pass a test

unfilter_step : (p : MapRecord → Bool) (P : MapRecord → Type 0) (r : MapRecord) (rows : List MapRecord) (b : Bool) → p r ≡ b → (All P (filter p rows) → All (λ x. p x ≡ true → P x) rows) → All P (cond b (r ∷ filter p rows) (filter p rows)) → All (λ x. p x ≡ true → P x) (r ∷ rows)
unfilter_step p P r rows true h rest a = All-cons (λ x. p x ≡ true → P x) r rows (λ _. All-head P r (filter p rows) a) (rest (All-tail P r (filter p rows) a))
unfilter_step p P r rows false h rest a = All-cons (λ x. p x ≡ true → P x) r rows (λ k. absurd (let w : false ≡ true = sym h ∙ k in cc w)) (rest a)

unfiltered : (p : MapRecord → Bool) (P : MapRecord → Type 0) (rows : List MapRecord) → All P (filter p rows) → All (λ x. p x ≡ true → P x) rows
unfiltered p P [] a = All-nil (λ x. p x ≡ true → P x)
unfiltered p P (r ∷ rows) a = unfilter_step p P r rows (p r) refl (unfiltered p P rows) a

-- ---- one after another

turn_apart : (a b : MapRecord) → AreApart a b → AreApart b a
turn_apart a b h e = turned _ _ _ _ (h (sym e))

-- of two records either both are one, or their regions don't overlap
one_or_apart : (rows : List MapRecord) → AllPairs AreApart rows → All (λ r. All (λ s. (s ≡ r) ⊎ AreApart s r) rows) rows
one_or_apart rows apart = λ i d lt j e le.
    elim (cases_lt j i) [
      | inl before ↦ inr (subst (λ (s : MapRecord). AreApart s (get_or rows i d)) (get_or_default rows j d e le) (apart j i d before lt))
      | inr behind ↦ elim (cases_eq j i) [
        | inl same ↦ inl (get_or_default rows j e d le ∙ ap (λ (k : ℕ). get_or rows k d) same)
        | inr other ↦ inr (subst (λ (s : MapRecord). AreApart s (get_or rows i d)) (get_or_default rows j d e le) (turn_apart (get_or rows i d) (get_or rows j d) (apart i j d (omega (arith, behind, other)) le)))
      ]
    ]

starts : (file from : ℕ) (r : MapRecord) → r.file ≡ file → from ≤ r.offset → is_from file from r ≡ true
starts file from r e le = rw (equal_yes r.file file e, at_most from r.offset le) refl

both : (a b : Bool) → (a && b) ≡ true → (a ≡ true) × (b ≡ true)
both true b e = (refl, e)
both false b e = absurd (let w : false ≡ true = e in cc w)

-- the nearest record is one of the file's, at the offset or behind it
nearest_is : (rows : List MapRecord) (file from : ℕ) (best : MapRecord) → least (filter (is_from file from) rows) ≡ Some best → (best.file ≡ file) × (from ≤ best.offset)
nearest_is rows file from best e =
    let passes = both (best.file == file) (nat_le from best.offset) (least_holds (λ r. is_from file from r ≡ true) (filter (is_from file from) rows) best (filter_passes (is_from file from) rows) e) in
    (equal_is best.file file passes.0, at_most_is from best.offset passes.1)

nearest_has : (rows : List MapRecord) (file from : ℕ) (best : MapRecord) (P : MapRecord → Type 0) → least (filter (is_from file from) rows) ≡ Some best → All P rows → P best
nearest_has rows file from best P e a = least_holds P (filter (is_from file from) rows) best (All-filter (is_from file from) P rows a) e

-- what holds of the file's records before the offset, and of the nearest, holds of each that begins before this one ends
more_walked : (rows : List MapRecord) (file from : ℕ) (best : MapRecord) (P : ℕ → Type 0) → AreTableRows rows → least (filter (is_from file from) rows) ≡ Some best → P best.uid
    → All (λ r. r.file ≡ file → r.offset < from → P r.uid) rows → All (λ r. r.file ≡ file → r.offset < best.offset + best.size → P r.uid) rows
more_walked rows file from best P kept e holds walked = λ k d lt same before.
    elim (cases_lt (get_or rows k d).offset from) [
      | inl low ↦ walked k d lt same low
      | inr high ↦ elim (nearest_has rows file from best (λ r. All (λ s. (s ≡ r) ⊎ AreApart s r) rows) e (one_or_apart rows kept.apart) k d lt) [
        | inl is ↦ subst P (ap (λ (r : MapRecord). r.uid) (sym is)) holds
        | inr away ↦
            let here = (nearest_is rows file from best e).0 in
            let first : best.offset ≤ (get_or rows k d).offset = unfiltered (is_from file from) (λ r. best.offset ≤ r.offset) rows (least_first (filter (is_from file from) rows) best e) k d lt (starts file from (get_or rows k d) same high) in
            let some = (kept.each k d lt).some in
            absurd (elim (away (same ∙ sym here)) [
              | inl l ↦ omega (arith, l, first, some)
              | inr l ↦ omega (arith, l, before)
            ])
      ]
    ]

-- ---- as look-ups show them

abbrev pub shown_from : List MapRecord → ℕ → ℕ → Option MapRow
shown_from rows file from = option_map shown_record (least (filter (is_from file from) rows))

-- the row that was found lies at the offset or behind it
pub row_lies : (rows : List MapRecord) (file from : ℕ) (row : MapRow) → AreTableRows rows → Some row ≡ shown_from rows file from → (from ≤ row.offset) × (1 ≤ row.size) × (row.offset + row.size ≤ 4294967295)
row_lies rows file from row kept e =
    let b = shown_behind (least (filter (is_from file from) rows)) row e in
    let low = (nearest_is rows file from b.0 b.1).1 in
    let each = nearest_has rows file from b.0 IsTableRow b.1 kept.each in
    let some = each.some in
    let ends = each.ends in
    let offset = ap (λ (w : MapRow). w.offset) b.2 in
    let size = ap (λ (w : MapRow). w.size) b.2 in
    (omega (arith, low, offset), omega (arith, some, size), omega (arith, ends, offset, size))

-- what holds of each map uid of the file holds of the row's
pub row_walked : (rows : List MapRecord) (file from : ℕ) (row : MapRow) (P : ℕ → Type 0) → Some row ≡ shown_from rows file from → All (λ r. r.file ≡ file → P r.uid) rows → P row.uid.0
row_walked rows file from row P e all =
    let b = shown_behind (least (filter (is_from file from) rows)) row e in
    subst P (ap (λ (w : MapRow). w.uid.0) (sym b.2)) (nearest_has rows file from b.0 (λ r. r.file ≡ file → P r.uid) b.1 all (nearest_is rows file from b.0 b.1).0)

pub rows_walked : (rows : List MapRecord) (file from : ℕ) (row : MapRow) (P : ℕ → Type 0) → AreTableRows rows → Some row ≡ shown_from rows file from → P row.uid.0
    → All (λ r. r.file ≡ file → r.offset < from → P r.uid) rows → All (λ r. r.file ≡ file → r.offset < row.offset + row.size → P r.uid) rows
rows_walked rows file from row P kept e holds walked =
    let b = shown_behind (least (filter (is_from file from) rows)) row e in
    subst (λ (w : MapRow). All (λ r. r.file ≡ file → r.offset < w.offset + w.size → P r.uid) rows) (sym b.2)
    (more_walked rows file from b.0 P kept b.1 (subst P (ap (λ (w : MapRow). w.uid.0) b.2) holds) walked)

-- where no row is left, it holds of each of the file's
pub all_walked : (rows : List MapRecord) (file from : ℕ) (P : ℕ → Type 0) → None ≡ shown_from rows file from → All (λ r. r.file ≡ file → r.offset < from → P r.uid) rows → All (λ r. r.file ≡ file → P r.uid) rows
all_walked rows file from P e walked = λ k d lt same.
    elim (cases_lt (get_or rows k d).offset from) [
      | inl low ↦ walked k d lt same low
      | inr high ↦ absurd (unfiltered (is_from file from) (λ r. ⊥) rows (subst (λ (rs : List MapRecord). All (λ r. ⊥) rs) (sym (no_least (filter (is_from file from) rows) (none_behind _ e))) (All-nil (λ r. ⊥))) k d lt (starts file from (get_or rows k d) same high))
    ]
