-- Rows of rising UIDs: which of them can have a UID.
use Rattle.std.proofs.Common.{◌≡◌, ◌≢◌, ◌<◌, ◌≤◌, ◌+◌, ◌==◌, ℕ, suc, zero, false, List, [], ◌∷◌, ◌++◌, length, map, filter, find, not, Option, Some, None, get_or, slice_set, refl, sym, ap, ◌∙◌, arith, eq-eqb, inl, inr}
use Rattle.std.specs.List.{remove}
use Rattle.std.specs.List.Sorted.{IsNonDecreasingBy}
use Rattle.std.specs.Option.{option_or}
use Rattle.std.proofs.lemmas.List.{map-append}
use Rattle.std.proofs.lemmas.List.Elements.{All-nil, All-cons, All-head, All-tail, filter-append}
use Rattle.std.proofs.lemmas.List.Folds.{find-append}
use Rattle.std.proofs.lemmas.Bool.Decides.{nat_tests, leb_tells}
use Rattle.box_index.specs.declared.index.BoxRow.{BoxRow}
use Rattle.box_index.specs.declared.index.RowChange.{RowChange}
use Rattle.box_index.specs.Row.{row_of, row_with, changed_row, UidsRise}
use Rattle.box_index.specs.Pieces.{LacksUid}
use Rattle.box_index.proofs.RowLemmas.{changed-same, changed-other}

-- ---- the order of rows

pub rise-end : (low next : ℕ) (rows : List BoxRow) → UidsRise low (map row_of rows) next → low ≤ next
rise-end low next [] h = h
rise-end low next (row ∷ rows) h = let first = h.0 in let rest = rise-end (row.uid.0 + 1) next rows h.1 in omega arith

pub rise-parts : (low next : ℕ) (front back : List BoxRow) → UidsRise low (map row_of (front ++ back)) next → (mid : ℕ) × UidsRise low (map row_of front) mid × UidsRise mid (map row_of back) next
rise-parts low next [] back h = (low, omega arith, h)
rise-parts low next (row ∷ front) back h = let r = rise-parts (row.uid.0 + 1) next front back h.1 in (r.0, (h.0, r.1), r.2)

pub rise-at : (low next : ℕ) (rows : List BoxRow) → UidsRise low (map row_of rows) next → (k : ℕ) (d : BoxRow) → k < length rows → low ≤ (get_or rows k d).uid.0
rise-at low next [] h k d lt = absurd (omega (arith, lt))
rise-at low next (row ∷ rows) h zero d lt = h.0
rise-at low next (row ∷ rows) h (suc k) d lt = let first = h.0 in let rest = rise-at (row.uid.0 + 1) next rows h.1 k d (omega (arith, lt)) in omega arith

pub rise-strict : (low next : ℕ) (rows : List BoxRow) → UidsRise low (map row_of rows) next → (i j : ℕ) (d : BoxRow) → i < j → j < length rows → (get_or rows i d).uid.0 < (get_or rows j d).uid.0
rise-strict low next [] h i j d le lt = absurd (omega (arith, lt))
rise-strict low next (row ∷ rows) h i zero d le lt = absurd (omega (arith, le))
rise-strict low next (row ∷ rows) h zero (suc j) d le lt = let rest = rise-at (row.uid.0 + 1) next rows h.1 j d (omega (arith, lt)) in omega arith
rise-strict low next (row ∷ rows) h (suc i) (suc j) d le lt = rise-strict (row.uid.0 + 1) next rows h.1 i j d (omega (arith, le)) (omega (arith, lt))

pub rise-no_less : (low next : ℕ) (rows : List BoxRow) → UidsRise low (map row_of rows) next → IsNonDecreasingBy (λ row. row.uid.0) rows
rise-no_less low next [] h i j d le lt = absurd (omega (arith, lt))
rise-no_less low next (row ∷ rows) h zero zero d le lt = omega arith
rise-no_less low next (row ∷ rows) h (suc i) zero d le lt = absurd (omega (arith, le))
rise-no_less low next (row ∷ rows) h zero (suc j) d le lt = let rest = rise-at (row.uid.0 + 1) next rows h.1 j d (omega (arith, lt)) in omega arith
rise-no_less low next (row ∷ rows) h (suc i) (suc j) d le lt = rise-no_less (row.uid.0 + 1) next rows h.1 i j d (omega (arith, le)) (omega (arith, lt))

-- ---- rows that lack a UID

pub lacks-below : (low next uid : ℕ) (rows : List BoxRow) → UidsRise low (map row_of rows) next → next ≤ uid → LacksUid uid rows
lacks-below low next uid [] h le = All-nil (λ (row : BoxRow). uid ≢ row.uid.0)
lacks-below low next uid (row ∷ rows) h le =
    let end = rise-end (row.uid.0 + 1) next rows h.1 in
    All-cons (λ (row : BoxRow). uid ≢ row.uid.0) row rows (λ e. omega (arith, e, end, le)) (lacks-below (row.uid.0 + 1) next uid rows h.1 le)

pub lacks-above : (low next uid : ℕ) (rows : List BoxRow) → UidsRise low (map row_of rows) next → uid < low → LacksUid uid rows
lacks-above low next uid [] h lt = All-nil (λ (row : BoxRow). uid ≢ row.uid.0)
lacks-above low next uid (row ∷ rows) h lt =
    let first = h.0 in
    All-cons (λ (row : BoxRow). uid ≢ row.uid.0) row rows (λ e. omega (arith, e, first, lt)) (lacks-above (row.uid.0 + 1) next uid rows h.1 (omega (arith, first, lt)))

-- before a place the UIDs are lower, from it on they aren't, and there another one is
pub lacks-around : (low next uid place : ℕ) (rows : List BoxRow) → UidsRise low (map row_of rows) next
    → ((k : ℕ) (d : BoxRow) → k < place → (get_or rows k d).uid.0 < uid)
    → ((k : ℕ) (d : BoxRow) → place ≤ k → k < length rows → uid ≤ (get_or rows k d).uid.0)
    → ((d : BoxRow) → place < length rows → uid ≢ (get_or rows place d).uid.0) → LacksUid uid rows
lacks-around low next uid place rows h lower higher other k d lt e = elim (leb_tells (suc k) place) [
  | inl w ↦ let less = lower k d (omega (arith, w.1)) in omega (arith, less, e)
  | inr w ↦ elim (leb_tells k place) [
    | inl v ↦ let same : k ≡ place = omega (arith, v.1, w.1) in other d (rw (← same) lt) (rw (← same) e)
    | inr v ↦
        let no_less = higher place d (omega arith) (omega (arith, v.1, lt)) in
        let more = rise-strict low next rows h place k d v.1 lt in
        omega (arith, no_less, more, e)
  ]
]

neq-eqb : (a b : ℕ) → (a ≡ b → ⊥) → (a == b) ≡ false
neq-eqb a b ne = grind (arith, nat_tests)

pub find-lacks : (uid : ℕ) (rows : List BoxRow) → LacksUid uid rows → find (λ row. row.uid.0 == uid) rows ≡ None
find-lacks uid [] h = refl
find-lacks uid (row ∷ rows) h =
    let other = neq-eqb row.uid.0 uid (λ e. All-head (λ (row : BoxRow). uid ≢ row.uid.0) row rows h (sym e)) in
    rw other (find-lacks uid rows (All-tail (λ (row : BoxRow). uid ≢ row.uid.0) row rows h))

pub change-lacks : (uid : ℕ) (change : RowChange) (rows : List BoxRow) → LacksUid uid rows → map (changed_row uid change) rows ≡ rows
change-lacks uid change [] h = refl
change-lacks uid change (row ∷ rows) h =
    rw (changed-other uid change row (All-head (λ (row : BoxRow). uid ≢ row.uid.0) row rows h), change-lacks uid change rows (All-tail (λ (row : BoxRow). uid ≢ row.uid.0) row rows h)) refl

pub filter-lacks : (uid : ℕ) (rows : List BoxRow) → LacksUid uid rows → filter (λ row. not (uid == row.uid.0)) rows ≡ rows
filter-lacks uid [] h = refl
filter-lacks uid (row ∷ rows) h =
    let other = neq-eqb uid row.uid.0 (All-head (λ (row : BoxRow). uid ≢ row.uid.0) row rows h) in
    rw (other, filter-lacks uid rows (All-tail (λ (row : BoxRow). uid ≢ row.uid.0) row rows h)) refl

-- ---- rows that lack the UID stay as they are

or-none : (found : Option BoxRow) → option_or found None ≡ found
or-none None = refl
or-none (Some row) = refl

pub find-after : (uid : ℕ) (front back : List BoxRow) → LacksUid uid front → find (λ row. row.uid.0 == uid) (front ++ back) ≡ find (λ row. row.uid.0 == uid) back
find-after uid front back lacks = rw (find-append (λ (row : BoxRow). row.uid.0 == uid) front back, find-lacks uid front lacks) refl

pub find-before : (uid : ℕ) (front back : List BoxRow) → LacksUid uid back → find (λ row. row.uid.0 == uid) (front ++ back) ≡ find (λ row. row.uid.0 == uid) front
find-before uid front back lacks = rw (find-append (λ (row : BoxRow). row.uid.0 == uid) front back, find-lacks uid back lacks) (or-none _)

pub change-after : (uid : ℕ) (change : RowChange) (front back : List BoxRow) → LacksUid uid front → map (changed_row uid change) (front ++ back) ≡ front ++ map (changed_row uid change) back
change-after uid change front back lacks = rw (map-append (changed_row uid change) front back, change-lacks uid change front lacks) refl

pub change-before : (uid : ℕ) (change : RowChange) (front back : List BoxRow) → LacksUid uid back → map (changed_row uid change) (front ++ back) ≡ map (changed_row uid change) front ++ back
change-before uid change front back lacks = rw (map-append (changed_row uid change) front back, change-lacks uid change back lacks) refl

pub filter-after : (uid : ℕ) (front back : List BoxRow) → LacksUid uid front → filter (λ row. not (uid == row.uid.0)) (front ++ back) ≡ front ++ filter (λ row. not (uid == row.uid.0)) back
filter-after uid front back lacks = rw (filter-append (λ (row : BoxRow). not (uid == row.uid.0)) front back, filter-lacks uid front lacks) refl

pub filter-before : (uid : ℕ) (front back : List BoxRow) → LacksUid uid back → filter (λ row. not (uid == row.uid.0)) (front ++ back) ≡ filter (λ row. not (uid == row.uid.0)) front ++ back
filter-before uid front back lacks = rw (filter-append (λ (row : BoxRow). not (uid == row.uid.0)) front back, filter-lacks uid back lacks) refl

-- ---- the row at a place has the UID

pub found-at : (low next uid : ℕ) (rows : List BoxRow) (place : ℕ) (row : BoxRow) → UidsRise low (map row_of rows) next → place < length rows → row ≡ get_or rows place row → row.uid.0 ≡ uid → find (λ row. row.uid.0 == uid) rows ≡ Some row
found-at low next uid [] place row h lt e u = absurd (omega (arith, lt))
found-at low next uid (r ∷ rows) zero row h lt e u =
    let here : r.uid.0 ≡ uid = ap (λ (x : BoxRow). x.uid.0) (sym e) ∙ u in
    rw (eq-eqb r.uid.0 uid here) (ap Some (sym e))
found-at low next uid (r ∷ rows) (suc place) row h lt e u =
    let within : place < length rows = omega (arith, lt) in
    let above = rise-at (r.uid.0 + 1) next rows h.1 place row within in
    let there : (get_or rows place row).uid.0 ≡ uid = ap (λ (x : BoxRow). x.uid.0) (sym e) ∙ u in
    rw (neq-eqb r.uid.0 uid (λ same. omega (arith, above, there, same))) (found-at (r.uid.0 + 1) next uid rows place row h.1 within e u)

pub changed-at : (low next uid : ℕ) (change : RowChange) (rows : List BoxRow) (place : ℕ) (row : BoxRow) → UidsRise low (map row_of rows) next → place < length rows → row ≡ get_or rows place row → row.uid.0 ≡ uid → slice_set rows place (row_with change row) ≡ map (changed_row uid change) rows
changed-at low next uid change [] place row h lt e u = absurd (omega (arith, lt))
changed-at low next uid change (r ∷ rows) zero row h lt e u =
    let here : uid ≡ r.uid.0 = sym u ∙ ap (λ (x : BoxRow). x.uid.0) e in
    let rest = change-lacks uid change rows (lacks-above (r.uid.0 + 1) next uid rows h.1 (omega (arith, here))) in
    rw (changed-same uid change r here, rest) (ap (λ (x : BoxRow). row_with change x ∷ rows) e)
changed-at low next uid change (r ∷ rows) (suc place) row h lt e u =
    let within : place < length rows = omega (arith, lt) in
    let above = rise-at (r.uid.0 + 1) next rows h.1 place row within in
    let there : (get_or rows place row).uid.0 ≡ uid = ap (λ (x : BoxRow). x.uid.0) (sym e) ∙ u in
    rw (changed-other uid change r (λ same. omega (arith, above, there, same))) (ap (λ (t : List BoxRow). r ∷ t) (changed-at (r.uid.0 + 1) next uid change rows place row h.1 within e u))

pub removed-at : (low next uid : ℕ) (rows : List BoxRow) (place : ℕ) (row : BoxRow) → UidsRise low (map row_of rows) next → place < length rows → row ≡ get_or rows place row → row.uid.0 ≡ uid → remove rows place ≡ filter (λ row. not (uid == row.uid.0)) rows
removed-at low next uid [] place row h lt e u = absurd (omega (arith, lt))
removed-at low next uid (r ∷ rows) zero row h lt e u =
    let here : uid ≡ r.uid.0 = sym u ∙ ap (λ (x : BoxRow). x.uid.0) e in
    rw (eq-eqb uid r.uid.0 here) (sym (filter-lacks uid rows (lacks-above (r.uid.0 + 1) next uid rows h.1 (omega (arith, here)))))
removed-at low next uid (r ∷ rows) (suc place) row h lt e u =
    let within : place < length rows = omega (arith, lt) in
    let above = rise-at (r.uid.0 + 1) next rows h.1 place row within in
    let there : (get_or rows place row).uid.0 ≡ uid = ap (λ (x : BoxRow). x.uid.0) (sym e) ∙ u in
    rw (neq-eqb uid r.uid.0 (λ same. omega (arith, above, there, same))) (ap (λ (t : List BoxRow). r ∷ t) (removed-at (r.uid.0 + 1) next uid rows place row h.1 within e u))
