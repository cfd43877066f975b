-- Pieces of rows: which of them can have a UID, and their rows after a change.
use Rattle.std.proofs.Common.{◌≡◌, ◌≢◌, ◌<◌, ◌≤◌, ◌+◌, ℕ, suc, zero, true, false, List, [], ◌∷◌, ◌++◌, length, get_or, slice_set, take, drop, refl, sym, ap, ◌∙◌, arith, length-drop, length-append, map, filter, find, not, ◌==◌, ◌-◌, Option, Some, None, IfSome, IsNone, slice_get, append_assoc}
use Rattle.std.proofs.Math.Nat.{sub-zero}
use Rattle.std.proofs.Math.ListN.{drop_of_length-le}
use Rattle.std.specs.List.{remove}
use Rattle.std.specs.List.Sorted.{IsPartitionedBy, IsPartitionPoint}
use Rattle.std.proofs.lemmas.Bool.{leb-true, leb-false, le-leb}
use Rattle.std.proofs.lemmas.List.{length-map, take-append-drop, drop_more, take-set, drop-set, get_or-drop}
use Rattle.std.proofs.lemmas.List.Concat.{flat_map-append}
use Rattle.std.proofs.lemmas.List.Elements.{All-nil, All-head, All-tail, All-take, All-drop, All-append, All-set}
use Rattle.box_index.specs.declared.index.BoxRow.{BoxRow}
use Rattle.box_index.specs.declared.index.RowChange.{RowChange}
use Rattle.std.specs.Option.{SomeIff}
use Rattle.box_index.specs.Row.{row_of, changed_row, UidsRise}
use Rattle.box_index.specs.Pieces.{HeldRows, rows_in, AreFilled, AreRising, LacksUid, begins_by, IsOnlyIn}
use Rattle.box_index.proofs.RisingLemmas.{rise-end, rise-parts, lacks-below, lacks-above, find-after, find-before, change-after, change-before, filter-after, filter-before}

-- ---- a piece that begins by a UID, or not

pub begun-low : (low next uid : ℕ) (rows more : List BoxRow) → UidsRise low (map row_of (rows ++ more)) next → begins_by uid rows ≡ true → low ≤ uid
begun-low low next uid [] more h b = absurd (cc b)
begun-low low next uid (row ∷ rows) more h b = let first = h.0 in let le = leb-true row.uid.0 uid b in omega arith

begun-first : (low next uid : ℕ) (rows : List BoxRow) → 1 ≤ length rows → UidsRise low (map row_of rows) next → next ≤ uid → begins_by uid rows ≡ true
begun-first low next uid [] some h le = absurd (omega (arith, some))
begun-first low next uid (row ∷ rows) some h le = let end = rise-end (row.uid.0 + 1) next rows h.1 in le-leb row.uid.0 uid (omega (arith, end, le))

pub unbegun-lacks : (low next uid : ℕ) (rows more : List BoxRow) → UidsRise low (map row_of (rows ++ more)) next → 1 ≤ length rows → begins_by uid rows ≡ false → LacksUid uid (rows ++ more)
unbegun-lacks low next uid [] more h some b = absurd (omega (arith, some))
unbegun-lacks low next uid (row ∷ rows) more h some b = lacks-above row.uid.0 next uid (row ∷ (rows ++ more)) (omega arith, h.1) (leb-false row.uid.0 uid b)

pub unbegun-last : (low next uid : ℕ) (rows : List BoxRow) → UidsRise low (map row_of rows) next → begins_by uid rows ≡ false → LacksUid uid rows
unbegun-last low next uid [] h b = All-nil (λ (row : BoxRow). uid ≢ row.uid.0)
unbegun-last low next uid (row ∷ rows) h b = lacks-above row.uid.0 next uid (row ∷ rows) (omega arith, h.1) (leb-false row.uid.0 uid b)

-- ---- the pieces that begin by a UID are the first ones

begun-later : (low next uid : ℕ) (pieces : List HeldRows) → UidsRise low (map row_of (rows_in pieces)) next → (j : ℕ) (d : HeldRows) → j < length pieces → begins_by uid (get_or pieces j d).rows ≡ true → low ≤ uid
begun-later low next uid [] h j d lt b = absurd (omega (arith, lt))
begun-later low next uid (piece ∷ pieces) h zero d lt b = begun-low low next uid piece.rows (rows_in pieces) h b
begun-later low next uid (piece ∷ pieces) h (suc j) d lt b =
    let parts = rise-parts low next piece.rows (rows_in pieces) h in
    let end = rise-end low parts.0 piece.rows parts.1 in
    let rest = begun-later parts.0 next uid pieces parts.2 j d (omega (arith, lt)) b in
    omega arith

pub parted : (low next uid : ℕ) (pieces : List HeldRows) → AreFilled pieces → UidsRise low (map row_of (rows_in pieces)) next → IsPartitionedBy (λ piece. begins_by uid piece.rows) pieces
parted low next uid [] filled h i j d le lt b = absurd (omega (arith, lt))
parted low next uid (piece ∷ pieces) filled h zero zero d le lt b = b
parted low next uid (piece ∷ pieces) filled h (suc i) zero d le lt b = absurd (omega (arith, le))
parted low next uid (piece ∷ pieces) filled h zero (suc j) d le lt b =
    let parts = rise-parts low next piece.rows (rows_in pieces) h in
    begun-first low parts.0 uid piece.rows (All-head (λ (piece : HeldRows). 1 ≤ length piece.rows) piece pieces filled) parts.1 (begun-later parts.0 next uid pieces parts.2 j d (omega (arith, lt)) b)
parted low next uid (piece ∷ pieces) filled h (suc i) (suc j) d le lt b =
    let parts = rise-parts low next piece.rows (rows_in pieces) h in
    parted parts.0 next uid pieces (All-tail (λ (piece : HeldRows). 1 ≤ length piece.rows) piece pieces filled) parts.2 i j d (omega (arith, le)) (omega (arith, lt)) b

-- ---- the rows of pieces that are cut at one of them

pub rows_in-parts : (pieces : List HeldRows) (place : ℕ) → rows_in pieces ≡ rows_in (take place pieces) ++ rows_in (drop place pieces)
rows_in-parts pieces place = ap rows_in (sym (take-append-drop place pieces)) ∙ flat_map-append (λ (piece : HeldRows). piece.rows) (take place pieces) (drop place pieces)

pub rows_in-split : (pieces : List HeldRows) (place : ℕ) (d : HeldRows) → place < length pieces → rows_in pieces ≡ rows_in (take place pieces) ++ ((get_or pieces place d).rows ++ rows_in (drop (place + 1) pieces))
rows_in-split pieces place d lt = rows_in-parts pieces place ∙ ap (λ (t : List HeldRows). rows_in (take place pieces) ++ rows_in t) (drop_more pieces place d lt)

pub rows_in-set : (pieces : List HeldRows) (place : ℕ) (piece : HeldRows) → place < length pieces → rows_in (slice_set pieces place piece) ≡ rows_in (take place pieces) ++ (piece.rows ++ rows_in (drop (place + 1) pieces))
rows_in-set pieces place piece lt =
    rows_in-parts (slice_set pieces place piece) place
    ∙ ap (λ (t : List HeldRows). rows_in t ++ rows_in (drop place (slice_set pieces place piece))) (take-set pieces place piece)
    ∙ ap (λ (t : List HeldRows). rows_in (take place pieces) ++ rows_in t) (drop-set pieces place piece lt)

no-rows : (rows : List BoxRow) → length rows ≡ 0 → rows ≡ []
no-rows [] e = refl
no-rows (row ∷ rows) e = absurd (omega (arith, e))

-- an empty piece goes
pub rows_in-remove : (pieces : List HeldRows) (place : ℕ) (d : HeldRows) → place < length pieces → length (get_or pieces place d).rows ≡ 0 → rows_in (remove pieces place) ≡ rows_in pieces
rows_in-remove [] place d lt none = absurd (omega (arith, lt))
rows_in-remove (piece ∷ pieces) zero d lt none = rw (no-rows piece.rows none) refl
rows_in-remove (piece ∷ pieces) (suc place) d lt none = ap (λ (t : List BoxRow). piece.rows ++ t) (rows_in-remove pieces place d (omega (arith, lt)) none)

-- ---- the piece that alone can have a UID

back-lacks : (low next uid : ℕ) (pieces : List HeldRows) → AreFilled pieces → UidsRise low (map row_of (rows_in pieces)) next → ((d : HeldRows) → 0 < length pieces → begins_by uid (get_or pieces 0 d).rows ≡ false) → LacksUid uid (rows_in pieces)
back-lacks low next uid [] filled h b = All-nil (λ (row : BoxRow). uid ≢ row.uid.0)
back-lacks low next uid (piece ∷ pieces) filled h b = unbegun-lacks low next uid piece.rows (rows_in pieces) h (All-head (λ (piece : HeldRows). 1 ≤ length piece.rows) piece pieces filled) (b piece (omega arith))

only-in : (low next uid : ℕ) (pieces : List HeldRows) (place begun : ℕ) → AreFilled pieces → UidsRise low (map row_of (rows_in pieces)) next → begun ≡ place + 1 → begun ≤ length pieces
    → IsPartitionPoint (λ piece. begins_by uid piece.rows ≡ true) (λ piece. begins_by uid piece.rows ≡ false) pieces begun → IsOnlyIn uid pieces place
only-in low next uid pieces place begun filled h same within point =
    let none : HeldRows = record { rows = []; room = 0 } in
    let lt : place < length pieces = omega (arith, same, within) in
    let cut : UidsRise low (map row_of (rows_in (take place pieces) ++ ((get_or pieces place none).rows ++ rows_in (drop (place + 1) pieces)))) next = rw (← rows_in-split pieces place none lt) h in
    let front = rise-parts low next (rows_in (take place pieces)) ((get_or pieces place none).rows ++ rows_in (drop (place + 1) pieces)) cut in
    let first = begun-low front.0 next uid (get_or pieces place none).rows (rows_in (drop (place + 1) pieces)) front.2 (point.0 place none (omega arith) (omega (arith, same))) in
    let cut_after : UidsRise low (map row_of (rows_in (take (place + 1) pieces) ++ rows_in (drop (place + 1) pieces))) next = rw (← rows_in-parts pieces (place + 1)) h in
    let back = rise-parts low next (rows_in (take (place + 1) pieces)) (rows_in (drop (place + 1) pieces)) cut_after in (
      lt,
      lacks-below low front.0 uid (rows_in (take place pieces)) front.1 first,
      back-lacks back.0 next uid (drop (place + 1) pieces) (All-drop (λ (piece : HeldRows). 1 ≤ length piece.rows) (place + 1) pieces filled) back.2 (λ d some. rw (get_or-drop (place + 1) pieces 0 d) (point.1 (place + 1 + 0) d (omega (arith, same)) (omega (arith, length-drop (place + 1) pieces, some)))),
    )

pub only-in_some : (low next uid : ℕ) (pieces : List HeldRows) (begun : ℕ) (place : Option ℕ) → AreFilled pieces → UidsRise low (map row_of (rows_in pieces)) next → begun ≤ length pieces
    → IsPartitionPoint (λ piece. begins_by uid piece.rows ≡ true) (λ piece. begins_by uid piece.rows ≡ false) pieces begun → SomeIff place (1 ≤ begun) (begun - 1) → IfSome place (IsOnlyIn uid pieces)
only-in_some low next uid pieces begun None filled h within point is = tt
only-in_some low next uid pieces begun (Some place) filled h within point is = let some = is.0 in let same = is.1 in only-in low next uid pieces place begun filled h (omega (arith, some, same)) within point

pub only-in_none : (low next uid : ℕ) (pieces : List HeldRows) (begun : ℕ) (place : Option ℕ) → AreFilled pieces → UidsRise low (map row_of (rows_in pieces)) next
    → IsPartitionPoint (λ piece. begins_by uid piece.rows ≡ true) (λ piece. begins_by uid piece.rows ≡ false) pieces begun → SomeIff place (1 ≤ begun) (begun - 1) → IsNone place → LacksUid uid (rows_in pieces)
only-in_none low next uid pieces begun None filled h point is none = back-lacks low next uid pieces filled h (λ d some. point.1 0 d (omega (arith, is)) some)
only-in_none low next uid pieces begun (Some place) filled h point is none = absurd (cc none)

-- ---- the order of parts

pub rising-front : (front back : List BoxRow) → AreRising (front ++ back) → AreRising front
rising-front front back h = let parts = rise-parts h.0 h.1 front back h.2 in (h.0, parts.0, parts.1)

pub rising-back : (front back : List BoxRow) → AreRising (front ++ back) → AreRising back
rising-back front back h = let parts = rise-parts h.0 h.1 front back h.2 in (parts.0, h.1, parts.2)

pub rising-piece : (pieces : List HeldRows) (place : ℕ) (piece : HeldRows) → AreRising (rows_in pieces) → place < length pieces → piece ≡ get_or pieces place piece → AreRising piece.rows
rising-piece pieces place piece h lt e =
    let cut : AreRising (rows_in (take place pieces) ++ ((get_or pieces place piece).rows ++ rows_in (drop (place + 1) pieces))) = rw (← rows_in-split pieces place piece lt) h in
    rw e (rising-front (get_or pieces place piece).rows (rows_in (drop (place + 1) pieces)) (rising-back (rows_in (take place pieces)) _ cut))

begun-itself : (low next uid : ℕ) (rows : List BoxRow) → UidsRise low (map row_of rows) next → begins_by uid rows ≡ true → low ≤ uid
begun-itself low next uid [] h b = absurd (cc b)
begun-itself low next uid (row ∷ rows) h b = let first = h.0 in let le = leb-true row.uid.0 uid b in omega arith

-- where the last piece begins by the UID, no earlier one has it
pub lacks-before : (uid : ℕ) (front last : List BoxRow) → AreRising (front ++ last) → begins_by uid last ≡ true → LacksUid uid front
lacks-before uid front last h b = let parts = rise-parts h.0 h.1 front last h.2 in lacks-below h.0 parts.0 uid front parts.1 (begun-itself parts.0 h.1 uid last parts.2 b)

-- where it doesn't, it lacks the UID itself
pub lacks-last : (uid : ℕ) (front last : List BoxRow) → AreRising (front ++ last) → begins_by uid last ≡ false → LacksUid uid last
lacks-last uid front last h b = let parts = rise-parts h.0 h.1 front last h.2 in unbegun-last parts.0 h.1 uid last parts.2 b

-- ---- what is done in the only piece is done in all

pub found-in : (uid : ℕ) (pieces : List HeldRows) (place : ℕ) (piece : HeldRows) → IsOnlyIn uid pieces place → piece ≡ get_or pieces place piece
    → find (λ row. row.uid.0 == uid) (rows_in pieces) ≡ find (λ row. row.uid.0 == uid) piece.rows
found-in uid pieces place piece only e =
    ap (find (λ (row : BoxRow). row.uid.0 == uid)) (rows_in-split pieces place piece only.0)
    ∙ find-after uid (rows_in (take place pieces)) _ only.1
    ∙ find-before uid (get_or pieces place piece).rows (rows_in (drop (place + 1) pieces)) only.2
    ∙ ap (λ (p : HeldRows). find (λ (row : BoxRow). row.uid.0 == uid) p.rows) (sym e)

pub changed-in : (uid : ℕ) (change : RowChange) (pieces : List HeldRows) (place : ℕ) (piece later : HeldRows) → IsOnlyIn uid pieces place → piece ≡ get_or pieces place piece → later.rows ≡ map (changed_row uid change) piece.rows
    → rows_in (slice_set pieces place later) ≡ map (changed_row uid change) (rows_in pieces)
changed-in uid change pieces place piece later only e is =
    let all = ap (map (changed_row uid change)) (rows_in-split pieces place piece only.0)
    ∙ change-after uid change (rows_in (take place pieces)) _ only.1
    ∙ ap (λ (t : List BoxRow). rows_in (take place pieces) ++ t) (change-before uid change (get_or pieces place piece).rows (rows_in (drop (place + 1) pieces)) only.2) in
    let same : later.rows ≡ map (changed_row uid change) (get_or pieces place piece).rows = is ∙ ap (λ (p : HeldRows). map (changed_row uid change) p.rows) e in
    rows_in-set pieces place later only.0 ∙ ap (λ (t : List BoxRow). rows_in (take place pieces) ++ (t ++ rows_in (drop (place + 1) pieces))) same ∙ sym all

pub removed-in : (uid : ℕ) (pieces : List HeldRows) (place : ℕ) (piece later : HeldRows) → IsOnlyIn uid pieces place → piece ≡ get_or pieces place piece → later.rows ≡ filter (λ row. not (uid == row.uid.0)) piece.rows
    → rows_in (slice_set pieces place later) ≡ filter (λ row. not (uid == row.uid.0)) (rows_in pieces)
removed-in uid pieces place piece later only e is =
    let all = ap (filter (λ (row : BoxRow). not (uid == row.uid.0))) (rows_in-split pieces place piece only.0)
    ∙ filter-after uid (rows_in (take place pieces)) _ only.1
    ∙ ap (λ (t : List BoxRow). rows_in (take place pieces) ++ t) (filter-before uid (get_or pieces place piece).rows (rows_in (drop (place + 1) pieces)) only.2) in
    let same : later.rows ≡ filter (λ row. not (uid == row.uid.0)) (get_or pieces place piece).rows = is ∙ ap (λ (p : HeldRows). filter (λ (row : BoxRow). not (uid == row.uid.0)) p.rows) e in
    rows_in-set pieces place later only.0 ∙ ap (λ (t : List BoxRow). rows_in (take place pieces) ++ (t ++ rows_in (drop (place + 1) pieces))) same ∙ sym all

-- one row fewer in a piece is one row fewer in all
pub fewer-in : (pieces : List HeldRows) (place : ℕ) (piece later : HeldRows) → place < length pieces → piece ≡ get_or pieces place piece → length later.rows + 1 ≡ length piece.rows
    → length (rows_in (slice_set pieces place later)) + 1 ≡ length (rows_in pieces)
fewer-in pieces place piece later lt e one =
    let same : length piece.rows ≡ length (get_or pieces place piece).rows = ap (λ (p : HeldRows). length p.rows) e in
    rw (rows_in-set pieces place later lt, rows_in-split pieces place piece lt)
    (omega (
      arith,
      one,
      same,
      length-append (rows_in (take place pieces)) (later.rows ++ rows_in (drop (place + 1) pieces)),
      length-append later.rows (rows_in (drop (place + 1) pieces)),
      length-append (rows_in (take place pieces)) ((get_or pieces place piece).rows ++ rows_in (drop (place + 1) pieces)),
      length-append (get_or pieces place piece).rows (rows_in (drop (place + 1) pieces)),
    ))

-- a change doesn't change how many rows there are
pub changed-filled : (uid : ℕ) (change : RowChange) (pieces : List HeldRows) (place : ℕ) (piece later : HeldRows) → AreFilled pieces → place < length pieces → piece ≡ get_or pieces place piece → later.rows ≡ map (changed_row uid change) piece.rows
    → AreFilled (slice_set pieces place later)
changed-filled uid change pieces place piece later filled lt e is =
    let some = filled place piece lt in
    let same : length piece.rows ≡ length (get_or pieces place piece).rows = ap (λ (p : HeldRows). length p.rows) e in
    let count : length later.rows ≡ length (map (changed_row uid change) piece.rows) = ap length is in
    All-set (λ (piece : HeldRows). 1 ≤ length piece.rows) pieces place later (omega (arith, some, same, count, length-map piece.rows (changed_row uid change))) filled

pub changed-length : (uid : ℕ) (change : RowChange) (pieces : List HeldRows) (place : ℕ) (piece later : HeldRows) (last : List BoxRow) → IsOnlyIn uid pieces place → piece ≡ get_or pieces place piece → later.rows ≡ map (changed_row uid change) piece.rows
    → length (rows_in pieces ++ last) ≡ length (rows_in (slice_set pieces place later) ++ last)
changed-length uid change pieces place piece later last only e is =
    rw (changed-in uid change pieces place piece later only e is) (omega (arith, length-append (rows_in pieces) last, length-append (map (changed_row uid change) (rows_in pieces)) last, length-map (rows_in pieces) (changed_row uid change)))

pub held-same : (rows more : List BoxRow) (room : ℕ) → rows ≡ more → (let held : HeldRows = record { rows = rows; room = room } in held) ≡ record { rows = more; room = room }
held-same rows more room e = ap (λ (r : List BoxRow). record { rows = r; room = room }) e

-- ---- a piece joins the one before it

pub joined-rows : (pieces : List HeldRows) (place : ℕ) (first next joined : HeldRows) → suc place < length pieces → first ≡ get_or (remove pieces (suc place)) place first → next ≡ get_or pieces (suc place) next → joined.rows ≡ first.rows ++ next.rows
    → rows_in (slice_set (remove pieces (suc place)) place joined) ≡ rows_in pieces
joined-rows [] place first next joined lt e f is = absurd (omega (arith, lt))
joined-rows (x ∷ []) place first next joined lt e f is = absurd (omega (arith, lt))
joined-rows (x ∷ (y ∷ pieces)) zero first next joined lt e f is =
    ap (λ (t : List BoxRow). t ++ rows_in pieces) (is ∙ ap (λ (p : HeldRows). p.rows ++ next.rows) e ∙ ap (λ (p : HeldRows). x.rows ++ p.rows) f) ∙ append_assoc x.rows y.rows (rows_in pieces)
joined-rows (x ∷ (y ∷ pieces)) (suc place) first next joined lt e f is = ap (λ (t : List BoxRow). x.rows ++ t) (joined-rows (y ∷ pieces) place first next joined (omega (arith, lt)) e f is)

pub joined-filled : (pieces : List HeldRows) (place : ℕ) (first next joined : HeldRows) → AreFilled pieces → suc place < length pieces → next ≡ get_or pieces (suc place) next → joined.rows ≡ first.rows ++ next.rows → AreFilled (slice_set (remove pieces (suc place)) place joined)
joined-filled pieces place first next joined filled lt f is =
    let some = filled (suc place) next lt in
    let same : length next.rows ≡ length (get_or pieces (suc place) next).rows = ap (λ (p : HeldRows). length p.rows) f in
    let count : length joined.rows ≡ length (first.rows ++ next.rows) = ap length is in
    All-set (λ (piece : HeldRows). 1 ≤ length piece.rows) (remove pieces (suc place)) place joined (omega (arith, some, same, count, length-append first.rows next.rows))
    (All-append (λ (piece : HeldRows). 1 ≤ length piece.rows) (take (suc place) pieces) (drop (suc (suc place)) pieces) (All-take (λ (piece : HeldRows). 1 ≤ length piece.rows) (suc place) pieces filled) (All-drop (λ (piece : HeldRows). 1 ≤ length piece.rows) (suc (suc place)) pieces filled))

-- ---- the row at a place

row-left : (front back : List BoxRow) (n : ℕ) → n < length front → slice_get (front ++ back) n ≡ slice_get front n
row-left [] back n lt = absurd (omega (arith, lt))
row-left (r ∷ front) back zero lt = refl
row-left (r ∷ front) back (suc n) lt = row-left front back n (omega (arith, lt))

row-right : (front back : List BoxRow) (n : ℕ) → length front ≤ n → slice_get (front ++ back) n ≡ slice_get back (n - length front)
row-right [] back n le = rw (sub-zero n) refl
row-right (r ∷ front) back zero le = absurd (omega (arith, le))
row-right (r ∷ front) back (suc n) le = row-right front back n (omega (arith, le)) ∙ ap (slice_get back) (omega arith)

cut-next : (pieces : List HeldRows) (k : ℕ) (piece : HeldRows) (last : List BoxRow) → k < length pieces → piece ≡ get_or pieces k piece → rows_in (drop k pieces) ++ last ≡ piece.rows ++ (rows_in (drop (k + 1) pieces) ++ last)
cut-next pieces k piece last lt e =
    ap (λ (t : List HeldRows). rows_in t ++ last) (drop_more pieces k piece lt)
    ∙ append_assoc (get_or pieces k piece).rows (rows_in (drop (k + 1) pieces)) last
    ∙ ap (λ (p : HeldRows). p.rows ++ (rows_in (drop (k + 1) pieces) ++ last)) (sym e)

pub row-in : (pieces : List HeldRows) (k : ℕ) (piece : HeldRows) (last : List BoxRow) (n : ℕ) → k < length pieces → piece ≡ get_or pieces k piece → n < length piece.rows
    → slice_get (rows_in (drop k pieces) ++ last) n ≡ slice_get piece.rows n
row-in pieces k piece last n lt e within = ap (λ (t : List BoxRow). slice_get t n) (cut-next pieces k piece last lt e) ∙ row-left piece.rows _ n within

pub row-past : (pieces : List HeldRows) (k : ℕ) (piece : HeldRows) (last : List BoxRow) (n : ℕ) → k < length pieces → piece ≡ get_or pieces k piece → length piece.rows ≤ n
    → slice_get (rows_in (drop k pieces) ++ last) n ≡ slice_get (rows_in (drop (k + 1) pieces) ++ last) (n - length piece.rows)
row-past pieces k piece last n lt e past = ap (λ (t : List BoxRow). slice_get t n) (cut-next pieces k piece last lt e) ∙ row-right piece.rows _ n past

pub row-last : (pieces : List HeldRows) (k : ℕ) (last : List BoxRow) (n : ℕ) → length pieces ≤ k → slice_get (rows_in (drop k pieces) ++ last) n ≡ slice_get last n
row-last pieces k last n past = rw (drop_of_length-le pieces past) refl
