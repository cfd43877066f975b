-- What an entry that fits says of the records.
use Rattle.map_index.proofs.Common.{◌≡◌, ◌≢◌, inl, inr, ◌+◌, ◌<◌, ◌≤◌, ◌==◌, ℕ, Bool, true, false, cond, List, [], ◌∷◌, map, find, Option, Some, None, refl, sym, ◌∙◌, ap, arith, AllPairs, option_map, option_map_or, nat_tests, All-head, All-tail, All-weaker, AllPairs-from_increasing, pairs_head}
use Rattle.map_index.proofs.Common.{pairs_tail, FileNo, MapUid, MapPlace, MapEntry, MapRecord, MapMeaning, equal_is, IsMapInOrder}
use Rattle.std.proofs.Common.{All}
use Rattle.std.specs.Prelude.{◌⊎◌}
use Rattle.std.proofs.lemmas.List.Elements.{All-map}
use Rattle.model_octets.proofs.PairLemmas.{found_holds, found_only, pairs_map}
use Rattle.mdbox_base.specs.declared.entries.MapEntry.TheVariants as entry
use Rattle.model_meaning.specs.MapMeaning.{moved_record, place_given}
use Rattle.model_meaning.specs.MapFits.{MapFits, FitsTarget, IsApart}
use Rattle.map_rows.specs.TableKept.{FitsMoved, CanMoveEach}
use Rattle.map_index.specs.Needs.{FitsTable}
use Rattle.map_index.proofs.DerivedListLemmas.{find-map, All-unmap}
use Rattle.map_index.proofs.MapOrderLemmas.{can_rise}

abbrev Rises : MapRecord → MapRecord → Type 0
Rises a b = a.uid < b.uid

-- a record with its new place, if it has this map uid
abbrev moves : ℕ → MapPlace → MapRecord → MapRecord
moves target place row = moved_record row target (place_given row.uid (place ∷ []))

unequal : (a b : ℕ) → a ≢ b → (a == b) ≡ false
unequal a b h = grind (arith, nat_tests, h)

equal : (a b : ℕ) → a ≡ b → (a == b) ≡ true
equal a b h = grind (arith, nat_tests, h)

uid_given : (target : ℕ) (row : MapRecord) (place : Option MapPlace) → (moved_record row target place).uid ≡ row.uid
uid_given target row None = refl
uid_given target row (Some place) = refl

uid_stays : (target : ℕ) (place : MapPlace) (row : MapRecord) → (moves target place row).uid ≡ row.uid
uid_stays target place row = uid_given target row (place_given row.uid (place ∷ []))

size_given : (target : ℕ) (row : MapRecord) (place : Option MapPlace) → (moved_record row target place).size ≡ row.size
size_given target row None = refl
size_given target row (Some place) = refl

other_stays : (target : ℕ) (place : MapPlace) (row : MapRecord) → row.uid ≢ place.uid.0 → moves target place row ≡ row
other_stays target place row apart = rw (unequal place.uid.0 row.uid (λ e. apart (sym e))) refl

find_step : {X : Type 0} → (b c : Bool) (x : X) (o q : Option X) → b ≡ c → o ≡ q → cond b (Some x) o ≡ cond c (Some x) q
find_step b c x o q e f = cc (e, f)

find_same : {X : Type 0} → (p q : X → Bool) → ((x : X) → p x ≡ q x) → (xs : List X) → find p xs ≡ find q xs
find_same p q same [] = refl
find_same p q same (x ∷ xs) = find_step (p x) (q x) x _ _ (same x) (find_same p q same xs)

-- after a move a search for a map uid finds the same record, moved
find_moved : (target : ℕ) (place : MapPlace) (uid : ℕ) (rows : List MapRecord) → find (λ row. row.uid == uid) (map (moves target place) rows) ≡ option_map (moves target place) (find (λ row. row.uid == uid) rows)
find_moved target place uid rows =
    find-map (λ (row : MapRecord). row.uid == uid) (moves target place) rows
    ∙ ap (option_map (moves target place)) (find_same (λ row. (moves target place row).uid == uid) (λ row. row.uid == uid) (λ row. ap (λ (n : ℕ). n == uid) (uid_stays target place row)) rows)

rise_moved : (target : ℕ) (place : MapPlace) (rows : List MapRecord) → AllPairs Rises rows → AllPairs Rises (map (moves target place) rows)
rise_moved target place rows rise = pairs_map Rises Rises (moves target place) (λ a b l. let p = uid_stays target place a in let q = uid_stays target place b in omega (arith, p, q, l)) rows rise

-- the size of a record's region, 0 where there is none
abbrev size_in : List MapRecord → ℕ → ℕ
size_in rows uid = option_map_or (λ row. row.size) (find (λ row. row.uid == uid) rows) 0

size_found : (target : ℕ) (place : MapPlace) (o : Option MapRecord) → option_map_or (λ row. row.size) (option_map (moves target place) o) 0 ≡ option_map_or (λ row. row.size) o 0
size_found target place None = refl
size_found target place (Some row) = size_given target row (place_given row.uid (place ∷ []))

size_moved : (target : ℕ) (place : MapPlace) (uid : ℕ) (rows : List MapRecord) → size_in (map (moves target place) rows) uid ≡ size_in rows uid
size_moved target place uid rows = ap (λ (o : Option MapRecord). option_map_or (λ row. row.size) o 0) (find_moved target place uid rows) ∙ size_found target place (find (λ row. row.uid == uid) rows)

-- two new places don't overlap
abbrev ArePlacesApart : List MapRecord → MapPlace → MapPlace → Type 0
ArePlacesApart rows a b = (a.offset + size_in rows a.uid.0 ≤ b.offset) ⊎ (b.offset + size_in rows b.uid.0 ≤ a.offset)

places_moved : (target : ℕ) (place : MapPlace) (rows : List MapRecord) (a b : MapPlace) → ArePlacesApart rows a b → ArePlacesApart (map (moves target place) rows) a b
places_moved target place rows a b (inl h) = let s = size_moved target place a.uid.0 rows in inl (omega (arith, h, s))
places_moved target place rows a b (inr h) = let s = size_moved target place b.uid.0 rows in inr (omega (arith, h, s))

-- ---- one move leaves the next ones free

free_step : (target : ℕ) (p q : MapPlace) (size_p size_q : ℕ) (o : MapRecord) (hit : Bool) → (o.file ≡ target → IsApart q.offset size_q o) → (hit ≡ true → o.size ≡ size_p) → (p.offset + size_p ≤ q.offset) ⊎ (q.offset + size_q ≤ p.offset)
    → (moved_record o target (cond hit (Some p) None)).file ≡ target → IsApart q.offset size_q (moved_record o target (cond hit (Some p) None))
free_step target p q size_p size_q o true free is (inl h) e = let s = is refl in inr (omega (arith, h, s))
free_step target p q size_p size_q o true free is (inr h) e = inl h
free_step target p q size_p size_q o false free is apart e = free e

size_is : (rows : List MapRecord) (uid : ℕ) (row : MapRecord) → find (λ r. r.uid == uid) rows ≡ Some row → size_in rows uid ≡ row.size
size_is rows uid row e = ap (λ (o : Option MapRecord). option_map_or (λ r. r.size) o 0) e

still_fits : (rows : List MapRecord) (target : ℕ) (p q : MapPlace) → AllPairs Rises rows → FitsMoved rows target p → FitsMoved rows target q → p.uid.0 < q.uid.0 → ArePlacesApart rows p q → FitsMoved (map (moves target p) rows) target q
still_fits rows target p q rise fp fq less apart =
    let hit : (fq.0.uid == q.uid.0) ≡ true = (found_holds (λ (r : MapRecord). r.uid == q.uid.0) rows fq.0 (λ r. Unit {0}) fq.1 (λ i d lt. tt)).1 in
    let named : fq.0.uid ≡ q.uid.0 = equal_is fq.0.uid q.uid.0 hit in
    let found : find (λ (r : MapRecord). r.uid == q.uid.0) (map (moves target p) rows) ≡ Some fq.0 =
    find_moved target p q.uid.0 rows ∙ ap (option_map (moves target p)) fq.1 ∙ ap Some (other_stays target p fq.0 (λ e. omega (arith, named, less, e))) in
    let only = found_only (λ (r : MapRecord). r.uid == p.uid.0) rows fp.0 fp.1 (λ i j d l le a b. let x = equal_is _ p.uid.0 a in let y = equal_is _ p.uid.0 b in let h = rise i j d l le in omega (arith, x, y, h)) in
    let sp = size_is rows p.uid.0 fp.0 fp.1 in
    let sq = size_is rows q.uid.0 fq.0 fq.1 in
    let away : (p.offset + fp.0.size ≤ q.offset) ⊎ (q.offset + fq.0.size ≤ p.offset) = elim apart [
      | inl h ↦ inl (omega (arith, h, sp))
      | inr h ↦ inr (omega (arith, h, sq))
    ] in (
      fq.0,
      found,
      fq.2,
      All-map (λ (o : MapRecord). o.file ≡ target → IsApart q.offset fq.0.size o) (moves target p) rows
          (λ k d lt. free_step target p q fp.0.size fq.0.size _ (p.uid.0 == _) (fq.3 k d lt) (λ e. ap (λ (r : MapRecord). r.size) (only k d lt (equal _ p.uid.0 (sym (equal_is p.uid.0 _ e))))) away),
    )

-- places that are free and apart can be given one after another
pub can_move_each : (rows : List MapRecord) (target : ℕ) (places : List MapPlace) → AllPairs Rises rows → AllPairs (λ a b. a < b) (map (λ (p : MapPlace). p.uid.0) places) → All (FitsMoved rows target) places → AllPairs (ArePlacesApart rows) places → CanMoveEach rows target places
can_move_each rows target [] rise list fit apart = tt
can_move_each rows target (p ∷ places) rise list fit apart =
    let first = All-head (FitsMoved rows target) p places fit in
    let rest = All-tail (FitsMoved rows target) p places fit in
    let above = All-unmap (λ n. p.uid.0 < n) (λ (q : MapPlace). q.uid.0) places (pairs_head (λ a b. a < b) p.uid.0 (map (λ (q : MapPlace). q.uid.0) places) list) in
    let from = pairs_head (ArePlacesApart rows) p places apart in
    let among = pairs_tail (ArePlacesApart rows) p places apart in (
      first,
      can_move_each (map (moves target p) rows) target places (rise_moved target p rows rise) (pairs_tail (λ a b. a < b) p.uid.0 (map (λ (q : MapPlace). q.uid.0) places) list)
          (λ k d lt. still_fits rows target p _ rise first (rest k d lt) (above k d lt) (from k d lt))
          (λ i j d lt le. places_moved target p rows _ _ (among i j d lt le)),
    )

target_fits : (m : MapMeaning) (file target : ℕ) (places : List MapPlace) → AllPairs Rises m.records → AllPairs (λ a b. a < b) (map (λ (p : MapPlace). p.uid.0) places) → FitsTarget m file target places → CanMoveEach m.records target places
target_fits m file target [] rise list f = tt
target_fits m file target (p ∷ places) rise list f = can_move_each m.records target (p ∷ places) rise list (λ k d lt. let h = f.2 k d lt in (h.0, h.1, h.2.0, h.2.1)) f.3

-- ---- each entry

stored_fits : (m : MapMeaning) (o c : ℕ) (u : MapUid) (file : FileNo) (a z : ℕ) (g : _) (is : _) → IsMapInOrder m → MapFits m (entry.S o c u file a z g is) → FitsTable (entry.S o c u file a z g is) m.records
stored_fits m o c u file a z g is k f = record {
  uid_new = All-weaker (λ (x : MapRecord). x.uid ≤ m.highest.map) (λ (x : MapRecord). x.uid < u.0) (λ x h. let above = f.uid_new in omega (arith, h, above)) m.records k.records.below;
  some = f.region.some;
  ends = f.region.ends;
  free = f.region.free;
  guid_new = f.guid_new;
  known = f.known;
  earlier = f.earlier;
}

pub fits_table : (m : MapMeaning) (e : MapEntry) → IsMapInOrder m → MapFits m e → FitsTable e m.records
fits_table m (entry.H h) k f = tt
fits_table m (entry.B b g n) k f = tt
fits_table m (entry.G b g) k f = tt
fits_table m (entry.S o c u file a z g is) k f = stored_fits m o c u file a z g is k f
fits_table m (entry.U u) k f = can_rise m u k f
fits_table m (entry.D us) k f = f.0
fits_table m (entry.T cs) k f = f.0
fits_table m (entry.P file t ms us) k f = (f.moved_rising, f.dropped_rising, target_fits m file.0 t ms k.records.rising (AllPairs-from_increasing _ f.moved_rising) f.target_fits)
fits_table m (entry.E file) k f = tt
fits_table m (entry.X b cs) k f = f.rising
fits_table m (entry.V b n) k f = tt
