-- What stands beside the mailboxes of a map, one for each, where one of them leaves or gets another name.
use Rattle.store_core.proofs.Common.{◌≡◌, ◌≢◌, ◌==◌, ℕ, Bool, true, false, not, if◌then◌else◌, List, [], ◌∷◌, map, filter, Option, Some, None, refl, sym, ◌∙◌, ap, cond-false, ne_eqb, equal_is, History, BoxEntry, BoxNo, MapBox, BoxMeaning, meaning_numbered, AreBoxLogs, ReadBoxLogs, OpenBox, without_box}
use Rattle.mdbox_base.specs.declared.entries.MapEntry.TheVariants as entry
use Rattle.model_appends.specs.MapAppending.{beside_without}
use Rattle.model_meaning.specs.MapMeaning.{box_changed}
use Rattle.model_meaning.proofs.MapSoundLemmas.{turned_equal}

-- ---- one leaves

pub beside_map : {X Y : Type 0} → (f : X → Y) (n : ℕ) (ms : List MapBox) (xs : List X) → beside_without n ms (map f xs) ≡ map f (beside_without n ms xs)
beside_map f n [] xs = refl
beside_map f n (m ∷ ms) [] = refl
beside_map f n (m ∷ ms) (x ∷ xs) = by_test (n == m.number) (beside_map f n ms xs)
  where
    by_test : (t : Bool) → beside_without n ms (map f xs) ≡ map f (beside_without n ms xs) → (if t then beside_without n ms (map f xs) else f x ∷ beside_without n ms (map f xs)) ≡ map f (if t then beside_without n ms xs else x ∷ beside_without n ms xs)
    by_test true same = same
    by_test false same = ap (λ (ys : List _). f x ∷ ys) same

-- the open logs without that of the mailbox
pub boxes_beside : (n : ℕ) (store : List ℕ) (ms : List MapBox) (boxes : List OpenBox) → AreBoxLogs store ms boxes → without_box n boxes ≡ beside_without n ms boxes
boxes_beside n store [] [] a = refl
boxes_beside n store [] (b ∷ bs) a = absurd a
boxes_beside n store (m ∷ ms) [] a = refl
boxes_beside n store (m ∷ ms) (b ∷ bs) a =
    ap (λ (t : Bool). if not t then b ∷ without_box n bs else without_box n bs) (ap (λ (k : ℕ). k == n) a.0 ∙ turned_equal n m.number (n == m.number) refl) ∙ by_test (n == m.number) (boxes_beside n store ms bs a.3)
  where
    by_test : (t : Bool) → without_box n bs ≡ beside_without n ms bs → (if not t then b ∷ without_box n bs else without_box n bs) ≡ (if t then beside_without n ms bs else b ∷ beside_without n ms bs)
    by_test true same = same
    by_test false same = ap (λ (os : List OpenBox). b ∷ os) same

pub logs_without : (n : ℕ) (store : List ℕ) (ms : List MapBox) (boxes : List OpenBox) → AreBoxLogs store ms boxes → AreBoxLogs store (filter (λ box. not (n == box.number)) ms) (beside_without n ms boxes)
logs_without n store [] [] a = tt
logs_without n store [] (b ∷ bs) a = absurd a
logs_without n store (m ∷ ms) [] a = absurd a
logs_without n store (m ∷ ms) (b ∷ bs) a = by_test (n == m.number) (logs_without n store ms bs a.3)
  where
    by_test : (t : Bool) → AreBoxLogs store (filter (λ box. not (n == box.number)) ms) (beside_without n ms bs)
        → AreBoxLogs store (if not t then m ∷ filter (λ box. not (n == box.number)) ms else filter (λ box. not (n == box.number)) ms) (if t then beside_without n ms bs else b ∷ beside_without n ms bs)
    by_test true rest = rest
    by_test false rest = (a.0, a.1, a.2, rest)

pub read_without : (n : ℕ) (h : Option History) (store : List ℕ) (ms : List MapBox) (boxes : List OpenBox) (logs : List (List BoxEntry)) → AreBoxLogs store ms boxes → ReadBoxLogs h boxes logs → ReadBoxLogs h (beside_without n ms boxes) (beside_without n ms logs)
read_without n h store [] [] logs a r = tt
read_without n h store [] (b ∷ bs) logs a r = absurd a
read_without n h store (m ∷ ms) [] logs a r = absurd a
read_without n h store (m ∷ ms) (b ∷ bs) [] a r = absurd r
read_without n h store (m ∷ ms) (b ∷ bs) (l ∷ ls) a r = by_test (n == m.number) (read_without n h store ms bs ls a.3 r.1)
  where
    by_test : (t : Bool) → ReadBoxLogs h (beside_without n ms bs) (beside_without n ms ls) → ReadBoxLogs h (if t then beside_without n ms bs else b ∷ beside_without n ms bs) (if t then beside_without n ms ls else l ∷ beside_without n ms ls)
    by_test true rest = rest
    by_test false rest = (r.0, rest)

none_beside : (k : ℕ) (ms : List MapBox) → meaning_numbered k ms [] ≡ None
none_beside k [] = refl
none_beside k (m ∷ ms) = refl

-- the other mailboxes mean what they did, and this one is gone
pub numbered_without : (n k : ℕ) (ms : List MapBox) (xs : List BoxMeaning) → k ≢ n → meaning_numbered k (filter (λ box. not (n == box.number)) ms) (beside_without n ms xs) ≡ meaning_numbered k ms xs
numbered_without n k [] xs apart = refl
numbered_without n k (m ∷ ms) [] apart = none_beside k (filter (λ box. not (n == box.number)) (m ∷ ms))
numbered_without n k (m ∷ ms) (x ∷ xs) apart = by_test (n == m.number) refl (numbered_without n k ms xs apart)
  where
    by_test : (t : Bool) → (n == m.number) ≡ t → meaning_numbered k (filter (λ box. not (n == box.number)) ms) (beside_without n ms xs) ≡ meaning_numbered k ms xs
        → meaning_numbered k (if not t then m ∷ filter (λ box. not (n == box.number)) ms else filter (λ box. not (n == box.number)) ms) (if t then beside_without n ms xs else x ∷ beside_without n ms xs) ≡ meaning_numbered k (m ∷ ms) (x ∷ xs)
    by_test true e same = same ∙ sym (cond-false (m.number == k) (Some x) (meaning_numbered k ms xs) (ne_eqb m.number k (λ q. apart (sym q ∙ sym (equal_is n m.number e)))))
    by_test false e same = ap (λ (o : Option BoxMeaning). if m.number == k then Some x else o) same

pub numbered_gone : (n : ℕ) (ms : List MapBox) (xs : List BoxMeaning) → meaning_numbered n (filter (λ box. not (n == box.number)) ms) (beside_without n ms xs) ≡ None
numbered_gone n [] xs = refl
numbered_gone n (m ∷ ms) [] = none_beside n (filter (λ box. not (n == box.number)) (m ∷ ms))
numbered_gone n (m ∷ ms) (x ∷ xs) = by_test (n == m.number) refl (numbered_gone n ms xs)
  where
    by_test : (t : Bool) → (n == m.number) ≡ t → meaning_numbered n (filter (λ box. not (n == box.number)) ms) (beside_without n ms xs) ≡ None
        → meaning_numbered n (if not t then m ∷ filter (λ box. not (n == box.number)) ms else filter (λ box. not (n == box.number)) ms) (if t then beside_without n ms xs else x ∷ beside_without n ms xs) ≡ None
    by_test true e none = none
    by_test false e none = ap (λ (t : Bool). if t then Some x else meaning_numbered n (filter (λ box. not (n == box.number)) ms) (beside_without n ms xs)) (turned_equal n m.number false e) ∙ none

-- ---- one gets another name

-- no more of it changes
named_test : (t : Bool) (name : List ℕ) (box : MapBox) → ((if t then record box { name = name } else box).number ≡ box.number) × ((if t then record box { name = name } else box).generation ≡ box.generation)
named_test true name box = (refl, refl)
named_test false name box = (refl, refl)

pub logs_renamed : (k : BoxNo) (name : List ℕ) (store : List ℕ) (ms : List MapBox) (boxes : List OpenBox) → AreBoxLogs store ms boxes → AreBoxLogs store (map (box_changed (entry.V k name)) ms) boxes
logs_renamed k name store [] [] a = tt
logs_renamed k name store [] (b ∷ bs) a = absurd a
logs_renamed k name store (m ∷ ms) [] a = absurd a
logs_renamed k name store (m ∷ ms) (b ∷ bs) a = by_test (k.0 == m.number) (logs_renamed k name store ms bs a.3)
  where
    by_test : (t : Bool) → AreBoxLogs store (map (box_changed (entry.V k name)) ms) bs → AreBoxLogs store ((if t then record m { name = name } else m) ∷ map (box_changed (entry.V k name)) ms) (b ∷ bs)
    by_test true rest = (a.0, a.1, a.2, rest)
    by_test false rest = (a.0, a.1, a.2, rest)

pub numbered_renamed : (k : BoxNo) (name : List ℕ) (n : ℕ) (ms : List MapBox) (xs : List BoxMeaning) → meaning_numbered n (map (box_changed (entry.V k name)) ms) xs ≡ meaning_numbered n ms xs
numbered_renamed k name n [] xs = refl
numbered_renamed k name n (m ∷ ms) [] = refl
numbered_renamed k name n (m ∷ ms) (x ∷ xs) =
    ap (λ (j : ℕ). if j == n then Some x else meaning_numbered n (map (box_changed (entry.V k name)) ms) xs) (named_test (k.0 == m.number) name m).0
    ∙ ap (λ (o : Option BoxMeaning). if m.number == n then Some x else o) (numbered_renamed k name n ms xs)
