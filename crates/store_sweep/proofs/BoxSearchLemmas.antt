-- The log of a mailbox, found by a search for the mailbox's number.
use Rattle.std.proofs.Common.{◌≡◌, ◌≢◌, ℕ, ◌+◌, ◌<◌, ◌≤◌, ◌==◌, ◌&&◌, ◌||◌, zero, suc, Bool, true, false, not, cond, List, [], ◌∷◌, length, get_or, slice_get, Option, Some, All, AllPairs, inl, inr, refl, sym, ◌∙◌, ap, arith, nat_le}
use Rattle.std.specs.List.{list_any, position_or_len}
use Rattle.std.specs.Option.{option_map, option_map_or}
use Rattle.std.proofs.lemmas.Bool.{cases_order, le-leb, lt-leb, ne_eqb, or_from}
use Rattle.std.proofs.lemmas.Bool.Decides.{leb_tells}
use Rattle.std.proofs.lemmas.List.Elements.{All-head, All-tail}
use Rattle.model_octets.proofs.PairLemmas.{pairs_head, pairs_tail}
use Rattle.model_meaning.specs.MapMeaning.{MapBox}
use Rattle.map_index.specs.Shown.{shown_box}
use Rattle.map_index.specs.declared.rows.BoxAt.{BoxAt}

-- ---- the search

-- what is shown of a place within a list
shown_is : {X Y : Type 0} → (show : X → Y) (xs : List X) (k : ℕ) (d : X) (o : Option Y) (y : Y) → o ≡ option_map show (slice_get xs k) → o ≡ Some y → k < length xs → y ≡ show (get_or xs k d)
shown_is show [] k d o y e is lt = absurd (omega (arith, lt))
shown_is show (x ∷ xs) zero d o y e is lt = let h : Some y ≡ Some (show x) = sym is ∙ e in cc h
shown_is show (x ∷ xs) (suc k) d o y e is lt = shown_is show xs k d o y e is (omega (arith, lt))

-- the mailboxes before this place have lesser numbers, and those from this place on have this number or greater ones
abbrev pub AreBelow : ℕ → List MapBox → ℕ → Type 0
AreBelow number boxes n = (k : ℕ) (d : MapBox) → k < n → (get_or boxes k d).number < number

abbrev pub AreFrom : ℕ → List MapBox → ℕ → Type 0
AreFrom number boxes n = (k : ℕ) (d : MapBox) → n ≤ k → k < length boxes → number ≤ (get_or boxes k d).number

pub below_more : (number : ℕ) (boxes : List MapBox) (middle : ℕ) (o : Option BoxAt) (at : BoxAt) → AllPairs (λ a b. a.number < b.number) boxes → o ≡ option_map shown_box (slice_get boxes middle) → o ≡ Some at → middle < length boxes → at.number.0 < number → AreBelow number boxes (middle + 1)
below_more number boxes middle o at rising e is within less k d lt =
    let here : at ≡ shown_box (get_or boxes middle d) = shown_is shown_box boxes middle d o at e is within in
    let n : at.number.0 ≡ (get_or boxes middle d).number = ap (λ (a : BoxAt). a.number.0) here in
    elim (cases_order k middle) [
      | inl same ↦ let s : (get_or boxes k d).number ≡ (get_or boxes middle d).number = ap (λ (j : ℕ). (get_or boxes j d).number) same in omega (arith, s, n, less)
      | inr (inl before) ↦ let r = rising k middle d before within in omega (arith, r, n, less)
      | inr (inr after) ↦ absurd (omega (arith, after, lt))
    ]

pub from_less : (number : ℕ) (boxes : List MapBox) (middle : ℕ) (o : Option BoxAt) (at : BoxAt) → AllPairs (λ a b. a.number < b.number) boxes → o ≡ option_map shown_box (slice_get boxes middle) → o ≡ Some at → number ≤ at.number.0 → AreFrom number boxes middle
from_less number boxes middle o at rising e is le k d from within =
    let here : at ≡ shown_box (get_or boxes middle d) = shown_is shown_box boxes middle d o at e is (omega (arith, from, within)) in
    let n : at.number.0 ≡ (get_or boxes middle d).number = ap (λ (a : BoxAt). a.number.0) here in
    elim (cases_order k middle) [
      | inl same ↦ let s : (get_or boxes k d).number ≡ (get_or boxes middle d).number = ap (λ (j : ℕ). (get_or boxes j d).number) same in omega (arith, s, n, le)
      | inr (inl before) ↦ absurd (omega (arith, before, from))
      | inr (inr after) ↦ let r = rising middle k d after within in omega (arith, r, n, le)
    ]

-- where both meet is the first of them
pub first_is : (number : ℕ) (boxes : List MapBox) (n : ℕ) → n ≤ length boxes → AreBelow number boxes n → AreFrom number boxes n → n ≡ position_or_len (λ box. nat_le number box.number) boxes
first_is number [] zero le below from = refl
first_is number [] (suc n) le below from = absurd (omega (arith, le))
first_is number (x ∷ xs) zero le below from = sym (ap {B = ℕ} (λ (b : Bool). cond (not b) (1 + position_or_len (λ (box : MapBox). nat_le number box.number) xs) 0) (le-leb number x.number (from 0 x (omega arith) (omega arith))))
first_is number (x ∷ xs) (suc n) le below from =
    let rest : n ≡ position_or_len (λ (box : MapBox). nat_le number box.number) xs = first_is number xs n (omega (arith, le)) (λ k d lt. below (suc k) d (omega (arith, lt))) (λ k d l w. from (suc k) d (omega (arith, l)) (omega (arith, w))) in
    let first = ap {B = ℕ} (λ (b : Bool). cond (not b) (1 + position_or_len (λ (box : MapBox). nat_le number box.number) xs) 0) (lt-leb number x.number (below 0 x (omega arith))) in
    omega (arith, rest, first)

-- ---- the log

-- a mailbox has this log
abbrev pub has_log : ℕ → ℕ → MapBox → Bool
has_log number generation box = (box.number == number) && (box.generation == generation)

other_log : (number generation : ℕ) (box : MapBox) → box.number ≢ number → has_log number generation box ≡ false
other_log number generation box other = ap (λ (b : Bool). b && (box.generation == generation)) (ne_eqb box.number number other)

-- mailboxes of other numbers don't
no_log : (number generation : ℕ) (boxes : List MapBox) → All (λ box. box.number ≢ number) boxes → list_any (has_log number generation) boxes ≡ false
no_log number generation [] other = refl
no_log number generation (x ∷ xs) other =
    or_from (has_log number generation x) (list_any (has_log number generation) xs)
    (other_log number generation x (All-head (λ (box : MapBox). box.number ≢ number) x xs other)) (no_log number generation xs (All-tail (λ (box : MapBox). box.number ≢ number) x xs other))

or_none : (a b : Bool) → b ≡ false → (a || b) ≡ a
or_none true b e = refl
or_none false b e = e

-- of mailboxes in order, the first whose number is this one or greater tells whether one of them has the log
pub log_at : (number generation : ℕ) (boxes : List MapBox) → AllPairs (λ a b. a.number < b.number) boxes
    → list_any (has_log number generation) boxes ≡ option_map_or (has_log number generation) (slice_get boxes (position_or_len (λ box. nat_le number box.number) boxes)) false
log_at number generation [] rising = refl
log_at number generation (x ∷ xs) rising =
    let shown : Bool → Bool = λ b. option_map_or (has_log number generation) (slice_get (x ∷ xs) (cond (not b) (1 + position_or_len (λ (box : MapBox). nat_le number box.number) xs) 0)) false in
    elim (leb_tells number x.number) [
      | inl here ↦
          let le = here.1 in
          or_none (has_log number generation x) (list_any (has_log number generation) xs)
          (no_log number generation xs (λ k d lt same. let less = pairs_head (λ (a b : MapBox). a.number < b.number) x xs rising k d lt in omega (arith, le, less, same)))
          ∙ sym (ap shown here.0)
      | inr before ↦
          let less = before.1 in
          let next : 1 + position_or_len (λ (box : MapBox). nat_le number box.number) xs ≡ suc (position_or_len (λ (box : MapBox). nat_le number box.number) xs) = omega arith in
          ap (λ (b : Bool). b || list_any (has_log number generation) xs) (other_log number generation x (λ same. omega (arith, less, same)))
          ∙ log_at number generation xs (pairs_tail (λ (a b : MapBox). a.number < b.number) x xs rising)
          ∙ sym (ap shown before.0 ∙ ap (λ (n : ℕ). option_map_or (has_log number generation) (slice_get (x ∷ xs) n) false) next)
    ]
