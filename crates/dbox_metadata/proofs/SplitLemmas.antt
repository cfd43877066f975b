-- Texts that are cut at the first octet of a kind, and numbers and digits before such an octet.
use Rattle.std.specs.Prelude.{◌≡◌, ◌≢◌, ◌<◌, ◌≤◌, ◌+◌, ◌-◌, ◌/◌, ◌%◌, ◌^◌, ◌==◌, ◌&&◌, ℕ, zero, suc, Bool, true, false, not, List, [], ◌∷◌, ◌++◌, length, take, drop, slice_index, IsTrue, Option, Some, None, IfNone, refl}
use Rattle.std.specs.List.{list_all}
use Rattle.std.specs.Fmt.{decimal}
use Rattle.std.proofs.Common.{sym, ◌∙◌, ap, arith, get_or, length-drop}
use Rattle.std.proofs.Math.Seq.{drop-cons}
use Rattle.std.proofs.lemmas.Bool.{eqb-true, eq-eqb}
use Rattle.std.proofs.lemmas.Grind.{common_steps}
use Rattle.std.proofs.lemmas.List.{take-append-drop, take_all}
use Rattle.hex.specs.Hex.{encode_with, encode_lower, lower_digits}
use Rattle.mdbox_base.specs.Words.{IsOctets, is_other_than}
use Rattle.mdbox_base.proofs.LowerHexLemmas.{lower_digit}
use Rattle.model_storage.proofs.ReferenceLemmas.{is_digit, decimal_digits, others, until_same}

-- octets before the first mark
pub none_before : (mark : ℕ) (text : List ℕ) (n : ℕ) → ((k : ℕ) → 0 ≤ k → k < n → (slice_index text k == mark) ≡ true → ⊥) → IsTrue (list_all (is_other_than mark) (take n text))
none_before mark text zero h = refl
none_before mark [] (suc n) h = refl
none_before mark (c ∷ text) (suc n) h =
    all_of c (list_all (is_other_than mark) (take n text)) (h 0 (omega arith) (omega arith)) (none_before mark text n (λ k low lt. h (suc k) (omega arith) (omega (arith, lt))))
  where
    all_of : (c : ℕ) (rest : Bool) → ((c == mark) ≡ true → ⊥) → IsTrue rest → IsTrue (is_other_than mark c && rest)
    all_of c rest other r = by_test (c == mark) rest other r
      where
        by_test : (b rest : Bool) → (b ≡ true → ⊥) → IsTrue rest → IsTrue (not b && rest)
        by_test true rest f r = absurd (f refl)
        by_test false rest f r = r

-- the text is cut at this place
pub cut_here : (mark n : ℕ) (text : List ℕ) → n < length text → (slice_index text n == mark) ≡ true →
    text ≡ take n text ++ mark ∷ take (length text - (n + 1)) (drop (n + 1) text)
cut_here mark n text h is =
    let at : get_or text n 0 ≡ mark = eqb-true (get_or text n 0) mark is in
    let all : take (length text - (n + 1)) (drop (n + 1) text) ≡ drop (n + 1) text = take_all (length text - (n + 1)) (drop (n + 1) text) (omega (arith, length-drop (n + 1) text)) in
    let one : n + 1 ≡ suc n = omega arith in
    sym (take-append-drop n text) ∙ ap (λ (o : List ℕ). take n text ++ o) (drop-cons text n 0 h ∙ rw (at, all, one) refl)

at_mark : (mark : ℕ) (before behind : List ℕ) → slice_index (before ++ mark ∷ behind) (length before) ≡ mark
at_mark mark [] behind = refl
at_mark mark (c ∷ before) behind = at_mark mark before behind

within : (mark : ℕ) (before behind : List ℕ) → length before < length (before ++ mark ∷ behind)
within mark [] behind = omega arith
within mark (c ∷ before) behind = let h = within mark before behind in omega arith

-- a text without the mark isn't cut
pub no_mark : (mark : ℕ) (text : List ℕ) → ((k : ℕ) → 0 ≤ k → k < length text → (slice_index text k == mark) ≡ true → ⊥) → (before behind : List ℕ) → text ≢ before ++ mark ∷ behind
no_mark mark text none before behind e =
    let at : slice_index text (length before) ≡ mark = rw e (at_mark mark before behind) in
    let in_it : length before < length text = rw e (within mark before behind) in
    none (length before) (omega arith) in_it (eq-eqb (slice_index text (length before)) mark at)

-- where an option is none
pub none_if : {X A : Type 0} → (o : Option X) → (o ≡ None → A) → IfNone o A
none_if None h = h refl
none_if (Some x) h = tt

-- a cut at the first mark is that behind a number
pub cut_number : (mark n : ℕ) (before x y : List ℕ) → is_digit mark ≡ false → n < 2 ^ 64 → IsTrue (list_all (is_other_than mark) before) →
    before ++ mark ∷ x ≡ decimal n ++ mark ∷ y → (before ≡ decimal n) × (x ≡ y)
cut_number mark n before x y p lt h e = until_same mark before (decimal n) x y h (others mark (decimal n) p (decimal_digits n lt)) e

-- and that behind hexadecimal digits
other_digit : (mark d : ℕ) → mark < 48 → d < 16 → is_other_than mark (slice_index lower_digits d) ≡ true
other_digit mark d low lt = rw (lower_digit d lt) (grind (arith, common_steps))

other_digits : (mark : ℕ) (octets : List ℕ) → mark < 48 → IsOctets octets → IsTrue (list_all (is_other_than mark) (encode_lower octets))
unfolding encode_with
other_digits mark [] low h = refl
other_digits mark (b ∷ rest) low h =
    let fits : b < 256 = h 0 0 (omega arith) in
    rw (other_digit mark (b / 16) low (omega arith), other_digit mark (b % 16) low (omega arith))
    (other_digits mark rest low (λ k d lt. h (suc k) d (omega arith)))

pub cut_digits : (mark : ℕ) (octets before x y : List ℕ) → mark < 48 → IsOctets octets → IsTrue (list_all (is_other_than mark) before) →
    before ++ mark ∷ x ≡ encode_lower octets ++ mark ∷ y → (before ≡ encode_lower octets) × (x ≡ y)
cut_digits mark octets before x y low h p e = until_same mark before (encode_lower octets) x y p (other_digits mark octets low h) e

-- what follows where there is none
pub none_then : {X A B : Type 0} → (r : Option X) → IfNone r A → (A → B) → IfNone r B
none_then None h f = f h
none_then (Some x) h f = tt
