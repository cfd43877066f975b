-- Texts that are cut at the first octet of a kind.
use Rattle.std.specs.Prelude.{◌≡◌, ◌≢◌, ◌<◌, ◌≤◌, ◌+◌, ◌-◌, ◌%◌, ◌^◌, ◌==◌, ◌&&◌, ℕ, zero, suc, Bool, true, false, not, List, [], ◌∷◌, ◌++◌, length, take, drop, slice_index, IsTrue, Option, Some, None, IfNone, All, refl}
use Rattle.std.specs.List.{list_all}
use Rattle.std.specs.Fmt.{decimal}
use Rattle.std.proofs.Common.{sym, ◌∙◌, ap, arith, get_or, length-drop}
use Rattle.std.proofs.Math.Seq.{drop-cons}
use Rattle.std.proofs.lemmas.Bool.{eqb-true, eq-eqb}
use Rattle.std.proofs.lemmas.Fmt.{decimal_by_steps, decimal_injective}
use Rattle.std.proofs.lemmas.Grind.{common_steps}
use Rattle.std.proofs.lemmas.List.{take-append-drop, take_all}
use Rattle.mdbox_base.specs.Numbers.{is_between}
use Rattle.mdbox_base.specs.Words.{is_other_than}

-- where an option is none
pub none_if : {X A : Type 0} → (o : Option X) → (o ≡ None → A) → IfNone o A
none_if None h = h refl
none_if (Some x) h = tt

pub both : (a b : Bool) → IsTrue a → IsTrue b → IsTrue (a && b)
both true b ha hb = hb
both false b ha hb = cc ha

pub first : (a b : Bool) → IsTrue (a && b) → IsTrue a
first true b h = refl
first false b h = h

pub second : (a b : Bool) → IsTrue (a && b) → IsTrue b
second true b h = h
second false b h = cc h

-- ---- the cut

pub other_at : (mark c : ℕ) → ((c == mark) ≡ true → ⊥) → IsTrue (is_other_than mark c)
other_at mark c h = by_test (c == mark) h
  where
    by_test : (b : Bool) → (b ≡ true → ⊥) → IsTrue (not b)
    by_test true f = absurd (f refl)
    by_test false f = refl

-- octets before the first mark
pub none_before : (mark : ℕ) (text : List ℕ) (n : ℕ) → ((k : ℕ) → 0 ≤ k → k < n → (slice_index text k == mark) ≡ true → ⊥) → IsTrue (list_all (is_other_than mark) (take n text))
none_before mark text zero h = refl
none_before mark [] (suc n) h = refl
none_before mark (c ∷ text) (suc n) h =
    both (is_other_than mark c) _ (other_at mark c (h 0 (omega arith) (omega arith))) (none_before mark text n (λ k low lt. h (suc k) (omega arith) (omega (arith, lt))))

-- the text is cut at this place
pub cut_here : (mark n : ℕ) (text : List ℕ) → n < length text → (slice_index text n == mark) ≡ true →
    text ≡ take n text ++ mark ∷ take (length text - (n + 1)) (drop (n + 1) text)
cut_here mark n text h is =
    let at : get_or text n 0 ≡ mark = eqb-true (get_or text n 0) mark is in
    let all : take (length text - (n + 1)) (drop (n + 1) text) ≡ drop (n + 1) text = take_all (length text - (n + 1)) (drop (n + 1) text) (omega (arith, length-drop (n + 1) text)) in
    let one : n + 1 ≡ suc n = omega arith in
    sym (take-append-drop n text) ∙ ap (λ (o : List ℕ). take n text ++ o) (drop-cons text n 0 h ∙ rw (at, all, one) refl)

at_mark : (mark : ℕ) (before behind : List ℕ) → slice_index (before ++ mark ∷ behind) (length before) ≡ mark
at_mark mark [] behind = refl
at_mark mark (c ∷ before) behind = at_mark mark before behind

within : (mark : ℕ) (before behind : List ℕ) → length before < length (before ++ mark ∷ behind)
within mark [] behind = omega arith
within mark (c ∷ before) behind = let h = within mark before behind in omega arith

-- a text without the mark isn't cut
pub no_mark : (mark : ℕ) (text : List ℕ) → ((k : ℕ) → 0 ≤ k → k < length text → (slice_index text k == mark) ≡ true → ⊥) → (before behind : List ℕ) → text ≢ before ++ mark ∷ behind
no_mark mark text none before behind e =
    let at : slice_index text (length before) ≡ mark = rw e (at_mark mark before behind) in
    let in_it : length before < length text = rw e (within mark before behind) in
    none (length before) (omega arith) in_it (eq-eqb (slice_index text (length before)) mark at)

-- ---- texts without the mark

marked : (mark b : ℕ) (rest : Bool) → IsTrue (is_other_than mark b && rest) → mark ≡ b → ⊥
marked mark b rest h e = grind (arith, common_steps, h, e)

-- a text without the mark ends at the first mark
pub until_same : (mark : ℕ) (a b x y : List ℕ) → IsTrue (list_all (is_other_than mark) a) → IsTrue (list_all (is_other_than mark) b) → a ++ mark ∷ x ≡ b ++ mark ∷ y → (a ≡ b) × (x ≡ y)
until_same mark [] [] x y pa pb e = (refl, cc)
until_same mark [] (b ∷ bs) x y pa pb e = absurd (let h : mark ≡ b = cc in marked mark b (list_all (is_other_than mark) bs) pb h)
until_same mark (a ∷ us) [] x y pa pb e = absurd (let h : a ≡ mark = cc in marked mark a (list_all (is_other_than mark) us) pa (sym h))
until_same mark (a ∷ us) (b ∷ bs) x y pa pb e =
    let h : a ≡ b = cc in
    let t : us ++ mark ∷ x ≡ bs ++ mark ∷ y = cc in
    let r : (us ≡ bs) × (x ≡ y) = until_same mark us bs x y (second (is_other_than mark a) (list_all (is_other_than mark) us) pa) (second (is_other_than mark b) (list_all (is_other_than mark) bs) pb) t in
    (cc (r.0, h), r.1)

-- it isn't cut there
pub no_cut : (mark : ℕ) (text before behind : List ℕ) → IsTrue (list_all (is_other_than mark) text) → text ≢ before ++ mark ∷ behind
no_cut mark [] [] behind h e = cc e
no_cut mark [] (c ∷ before) behind h e = cc e
no_cut mark (t ∷ text) [] behind h e = marked mark t (list_all (is_other_than mark) text) h (let k : mark ≡ t = cc in k)
no_cut mark (t ∷ text) (c ∷ before) behind h e = no_cut mark text before behind (second (is_other_than mark t) (list_all (is_other_than mark) text) h) (let k : text ≡ before ++ mark ∷ behind = cc in k)

-- tests of two texts
pub all_both : (p : ℕ → Bool) (xs ys : List ℕ) → IsTrue (list_all p xs) → IsTrue (list_all p ys) → IsTrue (list_all p (xs ++ ys))
all_both p [] ys h k = k
all_both p (x ∷ xs) ys h k = both (p x) _ (first (p x) _ h) (all_both p xs ys (second (p x) _ h) k)

-- octets that print have no LF
pub printing_clear : (text : List ℕ) → All (λ octet. 32 ≤ octet) text → IsTrue (list_all (is_other_than 10) text)
printing_clear [] h = refl
printing_clear (c ∷ text) h =
    let low : 32 ≤ c = h 0 0 (omega arith) in
    both (is_other_than 10 c) _ (other_at 10 c (λ e. let k : c ≡ 10 = eqb-true c 10 e in omega arith)) (printing_clear text (λ k d lt. h (suc k) d (omega (arith, lt))))

-- ---- numbers

abbrev pub is_digit : ℕ → Bool
is_digit c = is_between 48 57 c

digit_at : (n : ℕ) → n < 10 → is_digit (48 + n) ≡ true
digit_at n lt = grind (arith, common_steps, lt)

-- the digits of a number are digits
pub decimal_digits : (n : ℕ) → n < 2 ^ 64 → IsTrue (list_all is_digit (decimal n))
decimal_digits n lt = decimal_by_steps (λ k ds. IsTrue (list_all is_digit ds))
    (λ k h. all_both is_digit [] ((48 + k) ∷ []) refl (both (is_digit (48 + k)) true (digit_at k h) refl))
    (λ k ds h q. all_both is_digit ds ((48 + k % 10) ∷ []) q (both (is_digit (48 + k % 10)) true (digit_at (k % 10) (omega arith)) refl)) n lt

digit_is_other : (mark c : ℕ) → is_digit mark ≡ false → is_digit c ≡ true → is_other_than mark c ≡ true
digit_is_other mark c no_digit digit = grind (arith, common_steps, no_digit, digit)

others : (mark : ℕ) (ds : List ℕ) → is_digit mark ≡ false → IsTrue (list_all is_digit ds) → IsTrue (list_all (is_other_than mark) ds)
others mark [] h q = refl
others mark (d ∷ ds) h q = both (is_other_than mark d) _ (digit_is_other mark d h (first (is_digit d) _ q)) (others mark ds h (second (is_digit d) _ q))

-- the digits of a number have no mark that isn't a digit
pub number_clear : (mark n : ℕ) → is_digit mark ≡ false → n < 2 ^ 64 → IsTrue (list_all (is_other_than mark) (decimal n))
number_clear mark n h lt = others mark (decimal n) h (decimal_digits n lt)

-- a cut at the first mark is that behind a number
pub cut_number : (mark n : ℕ) (before x y : List ℕ) → is_digit mark ≡ false → n < 2 ^ 64 → IsTrue (list_all (is_other_than mark) before) →
    before ++ mark ∷ x ≡ decimal n ++ mark ∷ y → (before ≡ decimal n) × (x ≡ y)
cut_number mark n before x y p lt h e = until_same mark before (decimal n) x y h (number_clear mark n p lt) e

-- a number in front of a mark that is no digit
pub number_until : (mark m n : ℕ) (x y : List ℕ) → is_digit mark ≡ false → m < 2 ^ 64 → n < 2 ^ 64 → decimal m ++ mark ∷ x ≡ decimal n ++ mark ∷ y → (m ≡ n) × (x ≡ y)
number_until mark m n x y h hm hn e =
    let r = until_same mark (decimal m) (decimal n) x y (number_clear mark m h hm) (number_clear mark n h hn) e in
    (decimal_injective m n hm hn r.0, r.1)

-- fronts of one length
pub same_front : (m n a b : List ℕ) → length m ≡ length n → m ++ a ≡ n ++ b → (m ≡ n) × (a ≡ b)
same_front [] [] a b l e = (refl, e)
same_front [] (y ∷ n) a b l e = absurd (omega (arith, l))
same_front (x ∷ m) [] a b l e = absurd (omega (arith, l))
same_front (x ∷ m) (y ∷ n) a b l e =
    let h : x ≡ y = cc in
    let t : m ++ a ≡ n ++ b = cc in
    let r : (m ≡ n) × (a ≡ b) = same_front m n a b (omega (arith, l)) t in
    (cc (r.0, h), r.1)

-- two numbers of one text
pub other_decimal : (m n : ℕ) (text : List ℕ) → m < 2 ^ 64 → n < 2 ^ 64 → text ≡ decimal m → text ≡ decimal n → m ≡ n
other_decimal m n text hm hn p q = decimal_injective m n hm hn (sym p ∙ q)
