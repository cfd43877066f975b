-- The first line of a text.
use Rattle.std.proofs.Common.{refl, ◌≡◌, ◌≢◌, ◌<◌, ◌≤◌, ◌+◌, ◌-◌, ℕ, suc, Bool, true, false, cond, List, [], ◌∷◌, ◌++◌, length, get_or, take, drop, sym, ◌∙◌, ap, subst, arith}
use Rattle.std.specs.Prelude.{Some, None, reverse, ◌==◌}
use Rattle.std.proofs.lemmas.Bool.Decides.{nat_tests}
use Rattle.std.proofs.lemmas.List.{reverse-append, reverse-reverse, take-append-drop, length-take-le, get_or-take, length-drop, drop-drop}
use Rattle.std.proofs.Math.Seq.{take-suc, drop-cons, take-length, drop-length}
use Rattle.model_mime.specs.Lines.{raw_lines, lines_from, content, content_back, without_cr, range, IsLineAt}
use Rattle.memchr.specs.Find.{IsFirstByte, is_byte}

-- no octet of a text is LF
abbrev pub NoBreak : List ℕ → Type 0
NoBreak text = (j : ℕ) → j < length text → get_or text j 0 ≢ 10

not_eq : (c d : ℕ) → c ≢ d → (c == d) ≡ false
not_eq c d h = grind (arith, nat_tests)

pub raw_front : (a b : List ℕ) → NoBreak a → raw_lines (a ++ 10 ∷ b) ≡ (a ++ 10 ∷ []) ∷ raw_lines b
raw_front [] b h = refl
raw_front (c ∷ a) b h =
    let first : (c == 10) ≡ false = not_eq c 10 (h 0 (omega arith)) in
    rw (first, raw_front a b (λ j l. h (suc j) (omega arith))) refl

pub raw_last : (c : ℕ) (a : List ℕ) → NoBreak (c ∷ a) → raw_lines (c ∷ a) ≡ (c ∷ a) ∷ []
raw_last c [] h = rw (not_eq c 10 (h 0 (omega arith))) refl
raw_last c (d ∷ a) h =
    let first : (c == 10) ≡ false = not_eq c 10 (h 0 (omega arith)) in
    rw (first, raw_last d a (λ j l. h (suc j) (omega arith))) refl

behind_last : (a : List ℕ) (c : ℕ) → c ≢ 13 → without_cr (reverse (a ++ c ∷ [])) ≡ reverse (a ++ c ∷ [])
behind_last a c h =
    let e : reverse (a ++ c ∷ []) ≡ c ∷ reverse a = reverse-append a (c ∷ []) in
    ap without_cr e ∙ ap (λ (b : Bool). cond b (reverse a) (c ∷ reverse a)) (not_eq c 13 h) ∙ sym e

pub content-crlf : (a : List ℕ) → content ((a ++ 13 ∷ []) ++ 10 ∷ []) ≡ a
unfolding content
content-crlf a =
    ap (λ (x : List ℕ). reverse (content_back x)) (reverse-append (a ++ 13 ∷ []) (10 ∷ []))
    ∙ ap (λ (x : List ℕ). reverse (without_cr x)) (reverse-append a (13 ∷ []))
    ∙ reverse-reverse a

pub content-lf : (a : List ℕ) (c : ℕ) → c ≢ 13 → content ((a ++ c ∷ []) ++ 10 ∷ []) ≡ a ++ c ∷ []
unfolding content
content-lf a c h =
    ap (λ (x : List ℕ). reverse (content_back x)) (reverse-append (a ++ c ∷ []) (10 ∷ []))
    ∙ ap reverse (behind_last a c h)
    ∙ reverse-reverse (a ++ c ∷ [])

pub content-none : (a : List ℕ) (c : ℕ) → c ≢ 10 → content (a ++ c ∷ []) ≡ a ++ c ∷ []
unfolding content
content-none a c h =
    let e : reverse (a ++ c ∷ []) ≡ c ∷ reverse a = reverse-append a (c ∷ []) in
    ap (λ (x : List ℕ). reverse (content_back x)) e
    ∙ ap (λ (b : Bool). reverse (cond b (without_cr (reverse a)) (c ∷ reverse a))) (not_eq c 10 h)
    ∙ ap reverse (sym e)
    ∙ reverse-reverse (a ++ c ∷ [])

pub content-empty : content (10 ∷ []) ≡ []
unfolding content
content-empty = refl

-- one more octet
one_more : (rest : List ℕ) (k c : ℕ) → k < length rest → get_or rest k 0 ≡ c → take (k + 1) rest ≡ take k rest ++ c ∷ []
one_more rest k c h e = let n : k + 1 ≡ suc k = omega arith in ap (λ (n : ℕ). take n rest) n ∙ take-suc rest k 0 h ∙ ap (λ (x : ℕ). take k rest ++ x ∷ []) e

-- A line without its line break, by the octet before LF.
pub crlf_at : (rest : List ℕ) (k : ℕ) → k + 1 < length rest → get_or rest (k + 1) 0 ≡ 10 → get_or rest k 0 ≡ 13 → content (take (k + 1 + 1) rest) ≡ take k rest
crlf_at rest k h e f = rw (one_more rest (k + 1) 10 h e, one_more rest k 13 (omega arith) f) (content-crlf (take k rest))

pub lf_at : (rest : List ℕ) (k : ℕ) → k + 1 < length rest → get_or rest (k + 1) 0 ≡ 10 → get_or rest k 0 ≢ 13 → content (take (k + 1 + 1) rest) ≡ take (k + 1) rest
lf_at rest k h e f = rw (one_more rest (k + 1) 10 h e, one_more rest k (get_or rest k 0) (omega arith) refl) (content-lf (take k rest) (get_or rest k 0) f)

pub lf_first : (rest : List ℕ) → 0 < length rest → get_or rest 0 0 ≡ 10 → content (take (0 + 1) rest) ≡ take 0 rest
lf_first rest h e = rw (one_more rest 0 10 h e) content-empty

-- The lines of a text whose first LF is at a place.
pub lines_at : (rest : List ℕ) (k : ℕ) → k < length rest → get_or rest k 0 ≡ 10 → ((j : ℕ) → j < k → get_or rest j 0 ≢ 10) → raw_lines rest ≡ take (k + 1) rest ∷ raw_lines (drop (k + 1) rest)
lines_at rest k h e before =
    let front : NoBreak (take k rest) = λ j l q. before j (omega (arith, length-take-le k rest)) (sym (get_or-take k rest j 0 (omega (arith, length-take-le k rest))) ∙ q) in
    let n : k + 1 ≡ suc k = omega arith in
    let cut : take k rest ++ 10 ∷ drop (k + 1) rest ≡ rest =
    ap (λ (x : List ℕ). take k rest ++ x) (ap (λ (c : ℕ). c ∷ drop (k + 1) rest) (sym e) ∙ ap (λ (n : ℕ). get_or rest k 0 ∷ drop n rest) n ∙ sym (drop-cons rest k 0 h)) ∙ take-append-drop k rest in
    ap raw_lines (sym cut) ∙ raw_front (take k rest) (drop (k + 1) rest) front ∙ ap (λ (x : List ℕ). x ∷ raw_lines (drop (k + 1) rest)) (sym (one_more rest k 10 h e))

-- a text with no LF is one line
pub one_line : (rest : List ℕ) → 0 < length rest → NoBreak rest → (raw_lines rest ≡ rest ∷ []) × (content rest ≡ rest)
one_line [] h none = absurd (omega arith)
one_line (c ∷ a) h none =
    let n : length a + 1 ≡ length (c ∷ a) = omega arith in
    let last : take (length a) (c ∷ a) ++ get_or (c ∷ a) (length a) 0 ∷ [] ≡ c ∷ a = sym (one_more (c ∷ a) (length a) (get_or (c ∷ a) (length a) 0) (omega arith) refl) ∙ ap (λ (n : ℕ). take n (c ∷ a)) n ∙ take-length (c ∷ a) in
    (raw_last c a none, subst (λ (x : List ℕ). content x ≡ x) last (content-none (take (length a) (c ∷ a)) (get_or (c ∷ a) (length a) 0) (none (length a) (omega arith))))

pub crlf_before : (rest : List ℕ) (at : ℕ) → 0 < at → at < length rest → get_or rest at 0 ≡ 10 → get_or rest (at - 1) 0 ≡ 13 → content (take (at + 1) rest) ≡ take (at - 1) rest
crlf_before rest at some h e f =
    let back : at - 1 + 1 ≡ at = omega arith in
    subst (λ (n : ℕ). n < length rest → get_or rest n 0 ≡ 10 → content (take (n + 1) rest) ≡ take (at - 1) rest) back (λ h e. crlf_at rest (at - 1) h e f) h e

pub lf_before : (rest : List ℕ) (at : ℕ) → 0 < at → at < length rest → get_or rest at 0 ≡ 10 → get_or rest (at - 1) 0 ≢ 13 → content (take (at + 1) rest) ≡ take at rest
lf_before rest at some h e f =
    let back : at - 1 + 1 ≡ at = omega arith in
    subst (λ (n : ℕ). n < length rest → get_or rest n 0 ≡ 10 → content (take (n + 1) rest) ≡ take n rest) back (λ h e. lf_at rest (at - 1) h e f) h e

pub lf_alone : (rest : List ℕ) (at : ℕ) → at ≤ 0 → at < length rest → get_or rest at 0 ≡ 10 → content (take (at + 1) rest) ≡ take at rest
lf_alone rest at none h e =
    let zero_is : 0 ≡ at = omega arith in
    subst (λ (n : ℕ). n < length rest → get_or rest n 0 ≡ 10 → content (take (n + 1) rest) ≡ take n rest) zero_is (λ h e. lf_first rest h e) h e

-- A first line by its length, with its line break and without.
pub placed_line : (text : List ℕ) (from end n : ℕ) → end ≤ n → from + n ≤ length text
    → raw_lines (drop from text) ≡ take n (drop from text) ∷ raw_lines (drop n (drop from text))
    → content (take n (drop from text)) ≡ take end (drop from text)
    → lines_from from (drop from text) ≡ record { start = from; end = from + end; next = from + n; text = range text from (from + end) } ∷ lines_from (from + n) (drop (from + n) text)
placed_line text from end n less within lines whole =
    let long : n ≤ length (drop from text) = omega (arith, length-drop from text) in
    let size : length (take n (drop from text)) ≡ n = length-take-le n (drop from text) long in
    let short : length (take end (drop from text)) ≡ end = length-take-le end (drop from text) (omega arith) in
    let back : from + end - from ≡ end = omega arith in
    let behind : drop n (drop from text) ≡ drop (from + n) text = drop-drop n from text in
    rw (lines, whole, size, short, back, behind) refl

pub placed_last : (text : List ℕ) (from : ℕ) → from < length text → NoBreak (drop from text)
    → lines_from from (drop from text) ≡ record { start = from; end = length text; next = length text; text = range text from (length text) } ∷ lines_from (length text) (drop (length text) text)
placed_last text from h none =
    let n : ℕ = length text - from in
    let size : length (drop from text) ≡ n = length-drop from text in
    let all : take n (drop from text) ≡ drop from text = ap (λ (x : ℕ). take x (drop from text)) (sym size) ∙ take-length (drop from text) in
    let all_of : from + n ≡ length text = omega arith in
    let gone : drop n (drop from text) ≡ [] = drop-drop n from text ∙ ap (λ (x : ℕ). drop x text) all_of ∙ drop-length text in
    let one = one_line (drop from text) (omega (arith, size)) none in
    let lines : raw_lines (drop from text) ≡ take n (drop from text) ∷ raw_lines (drop n (drop from text)) = rw (all, gone) one.0 in
    let whole : content (take n (drop from text)) ≡ take n (drop from text) = rw all one.1 in
    let end : from + n ≡ length text = omega arith in
    rw (← end) (placed_line text from n n (omega arith) (omega arith) lines whole)

-- the rest of a text as a slice
pub rest_is : (text : List ℕ) (from : ℕ) → take (length text - from) (drop from text) ≡ drop from text
rest_is text from = ap (λ (x : ℕ). take x (drop from text)) (sym (length-drop from text)) ∙ take-length (drop from text)

is_ten : (c : ℕ) → (c == 10) ≡ true → c ≡ 10
is_ten c h = grind (arith, nat_tests)

pub found_line : (text rest : List ℕ) (from k end : ℕ) → rest ≡ drop from text → from < length text
    → IsFirstByte (is_byte 10) rest (Some k) → content (take (k + 1) rest) ≡ take end rest → end ≤ k
    → IsLineAt text from (record { start = from; end = from + end; next = from + k + 1 })
found_line text rest from k end e h first whole less =
    let long : length rest ≡ length text - from = ap length e ∙ length-drop from text in
    let at : get_or rest k 0 ≡ 10 = is_ten (get_or rest k 0) first.1 in
    let next : from + (k + 1) ≡ from + k + 1 = omega arith in
    let lines : raw_lines (drop from text) ≡ take (k + 1) (drop from text) ∷ raw_lines (drop (k + 1) (drop from text)) =
    subst (λ (x : List ℕ). raw_lines x ≡ take (k + 1) x ∷ raw_lines (drop (k + 1) x)) e (lines_at rest k first.0.high at (λ j l q. first.0.before j (omega arith) l (rw q refl))) in
    let text_is : content (take (k + 1) (drop from text)) ≡ take end (drop from text) = subst (λ (x : List ℕ). content (take (k + 1) x) ≡ take end x) e whole in
    record {
      start = refl;
      goes_on = omega arith;
      order = omega arith;
      break = omega arith;
      within = omega (arith, first.0.high);
      lines = rw (← next) (placed_line text from end (k + 1) (omega arith) (omega (arith, first.0.high)) lines text_is);
    }

pub last_line : (text rest : List ℕ) (from : ℕ) → rest ≡ drop from text → from < length text → IsFirstByte (is_byte 10) rest None
    → IsLineAt text from (record { start = from; end = length text; next = length text })
last_line text rest from e h none =
    let clear : NoBreak rest = λ j l q. none j (omega arith) l (rw q refl) in
    record {
      start = refl;
      goes_on = h;
      order = omega arith;
      break = omega arith;
      within = omega arith;
      lines = placed_last text from h (subst NoBreak e clear);
    }
