-- Delimiter and closing lines, by their parts.
use Rattle.std.proofs.Common.{refl, ◌≡◌, ◌≤◌, ◌-◌, ℕ, Bool, true, false, List, [], ◌∷◌, ◌++◌, length, take, drop, sym, ◌∙◌, ap, arith, append_assoc, inl, inr, ◌⊎◌}
use Rattle.std.specs.Prelude.{codes, ◌&&◌, ◌==◌}
use Rattle.std.specs.List.{list_all, list_any}
use Rattle.std.specs.Str.{bytes_eq}
use Rattle.std.proofs.lemmas.Bool.Decides.{nat_tests}
use Rattle.std.proofs.lemmas.List.{take-append-drop, length-drop}
use Rattle.std.proofs.Math.Seq.{take-length}
use Rattle.model_mime.specs.Lines.{is_blank}
use Rattle.model_mime.specs.Parts.{has_mark, is_delimiter, is_closing, ends_part}

and_true : (x y : Bool) → (x && y) ≡ true → (x ≡ true) × (y ≡ true)
and_true true y e = (refl, e)
and_true false y e = absurd (cc)

is_same : (c d : ℕ) → (c == d) ≡ true → c ≡ d
is_same c d e = grind (arith, nat_tests)

self_same : (c : ℕ) → (c == c) ≡ true
self_same c = grind (arith, nat_tests)

-- a text that begins with a mark has it
fronts : (mark rest : List ℕ) → bytes_eq (take (length mark) (mark ++ rest)) mark ≡ true
fronts [] rest = refl
fronts (c ∷ mark) rest = rw (self_same c) (fronts mark rest)

behind_is : (mark rest : List ℕ) → drop (length mark) (mark ++ rest) ≡ rest
behind_is [] rest = refl
behind_is (c ∷ mark) rest = behind_is mark rest

begins : (mark text : List ℕ) → bytes_eq (take (length mark) text) mark ≡ true → text ≡ mark ++ drop (length mark) text
begins [] text e = refl
begins (c ∷ mark) [] e = absurd (cc)
begins (c ∷ mark) (d ∷ text) e = let both = and_true (d == c) (bytes_eq (take (length mark) text) mark) e in
    rw (← is_same d c both.0) (ap (λ (x : List ℕ). d ∷ x) (begins mark text both.1))

pub mark_yes : (mark rest : List ℕ) → list_all is_blank rest ≡ true → has_mark mark (mark ++ rest) ≡ true
mark_yes mark rest e = rw (fronts mark rest, behind_is mark rest) e

either : (b : Bool) → (b ≡ true) ⊎ (b ≡ false)
either true = inl refl
either false = inr refl

-- a text has no mark, where no rest of blanks makes it of the mark
pub mark_no : (mark text : List ℕ) → ((rest : List ℕ) → text ≡ mark ++ rest → list_all is_blank rest ≡ true → ⊥) → has_mark mark text ≡ false
mark_no mark text h = elim (either (has_mark mark text)) [
  | inl e ↦ let both = and_true (bytes_eq (take (length mark) text) mark) (list_all is_blank (drop (length mark) text)) e in absurd (h (drop (length mark) text) (begins mark text both.0) both.1)
  | inr e ↦ e
]

true_false : true ≡ false → ⊥
true_false e = cc

pub cancel : (a x y : List ℕ) → a ++ x ≡ a ++ y → x ≡ y
cancel [] x y e = e
cancel (c ∷ a) x y e = let tail : a ++ x ≡ a ++ y = cc in cancel a x y tail

-- a closing line's mark and what is behind it
closing_parts : (b rest : List ℕ) → (codes "--" ++ (b ++ codes "--")) ++ rest ≡ codes "--" ++ (b ++ (codes "--" ++ rest))
closing_parts b rest = ap (λ (x : List ℕ). codes "--" ++ x) (append_assoc b (codes "--") rest)

-- a line ends no part where it doesn't begin with two dashes and the boundary
pub ends_never : (b text : List ℕ) → ((rest : List ℕ) → text ≡ codes "--" ++ (b ++ rest) → ⊥) → ends_part b text ≡ false
unfolding is_delimiter is_closing
ends_never b text h =
    rw (mark_no (codes "--" ++ b) text (λ rest e blank. h rest e), mark_no (codes "--" ++ (b ++ codes "--")) text (λ rest e blank. h (codes "--" ++ rest) (e ∙ closing_parts b rest))) refl

-- nor where other octets stand behind it
pub ends_not : (b text rest : List ℕ) → text ≡ codes "--" ++ (b ++ rest) → list_all is_blank rest ≡ false → ((more : List ℕ) → rest ≡ codes "--" ++ more → list_all is_blank more ≡ true → ⊥) → ends_part b text ≡ false
unfolding is_delimiter is_closing
ends_not b text rest e other more =
    rw (
      mark_no (codes "--" ++ b) text (λ rest' e' blank. true_false (sym blank ∙ ap (list_all is_blank) (cancel (codes "--" ++ b) rest' rest (sym e' ∙ e)) ∙ other)),
      mark_no (codes "--" ++ (b ++ codes "--")) text (λ rest' e' blank. more rest' (cancel (codes "--" ++ b) rest (codes "--" ++ rest') (sym e ∙ e' ∙ closing_parts b rest')) blank),
    ) refl

pub delimits : (b text rest : List ℕ) → text ≡ codes "--" ++ (b ++ rest) → list_all is_blank rest ≡ true → (is_closing b text ≡ false) × (is_delimiter b text ≡ true)
unfolding is_delimiter is_closing
delimits b text rest e blank = (
  mark_no (codes "--" ++ (b ++ codes "--")) text (λ rest' e' blank'. true_false (sym blank ∙ ap (list_all is_blank) (cancel (codes "--" ++ b) rest (codes "--" ++ rest') (sym e ∙ e' ∙ closing_parts b rest')))),
  ap (has_mark (codes "--" ++ b)) e ∙ mark_yes (codes "--" ++ b) rest blank,
)

pub closes : (b text more : List ℕ) → text ≡ codes "--" ++ (b ++ (codes "--" ++ more)) → list_all is_blank more ≡ true → is_closing b text ≡ true
unfolding is_closing
closes b text more e blank = ap (has_mark (codes "--" ++ (b ++ codes "--"))) (e ∙ sym (closing_parts b more)) ∙ mark_yes (codes "--" ++ (b ++ codes "--")) more blank

-- a slice's comparison of the front
pub front_is : (front text : List ℕ) → length front ≤ length text → take (length front) text ≡ front → text ≡ front ++ take (length text - length front) (drop (length front) text)
front_is front text h e =
    sym (take-append-drop (length front) text) ∙ ap (λ (x : List ℕ). x ++ drop (length front) text) e
    ∙ ap (λ (x : List ℕ). front ++ x) (sym (ap (λ (k : ℕ). take k (drop (length front) text)) (sym (length-drop (length front) text)) ∙ take-length (drop (length front) text)))

taken : (front rest : List ℕ) → take (length front) (front ++ rest) ≡ front
taken [] rest = refl
taken (c ∷ front) rest = ap (λ (x : List ℕ). c ∷ x) (taken front rest)

pub front_not : (front text : List ℕ) → (take (length front) text ≡ front → ⊥) → (rest : List ℕ) → text ≡ front ++ rest → ⊥
front_not front text h rest e = h (ap (take (length front)) e ∙ taken front rest)

pub not_blank : (a b : List ℕ) → a ≡ b → list_all is_blank a ≡ false → list_all is_blank b ≡ true → ⊥
not_blank a b e f g = true_false (sym g ∙ ap (list_all is_blank) (sym e) ∙ f)

-- a line that doesn't begin with two dashes ends no part
pub no_dashes : (stack : List (List ℕ)) (text : List ℕ) → ((rest : List ℕ) → text ≡ codes "--" ++ rest → ⊥) → list_any (λ b. ends_part b text) stack ≡ false
no_dashes [] text h = refl
no_dashes (b ∷ stack) text h = rw (ends_never b text (λ rest e. h (b ++ rest) e)) (no_dashes stack text h)
