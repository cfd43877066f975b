-- A value that is a word alone, with blanks behind it.
use Rattle.std.proofs.Common.{refl, ◌≡◌, ◌≢◌, ◌<◌, ℕ, suc, Bool, true, false, cond, List, [], ◌∷◌, length, drop, sym, ◌∙◌, ap, arith, Option, Some, None, IfSome, IfNone, is_some, ◌⊎◌, inl, inr, ◌&&◌, ◌||◌, not}
use Rattle.std.specs.Prelude.{◌==◌, codes}
use Rattle.std.specs.List.{list_all}
use Rattle.std.specs.Char.{eq_ignore_ascii_case, to_ascii_lowercase}
use Rattle.std.proofs.lemmas.Bool.Decides.{nat_tests}
use Rattle.model_mime.specs.declared.mime.Coding.TheVariants as codings
use Rattle.model_mime.specs.Lines.{is_blank}
use Rattle.model_mime.specs.Fields.{behind_blanks, before_blanks, is_word, coding_of}
use Rattle.mime_fields.specs.Alone.{is_alone}

either : (b : Bool) → (b ≡ true) ⊎ (b ≡ false)
either true = inl refl
either false = inr refl

some_left : (n : ℕ) → (suc n == 0) ≡ false
some_left n = grind (arith, nat_tests)

-- nothing is left behind the blanks of a text of blanks alone
none_left : (text : List ℕ) → (length (behind_blanks text) == 0) ≡ list_all is_blank text
none_left [] = refl
none_left (c ∷ rest) = elim (either (is_blank c)) [
  | inl e ↦ ap (λ (b : Bool). length (cond b (behind_blanks rest) (c ∷ rest)) == 0) e ∙ none_left rest ∙ sym (ap (λ (b : Bool). b && list_all is_blank rest) e)
  | inr e ↦ ap (λ (b : Bool). length (cond b (behind_blanks rest) (c ∷ rest)) == 0) e ∙ some_left (length rest) ∙ sym (ap (λ (b : Bool). b && list_all is_blank rest) e)
]

and_left : (x y : Bool) → (x && y) ≡ true → x ≡ true
and_left true y e = refl
and_left false y e = absurd (cc)

-- a blank is no letter of a word without blanks
blank_is : (c : ℕ) → is_blank c ≡ true → (c ≡ 32) ⊎ (c ≡ 9)
blank_is c e = elim (either (c == 32)) [
  | inl f ↦ inl (grind (arith, nat_tests))
  | inr f ↦ let g : (c == 9) ≡ true = sym (ap (λ (b : Bool). b || (c == 9)) f) ∙ e in inr (grind (arith, nat_tests))
]

not_blank : (w : ℕ) → is_blank w ≡ false → (w ≢ 32) × (w ≢ 9)
not_blank w e = (λ f. let g : is_blank w ≡ true = rw f refl in absurd (cc), λ f. let g : is_blank w ≡ true = rw f refl in absurd (cc))

lower_other : (w d : ℕ) → d < 65 → w ≢ d → (d == to_ascii_lowercase w) ≡ false
lower_other w d low other = grind (arith, nat_tests)

no_letter : (c w : ℕ) → is_blank c ≡ true → is_blank w ≡ false → eq_ignore_ascii_case c w ≡ false
no_letter c w e f = elim (blank_is c e) [
  | inl g ↦ rw g (lower_other w 32 (omega arith) (not_blank w f).0)
  | inr g ↦ rw g (lower_other w 9 (omega arith) (not_blank w f).1)
]

-- no octet of a word is a blank
abbrev pub HasNoBlank : List ℕ → Type 0
HasNoBlank [] = Unit {0}
HasNoBlank (w ∷ word) = (is_blank w ≡ false) × HasNoBlank word

pub alone_is : (value word : List ℕ) → HasNoBlank word → is_alone value word ≡ is_word (before_blanks value) word
alone_is [] [] h = refl
alone_is [] (w ∷ word) h = refl
alone_is (c ∷ value) [] h = none_left (c ∷ value) ∙ (elim (either (list_all is_blank (c ∷ value))) [
  | inl e ↦ e ∙ sym (ap (λ (b : Bool). is_word (cond b [] (c ∷ before_blanks value)) []) e)
  | inr e ↦ e ∙ sym (ap (λ (b : Bool). is_word (cond b [] (c ∷ before_blanks value)) []) e)
])
alone_is (c ∷ value) (w ∷ word) h = elim (either (list_all is_blank (c ∷ value))) [
  | inl e ↦ ap (λ (b : Bool). b && is_alone value word) (no_letter c w (and_left (is_blank c) (list_all is_blank value) e) h.0)
      ∙ sym (ap (λ (b : Bool). is_word (cond b [] (c ∷ before_blanks value)) (w ∷ word)) e)
  | inr e ↦ ap (λ (b : Bool). eq_ignore_ascii_case c w && b) (alone_is value word h.1)
      ∙ sym (ap (λ (b : Bool). is_word (cond b [] (c ∷ before_blanks value)) (w ∷ word)) e)
]

-- the value behind the word, by the octet in front
ends_alone : (value : List ℕ) → is_alone value [] ≡ (length (behind_blanks value) == 0)
ends_alone [] = refl
ends_alone (c ∷ value) = refl

by_octet : (o : Option ℕ) (left : List ℕ) → IfSome o (λ c. left ≡ c ∷ drop 1 left) → IfNone o (left ≡ []) → is_some o ≡ not (length left == 0)
by_octet None left some none = sym (ap (λ (x : List ℕ). not (length x == 0)) none)
by_octet (Some c) left some none = sym (ap (λ (x : List ℕ). not (length x == 0)) some ∙ ap not (some_left (length (drop 1 left))))

same_denied : (a b : Bool) → not a ≡ not b → a ≡ b
same_denied true true e = refl
same_denied true false e = absurd (cc)
same_denied false true e = absurd (cc)
same_denied false false e = refl

pub at_end : (value left skipped : List ℕ) (o : Option ℕ) (r : Bool) → left ≡ [] → skipped ≡ behind_blanks value → IfSome o (λ c. skipped ≡ c ∷ drop 1 skipped) → IfNone o (skipped ≡ [])
    → is_some o ≡ not r → r ≡ is_alone value left
at_end value left skipped o r empty e some none f =
    same_denied r (length skipped == 0) (sym f ∙ by_octet o skipped some none)
    ∙ ap (λ (x : List ℕ). length x == 0) e ∙ sym (ends_alone value) ∙ ap (is_alone value) (sym empty)

base64_word : HasNoBlank (codes "base64")
base64_word = (refl, (refl, (refl, (refl, (refl, (refl, tt))))))

pub coding_is : (old value : List ℕ) (b : Bool) → value ≡ behind_blanks old → b ≡ is_alone value (codes "base64") → cond b codings.Base64 codings.Plain ≡ coding_of (Some old)
unfolding coding_of
coding_is old value b e f =
    ap (λ (x : Bool). cond x codings.Base64 codings.Plain) (f ∙ alone_is value (codes "base64") base64_word)
    ∙ ap (λ (x : List ℕ). cond (is_word (before_blanks x) (codes "base64")) codings.Base64 codings.Plain) e
