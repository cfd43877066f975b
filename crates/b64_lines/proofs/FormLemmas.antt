-- The form of a canonical text, by its first LF.
use Rattle.std.proofs.Common.{refl, ◌≡◌, ◌≢◌, ◌<◌, ◌≤◌, ◌+◌, ◌-◌, ◌%◌, ℕ, Bool, true, false, List, length, get_or, sym, ◌∙◌, ap, arith, inl, inr, ◌⊎◌, Some, None}
use Rattle.std.specs.Prelude.{◌==◌, ◌&&◌, nat_le, if◌then◌else◌, Option}
use Rattle.std.proofs.lemmas.Bool.Decides.{leb_tells, nat_tests}
use Rattle.base64.specs.GeneralPurpose.{IsBytes}
use Rattle.memchr.specs.Find.{IsFirstByte, is_byte}
use Rattle.mdbox_base.specs.declared.metadata.LineForm.{LineForm}
use Rattle.model_base64.specs.Base64Text.{in_lines, line_break, padded, IsForm, IsCanonical}
use Rattle.model_base64.proofs.Base64Lemmas.{line_last, length-padded, no_break, one_or_more, broken}

-- the first LF of a text
is_ten : (c : ℕ) → (c == 10) ≡ true → c ≡ 10
is_ten c h = grind (arith, nat_tests)

ten_is : (c : ℕ) → c ≡ 10 → (c == 10) ≡ true
ten_is c h = grind (arith, nat_tests)

-- a place before the first LF has none, and the first LF is at a place that has one and none before it
first_is : (text : List ℕ) (k p : ℕ) → IsFirstByte (is_byte 10) text (Some k) → get_or text p 0 ≡ 10 → ((j : ℕ) → j < p → get_or text j 0 ≢ 10) → k ≡ p
first_is text k p first at before = elim (leb_tells k p) [
  | inl t ↦ elim (leb_tells p k) [ inl u ↦ omega (arith, t.1, u.1) | inr u ↦ absurd (before k u.1 (is_ten (get_or text k 0) first.1)) ]
  | inr t ↦ absurd (first.0.before p (omega arith) t.1 (ten_is (get_or text p 0) at))
]

ten_not : (c : ℕ) → c ≡ 13 → c ≡ 10 → ⊥
ten_not c d e = omega arith

before_both : (text : List ℕ) (n j : ℕ) → ((j : ℕ) → j < n → (get_or text j 0 ≢ 10) × (get_or text j 0 ≢ 13)) → get_or text n 0 ≡ 13 → j ≤ n → get_or text j 0 ≢ 10
before_both text n j before at h q = elim (leb_tells n j) [
  | inl t ↦ let same : j ≡ n = omega (arith, t.1) in ten_not (get_or text j 0) (ap (λ (i : ℕ). get_or text i 0) same ∙ at) q
  | inr t ↦ (before j t.1).0 q
]

le_is : (m n : ℕ) → m ≤ n → nat_le m n ≡ true
le_is m n h = grind (arith, nat_tests)

zero_is : (n : ℕ) → n ≡ 0 → (n == 0) ≡ true
zero_is n h = grind (arith, nat_tests)

-- The form, by where the first LF is, and by the octet before it.
pub form_none : (text : List ℕ) (form : LineForm) (octets : List ℕ) → IsFirstByte (is_byte 10) text None → IsCanonical text form octets → (form.length ≡ length text) × (form.crlf ≡ false)
form_none text form octets none h = elim (one_or_more text form octets h) [
  | inl o ↦ (o.1, o.2)
  | inr m ↦ elim (broken text form.length form.crlf m.2.0 m.2.1 m.2.2 m.2.3) [
    | inl b ↦ absurd (none (form.length + 1) (omega arith) b.3 (ten_is _ b.2))
    | inr b ↦ absurd (none form.length (omega arith) b.2 (ten_is _ b.1))
  ]
]

pub form_at : (text : List ℕ) (form : LineForm) (octets : List ℕ) (k : ℕ) → IsFirstByte (is_byte 10) text (Some k) → IsCanonical text form octets
    → (k ≡ form.length + 1) × (form.crlf ≡ true) × (get_or text (k - 1) 0 ≡ 13) ⊎ (k ≡ form.length) × (form.crlf ≡ false) × (get_or text (k - 1) 0 ≢ 13) × (0 < k)
form_at text form octets k first h = elim (one_or_more text form octets h) [
  | inl o ↦ absurd ((no_break octets k).0 (ap (λ (x : List ℕ). get_or x k 0) (sym o.0) ∙ is_ten _ first.1))
  | inr m ↦ elim (broken text form.length form.crlf m.2.0 m.2.1 m.2.2 m.2.3) [
    | inl b ↦ let at : k ≡ form.length + 1 = first_is text k (form.length + 1) first b.2 (λ j l q. before_both text form.length j m.1 b.1 (omega (arith, l)) q) in
        let back : form.length ≡ k - 1 = omega (arith, at) in
        inl (at, b.0, ap (λ (i : ℕ). get_or text i 0) (sym back) ∙ b.1)
    | inr b ↦ let at : k ≡ form.length = first_is text k form.length first b.1 (λ j l q. (m.1 j l).0 q) in
        inr (at, b.0, (m.1 (k - 1) (omega (arith, at, h.form_fits.least))).1, omega (arith, at, h.form_fits.least))
  ]
]

-- a form that lines can have is found by its numbers
pub found_form : (form : LineForm) (n : ℕ) (crlf : Bool) → IsForm form → form.length ≡ n → form.crlf ≡ crlf
    → (if nat_le 4 n && nat_le n 996 && n % 4 == 0 then Some (record { length = n; crlf = crlf }) else None) ≡ Some form
found_form form n crlf h l b =
    let low : nat_le 4 n ≡ true = le_is 4 n (omega (arith, h.least, l)) in
    let high : nat_le n 996 ≡ true = le_is n 996 (omega (arith, h.most, l)) in
    let four : (n % 4 == 0) ≡ true = zero_is (n % 4) (ap (λ (k : ℕ). k % 4) (sym l) ∙ h.fours) in
    rw (low, high, four, ← l, ← b) refl

-- the found form is that of a canonical text
pub only_none : (text : List ℕ) (form : LineForm) (octets : List ℕ) (result : Option LineForm) → IsFirstByte (is_byte 10) text None → IsCanonical text form octets
    → result ≡ (if nat_le 4 (length text) && nat_le (length text) 996 && length text % 4 == 0 then Some (record { length = length text; crlf = false }) else None) → result ≡ Some form
only_none text form octets result none h e = let is = form_none text form octets none h in e ∙ found_form form (length text) false h.form_fits is.0 is.1

pub only_crlf : (text : List ℕ) (form : LineForm) (octets : List ℕ) (k : ℕ) (result : Option LineForm) → IsFirstByte (is_byte 10) text (Some k) → get_or text (k - 1) 0 ≡ 13 → IsCanonical text form octets
    → result ≡ (if nat_le 4 (k - 1) && nat_le (k - 1) 996 && (k - 1) % 4 == 0 then Some (record { length = k - 1; crlf = true }) else None) → result ≡ Some form
only_crlf text form octets k result first cr h e = elim (form_at text form octets k first h) [
  | inl a ↦ e ∙ found_form form (k - 1) true h.form_fits (omega (arith, a.0)) a.1
  | inr b ↦ absurd (b.2 cr)
]

pub only_lf : (text : List ℕ) (form : LineForm) (octets : List ℕ) (k : ℕ) (result : Option LineForm) → IsFirstByte (is_byte 10) text (Some k) → (0 < k → get_or text (k - 1) 0 ≢ 13) → IsCanonical text form octets
    → result ≡ (if nat_le 4 k && nat_le k 996 && k % 4 == 0 then Some (record { length = k; crlf = false }) else None) → result ≡ Some form
only_lf text form octets k result first cr h e = elim (form_at text form octets k first h) [
  | inl a ↦ absurd (cr (omega (arith, a.0)) a.2)
  | inr b ↦ e ∙ found_form form k false h.form_fits (sym b.0) b.1
]

some_same : (a b : LineForm) → Some a ≡ Some b → a ≡ b
some_same a b e = cc

-- a text that isn't the encoding in one line, or not in these lines
pub not_single : (text : List ℕ) (found : LineForm) (result : Option LineForm) → ((form : LineForm) (octets : List ℕ) → IsCanonical text form octets → result ≡ Some form) → result ≡ Some found → found.length ≡ length text
    → ((octets : List ℕ) → IsBytes octets → text ≡ padded octets → ⊥) → (form : LineForm) (octets : List ℕ) → IsCanonical text form octets → ⊥
not_single text found result only is size none form octets h =
    let same : found ≡ form = some_same found form (sym is ∙ only form octets h) in
    elim (one_or_more text form octets h) [
      | inl o ↦ none octets h.octets_fit o.0
      | inr m ↦ absurd (omega (arith, m.0, size, ap (λ (f : LineForm). f.length) same))
    ]

pub not_lines : (text : List ℕ) (found : LineForm) (chars : List ℕ) (result : Option LineForm) → ((form : LineForm) (octets : List ℕ) → IsCanonical text form octets → result ≡ Some form) → result ≡ Some found
    → ((cs : List ℕ) → 0 < length cs → text ≡ in_lines found.length (line_break found.crlf) found.length cs → cs ≡ chars)
    → ((octets : List ℕ) → IsBytes octets → chars ≡ padded octets → ⊥) → (form : LineForm) (octets : List ℕ) → IsCanonical text form octets → ⊥
not_lines text found chars result only is one none form octets h =
    let same : form ≡ found = sym (some_same found form (sym is ∙ only form octets h)) in
    none octets h.octets_fit (sym (one (padded octets) (omega (arith, length-padded octets, h.some)) (h.spelled ∙ ap (λ (f : LineForm). in_lines f.length (line_break f.crlf) f.length (padded octets)) same)))

-- what was found is canonical
pub is_single : (text : List ℕ) (form : LineForm) (octets : List ℕ) → IsForm form → form.length ≡ length text → form.crlf ≡ false → IsBytes octets → text ≡ padded octets → IsCanonical text form octets
is_single text form octets fits size lf bytes e = record {
  some = omega (arith, length-padded octets, ap length e, size, fits.least);
  octets_fit = bytes;
  form_fits = fits;
  single = λ _. (size ∙ ap length e, lf);
  spelled = e ∙ sym (line_last form.length (line_break form.crlf) form.length (padded octets) (omega (arith, size, ap length e)));
}

pub is_lines : (text : List ℕ) (form : LineForm) (octets chars : List ℕ) → IsForm form → form.length ≤ length text → form.length ≢ length text → IsBytes octets → 0 < length chars
    → text ≡ in_lines form.length (line_break form.crlf) form.length chars → chars ≡ padded octets → IsCanonical text form octets
is_lines text form octets chars fits in_text many bytes some e is = record {
  some = omega (arith, length-padded octets, ap length is, some);
  octets_fit = bytes;
  form_fits = fits;
  single = λ short. absurd (omega (arith, in_text, many, short, ap length e, ap length (line_last form.length (line_break form.crlf) form.length chars (omega (arith, short, ap length is))), ap length is));
  spelled = e ∙ ap (in_lines form.length (line_break form.crlf) form.length) is;
}
