-- Laws of base64 text in lines.
use Rattle.std.proofs.Common.{refl, ◌≡◌, ◌≢◌, ◌<◌, ◌≤◌, ◌+◌, ◌-◌, ◌*◌, ◌/◌, ◌%◌, ℕ, zero, suc, Bool, true, false, List, [], ◌∷◌, ◌++◌, length, get_or, take, drop, sym, ◌∙◌, ap, subst, arith, append_assoc, length-append, inl, inr, ◌⊎◌}
use Rattle.std.specs.Prelude.{replicate, ◌==◌, ◌&&◌, not, slice_index, Ok}
use Rattle.std.specs.List.{list_all}
use Rattle.std.proofs.lemmas.Bool.Decides.{leb_tells}
use Rattle.std.proofs.lemmas.List.{take-append-drop, length-take-le, length-drop, length-replicate, get_or-take, get_or_append_left}
use Rattle.std.proofs.Math.Seq.{get_or-append_seam}
use Rattle.base64.specs.Rfc4648.{encode_symbols, padding_len}
use Rattle.base64.specs.Engines.{standard}
use Rattle.base64.specs.GeneralPurpose.{IsBytes, decode_of}
use Rattle.base64.proofs.RoundTrip.{length-encode_symbols}
use Rattle.base64.proofs.EngineFacts.{decode_of-encode_of}
use Rattle.mdbox_base.specs.declared.metadata.LineForm.{LineForm}
use Rattle.model_base64.specs.Base64Text.{in_lines, line_break, padded, text_of, IsCanonical}
use Rattle.model_octets.proofs.PiecesLemmas.{split_same}

-- ---- lines

-- a line that fits is itself
pub line_last : (n : ℕ) (break : List ℕ) (fit : ℕ) (cs : List ℕ) → length cs ≤ fit → in_lines n break fit cs ≡ cs
unfolding in_lines
line_last n break fit [] h = refl
line_last n break zero (c ∷ cs) h = absurd (omega arith)
line_last n break (suc fit) (c ∷ cs) h = ap (λ (x : List ℕ). c ∷ x) (line_last n break fit cs (omega arith))

-- no character, no line
pub no_more : (n : ℕ) (break : List ℕ) (fit : ℕ) → in_lines n break fit [] ≡ []
unfolding in_lines
no_more n break fit = refl

-- where no more fits, the rest stands behind a break
pub next_line : (n : ℕ) (break : List ℕ) (c : ℕ) (cs : List ℕ) → 0 < n → in_lines n break 0 (c ∷ cs) ≡ break ++ in_lines n break n (c ∷ cs)
unfolding in_lines
next_line zero break c cs h = absurd (omega arith)
next_line (suc m) break c cs h = let e : suc m - 1 ≡ m = omega arith in rw e

first_on : (n : ℕ) (break : List ℕ) (fit c : ℕ) (cs : List ℕ) → in_lines n break (suc fit) (c ∷ cs) ≡ c ∷ in_lines n break fit cs
unfolding in_lines
first_on n break fit c cs = refl

-- a full line, and more behind it
pub line_more : (n : ℕ) (break : List ℕ) (fit : ℕ) (line cs : List ℕ) → 0 < n → length line ≡ fit → 0 < length cs → in_lines n break fit (line ++ cs) ≡ line ++ (break ++ in_lines n break n cs)
line_more n break fit [] [] h e some = absurd (omega arith)
line_more n break fit [] (c ∷ cs) h e some = subst (λ (k : ℕ). in_lines n break k (c ∷ cs) ≡ break ++ in_lines n break n (c ∷ cs)) e (next_line n break c cs h)
line_more n break fit (c ∷ line) cs h e some =
    subst (λ (k : ℕ). in_lines n break k (c ∷ (line ++ cs)) ≡ c ∷ (line ++ (break ++ in_lines n break n cs))) e
    (first_on n break (length line) c (line ++ cs) ∙ ap (λ (x : List ℕ). c ∷ x) (line_more n break (length line) line cs h refl some))

-- characters that fit into the line, and more behind them
pub line_part : (n : ℕ) (break : List ℕ) (fit : ℕ) (a b : List ℕ) → length a ≤ fit → in_lines n break fit (a ++ b) ≡ a ++ in_lines n break (fit - length a) b
unfolding in_lines
line_part n break fit [] b h = let e : fit - 0 ≡ fit = omega arith in rw e refl
line_part n break zero (c ∷ a) b h = absurd (omega arith)
line_part n break (suc fit) (c ∷ a) b h = let e : suc fit - suc (length a) ≡ fit - length a = omega arith in rw e (ap (λ (x : List ℕ). c ∷ x) (line_part n break fit a b (omega arith)))

pub some_lines : (n : ℕ) (break : List ℕ) (cs : List ℕ) → 0 < n → 0 < length cs → 0 < length (in_lines n break n cs)
some_lines zero break cs h some = absurd (omega arith)
some_lines (suc m) break [] h some = absurd (omega arith)
some_lines (suc m) break (c ∷ cs) h some = omega (arith, ap length (first_on (suc m) break m c cs))

-- a text in lines is no shorter than its characters
pub at_least : (n : ℕ) (break : List ℕ) (fit : ℕ) (cs : List ℕ) → 0 < n → length cs ≤ length (in_lines n break fit cs)
unfolding in_lines
at_least n break fit [] h = omega arith
at_least n break zero (c ∷ cs) h = omega (arith, at_least n break (n - 1) cs h, length-append break (c ∷ in_lines n break (n - 1) cs))
at_least n break (suc fit) (c ∷ cs) h = omega (arith, at_least n break fit cs h)

-- a text in lines with more than a line is a line, a break, and more in lines
pub more_lines : (text : List ℕ) (n : ℕ) (break cs : List ℕ) → 0 < n → n < length text → text ≡ in_lines n break n cs
    → (length (take n cs) ≡ n) × (0 < length (drop n cs)) × (text ≡ take n cs ++ (break ++ in_lines n break n (drop n cs)))
more_lines text n break cs h long e = elim (leb_tells (length cs) n) [
  | inl t ↦ absurd (omega (arith, ap length e, ap length (line_last n break n cs t.1)))
  | inr t ↦ let size : length (take n cs) ≡ n = length-take-le n cs (omega (arith, t.1)) in
      let some : 0 < length (drop n cs) = omega (arith, t.1, length-drop n cs) in
      (size, some, e ∙ ap (in_lines n break n) (sym (take-append-drop n cs)) ∙ line_more n break n (take n cs) (drop n cs) h size some)
]

nothing_some : (break : List ℕ) (n fit : ℕ) (c : ℕ) (cs : List ℕ) → [] ≡ in_lines n break fit (c ∷ cs) → 0 < n → ⊥
nothing_some break n fit c cs e h = omega (arith, ap length e, at_least n break fit (c ∷ cs) h)

-- one text in lines has one row of characters
pub characters_same : (n : ℕ) (break : List ℕ) (fit : ℕ) (a b : List ℕ) → 0 < n → in_lines n break fit a ≡ in_lines n break fit b → a ≡ b
unfolding in_lines
characters_same n break fit [] [] h e = refl
characters_same n break fit [] (d ∷ b) h e = absurd (nothing_some break n fit d b (sym (no_more n break fit) ∙ e) h)
characters_same n break fit (c ∷ a) [] h e = absurd (nothing_some break n fit c a (sym (e ∙ no_more n break fit)) h)
characters_same n break zero (c ∷ a) (d ∷ b) h e =
    let both = split_same break break (c ∷ in_lines n break (n - 1) a) (d ∷ in_lines n break (n - 1) b) refl e in
    let head : c ≡ d = cc in
    let tail : in_lines n break (n - 1) a ≡ in_lines n break (n - 1) b = cc in
    let rest : a ≡ b = characters_same n break (n - 1) a b h tail in
    cc
characters_same n break (suc fit) (c ∷ a) (d ∷ b) h e =
    let head : c ≡ d = cc in
    let tail : in_lines n break fit a ≡ in_lines n break fit b = cc in
    let rest : a ≡ b = characters_same n break fit a b h tail in
    cc

-- ---- the encoding

pub length-padded : (a : List ℕ) → length (padded a) ≡ 4 * ((length a + 2) / 3)
length-padded a = length-append (encode_symbols standard.encode_table a) (replicate {A = ℕ} (padding_len (length a)) 61) ∙ omega (arith, length-encode_symbols standard.encode_table a, length-replicate {A = ℕ} (padding_len (length a)) 61)

ok_same : (a b : List ℕ) → decode_of standard (padded a) ≡ Ok a → decode_of standard (padded b) ≡ Ok b → padded a ≡ padded b → a ≡ b
ok_same a b d e same = let f : decode_of standard (padded a) ≡ decode_of standard (padded b) = ap (decode_of standard) same in cc

-- one encoding has one row of octets
pub octets_same : (a b : List ℕ) → IsBytes a → IsBytes b → padded a ≡ padded b → a ≡ b
octets_same a b fa fb e = ok_same a b (decode_of-encode_of standard a refl fa) (decode_of-encode_of standard b refl fb) e

abbrev pub is_symbol : ℕ → Bool
is_symbol c = not (c == 10) && not (c == 13)

and_true : (x y : Bool) → (x && y) ≡ true → (x ≡ true) × (y ≡ true)
and_true true y e = (refl, e)
and_true false y e = absurd (cc)

true_false : false ≡ true → ⊥
true_false e = cc

parts : (c : ℕ) → is_symbol c ≡ true → (c ≢ 10) × (c ≢ 13)
parts c e = (λ q. absurd (true_false (sym (ap is_symbol q ∙ refl) ∙ e)), λ q. absurd (true_false (sym (ap is_symbol q ∙ refl) ∙ e)))

each : (xs : List ℕ) → list_all is_symbol xs ≡ true → (j : ℕ) → is_symbol (get_or xs j 0) ≡ true
each [] h j = refl
each (c ∷ xs) h zero = (and_true _ _ h).0
each (c ∷ xs) h (suc j) = each xs (and_true _ _ h).1 j

alphabet_is : list_all is_symbol standard.encode_table ≡ true
alphabet_is = refl

symbol : (k : ℕ) → is_symbol (slice_index standard.encode_table k) ≡ true
symbol k = each standard.encode_table alphabet_is k

all_append : (xs ys : List ℕ) → list_all is_symbol xs ≡ true → list_all is_symbol ys ≡ true → list_all is_symbol (xs ++ ys) ≡ true
all_append [] ys h k = k
all_append (c ∷ xs) ys h k = let both = and_true (is_symbol c) (list_all is_symbol xs) h in rw both.0 (all_append xs ys both.1 k)

all_symbols : (o : List ℕ) → list_all is_symbol (encode_symbols standard.encode_table o) ≡ true
unfolding encode_symbols
all_symbols [] = refl
all_symbols (a ∷ []) = rw (symbol (a / 4), symbol (a % 4 * 16)) refl
all_symbols (a ∷ b ∷ []) = rw (symbol (a / 4), symbol (a % 4 * 16 + b / 16), symbol (b % 16 * 4)) refl
all_symbols (a ∷ b ∷ c ∷ o) = rw (symbol (a / 4), symbol (a % 4 * 16 + b / 16), symbol (b % 16 * 4 + c / 64), symbol (c % 64)) (all_symbols o)

all_padding : (n : ℕ) → list_all is_symbol (replicate n 61) ≡ true
all_padding zero = refl
all_padding (suc n) = all_padding n

-- no character is a part of a line break
pub no_break : (o : List ℕ) (j : ℕ) → (get_or (padded o) j 0 ≢ 10) × (get_or (padded o) j 0 ≢ 13)
no_break o j =
    let e = each (padded o) (all_append (encode_symbols standard.encode_table o) (replicate (padding_len (length o)) 61) (all_symbols o) (all_padding (padding_len (length o)))) j in
    parts (get_or (padded o) j 0) e

-- ---- canonical text

longer : (n : ℕ) (break cs : List ℕ) → 0 < n → n < length cs → n < length (in_lines n break n cs)
longer n break cs h long = omega (arith, at_least n break n cs h, long)

-- a text in one line, or the places of its first line break
pub one_or_more : (text : List ℕ) (form : LineForm) (octets : List ℕ) → IsCanonical text form octets
    → (text ≡ padded octets) × (form.length ≡ length text) × (form.crlf ≡ false)
    ⊎ (form.length < length text) × ((j : ℕ) → j < form.length → (get_or text j 0 ≢ 10) × (get_or text j 0 ≢ 13)) × ((more : List ℕ) × (line : List ℕ) × (length line ≡ form.length) × (text ≡ line ++ (line_break form.crlf ++ more)))
one_or_more text form octets h = elim (leb_tells (length (padded octets)) form.length) [
  | inl t ↦ let same : text ≡ padded octets = h.spelled ∙ line_last form.length (line_break form.crlf) form.length (padded octets) t.1 in
      let single = h.single t.1 in inl (same, single.0 ∙ ap length (sym same), single.1)
  | inr t ↦ let long = longer form.length (line_break form.crlf) (padded octets) (omega (arith, h.form_fits.least)) t.1 in
      let size : form.length < length text = omega (arith, ap length h.spelled, long) in
      let more = more_lines text form.length (line_break form.crlf) (padded octets) (omega (arith, h.form_fits.least)) size h.spelled in
      inr (
        size,
        λ j l.
            let at : get_or text j 0 ≡ get_or (padded octets) j 0 = ap (λ (x : List ℕ). get_or x j 0) more.2 ∙ get_or_append_left (take form.length (padded octets)) _ 0 j (omega (arith, more.0, l)) ∙ get_or-take form.length (padded octets) j 0 l in
            let none = no_break octets j in
            (λ q. none.0 (sym at ∙ q), λ q. none.1 (sym at ∙ q)),
        (in_lines form.length (line_break form.crlf) form.length (drop form.length (padded octets)), take form.length (padded octets), more.0, more.2),
      )
]

-- the octet behind a line
at_line : (text line rest : List ℕ) (c : ℕ) → text ≡ line ++ c ∷ rest → get_or text (length line) 0 ≡ c
at_line text line rest c e = ap (λ (x : List ℕ). get_or x (length line) 0) e ∙ get_or-append_seam line c rest 0

at_next : (text line rest : List ℕ) (c d : ℕ) → text ≡ line ++ (c ∷ d ∷ rest) → get_or text (length line + 1) 0 ≡ d
at_next text line rest c d e =
    let n : length (line ++ c ∷ []) ≡ length line + 1 = length-append line (c ∷ []) in
    ap (λ (k : ℕ). get_or text k 0) (sym n) ∙ at_line text (line ++ c ∷ []) rest d (e ∙ sym (append_assoc line (c ∷ []) (d ∷ rest)))

-- what the line break's kind says of the octets there
pub broken : (text : List ℕ) (n : ℕ) (crlf : Bool) (more line : List ℕ) → length line ≡ n → text ≡ line ++ (line_break crlf ++ more)
    → (crlf ≡ true) × (get_or text n 0 ≡ 13) × (get_or text (n + 1) 0 ≡ 10) × (n + 1 < length text) ⊎ (crlf ≡ false) × (get_or text n 0 ≡ 10) × (n < length text)
broken text n true more line l e = inl (refl, ap (λ (k : ℕ). get_or text k 0) (sym l) ∙ at_line text line (10 ∷ more) 13 e, ap (λ (k : ℕ). get_or text (k + 1) 0) (sym l) ∙ at_next text line more 13 10 e, omega (arith, l, ap length e, length-append line (13 ∷ 10 ∷ more)))
broken text n false more line l e = inr (refl, ap (λ (k : ℕ). get_or text k 0) (sym l) ∙ at_line text line more 10 e, omega (arith, l, ap length e, length-append line (10 ∷ more)))

-- the break is no character of a line
a_break : (text : List ℕ) (n m : ℕ) (crlf : Bool) (more line : List ℕ) → length line ≡ n → text ≡ line ++ (line_break crlf ++ more)
    → ((j : ℕ) → j < m → (get_or text j 0 ≢ 10) × (get_or text j 0 ≢ 13)) → m ≤ n
a_break text n m crlf more line l e none = elim (leb_tells m n) [
  | inl t ↦ t.1
  | inr t ↦ elim (broken text n crlf more line l e) [ inl b ↦ absurd ((none n t.1).1 b.1) | inr b ↦ absurd ((none n t.1).0 b.1) ]
]

no_both : (c : ℕ) → c ≡ 10 → c ≡ 13 → ⊥
no_both c d e = omega arith

crlf_same : (text : List ℕ) (n : ℕ) (a b : Bool) (more line more' line' : List ℕ) → length line ≡ n → text ≡ line ++ (line_break a ++ more) → length line' ≡ n → text ≡ line' ++ (line_break b ++ more') → a ≡ b
crlf_same text n a b more line more' line' l e l' e' = elim (broken text n a more line l e) [
  | inl x ↦ elim (broken text n b more' line' l' e') [ inl y ↦ x.0 ∙ sym y.0 | inr y ↦ absurd (no_both (get_or text n 0) y.1 x.1) ]
  | inr x ↦ elim (broken text n b more' line' l' e') [ inl y ↦ absurd (no_both (get_or text n 0) x.1 y.1) | inr y ↦ x.0 ∙ sym y.0 ]
]

form_is : (f g : LineForm) → f.length ≡ g.length → f.crlf ≡ g.crlf → f ≡ g
form_is f g e c = rw (form_eta f, form_eta g, e, c) refl
  where
    form_eta : (f : LineForm) → f ≡ record { length = f.length; crlf = f.crlf }
    form_eta f = refl

-- an encoding has no line break
only_one : (text : List ℕ) (g : LineForm) (a more line : List ℕ) → text ≡ padded a → length line ≡ g.length → text ≡ line ++ (line_break g.crlf ++ more) → ⊥
only_one text g a more line e l s = elim (broken text g.length g.crlf more line l s) [
  | inl b ↦ (no_break a (g.length + 1)).0 (ap (λ (x : List ℕ). get_or x (g.length + 1) 0) (sym e) ∙ b.2)
  | inr b ↦ (no_break a g.length).0 (ap (λ (x : List ℕ). get_or x g.length 0) (sym e) ∙ b.1)
]

-- one canonical text has one form
pub form_same : (text : List ℕ) (f g : LineForm) (a b : List ℕ) → IsCanonical text f a → IsCanonical text g b → f ≡ g
form_same text f g a b h k = elim (one_or_more text f a h) [
  | inl x ↦ elim (one_or_more text g b k) [
    | inl y ↦ form_is f g (x.1 ∙ sym y.1) (x.2 ∙ sym y.2)
    | inr y ↦ absurd (only_one text g a y.2.0 y.2.1 x.0 y.2.2 y.2.3)
  ]
  | inr x ↦ elim (one_or_more text g b k) [
    | inl y ↦ absurd (only_one text f b x.2.0 x.2.1 y.0 x.2.2 x.2.3)
    | inr y ↦
        let le = a_break text g.length f.length g.crlf y.2.0 y.2.1 y.2.2 y.2.3 x.1 in
        let ge = a_break text f.length g.length f.crlf x.2.0 x.2.1 x.2.2 x.2.3 y.1 in
        let n : f.length ≡ g.length = omega (arith, le, ge) in
        form_is f g n (crlf_same text g.length f.crlf g.crlf x.2.0 x.2.1 y.2.0 y.2.1 (x.2.2 ∙ n) x.2.3 y.2.2 y.2.3)
  ]
]

-- A text is canonical of at most one form and octets.
pub canonical_once : (text : List ℕ) (f g : LineForm) (a b : List ℕ) → IsCanonical text f a → IsCanonical text g b → (f ≡ g) × (a ≡ b)
canonical_once text f g a b h k =
    let same = form_same text f g a b h k in
    let lines : text_of f a ≡ text_of f b = sym h.spelled ∙ k.spelled ∙ ap (λ (form : LineForm). text_of form b) (sym same) in
    (same, octets_same a b h.octets_fit k.octets_fit (characters_same f.length (line_break f.crlf) f.length (padded a) (padded b) (omega (arith, h.form_fits.least)) lines))
