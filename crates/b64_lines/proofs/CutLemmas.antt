-- Text in lines, cut line by line.
use Rattle.std.proofs.Common.{refl, ◌≡◌, ◌<◌, ◌≤◌, ℕ, Bool, true, false, List, [], ◌++◌, length, take, drop, sym, ◌∙◌, ap, arith, append_assoc, length-append}
use Rattle.std.proofs.lemmas.List.{take-append-drop, length-take-le}
use Rattle.std.specs.Prelude.{◌==◌}
use Rattle.std.proofs.lemmas.Bool.Decides.{nat_tests}
use Rattle.model_base64.specs.Base64Text.{in_lines}
use Rattle.model_base64.proofs.Base64Lemmas.{line_last, line_more, more_lines, some_lines, at_least}
use Rattle.model_octets.proofs.PiecesLemmas.{split_same}

-- Some characters are cut off, and the rest of the text is the rest of the characters in lines.
pub record IsCut (text : List ℕ) (n : ℕ) (break rest out : List ℕ) : Type 0 where
  pub forward : (cs : List ℕ) → 0 < length cs → rest ≡ in_lines n break n cs → text ≡ in_lines n break n (out ++ cs)
  pub back : (cs : List ℕ) → 0 < length cs → text ≡ in_lines n break n cs → (more : List ℕ) × (0 < length more) × (cs ≡ out ++ more) × (rest ≡ in_lines n break n more)

pub cut_start : (text : List ℕ) (n : ℕ) (break out : List ℕ) → out ≡ [] → IsCut text n break text out
cut_start text n break out none = record {
  forward = λ cs some e. rw none e;
  back = λ cs some e. (cs, some, rw none refl, e);
}

-- a full line and its break are cut off
pub cut_next : (text rest line behind next : List ℕ) (n : ℕ) (break out new : List ℕ) → IsCut text n break rest out → 0 < n → n < length rest
    → line ≡ take n rest → behind ≡ break ++ next → rest ≡ line ++ behind → new ≡ out ++ line → IsCut text n break next new
cut_next text rest line behind next n break out new cut h long front broken parts push =
    let size : length line ≡ n = ap length front ∙ length-take-le n rest (omega arith) in
    let here : rest ≡ line ++ (break ++ next) = parts ∙ ap (λ (x : List ℕ). line ++ x) broken in
    record {
      forward = λ cs some e. cut.forward (line ++ cs) (omega (arith, some, length-append line cs))
          (here ∙ ap (λ (x : List ℕ). line ++ (break ++ x)) e ∙ sym (line_more n break n line cs h size some))
          ∙ ap (in_lines n break n) (sym (append_assoc out line cs) ∙ ap (λ (x : List ℕ). x ++ cs) (sym push));
      back = λ cs some e.
          let was = cut.back cs some e in
          let more = more_lines rest n break was.0 h long was.3 in
          let both = split_same line (take n was.0) (break ++ next) (break ++ in_lines n break n (drop n was.0)) (size ∙ sym more.0) (sym here ∙ more.2) in
          let tail = split_same break break next (in_lines n break n (drop n was.0)) refl both.1 in (
            drop n was.0,
            more.1,
            was.2 ∙ ap (λ (x : List ℕ). out ++ x) (sym (take-append-drop n was.0)) ∙ sym (append_assoc out (take n was.0) (drop n was.0)) ∙ ap (λ (x : List ℕ). x ++ drop n was.0) (ap (λ (x : List ℕ). out ++ x) (sym both.0) ∙ sym push),
            tail.1,
          );
    }

-- no break where a line is full: the text isn't in such lines
pub cut_broken : (text rest line behind : List ℕ) (n : ℕ) (break out : List ℕ) → IsCut text n break rest out → 0 < n → n < length rest
    → line ≡ take n rest → rest ≡ line ++ behind → ((next : List ℕ) → behind ≡ break ++ next → ⊥) → (cs : List ℕ) → 0 < length cs → text ≡ in_lines n break n cs → ⊥
cut_broken text rest line behind n break out cut h long front parts none cs some e =
    let size : length line ≡ n = ap length front ∙ length-take-le n rest (omega arith) in
    let was = cut.back cs some e in
    let more = more_lines rest n break was.0 h long was.3 in
    let both = split_same line (take n was.0) behind (break ++ in_lines n break n (drop n was.0)) (size ∙ sym more.0) (sym parts ∙ more.2) in
    none (in_lines n break n (drop n was.0)) both.1

-- the last line is empty: the same
pub cut_empty : (text rest : List ℕ) (n : ℕ) (break out : List ℕ) → IsCut text n break rest out → 0 < n → length rest ≡ 0
    → (cs : List ℕ) → 0 < length cs → text ≡ in_lines n break n cs → ⊥
cut_empty text rest n break out cut h end cs some e =
    let was = cut.back cs some e in
    omega (arith, some_lines n break was.0 h was.1, ap length was.3, end)

-- the last line
pub cut_end : (text rest : List ℕ) (n : ℕ) (break out new : List ℕ) → IsCut text n break rest out → 0 < length rest → length rest ≤ n → new ≡ out ++ rest
    → (0 < length new) × (text ≡ in_lines n break n new)
cut_end text rest n break out new cut some fits push = (
  omega (arith, some, ap length push, length-append out rest),
  cut.forward rest some (sym (line_last n break n rest fits)) ∙ ap (in_lines n break n) (sym push),
)

-- no other characters make the text
pub cut_only : (text rest : List ℕ) (n : ℕ) (break out new : List ℕ) → IsCut text n break rest out → 0 < n → length rest ≤ n → new ≡ out ++ rest
    → (cs : List ℕ) → 0 < length cs → text ≡ in_lines n break n cs → cs ≡ new
cut_only text rest n break out new cut h fits push cs some e =
    let was = cut.back cs some e in
    let short : length was.0 ≤ n = omega (arith, at_least n break n was.0 h, ap length was.3, fits) in
    let same : was.0 ≡ rest = sym (line_last n break n was.0 short) ∙ sym was.3 in
    was.2 ∙ ap (λ (x : List ℕ). out ++ x) same ∙ sym push

-- a test for emptiness
pub is_none : (n : ℕ) (b : Bool) → b ≡ (n == 0) → b ≡ true → n ≡ 0
is_none n b e t = grind (arith, nat_tests)

pub is_some : (n : ℕ) (b : Bool) → b ≡ (n == 0) → b ≡ false → 0 < n
is_some n b e t = grind (arith, nat_tests)
