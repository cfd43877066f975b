-- The length of text in lines.
use Rattle.std.proofs.Common.{refl, ◌≡◌, ◌<◌, ◌≤◌, ◌+◌, ◌-◌, ◌*◌, ◌/◌, ◌%◌, ℕ, zero, suc, Bool, true, false, List, [], ◌∷◌, length, sym, ◌∙◌, ap, arith, length-append}
use Rattle.std.specs.Int.{div_ceil}
use Rattle.std.proofs.lemmas.Nat.{div-mul-add, div-add-mod', le-div}
use Rattle.std.proofs.Math.Nat.{div-mul-le_self}
use Rattle.mdbox_base.specs.declared.metadata.LineForm.{LineForm}
use Rattle.model_base64.specs.Base64Text.{in_lines, line_break, padded, text_of, IsForm}
use Rattle.model_base64.proofs.Base64Lemmas.{length-padded}

small : (m n : ℕ) → m < n → m / n ≡ 0
small m n h = let e : m ≡ 0 * n + m = omega arith in ap (λ (x : ℕ). x / n) e ∙ div-mul-add 0 n m h

one_more : (m n : ℕ) → 0 < n → (m + n) / n ≡ suc (m / n)
one_more m n h =
    let parts : m / n * n + m % n ≡ m = div-add-mod' m n in
    let rest : m % n < n = omega arith in
    let e : m + n ≡ suc (m / n) * n + m % n = omega (arith, parts, suc_times (m / n) n) in
    ap (λ (x : ℕ). x / n) e ∙ div-mul-add (suc (m / n)) n (m % n) rest
  where
    suc_times : (a b : ℕ) → suc a * b ≡ b + a * b
    suc_times a b = omega arith

-- the length, and how many breaks it has
pub length-in_lines : (n : ℕ) (break : List ℕ) (fit : ℕ) (cs : List ℕ) → 0 < n → fit ≤ n → length (in_lines n break fit cs) ≡ length cs + (length cs + (n - 1) - fit) / n * length break
unfolding in_lines
length-in_lines n break fit [] h k = let none : (0 + (n - 1) - fit) / n ≡ 0 = small (0 + (n - 1) - fit) n (omega arith) in rw none (omega arith)
length-in_lines n break zero (c ∷ cs) h k =
    let more : (suc (length cs) + (n - 1) - 0) / n ≡ suc ((length cs + (n - 1) - (n - 1)) / n) =
    ap (λ (x : ℕ). x / n) (omega arith) ∙ one_more (length cs) n h ∙ ap (λ (x : ℕ). suc (x / n)) (omega arith) in
    rw more (omega (arith, length-append break (c ∷ in_lines n break (n - 1) cs), length-in_lines n break (n - 1) cs h (omega arith)))
length-in_lines n break (suc fit) (c ∷ cs) h k =
    let same : (suc (length cs) + (n - 1) - suc fit) / n ≡ (length cs + (n - 1) - fit) / n = ap (λ (x : ℕ). x / n) (omega arith) in
    rw same (omega (arith, length-in_lines n break fit cs h (omega arith)))

pub text_is : (form : LineForm) (text : List ℕ) (octets characters : ℕ) → IsForm form → length text ≡ octets → characters ≡ 4 * ((octets + 2) / 3)
    → characters + (characters - 1) / form.length * length (line_break form.crlf) ≡ length (text_of form text)
text_is form text octets characters good is count =
    let size : characters ≡ length (padded text) = count ∙ ap (λ (x : ℕ). 4 * ((x + 2) / 3)) (sym is) ∙ sym (length-padded text) in
    let args : characters - 1 ≡ length (padded text) + (form.length - 1) - form.length = omega (arith, size, good.least) in
    ap (λ (x : ℕ). characters + x / form.length * length (line_break form.crlf)) args ∙ ap (λ (x : ℕ). x + (length (padded text) + (form.length - 1) - form.length) / form.length * length (line_break form.crlf)) size
    ∙ sym (length-in_lines form.length (line_break form.crlf) form.length (padded text) (omega (arith, good.least)) (omega arith))

pub rounded_up : (n : ℕ) → div_ceil n 3 ≡ (n + 2) / 3
rounded_up n = omega arith

-- The text of more octets is no shorter.
pub longer_text : (form : LineForm) (few many : List ℕ) → IsForm form → length few ≤ length many → length (text_of form few) ≤ length (text_of form many)
longer_text form few many good more =
    let a = text_is form few (length few) (4 * ((length few + 2) / 3)) good refl refl in
    let b = text_is form many (length many) (4 * ((length many + 2) / 3)) good refl refl in
    let thirds = div_more (length few + 2) (length many + 2) 3 (omega arith) (omega (arith, more)) in
    let lines = div_more (4 * ((length few + 2) / 3) - 1) (4 * ((length many + 2) / 3) - 1) form.length (let least = good.least in omega (arith, least)) (omega (arith, thirds)) in
    let breaks = each_more form.crlf (length_of_breaks few) (length_of_breaks many) lines in
    omega (arith, a, b, thirds, breaks)
  where
    length_of_breaks : List ℕ → ℕ
    length_of_breaks text = (4 * ((length text + 2) / 3) - 1) / form.length

    div_more : (m n k : ℕ) → 0 < k → m ≤ n → m / k ≤ n / k
    div_more m n k some le = le-div (m / k) n k some (let least = div-mul-le_self m k in omega (arith, least, le))

    each_more : (crlf : Bool) (m n : ℕ) → m ≤ n → m * length (line_break crlf) ≤ n * length (line_break crlf)
    each_more true m n le = omega (arith, le)
    each_more false m n le = omega (arith, le)
