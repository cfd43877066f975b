-- Text in lines, written line by line.
use Rattle.std.proofs.Common.{refl, ◌≡◌, ◌<◌, ◌≤◌, ◌+◌, ◌*◌, ◌/◌, ◌%◌, ℕ, List, [], ◌++◌, length, sym, ◌∙◌, ap, arith, append_assoc, append-nil}
use Rattle.base64.specs.Engines.{standard}
use Rattle.base64.proofs.EngineFacts.{encode_of-append}
use Rattle.mdbox_base.specs.declared.metadata.LineForm.{LineForm}
use Rattle.model_base64.specs.Base64Text.{in_lines, line_break, padded, text_of, IsForm}
use Rattle.model_base64.proofs.Base64Lemmas.{line_last, line_more, length-padded}

-- What is written, and the text of the rest, are the text.
pub record IsWritten (form : LineForm) (octets rest old out : List ℕ) : Type 0 where
  pub text : out ++ text_of form rest ≡ old ++ text_of form octets
  pub front : (more : List ℕ) × (out ≡ old ++ more)

pub written_start : (form : LineForm) (octets old : List ℕ) → IsWritten form octets octets old old
written_start form octets old = record { text = refl; front = ([], sym (append-nil old)) }

-- the octets of a full line, and more
pub full_line : (form : LineForm) (rest line behind : List ℕ) → IsForm form → length line ≡ form.length / 4 * 3 → 0 < length behind → rest ≡ line ++ behind
    → text_of form rest ≡ padded line ++ (line_break form.crlf ++ text_of form behind)
full_line form rest line behind good size some parts =
    let third : length line % 3 ≡ 0 = omega (arith, size) in
    let full : length (padded line) ≡ form.length = length-padded line ∙ omega (arith, size, good.fours) in
    ap (text_of form) parts ∙ ap (in_lines form.length (line_break form.crlf) form.length) (encode_of-append standard line behind third)
    ∙ line_more form.length (line_break form.crlf) form.length (padded line) (padded behind) (omega (arith, good.least)) full (omega (arith, length-padded behind, some))

-- a full line and a break are written
pub written_next : (form : LineForm) (octets rest line behind old out out' new : List ℕ) (size : ℕ) → IsForm form → IsWritten form octets rest old out → size ≡ form.length / 4 * 3 → size < length rest
    → length line ≡ size → length behind + size ≡ length rest → rest ≡ line ++ behind → out' ≡ out ++ padded line → new ≡ out' ++ line_break form.crlf → IsWritten form octets behind old new
written_next form octets rest line behind old out out' new size good w is long front back parts push broken =
    let all : new ≡ out ++ (padded line ++ line_break form.crlf) = broken ∙ ap (λ (x : List ℕ). x ++ line_break form.crlf) push ∙ append_assoc out (padded line) (line_break form.crlf) in
    record {
      text = ap (λ (x : List ℕ). x ++ text_of form behind) all ∙ append_assoc out (padded line ++ line_break form.crlf) (text_of form behind)
          ∙ ap (λ (x : List ℕ). out ++ x) (append_assoc (padded line) (line_break form.crlf) (text_of form behind) ∙ sym (full_line form rest line behind good (front ∙ is) (omega (arith, long, back)) parts)) ∙ w.text;
      front = (w.front.0 ++ (padded line ++ line_break form.crlf), all ∙ ap (λ (x : List ℕ). x ++ (padded line ++ line_break form.crlf)) w.front.1 ∙ append_assoc old w.front.0 (padded line ++ line_break form.crlf));
    }

-- the last line
pub written_end : (form : LineForm) (octets rest old out new : List ℕ) (size : ℕ) → IsForm form → IsWritten form octets rest old out → size ≡ form.length / 4 * 3 → length rest ≤ size
    → new ≡ out ++ padded rest → new ≡ old ++ text_of form octets
written_end form octets rest old out new size good w is short push =
    push ∙ ap (λ (x : List ℕ). out ++ x) (sym (line_last form.length (line_break form.crlf) form.length (padded rest) (omega (arith, length-padded rest, short, is, good.fours)))) ∙ w.text

pub more_front : (old out new part : List ℕ) → ((more : List ℕ) × (out ≡ old ++ more)) → new ≡ out ++ part → (more : List ℕ) × (new ≡ old ++ more)
more_front old out new part h push = (h.0 ++ part, push ∙ ap (λ (x : List ℕ). x ++ part) h.1 ∙ append_assoc old h.0 part)

pub same_front : (old out new : List ℕ) → ((more : List ℕ) × (out ≡ old ++ more)) → new ≡ out → (more : List ℕ) × (new ≡ old ++ more)
same_front old out new h same = (h.0, same ∙ h.1)
