-- The first field of a name, line by line.
use Rattle.std.proofs.Common.{◌≡◌, ◌-◌, ℕ, Bool, true, false, cond, List, ◌∷◌, ◌++◌, length, take, drop, map, sym, ◌∙◌, ap, Some}
use Rattle.model_mime.specs.declared.mime.Line.{Line}
use Rattle.model_mime.specs.Lines.{TextLine, raw_lines, texts, range, IsLineAt}
use Rattle.model_mime.specs.Fields.{continuation, is_field_named, value_of}
use Rattle.mime_fields.proofs.LineLemmas.{rest_is}
use Rattle.mime_fields.proofs.ContinuedLemmas.{texts_placed}

-- the texts from a place on, by the line there
pub texts_at : (text : List ℕ) (at : ℕ) (line : Line) → IsLineAt text at line → texts (drop at text) ≡ range text line.start line.end ∷ texts (drop line.next text)
texts_at text at line h =
    sym (texts_placed at (raw_lines (drop at text))) ∙ ap (map (λ (l : TextLine). l.text)) h.lines
    ∙ ap (λ (x : List (List ℕ)). range text line.start line.end ∷ x) (texts_placed line.next (raw_lines (drop line.next text)))

value_at : (name block : List ℕ) (at : ℕ) (line : Line) → IsLineAt block at line → value_of name (texts (drop at block)) ≡ value_of name (texts block)
    → value_of name (texts block)
    ≡ cond (is_field_named name (range block line.start line.end)) (Some (drop (length name) (range block line.start line.end) ++ continuation (texts (drop line.next block)))) (value_of name (texts (drop line.next block)))
value_at name block at line h so_far = sym so_far ∙ ap (value_of name) (texts_at block at line h)

pub found_here : (name block : List ℕ) (at : ℕ) (line : Line) (value found : List ℕ) → IsLineAt block at line → value_of name (texts (drop at block)) ≡ value_of name (texts block)
    → is_field_named name (range block line.start line.end) ≡ true → value ≡ drop (length name) (range block line.start line.end)
    → found ≡ value ++ continuation (texts (take (length block - line.next) (drop line.next block))) → value_of name (texts block) ≡ Some found
found_here name block at line value found h so_far named is e =
    value_at name block at line h so_far
    ∙ ap (λ (b : Bool). cond b (Some (drop (length name) (range block line.start line.end) ++ continuation (texts (drop line.next block)))) (value_of name (texts (drop line.next block)))) named
    ∙ ap (λ (x : List ℕ). Some (x ++ continuation (texts (drop line.next block)))) (sym is)
    ∙ ap (λ (x : List ℕ). Some (value ++ continuation (texts x))) (sym (rest_is block line.next))
    ∙ ap (λ (x : List ℕ). Some x) (sym e)

pub found_later : (name block : List ℕ) (at : ℕ) (line : Line) → IsLineAt block at line → value_of name (texts (drop at block)) ≡ value_of name (texts block)
    → is_field_named name (range block line.start line.end) ≡ false → value_of name (texts (drop line.next block)) ≡ value_of name (texts block)
found_later name block at line h so_far other =
    sym (value_at name block at line h so_far
    ∙ ap (λ (b : Bool). cond b (Some (drop (length name) (range block line.start line.end) ++ continuation (texts (drop line.next block)))) (value_of name (texts (drop line.next block)))) other)
