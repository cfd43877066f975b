-- The first line of a text, where it continues a field.
use Rattle.std.proofs.Common.{refl, ◌≡◌, ◌≢◌, ◌<◌, ◌+◌, ◌-◌, ℕ, zero, suc, Bool, true, false, cond, List, [], ◌∷◌, ◌++◌, length, get_or, take, drop, map, sym, ◌∙◌, ap, arith}
use Rattle.std.proofs.lemmas.List.{length-take-le}
use Rattle.model_mime.specs.declared.mime.Line.{Line}
use Rattle.model_mime.specs.Lines.{TextLine, placed_lines, raw_lines, texts, content, is_blank, range, IsLineAt}
use Rattle.model_mime.specs.Fields.{continuation}
use Rattle.mime_fields.proofs.LineLemmas.{rest_is}

pub texts_placed : (at : ℕ) (raws : List (List ℕ)) → map (λ l. l.text) (placed_lines at raws) ≡ map content raws
texts_placed at [] = refl
texts_placed at (raw ∷ raws) = ap (λ (x : List (List ℕ)). content raw ∷ x) (texts_placed (at + length raw) raws)

-- the texts of the lines of a text, from its first line
pub first_text : (text : List ℕ) (next : Line) → IsLineAt text 0 next → texts text ≡ take next.end text ∷ texts (drop next.next text)
first_text text next h =
    let start : range text next.start next.end ≡ take next.end text = ap (λ (k : ℕ). range text k next.end) h.start ∙ (let n : next.end - 0 ≡ next.end = omega arith in ap (λ (k : ℕ). take k text) n) in
    sym (texts_placed 0 (raw_lines text)) ∙ ap (map (λ (l : TextLine). l.text)) h.lines
    ∙ ap (λ (x : List (List ℕ)). range text next.start next.end ∷ x) (texts_placed next.next (raw_lines (drop next.next text)))
    ∙ ap (λ (x : List ℕ). x ∷ texts (drop next.next text)) start

goes_on : (c : ℕ) (line : List ℕ) (lines : List (List ℕ)) → is_blank c ≡ true → continuation ((c ∷ line) ∷ lines) ≡ (c ∷ line) ++ continuation lines
goes_on c line lines e = ap (λ (b : Bool). cond b (c ∷ (line ++ continuation lines)) []) e

stops : (c : ℕ) (line : List ℕ) (lines : List (List ℕ)) → is_blank c ≡ false → continuation ((c ∷ line) ∷ lines) ≡ []
stops c line lines e = ap (λ (b : Bool). cond b (c ∷ (line ++ continuation lines)) []) e

front : (text : List ℕ) (n : ℕ) → 0 < n → 0 < length text → take n text ≡ get_or text 0 0 ∷ take (n - 1) (drop 1 text)
front [] n h some = absurd (omega arith)
front (c ∷ text) zero h some = absurd (omega arith)
front (c ∷ text) (suc n) h some = let e : suc n - 1 ≡ n = omega arith in ap (λ (k : ℕ). c ∷ take k text) (sym e)

pub continues : (text : List ℕ) (next : Line) → IsLineAt text 0 next → next.end ≢ 0 → is_blank (get_or text 0 0) ≡ true
    → (0 < length (take next.end text)) × (continuation (texts text) ≡ take next.end text ++ continuation (texts (take (length text - next.next) (drop next.next text))))
continues text next h other blank =
    let some : 0 < next.end = omega (arith, other) in
    let cut : take next.end text ≡ get_or text 0 0 ∷ take (next.end - 1) (drop 1 text) = front text next.end some (omega (arith, h.within, h.break, some)) in (
      omega (arith, length-take-le next.end text (omega (arith, h.within, h.break))),
      rw (rest_is text next.next) (ap continuation (first_text text next h) ∙ rw cut (goes_on (get_or text 0 0) (take (next.end - 1) (drop 1 text)) (texts (drop next.next text)) blank)),
    )

pub ends : (text : List ℕ) (next : Line) → IsLineAt text 0 next → next.end ≢ 0 → is_blank (get_or text 0 0) ≡ false → continuation (texts text) ≡ []
ends text next h other blank =
    let some : 0 < next.end = omega (arith, other) in
    let cut : take next.end text ≡ get_or text 0 0 ∷ take (next.end - 1) (drop 1 text) = front text next.end some (omega (arith, h.within, h.break, some)) in
    ap continuation (first_text text next h ∙ ap (λ (x : List ℕ). x ∷ texts (drop next.next text)) cut) ∙ stops (get_or text 0 0) (take (next.end - 1) (drop 1 text)) (texts (drop next.next text)) blank

pub ends_empty : (text : List ℕ) (next : Line) → IsLineAt text 0 next → next.end ≡ 0 → continuation (texts text) ≡ []
ends_empty text next h at = ap continuation (first_text text next h ∙ ap (λ (k : ℕ). take k text ∷ texts (drop next.next text)) at)
