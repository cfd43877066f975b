-- Laws of the detached form.
use Rattle.std.proofs.Common.{refl, ◌≡◌, ◌+◌, ◌-◌, ◌≤◌, ℕ, List, [], ◌∷◌, ◌++◌, length, drop, Option, Some, None, sym, ◌∙◌, ap, subst, arith}
use Rattle.std.specs.Prelude.{filter}
use Rattle.std.proofs.lemmas.List.{take-append-drop, length-take-le, length-drop, drop-drop}
use Rattle.mdbox_base.specs.declared.metadata.LineForm.{LineForm}
use Rattle.mdbox_base.specs.declared.metadata.ExtRef.{ExtRef}
use Rattle.model_mime.specs.declared.mime.Coding.{Coding}
use Rattle.model_mime.specs.declared.mime.Part.{Part}
use Rattle.model_mime.specs.Lines.{range}
use Rattle.model_mime.specs.Parts.{parts_in, InOrder}
use Rattle.model_mime.proofs.PartsLemmas.{detachable_in_order}
use Rattle.model_base64.proofs.Base64Lemmas.{canonical_once}
use Rattle.model_attach.specs.Rejoined.{IsWhole, IsWholeFrom, part_text}
use Rattle.model_attach.specs.Detached.{Piece, IsInstance, AreCut, pieces_of, AreDetached}

-- ---- the whole of the detached form

-- a part of an ordered list ends before the end
pub end_in_order : (at end : ℕ) (ps : List Part) → InOrder at end ps → at ≤ end
end_in_order at end [] h = h
end_in_order at end (p ∷ ps) h = omega (arith, h.0, h.1, end_in_order p.end end ps h.2)

-- a text from a place on, cut at a later one
pub cut_at : (message : List ℕ) (at to : ℕ) → at ≤ to → range message at to ++ drop to message ≡ drop at message
cut_at message at to h =
    let n : at + (to - at) ≡ to = omega arith in
    ap (λ (x : List ℕ). range message at to ++ x) (ap (λ (k : ℕ). drop k message) (sym n) ∙ sym (drop-drop (to - at) at message)) ∙ take-append-drop (to - at) (drop at message)

pub length-range : (message : List ℕ) (at to : ℕ) → at ≤ to → to ≤ length message → length (range message at to) ≡ to - at
length-range message at to h l = length-take-le (to - at) (drop at message) (omega (arith, length-drop at message))

text_is : (coding : Coding) (text : List ℕ) (form : Option LineForm) (octets : List ℕ) → IsInstance coding text form octets → part_text form octets ≡ text
text_is coding text None octets h = h.0
text_is coding text (Some form) octets h = sym h.1.spelled

no_pieces : (message : List ℕ) (at : ℕ) (part : Part) (parts : List Part) (body : List ℕ) → AreCut message at (part ∷ parts) [] body → ⊥
no_pieces message at part parts body h = h

whole_of_cut : (message : List ℕ) (at : ℕ) (ps : List Part) (refs : List ExtRef) (instances : List (List ℕ)) (body : List ℕ) → length refs ≡ length instances → InOrder at (length message) ps
    → AreCut message at ps (pieces_of refs instances) body → IsWholeFrom at (drop at message) body refs instances
whole_of_cut message at [] [] [] body one order cut = sym cut
whole_of_cut message at [] [] (octets ∷ instances) body one order cut = absurd (omega (arith, one))
whole_of_cut message at [] (ref ∷ refs) [] body one order cut = absurd (omega (arith, one))
whole_of_cut message at [] (ref ∷ refs) (octets ∷ instances) body one order cut = absurd cut
whole_of_cut message at (p ∷ ps) [] [] body one order cut = absurd cut
whole_of_cut message at (p ∷ ps) [] (octets ∷ instances) body one order cut = absurd cut
whole_of_cut message at (p ∷ ps) (ref ∷ refs) [] body one order cut = absurd cut
whole_of_cut message at (p ∷ ps) (ref ∷ refs) (octets ∷ instances) body one order cut =
    let last = end_in_order p.end (length message) ps order.2 in
    let text : part_text ref.form octets ≡ range message p.start p.end = text_is p.coding (range message p.start p.end) ref.form octets cut.4 in
    let end : ref.start + ref.count ≡ p.end = omega (arith, cut.2, cut.3) in (
      range message at p.start,
      drop p.end message,
      cut.0,
      sym (ap (λ (x : List ℕ). range message at p.start ++ (x ++ drop p.end message)) text ∙ ap (λ (x : List ℕ). range message at p.start ++ x) (cut_at message p.start p.end order.1) ∙ cut_at message at p.start order.0),
      cut.1,
      omega (arith, cut.2, order.0, order.1, last, length-range message at p.start order.0 (omega (arith, order.1, last))),
      ap length text ∙ omega (arith, cut.3, order.1, length-range message p.start p.end order.1 last),
      subst (λ (n : ℕ). IsWholeFrom n (drop p.end message) cut.0 refs instances) (sym end) (whole_of_cut message p.end ps refs instances cut.0 (omega (arith, one)) order.2 cut.5),
    )

-- The whole of the detached form of a message is the message.
pub whole_of_detached : (message body : List ℕ) (refs : List ExtRef) (instances : List (List ℕ)) → AreDetached message body refs instances → IsWhole message body refs instances
whole_of_detached message body refs instances h =
    whole_of_cut message 0 (filter (λ p. p.detachable) (parts_in message)) refs instances body h.one_each (detachable_in_order message) h.detached

-- ---- a message has one detached form

instance_once : (coding : Coding) (text : List ℕ) (f g : Option LineForm) (a b : List ℕ) → IsInstance coding text f a → IsInstance coding text g b → (f ≡ g) × (a ≡ b)
instance_once coding text None None a b h k = (refl, h.0 ∙ sym k.0)
instance_once coding text None (Some g) a b h k = absurd (h.1 k.0 g b k.1)
instance_once coding text (Some f) None a b h k = absurd (k.1 h.0 f a h.1)
instance_once coding text (Some f) (Some g) a b h k = let once = canonical_once text f g a b h.1 k.1 in (ap (λ (x : LineForm). Some x) once.0, once.1)

piece_is : (x y : Piece) → x.start ≡ y.start → x.count ≡ y.count → x.form ≡ y.form → x.octets ≡ y.octets → x ≡ y
piece_is x y a b c d = rw (a, b, c, d) refl

pub cut_once : (message : List ℕ) (at : ℕ) (ps : List Part) (xs ys : List Piece) (b c : List ℕ) → AreCut message at ps xs b → AreCut message at ps ys c → (xs ≡ ys) × (b ≡ c)
cut_once message at [] [] [] b c h k = (refl, h ∙ sym k)
cut_once message at [] [] (y ∷ ys) b c h k = absurd k
cut_once message at [] (x ∷ xs) ys b c h k = absurd h
cut_once message at (p ∷ ps) [] ys b c h k = absurd h
cut_once message at (p ∷ ps) (x ∷ xs) [] b c h k = absurd k
cut_once message at (p ∷ ps) (x ∷ xs) (y ∷ ys) b c h k =
    let rest = cut_once message p.end ps xs ys h.0 k.0 h.5 k.5 in
    let one = instance_once p.coding (range message p.start p.end) x.form y.form x.octets y.octets h.4 k.4 in
    let start : x.start ≡ y.start = h.2 ∙ sym k.2 in
    let count : x.count ≡ y.count = omega (arith, h.3, k.3) in
    let piece : x ≡ y = piece_is x y start count one.0 one.1 in
    let pieces : xs ≡ ys = rest.0 in
    (cc, h.1 ∙ ap (λ (t : List ℕ). range message at p.start ++ t) rest.1 ∙ sym k.1)
