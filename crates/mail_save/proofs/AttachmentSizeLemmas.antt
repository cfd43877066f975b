-- An attachment's octets are no more than those of its message.
use Rattle.mail_save.proofs.Common.{◌≡◌, ◌≤◌, ◌+◌, ◌-◌, ℕ, List, [], ◌∷◌, All, Option, Some, None, drop, map, take, length, ap, arith, filter, All-cons, All-nil, All-weaker, IsPrepared, Detached, Prepared, parts_in}
use Rattle.std.proofs.Common.{◌*◌, ◌/◌}
use Rattle.std.specs.Prelude.{min}
use Rattle.std.proofs.lemmas.List.{length-drop, length-take}
use Rattle.attach_detach.specs.Prepared.{piece_of}
use Rattle.mdbox_base.specs.declared.metadata.LineForm.{LineForm}
use Rattle.model_attach.specs.Detached.{AreCut, IsInstance}
use Rattle.model_base64.proofs.Base64Lemmas.{at_least, length-padded}
use Rattle.model_base64.specs.Base64Text.{IsCanonical, in_lines, line_break, padded}
use Rattle.model_mime.specs.Lines.{range}
use Rattle.model_mime.specs.declared.mime.Coding.{Coding}
use Rattle.model_mime.specs.declared.mime.Part.{Part}

decoded_short : (text : List ℕ) (form : LineForm) (octets : List ℕ) → IsCanonical text form octets → length octets ≤ length text
decoded_short text form octets is =
    let four = is.form_fits.least in
    let lines : length (padded octets) ≤ length (in_lines form.length (line_break form.crlf) form.length (padded octets)) = at_least form.length (line_break form.crlf) form.length (padded octets) (omega (arith, four)) in
    let spelled : length text ≡ length (in_lines form.length (line_break form.crlf) form.length (padded octets)) = ap length is.spelled in
    let long : length (padded octets) ≡ 4 * ((length octets + 2) / 3) = length-padded octets in
    sizes (length octets) (length (padded octets)) (length (in_lines form.length (line_break form.crlf) form.length (padded octets))) (length text) lines spelled long
  where
    sizes : (n p l t : ℕ) → p ≤ l → t ≡ l → p ≡ 4 * ((n + 2) / 3) → n ≤ t
    sizes n p l t a b c = omega (arith, a, b, c)

instance_short : (coding : Coding) (text : List ℕ) (form : Option LineForm) (octets : List ℕ) → IsInstance coding text form octets → length octets ≤ length text
instance_short coding text None octets is = let e : length octets ≡ length text = ap length is.0 in omega (arith, e)
instance_short coding text (Some form) octets is = decoded_short text form octets is.1

range_short : (message : List ℕ) (start end : ℕ) → length (range message start end) ≤ length message
range_short message start end =
    let a : length (drop start message) ≡ length message - start = length-drop start message in
    let b : length (take (end - start) (drop start message)) ≡ min (end - start) (length (drop start message)) = length-take (end - start) (drop start message) in
    omega (arith, a, b)

cut_short : (message : List ℕ) (at : ℕ) (ps : List Part) (parts : List Detached) (body : List ℕ) → AreCut message at ps (map piece_of parts) body → All (λ part. length part.octets ≤ length message) parts
cut_short message at ps [] body cut = All-nil (λ (part : Detached). length part.octets ≤ length message)
cut_short message at [] (d ∷ parts) body cut = absurd cut
cut_short message at (p ∷ ps) (d ∷ parts) body cut =
    let text : length d.octets ≤ length (range message p.start p.end) = instance_short p.coding (range message p.start p.end) d.form d.octets cut.4 in
    let whole : length (range message p.start p.end) ≤ length message = range_short message p.start p.end in
    All-cons (λ (part : Detached). length part.octets ≤ length message) d parts (omega (arith, text, whole)) (cut_short message p.end ps parts cut.0 cut.5)

pub attachments_short : (prepared : Prepared) → (octets : List ℕ) × (length octets ≤ 67108864) × IsPrepared octets prepared → All (λ part. length part.octets ≤ 4294967295) prepared.parts
attachments_short prepared is =
    let small : length is.0 ≤ 67108864 = is.1 in
    All-weaker (λ (part : Detached). length part.octets ≤ length is.0) (λ (part : Detached). length part.octets ≤ 4294967295) (λ part le. omega (arith, le, small)) prepared.parts
    (cut_short is.0 0 (filter (λ part. part.detachable) (parts_in is.0)) prepared.parts prepared.body is.2.detached)
