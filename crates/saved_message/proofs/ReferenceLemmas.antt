-- References to the detached attachments of a message can be written, and there are few.
use Rattle.std.proofs.Common.{refl, ◌≡◌, ◌+◌, ◌≤◌, ℕ, List, [], ◌∷◌, length, map, All, Option, Some, None, sym, ◌∙◌, ap, subst, arith, length-append, length-drop}
use Rattle.std.specs.Prelude.{filter, replicate}
use Rattle.std.specs.List.{AllByRecursion}
use Rattle.std.proofs.lemmas.Grind.{common_steps}
use Rattle.std.proofs.lemmas.List.{length-map}
use Rattle.std.proofs.lemmas.List.Elements.{All-nil, All-cons, All-head, All-tail}
use Rattle.sha1.specs.Sha1.{sha1}
use Rattle.mdbox_base.specs.Words.{IsOctets}
use Rattle.mdbox_base.specs.declared.ids.Hash.{Hash}
use Rattle.mdbox_base.specs.declared.ids.InstId.{InstId}
use Rattle.mdbox_base.specs.declared.metadata.ExtRef.{ExtRef}
use Rattle.mdbox_base.specs.declared.metadata.LineForm.{LineForm}
use Rattle.model_attach.proofs.DetachedLemmas.{end_in_order, length-range}
use Rattle.model_attach.specs.Detached.{Piece, AreCut, IsInstance}
use Rattle.model_mime.proofs.PartsLemmas.{detachable_in_order}
use Rattle.model_mime.specs.Lines.{range}
use Rattle.model_mime.specs.Parts.{InOrder, parts_in}
use Rattle.model_mime.specs.declared.mime.Coding.{Coding}
use Rattle.model_mime.specs.declared.mime.Part.{Part}
use Rattle.model_storage.specs.References.{FormFits, ReferenceFits}
use Rattle.attach_detach.specs.Prepared.{HasHash, IsPrepared, NameParts, piece_of}
use Rattle.attach_detach.specs.declared.message.Detached.{Detached}
use Rattle.attach_detach.specs.declared.message.Prepared.{Prepared}
use Rattle.saved_message.specs.Laid.{AreSixteen}
use Rattle.saved_message.specs.Layout.{FitsLayout}
use Rattle.saved_message.specs.Region.{reference_to, references_naming, unknown_id, unknown_ids}
use Rattle.saved_message.proofs.BigPartLemmas.{AreBig, big_fill, detachable_big}
use Rattle.saved_message.proofs.DigestLemmas.{hash_long, hash_octets}

abbrev pub AreIds : List InstId → Type 0
AreIds ids = All (λ id. AreSixteen id.0) ids

-- ---- what is cut out of a message

cut_one_each : (message : List ℕ) (at : ℕ) (ps : List Part) (pieces : List Piece) (body : List ℕ) → AreCut message at ps pieces body → length ps ≡ length pieces
cut_one_each message at [] [] body cut = refl
cut_one_each message at [] (x ∷ pieces) body cut = absurd cut
cut_one_each message at (p ∷ ps) [] body cut = absurd cut
cut_one_each message at (p ∷ ps) (x ∷ pieces) body cut = let rest = cut_one_each message p.end ps pieces cut.0 cut.5 in omega (arith, rest)

body_fits : (message : List ℕ) (at : ℕ) (ps : List Part) (pieces : List Piece) (body : List ℕ) → InOrder at (length message) ps → AreCut message at ps pieces body → at + length body ≤ length message
body_fits message at [] [] body order cut = let l = ap length cut in let d = length-drop at message in omega (arith, order, l, d)
body_fits message at [] (x ∷ pieces) body order cut = absurd cut
body_fits message at (p ∷ ps) [] body order cut = absurd cut
body_fits message at (p ∷ ps) (x ∷ pieces) body order cut =
    let low = order.0 in
    let across = order.1 in
    let high = end_in_order p.end (length message) ps order.2 in
    let l = ap length cut.1 in
    let s = length-append (range message at p.start) cut.0 in
    let r = length-range message at p.start low (omega (arith, across, high)) in
    let rest = body_fits message p.end ps pieces cut.0 order.2 cut.5 in
    omega (arith, low, across, l, s, r, rest)

form_fits : (coding : Coding) (text : List ℕ) (form : Option LineForm) (octets : List ℕ) → IsInstance coding text form octets → FormFits form
form_fits coding text None octets h = tt
form_fits coding text (Some form) octets h = h.1.form_fits

hash_is : (d : Detached) → HasHash d → d.hash.0 ≡ sha1 d.octets
hash_is d has = ap (λ (h : Hash). h.0) has

reference_fits : (message : List ℕ) (p : Part) (d : Detached) (id : InstId) → length message ≤ 67108864 → p.start + 131072 ≤ p.end → p.end ≤ length message
    → d.start ≡ p.start → p.start + d.count ≡ p.end → IsInstance p.coding (range message p.start p.end) d.form d.octets → HasHash d → AreSixteen id.0 → ReferenceFits (reference_to d id)
reference_fits message p d id small big within start count instance has sixteen = record {
  start = omega (arith, small, big, within, start);
  some = omega (arith, big, count);
  count = omega (arith, small, big, within, count);
  form = form_fits p.coding (range message p.start p.end) d.form d.octets instance;
  hash_length = ap length (hash_is d has) ∙ hash_long d.octets;
  hash = subst IsOctets (sym (hash_is d has)) (hash_octets d.octets);
  id_length = sixteen.long;
  id = sixteen.each;
}

references_fit : (message : List ℕ) (at : ℕ) (ps : List Part) (parts : List Detached) (body : List ℕ) (ids : List InstId) → length message ≤ 67108864 → InOrder at (length message) ps → AreBig ps
    → AreCut message at ps (map piece_of parts) body → All HasHash parts → AreIds ids → AllByRecursion ReferenceFits (references_naming parts ids)
references_fit message at ps [] body ids small order big cut has are = tt
references_fit message at ps (d ∷ parts) body [] small order big cut has are = tt
references_fit message at [] (d ∷ parts) body (id ∷ ids) small order big cut has are = absurd cut
references_fit message at (p ∷ ps) (d ∷ parts) body (id ∷ ids) small order big cut has are =
    let within = end_in_order p.end (length message) ps order.2 in (
      reference_fits message p d id small big.0 within cut.2 cut.3 cut.4 (All-head HasHash d parts has) (All-head (λ (i : InstId). AreSixteen i.0) id ids are),
      references_fit message p.end ps parts cut.0 ids small order.2 big.1 cut.5 (All-tail HasHash d parts has) (All-tail (λ (i : InstId). AreSixteen i.0) id ids are),
    )

-- ---- a prepared message

abbrev detachable_in : List ℕ → List Part
detachable_in message = filter (λ part. part.detachable) (parts_in message)

-- The references to its attachments can be written.
pub prepared_fit : (message : List ℕ) (p : Prepared) (ids : List InstId) → length message ≤ 67108864 → IsPrepared message p → AreIds ids → AllByRecursion ReferenceFits (references_naming p.parts ids)
prepared_fit message p ids small h are = references_fit message 0 (detachable_in message) p.parts p.body ids small (detachable_in_order message) (detachable_big message) h.detached h.hashes are

-- It has at most 512.
pub parts_few : (message : List ℕ) (p : Prepared) → length message ≤ 67108864 → IsPrepared message p → length p.parts ≤ 512
parts_few message p small h =
    let full = big_fill 0 (length message) (detachable_in message) (detachable_in_order message) (detachable_big message) in
    let each = cut_one_each message 0 (detachable_in message) (map piece_of p.parts) p.body h.detached in
    let same = length-map p.parts piece_of in
    omega (arith, small, full, each, same)

pub body_short : (message : List ℕ) (p : Prepared) → IsPrepared message p → length p.body ≤ length message
body_short message p h = let fits = body_fits message 0 (detachable_in message) (map piece_of p.parts) p.body (detachable_in_order message) h.detached in omega (arith, fits)

-- ---- zeros

pub zeros_are_sixteen : AreSixteen (replicate 16 0)
zeros_are_sixteen = record { long = refl; each = λ k d lt. grind (arith, common_steps) }

pub unknown_are_ids : (parts : List Detached) → AreIds (unknown_ids parts)
unknown_are_ids [] = All-nil (λ (i : InstId). AreSixteen i.0)
unknown_are_ids (d ∷ parts) = All-cons (λ (i : InstId). AreSixteen i.0) unknown_id (unknown_ids parts) zeros_are_sixteen (unknown_are_ids parts)

pub prepared_fits_layout : (message : List ℕ) (p : Prepared) → length message ≤ 67108864 → IsPrepared message p → FitsLayout p
prepared_fits_layout message p small h =
    let body = body_short message p h in
    record { body = omega (arith, body, small); few = parts_few message p small h; refs = prepared_fit message p (unknown_ids p.parts) small h (unknown_are_ids p.parts) }

-- ---- they name its attachments

pub names_parts : (parts : List Detached) (ids : List InstId) → length ids ≡ length parts → NameParts (references_naming parts ids) parts
names_parts [] ids long = tt
names_parts (d ∷ parts) [] long = absurd (omega (arith, long))
names_parts (d ∷ parts) (id ∷ ids) long = (refl, refl, refl, refl, names_parts parts ids (omega (arith, long)))

pub references_long : (parts : List Detached) (ids : List InstId) → length ids ≡ length parts → length (references_naming parts ids) ≡ length parts
references_long [] ids long = refl
references_long (d ∷ parts) [] long = absurd (omega (arith, long))
references_long (d ∷ parts) (id ∷ ids) long = let rest = references_long parts ids (omega (arith, long)) in omega (arith, rest)

-- ---- before their ids are known

pub unknown_named : (parts : List Detached) → map (λ d. reference_to d unknown_id) parts ≡ references_naming parts (unknown_ids parts)
unknown_named [] = refl
unknown_named (d ∷ parts) = ap (λ (x : List ExtRef). reference_to d unknown_id ∷ x) (unknown_named parts)

pub unknown_one_each : (parts : List Detached) → length (unknown_ids parts) ≡ length parts
unknown_one_each parts = length-map parts (λ (d : Detached). unknown_id)
