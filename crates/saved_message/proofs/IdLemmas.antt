-- Ids set in references one after another.
use Rattle.std.proofs.Common.{◌≡◌, ◌<◌, ◌≤◌, ◌+◌, ◌-◌, ℕ, suc, List, [], ◌∷◌, ◌++◌, refl, sym, ◌∙◌, ap, subst, append_assoc, arith, drop, drop-cons, get_or, length, length-append, map, All, None, below_more}
use Rattle.std.proofs.lemmas.List.{length-map, length-drop, nil_from_length, get_or-map, get_or_default}
use Rattle.hex.specs.Hex.{encode_lower}
use Rattle.mdbox_base.specs.declared.entries.InstRow.{InstRow}
use Rattle.mdbox_base.specs.declared.ids.InstId.{InstId}
use Rattle.model_storage.specs.References.{reference_text}
use Rattle.attach_detach.specs.declared.message.Detached.{Detached}
use Rattle.saved_message.specs.Laid.{AreSixteen}
use Rattle.saved_message.specs.References.{HasReferencesAt, marked}
use Rattle.saved_message.specs.Region.{reference_to, references_naming, unknown_id}
use Rattle.saved_message.specs.Saved.{ids_in}
use Rattle.saved_message.proofs.ReferenceLemmas.{zeros_are_sixteen}
use Rattle.saved_message.proofs.RegionLemmas.{digits_long, reference_around, reference_front, reference_long}

-- Behind the first so many references, whose ids are set, the others stand as they were.
pub record IsSetTo (front : List ℕ) (parts : List Detached) (ids : List InstId) (back : List ℕ) (mark : ℕ) (rows : List InstRow) (k at : ℕ) (text : List ℕ) : Type 0 where
  pub done : List ℕ
  pub next : ℕ
  pub stands : text ≡ done ++ (marked next (references_naming (drop k parts) (drop k ids)) ++ back)
  pub begins : at ≡ length done
  pub whole : done ++ (marked next (references_naming (drop k parts) (drop k (ids_in rows))) ++ back) ≡ front ++ (marked mark (references_naming parts (ids_in rows)) ++ back)

pub set_start : (front : List ℕ) (parts : List Detached) (ids : List InstId) (back : List ℕ) (mark start : ℕ) (sizes text : List ℕ) (rows : List InstRow) → HasReferencesAt front parts ids back mark start sizes text → IsSetTo front parts ids back mark rows 0 start text
set_start front parts ids back mark start sizes text rows h = record { done = front; next = mark; stands = h.stand; begins = h.begin; whole = refl }

-- ---- one reference

-- the references from one on, around its id
first_around : (done : List ℕ) (next : ℕ) (d : Detached) (id : InstId) (parts : List Detached) (ids : List InstId) (back : List ℕ)
    → done ++ (marked next (references_naming (d ∷ parts) (id ∷ ids)) ++ back) ≡ (done ++ (next ∷ reference_front d)) ++ (encode_lower id.0 ++ (marked 32 (references_naming parts ids) ++ back))
first_around done next d id parts ids back =
    let m : List ℕ = marked 32 (references_naming parts ids) in
    let e : List ℕ = encode_lower id.0 in
    ap (λ (x : List ℕ). done ++ (next ∷ ((x ++ m) ++ back))) (reference_around d id)
    ∙ (ap (λ (x : List ℕ). done ++ (next ∷ x)) (append_assoc (reference_front d ++ e) m back ∙ append_assoc (reference_front d) e (m ++ back)) ∙ sym (append_assoc done (next ∷ reference_front d) (e ++ (m ++ back))))

pub drop_next : {X : Type 0} → (xs : List X) (k : ℕ) (d : X) → k < length xs → drop k xs ≡ get_or xs k d ∷ drop (k + 1) xs
drop_next xs k d h = let next : suc k ≡ k + 1 = omega arith in drop-cons xs k d h ∙ ap (λ (n : ℕ). get_or xs k d ∷ drop n xs) next

next_around : (done : List ℕ) (next : ℕ) (parts : List Detached) (ids : List InstId) (back : List ℕ) (k : ℕ) (d : Detached) (id : InstId) → k < length parts → k < length ids
    → done ++ (marked next (references_naming (drop k parts) (drop k ids)) ++ back) ≡ (done ++ (next ∷ reference_front (get_or parts k d))) ++ (encode_lower (get_or ids k id).0 ++ (marked 32 (references_naming (drop (k + 1) parts) (drop (k + 1) ids)) ++ back))
next_around done next parts ids back k d id kp ki =
    ap (λ (x : List Detached). done ++ (marked next (references_naming x (drop k ids)) ++ back)) (drop_next parts k d kp)
    ∙ (ap (λ (x : List InstId). done ++ (marked next (references_naming (get_or parts k d ∷ drop (k + 1) parts) x) ++ back)) (drop_next ids k id ki)
    ∙ first_around done next (get_or parts k d) (get_or ids k id) (drop (k + 1) parts) (drop (k + 1) ids) back)

pub no_part : Detached
no_part = record { start = 0; count = 0; form = None; hash = record { 0 = [] }; octets = [] }

id_at : (ids : List InstId) (k : ℕ) → All (λ (i : InstId). AreSixteen i.0) ids → k < length ids → AreSixteen (get_or ids k unknown_id).0
id_at ids k are h = are k unknown_id h

size_at : (parts : List Detached) (sizes : List ℕ) (k : ℕ) → sizes ≡ map (λ d. length (reference_text (reference_to d unknown_id))) parts → k < length parts → get_or sizes k 0 ≡ length (reference_front (get_or parts k no_part)) + 32
size_at parts sizes k is h =
    let f : Detached → ℕ = λ d. length (reference_text (reference_to d unknown_id)) in
    ap (λ (x : List ℕ). get_or x k 0) is ∙ (get_or-map f parts k no_part 0 h ∙ reference_long (get_or parts k no_part) unknown_id zeros_are_sixteen)

-- what stands before the digits of the next id
abbrev pub before_next : List ℕ → ℕ → List Detached → ℕ → List ℕ
before_next done next parts k = done ++ (next ∷ reference_front (get_or parts k no_part))

pub next_stands : (front : List ℕ) (parts : List Detached) (ids : List InstId) (back : List ℕ) (mark start : ℕ) (sizes old : List ℕ) (rows : List InstRow) (k at : ℕ) (text : List ℕ) → HasReferencesAt front parts ids back mark start sizes old → k < length parts
    → (was : IsSetTo front parts ids back mark rows k at text)
    → text ≡ before_next was.done was.next parts k ++ (encode_lower (get_or ids k unknown_id).0 ++ (marked 32 (references_naming (drop (k + 1) parts) (drop (k + 1) ids)) ++ back))
next_stands front parts ids back mark start sizes old rows k at text h kp was =
    let each = h.one_each in
    was.stands ∙ next_around was.done was.next parts ids back k no_part unknown_id kp (omega (arith, each, kp))

pub next_digits : (front : List ℕ) (parts : List Detached) (ids : List InstId) (back : List ℕ) (mark start : ℕ) (sizes old : List ℕ) (k : ℕ) → HasReferencesAt front parts ids back mark start sizes old → k < length parts → length (encode_lower (get_or ids k unknown_id).0) ≡ 32
next_digits front parts ids back mark start sizes old k h kp = let each = h.one_each in digits_long (get_or ids k unknown_id).0 (id_at ids k h.ids_fit (omega (arith, each, kp)))

pub next_place : (front : List ℕ) (parts : List Detached) (ids : List InstId) (back : List ℕ) (mark start : ℕ) (sizes old : List ℕ) (rows : List InstRow) (k at : ℕ) (text : List ℕ) → HasReferencesAt front parts ids back mark start sizes old → k < length parts
    → (was : IsSetTo front parts ids back mark rows k at text) → at + 1 + get_or sizes k 0 ≡ length (before_next was.done was.next parts k) + 32
next_place front parts ids back mark start sizes old rows k at text h kp was =
    let size = size_at parts sizes k h.sizes_are kp in
    let at_is = was.begins in
    let l = length-append was.done (was.next ∷ reference_front (get_or parts k no_part)) in
    omega (arith, size, at_is, l)

-- the next id ends within the text
pub next_ends : (front : List ℕ) (parts : List Detached) (ids : List InstId) (back : List ℕ) (mark start : ℕ) (sizes old : List ℕ) (rows : List InstRow) (k at : ℕ) (text : List ℕ) → HasReferencesAt front parts ids back mark start sizes old → k < length parts
    → IsSetTo front parts ids back mark rows k at text → at + 1 + get_or sizes k 0 ≤ length text
next_ends front parts ids back mark start sizes old rows k at text h kp was =
    let place = next_place front parts ids back mark start sizes old rows k at text h kp was in
    let d = next_digits front parts ids back mark start sizes old k h kp in
    let e : List ℕ = encode_lower (get_or ids k unknown_id).0 in
    let rest : List ℕ = marked 32 (references_naming (drop (k + 1) parts) (drop (k + 1) ids)) ++ back in
    let b : List ℕ = before_next was.done was.next parts k in
    let all : length text ≡ length (b ++ (e ++ rest)) = ap length (next_stands front parts ids back mark start sizes old rows k at text h kp was) in
    let l = length-append b (e ++ rest) in
    let m = length-append e rest in
    omega (arith, place, d, all, l, m)

-- it begins 32 octets before
pub next_begins : (front : List ℕ) (parts : List Detached) (ids : List InstId) (back : List ℕ) (mark start : ℕ) (sizes old : List ℕ) (rows : List InstRow) (k at : ℕ) (text : List ℕ) → HasReferencesAt front parts ids back mark start sizes old → k < length parts
    → IsSetTo front parts ids back mark rows k at text → 32 ≤ at + 1 + get_or sizes k 0
next_begins front parts ids back mark start sizes old rows k at text h kp was = let place = next_place front parts ids back mark start sizes old rows k at text h kp was in omega (arith, place)

row_id : (rows : List InstRow) (k : ℕ) (d : InstRow) → k < length rows → get_or (ids_in rows) k unknown_id ≡ (get_or rows k d).id
row_id rows k d h = get_or-map (λ (r : InstRow). r.id) rows k d unknown_id h

-- ids of sixteen octets, and one more
pub ids_more : (rows : List InstRow) (k : ℕ) (e : InstRow) → k < length rows → ((j : ℕ) (d : InstRow) → j < k → AreSixteen (get_or rows j d).id.0) → AreSixteen (get_or rows k e).id.0 → (j : ℕ) (d : InstRow) → j < k + 1 → AreSixteen (get_or rows j d).id.0
ids_more rows k e h before here j d lt =
    below_more (λ (i : ℕ). AreSixteen (get_or rows i d).id.0) k (λ i l. before i d l) (subst (λ (r : InstRow). AreSixteen r.id.0) (get_or_default rows k e d h) here) j lt

-- The next id is set.
pub set_next : (front : List ℕ) (parts : List Detached) (ids : List InstId) (back : List ℕ) (mark start : ℕ) (sizes old : List ℕ) (rows : List InstRow) (k at : ℕ) (text new : List ℕ) (d : InstRow) (end : ℕ) → HasReferencesAt front parts ids back mark start sizes old → length rows ≡ length parts
    → k < length rows → IsSetTo front parts ids back mark rows k at text → end ≡ at + 1 + get_or sizes k 0 → AreSixteen (get_or rows k d).id.0
    → ((before digits behind : List ℕ) → text ≡ before ++ (digits ++ behind) → end - 32 ≡ length before → length digits ≡ 32 → new ≡ before ++ (encode_lower (get_or rows k d).id.0 ++ behind))
    → IsSetTo front parts ids back mark rows (k + 1) end new
set_next front parts ids back mark start sizes old rows k at text new d end h many kr was ends sixteen put =
    let kp : k < length parts = omega (arith, many, kr) in
    let place = next_place front parts ids back mark start sizes old rows k at text h kp was in
    let b : List ℕ = before_next was.done was.next parts k in
    let e : List ℕ = encode_lower (get_or rows k d).id.0 in
    let rest : List ℕ = marked 32 (references_naming (drop (k + 1) parts) (drop (k + 1) ids)) ++ back in
    let after : List ℕ = marked 32 (references_naming (drop (k + 1) parts) (drop (k + 1) (ids_in rows))) ++ back in
    let written : new ≡ b ++ (e ++ rest) = put b (encode_lower (get_or ids k unknown_id).0) rest (next_stands front parts ids back mark start sizes old rows k at text h kp was) (omega (arith, place, ends)) (next_digits front parts ids back mark start sizes old k h kp) in
    let long = digits_long (get_or rows k d).id.0 sixteen in
    let l = length-append b e in
    let ids_many = length-map rows (λ (r : InstRow). r.id) in
    let mine : was.done ++ (marked was.next (references_naming (drop k parts) (drop k (ids_in rows))) ++ back) ≡ b ++ (e ++ after) =
    next_around was.done was.next parts (ids_in rows) back k no_part unknown_id kp (omega (arith, ids_many, kr))
    ∙ ap (λ (i : InstId). b ++ (encode_lower i.0 ++ after)) (row_id rows k d kr) in
    record {
      done = b ++ e;
      next = 32;
      stands = written ∙ sym (append_assoc b e rest);
      begins = omega (arith, ends, place, long, l);
      whole = append_assoc b e after ∙ (sym mine ∙ was.whole);
    }

-- All are set.
pub set_end : (front : List ℕ) (parts : List Detached) (ids : List InstId) (back : List ℕ) (mark : ℕ) (rows : List InstRow) (k at : ℕ) (text : List ℕ) → length rows ≡ length parts → length rows ≤ k → IsSetTo front parts ids back mark rows k at text
    → text ≡ front ++ (marked mark (references_naming parts (ids_in rows)) ++ back)
set_end front parts ids back mark rows k at text many end was =
    let d = length-drop k parts in
    let gone : drop k parts ≡ [] = nil_from_length (drop k parts) (omega (arith, d, many, end)) in
    let none : (xs : List InstId) → marked was.next (references_naming (drop k parts) xs) ≡ [] = λ xs. ap (λ (x : List Detached). marked was.next (references_naming x xs)) gone in
    was.stands ∙ (ap (λ (x : List ℕ). was.done ++ (x ++ back)) (none (drop k ids)) ∙ (sym (ap (λ (x : List ℕ). was.done ++ (x ++ back)) (none (drop k (ids_in rows)))) ∙ was.whole))
