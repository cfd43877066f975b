-- A detachable part has at least 131,072 octets, so there are few of them.
use Rattle.std.proofs.Common.{refl, ◌≡◌, ◌+◌, ◌*◌, ◌≤◌, ◌⊎◌, inl, inr, ℕ, zero, suc, Bool, true, false, List, [], ◌∷◌, ◌++◌, length, arith}
use Rattle.std.specs.Prelude.{◌&&◌, ◌||◌, filter, filter_map, flat_map, nat_le, nat_lt}
use Rattle.std.specs.List.{list_any}
use Rattle.std.proofs.lemmas.Bool.{leb-true}
use Rattle.model_mime.specs.declared.mime.Coding.{Coding}
use Rattle.model_mime.specs.declared.mime.Kind.{Kind}
use Rattle.model_mime.specs.declared.mime.Kind.TheVariants as kinds
use Rattle.model_mime.specs.declared.mime.Part.{Part}
use Rattle.model_mime.specs.Lines.{range}
use Rattle.model_mime.specs.Parts.{Entity, Found, part_of, part_sized, trimmed_size, body_lines, body_start, parts_of, leaf_or_parts, fields_in, found_in, whole_entity, is_too_deep, part_found, within_limits, parts_in, InOrder}
use Rattle.model_mime.specs.Parts.Found.{APart, TooDeep}

either : (b : Bool) → (b ≡ true) ⊎ (b ≡ false)
either true = inl refl
either false = inr refl

abbrev IsBig : Part → Type 0
IsBig p = p.detachable ≡ true → p.start + 131072 ≤ p.end

abbrev AreFoundBig : List Found → Type 0
AreFoundBig [] = Unit {0}
AreFoundBig (APart p ∷ rest) = IsBig p × AreFoundBig rest
AreFoundBig (TooDeep ∷ rest) = AreFoundBig rest

both_big : (fs gs : List Found) → AreFoundBig fs → AreFoundBig gs → AreFoundBig (fs ++ gs)
both_big [] gs f g = g
both_big (APart p ∷ fs) gs f g = (f.0, both_big fs gs f.1 g)
both_big (TooDeep ∷ fs) gs f g = both_big fs gs f g

all_big : (below : Entity → List Found) → ((e : Entity) → AreFoundBig (below e)) → (es : List Entity) → AreFoundBig (flat_map below es)
all_big below each [] = tt
all_big below each (e ∷ es) = both_big (below e) (flat_map below es) (each e) (all_big below each es)

big_size : (size : ℕ) (other : Bool) → (other && nat_le 131072 size) ≡ true → 131072 ≤ size
big_size size true h = leb-true 131072 size h
big_size size false h = absurd (cc h)

sized_big : (size : ℕ) (coding : Coding) (other : Bool) (start end : ℕ) → IsBig (part_sized size coding other start end)
sized_big size coding other start end = elim (either (other && nat_le 131072 size)) [
  | inl e ↦ rw e (λ d. omega (arith, big_size size other e))
  | inr e ↦ rw e (λ d. absurd (cc d))
]

leaf_big : (message : List ℕ) (coding : Coding) (other : Bool) (start end : ℕ) → IsBig (part_of message coding other start end)
unfolding part_of
leaf_big message coding other start end = sized_big (trimmed_size (range message start end)) coding other start end

entity_big : (message : List ℕ) (below : Entity → List Found) (e : Entity) (coding : Coding) (kind : Kind) → ((e : Entity) → AreFoundBig (below e)) → AreFoundBig (leaf_or_parts message below e coding kind)
entity_big message below e coding kinds.Missing each = (leaf_big message coding false (body_start e.end e.lines) e.end, tt)
entity_big message below e coding kinds.Unreadable each = (leaf_big message coding false (body_start e.end e.lines) e.end, tt)
entity_big message below e coding kinds.Text each = (leaf_big message coding false (body_start e.end e.lines) e.end, tt)
entity_big message below e coding kinds.Message each = (leaf_big message coding false (body_start e.end e.lines) e.end, tt)
entity_big message below e coding kinds.Other each = (leaf_big message coding true (body_start e.end e.lines) e.end, tt)
entity_big message below e coding (kinds.Multipart b) each = all_big below each (parts_of b e.end (body_lines e.lines))

found_big : (message : List ℕ) (levels : ℕ) (e : Entity) → AreFoundBig (found_in message levels e)
unfolding found_in
found_big message zero e = tt
found_big message (suc levels) e = entity_big message (found_in message levels) e (fields_in message e).coding (fields_in message e).kind (found_big message levels)

-- parts of at least 131,072 octets
abbrev pub AreBig : List Part → Type 0
AreBig [] = Unit {0}
AreBig (p ∷ ps) = (p.start + 131072 ≤ p.end) × AreBig ps

one_big : (p : Part) (ps : List Part) → IsBig p → AreBig (filter (λ part. part.detachable) ps) → AreBig (filter (λ part. part.detachable) (p ∷ ps))
one_big p ps big rest = elim (either p.detachable) [ inl e ↦ rw e (big e, rest) | inr e ↦ rw e rest ]

taken_big : (fs : List Found) → AreFoundBig fs → AreBig (filter (λ part. part.detachable) (filter_map part_found fs))
taken_big [] h = tt
taken_big (APart p ∷ fs) h = one_big p (filter_map part_found fs) h.0 (taken_big fs h.1)
taken_big (TooDeep ∷ fs) h = taken_big fs h

limits_big : (fs : List Found) → AreFoundBig fs → AreBig (filter (λ part. part.detachable) (within_limits fs))
limits_big fs h = elim (either (list_any is_too_deep fs || nat_lt 10000 (length fs))) [ inl e ↦ rw e tt | inr e ↦ rw e (taken_big fs h) ]

-- The detachable parts of a message are so big.
pub detachable_big : (message : List ℕ) → AreBig (filter (λ part. part.detachable) (parts_in message))
unfolding parts_in
detachable_big message = limits_big (found_in message 64 (whole_entity message)) (found_big message 64 (whole_entity message))

-- Parts that are so big and stand in order fill the text up to there.
pub big_fill : (at end : ℕ) (ps : List Part) → InOrder at end ps → AreBig ps → at + 131072 * length ps ≤ end
big_fill at end [] order big = omega (arith, order)
big_fill at end (p ∷ ps) order big = omega (arith, big_fill p.end end ps order.2 big.1, order.0, big.0)
