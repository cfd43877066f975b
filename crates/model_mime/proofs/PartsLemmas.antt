-- The parts of a message stand in order and apart.
use Rattle.std.specs.Prelude.{refl, ◌≡◌, ◌+◌, ◌-◌, ◌≤◌, ◌||◌, ◌&&◌, ◌==◌, ℕ, zero, suc, List, [], ◌∷◌, ◌++◌, length, drop, filter, filter_map, flat_map, reverse, nat_le, nat_lt, Bool, true, false}
use Rattle.std.specs.List.{list_any}
use Rattle.std.proofs.Common.{arith, ◌⊎◌, inl, inr}
use Rattle.std.proofs.lemmas.List.{length-take, length-reverse}
use Rattle.model_mime.specs.declared.mime.Coding.{Coding}
use Rattle.model_mime.specs.declared.mime.Kind.{Kind}
use Rattle.model_mime.specs.declared.mime.Kind.TheVariants as kinds
use Rattle.model_mime.specs.declared.mime.Part.{Part}
use Rattle.model_mime.specs.Lines.{TextLine, front_line, content_back, without_cr, placed_lines, raw_lines, content, range}
use Rattle.model_mime.specs.Parts.{Entity, Found, part_of, part_sized, trimmed_size, skip_breaks, body_lines, body_start, is_delimiter, is_closing, ends_part, part_lines, part_end, parts_of, leaf_or_parts, fields_in, found_in, whole_entity, is_too_deep, part_found, within_limits, parts_in, InOrder}
use Rattle.model_mime.specs.Parts.Found.{APart, TooDeep}

-- what is found stands in order, from a place to an end
abbrev pub FoundInOrder : ℕ → ℕ → List Found → Type 0
FoundInOrder at end [] = at ≤ end
FoundInOrder at end (APart p ∷ rest) = (at ≤ p.start) × (p.start ≤ p.end) × FoundInOrder p.end end rest
FoundInOrder at end (TooDeep ∷ rest) = FoundInOrder at end rest

-- lines stand in order from a place on, and each ends before an end
abbrev pub LinesFrom : ℕ → ℕ → List TextLine → Type 0
LinesFrom at end [] = Unit {0}
LinesFrom at end (l ∷ ls) = (at ≤ l.start) × (l.start ≤ l.end) × (l.end ≤ l.next) × (l.end ≤ end) × LinesFrom l.next end ls

lines_earlier : (at at' end : ℕ) (ls : List TextLine) → at' ≤ at → LinesFrom at end ls → LinesFrom at' end ls
lines_earlier at at' end [] h lines = tt
lines_earlier at at' end (l ∷ ls) h lines = (omega (arith, lines.0), lines.1, lines.2, lines.3, lines.4)

found_earlier : (at at' end : ℕ) (fs : List Found) → at' ≤ at → FoundInOrder at end fs → FoundInOrder at' end fs
found_earlier at at' end [] h order = omega (arith, order)
found_earlier at at' end (APart p ∷ rest) h order = (omega (arith, order.0), order.1, order.2)
found_earlier at at' end (TooDeep ∷ rest) h order = found_earlier at at' end rest h order

found_both : (at mid end : ℕ) (fs gs : List Found) → FoundInOrder at mid fs → FoundInOrder mid end gs → FoundInOrder at end (fs ++ gs)
found_both at mid end [] gs f g = found_earlier mid at end gs f g
found_both at mid end (APart p ∷ fs) gs f g = (f.0, f.1, found_both p.end mid end fs gs f.2 g)
found_both at mid end (TooDeep ∷ fs) gs f g = found_both at mid end fs gs f g

-- the definitions at one line, by its test
part_lines-at : (b : List ℕ) (l : TextLine) (ls : List TextLine) → ends_part b l.text ≡ true → part_lines b (l ∷ ls) ≡ []
unfolding part_lines
part_lines-at b l ls e = rw e

part_lines-on : (b : List ℕ) (l : TextLine) (ls : List TextLine) → ends_part b l.text ≡ false → part_lines b (l ∷ ls) ≡ l ∷ part_lines b ls
unfolding part_lines
part_lines-on b l ls e = rw e

part_end-at : (b : List ℕ) (before end : ℕ) (l : TextLine) (ls : List TextLine) → ends_part b l.text ≡ true → part_end b before end (l ∷ ls) ≡ before
unfolding part_end
part_end-at b before end l ls e = rw e

part_end-on : (b : List ℕ) (before end : ℕ) (l : TextLine) (ls : List TextLine) → ends_part b l.text ≡ false → part_end b before end (l ∷ ls) ≡ part_end b l.end end ls
unfolding part_end
part_end-on b before end l ls e = rw e

either : (b : Bool) → (b ≡ true) ⊎ (b ≡ false)
either true = inl refl
either false = inr refl

-- Where a part ends: not before a place that its lines and the line before don't come before, and not behind its body.
end_least : (b : List ℕ) (lo at before end : ℕ) (ls : List TextLine) → LinesFrom at end ls → lo ≤ at → lo ≤ before → lo ≤ end → lo ≤ part_end b before end ls
unfolding part_end
end_least b lo at before end [] lines h k m = m
end_least b lo at before end (l ∷ ls) lines h k m = elim (either (ends_part b l.text)) [
  | inl e ↦ rw e k
  | inr e ↦ rw e (end_least b lo l.next l.end end ls lines.4 (omega (arith, lines.0, lines.1, lines.2)) (omega (arith, lines.0, lines.1)) m)
]

end_most : (b : List ℕ) (at before end : ℕ) (ls : List TextLine) → LinesFrom at end ls → before ≤ at → part_end b before end ls ≤ end
unfolding part_end
end_most b at before end [] lines h = omega arith
end_most b at before end (l ∷ ls) lines h = elim (either (ends_part b l.text)) [
  | inl e ↦ rw e (omega (arith, lines.0, lines.1, lines.3))
  | inr e ↦ rw e (end_most b l.next l.end end ls lines.4 lines.2)
]

lines_within : (b : List ℕ) (at before end : ℕ) (ls : List TextLine) → LinesFrom at end ls → LinesFrom at (part_end b before end ls) (part_lines b ls)
unfolding part_end part_lines
lines_within b at before end [] lines = tt
lines_within b at before end (l ∷ ls) lines = elim (either (ends_part b l.text)) [
  | inl e ↦ rw e tt
  | inr e ↦ rw e (lines.0, lines.1, lines.2, end_least b l.end l.next l.end end ls lines.4 lines.2 (omega arith) lines.3, lines_within b l.next l.end end ls lines.4)
]

-- the parts of a multipart, from a place on, and from where the part before ends
abbrev pub Ordered : (Entity → List Found) → List ℕ → ℕ → List TextLine → Type 0
Ordered below b end ls = (lo : ℕ) → LinesFrom lo end ls → lo ≤ end → FoundInOrder lo end (flat_map below (parts_of b end ls))

abbrev pub OrderedBehind : (Entity → List Found) → List ℕ → ℕ → List TextLine → Type 0
OrderedBehind below b end ls = (at before : ℕ) → LinesFrom at end ls → before ≤ at → FoundInOrder (part_end b before end ls) end (flat_map below (parts_of b end ls))

abbrev pub OrderedBelow : (Entity → List Found) → Type 0
OrderedBelow below = (e : Entity) (lo : ℕ) → lo ≤ e.end → LinesFrom lo e.end e.lines → FoundInOrder lo e.end (below e)

or_false : (x y : Bool) → x ≡ false → y ≡ false → (x || y) ≡ false
or_false x y e f = rw (e, f)

or_two : (x y : Bool) → (x || y) ≡ false → (x ≡ false) × (y ≡ false)
or_two true y e = absurd (cc)
or_two false y e = (refl, e)

first_ordered : (below : Entity → List Found) (b : List ℕ) (end : ℕ) (l : TextLine) (ls : List TextLine) → OrderedBelow below → Ordered below b end ls → OrderedBehind below b end ls → Ordered below b end (l ∷ ls)
unfolding parts_of
first_ordered below b end l ls here more behind lo lines h = elim (either (is_closing b l.text)) [
  | inl c ↦ rw c h
  | inr c ↦ elim (either (is_delimiter b l.text)) [
    | inl d ↦ rw (c, d) (found_both lo (part_end b l.next end ls) end (below (record { start = l.next; end = part_end b l.next end ls; lines = part_lines b ls })) (flat_map below (parts_of b end ls))
        (here (record { start = l.next; end = part_end b l.next end ls; lines = part_lines b ls }) lo
        (end_least b lo l.next l.next end ls lines.4 (omega (arith, lines.0, lines.1, lines.2)) (omega (arith, lines.0, lines.1, lines.2)) h)
        (lines_earlier l.next lo (part_end b l.next end ls) (part_lines b ls) (omega (arith, lines.0, lines.1, lines.2)) (lines_within b l.next l.next end ls lines.4)))
        (behind l.next l.next lines.4 (omega arith)))
    | inr d ↦ rw (c, d) (more lo (lines_earlier l.next lo end ls (omega (arith, lines.0, lines.1, lines.2)) lines.4) h)
  ]
]

parts_on : (b : List ℕ) (end : ℕ) (l : TextLine) (ls : List TextLine) → ends_part b l.text ≡ false → parts_of b end (l ∷ ls) ≡ parts_of b end ls
unfolding parts_of
parts_on b end l ls e = let both = or_two (is_delimiter b l.text) (is_closing b l.text) e in rw (both.1, both.0)

parts_ordered : (below : Entity → List Found) (b : List ℕ) (end : ℕ) (ls : List TextLine) → OrderedBelow below → (Ordered below b end ls) × (OrderedBehind below b end ls)
unfolding parts_of part_end
parts_ordered below b end [] here = (λ lo lines h. h, λ at before lines h. omega arith)
parts_ordered below b end (l ∷ ls) here =
    let more = parts_ordered below b end ls here in
    let first : Ordered below b end (l ∷ ls) = first_ordered below b end l ls here more.0 more.1 in (
      first,
      λ at before lines h. elim (either (ends_part b l.text)) [
        | inl e ↦ rw (part_end-at b before end l ls e) (first before (lines_earlier at before end (l ∷ ls) h lines) (omega (arith, lines.0, lines.1, lines.3)))
        | inr e ↦ rw (part_end-on b before end l ls e, parts_on b end l ls e) (more.1 l.next l.end lines.4 lines.2)
      ],
    )

-- an entity's body
body_lines_from : (lo end : ℕ) (ls : List TextLine) → LinesFrom lo end ls → LinesFrom lo end (body_lines ls)
body_lines_from lo end [] lines = tt
body_lines_from lo end (l ∷ ls) lines = elim (either (length l.text == 0)) [
  | inl e ↦ rw e (lines_earlier l.next lo end ls (omega (arith, lines.0, lines.1, lines.2)) lines.4)
  | inr e ↦ rw e (body_lines_from lo end ls (lines_earlier l.next lo end ls (omega (arith, lines.0, lines.1, lines.2)) lines.4))
]

body_start_from : (lo end : ℕ) (ls : List TextLine) → LinesFrom lo end ls → lo ≤ end → (lo ≤ body_start end ls) × (body_start end ls ≤ end)
body_start_from lo end [] lines h = (h, omega arith)
body_start_from lo end (l ∷ ls) lines h = elim (either (length l.text == 0)) [
  | inl e ↦ rw e (omega (arith, lines.0, lines.1, lines.2), omega arith)
  | inr e ↦ rw e (body_start_from lo end ls (lines_earlier l.next lo end ls (omega (arith, lines.0, lines.1, lines.2)) lines.4) h)
]

-- a text without its last line breaks is no longer than before
shorter : (text : List ℕ) → length (skip_breaks text) ≤ length text
shorter [] = omega arith
shorter (c ∷ text) = elim (either (c == 10 || c == 13)) [ inl e ↦ rw e (omega (arith, shorter text)) | inr e ↦ rw e (omega arith) ]

trimmed_fits : (message : List ℕ) (start end : ℕ) → trimmed_size (range message start end) ≤ end - start
trimmed_fits message start end = omega (arith, shorter (reverse (range message start end)), length-reverse (range message start end), length-take (end - start) (drop start message))

sized_in : (size : ℕ) (coding : Coding) (other : Bool) (start end lo : ℕ) → size ≤ end - start → lo ≤ start → start ≤ end → FoundInOrder lo end (APart (part_sized size coding other start end) ∷ [])
sized_in size coding other start end lo fits low h = elim (either (other && nat_le 131072 size)) [
  | inl e ↦ rw e (low, omega arith, omega arith)
  | inr e ↦ rw e (low, h, omega arith)
]

leaf_in : (message : List ℕ) (coding : Coding) (other : Bool) (start end lo : ℕ) → lo ≤ start → start ≤ end → FoundInOrder lo end (APart (part_of message coding other start end) ∷ [])
unfolding part_of
leaf_in message coding other start end lo low h = sized_in (trimmed_size (range message start end)) coding other start end lo (trimmed_fits message start end) low h

entity_in : (message : List ℕ) (below : Entity → List Found) (e : Entity) (coding : Coding) (kind : Kind) (lo : ℕ) → OrderedBelow below → lo ≤ e.end → LinesFrom lo e.end e.lines → FoundInOrder lo e.end (leaf_or_parts message below e coding kind)
entity_in message below e coding kinds.Missing lo here h lines = let at = body_start_from lo e.end e.lines lines h in leaf_in message coding false (body_start e.end e.lines) e.end lo at.0 at.1
entity_in message below e coding kinds.Unreadable lo here h lines = let at = body_start_from lo e.end e.lines lines h in leaf_in message coding false (body_start e.end e.lines) e.end lo at.0 at.1
entity_in message below e coding kinds.Text lo here h lines = let at = body_start_from lo e.end e.lines lines h in leaf_in message coding false (body_start e.end e.lines) e.end lo at.0 at.1
entity_in message below e coding kinds.Message lo here h lines = let at = body_start_from lo e.end e.lines lines h in leaf_in message coding false (body_start e.end e.lines) e.end lo at.0 at.1
entity_in message below e coding kinds.Other lo here h lines = let at = body_start_from lo e.end e.lines lines h in leaf_in message coding true (body_start e.end e.lines) e.end lo at.0 at.1
entity_in message below e coding (kinds.Multipart b) lo here h lines = (parts_ordered below b e.end (body_lines e.lines) here).0 lo (body_lines_from lo e.end e.lines lines) h

found_ordered : (message : List ℕ) (levels : ℕ) → OrderedBelow (found_in message levels)
unfolding found_in
found_ordered message zero e lo h lines = h
found_ordered message (suc levels) e lo h lines = entity_in message (found_in message levels) e (fields_in message e).coding (fields_in message e).kind lo (found_ordered message levels) h lines

-- the lines of a text
abbrev pub total : List (List ℕ) → ℕ
total [] = 0
total (raw ∷ raws) = length raw + total raws

total_front : (c : ℕ) (raws : List (List ℕ)) → total (front_line c raws) ≡ 1 + total raws
total_front c [] = refl
total_front c (raw ∷ raws) = omega arith

total_lines : (text : List ℕ) → total (raw_lines text) ≡ length text
total_lines [] = refl
total_lines (c ∷ text) = elim (either (c == 10)) [
  | inl e ↦ rw e (omega (arith, total_lines text))
  | inr e ↦ rw e (omega (arith, total_front c (raw_lines text), total_lines text))
]

cr_fits : (back : List ℕ) → length (without_cr back) ≤ length back
cr_fits [] = omega arith
cr_fits (c ∷ back) = elim (either (c == 13)) [ inl e ↦ rw e (omega arith) | inr e ↦ rw e (omega arith) ]

back_fits : (back : List ℕ) → length (content_back back) ≤ length back
back_fits [] = omega arith
back_fits (c ∷ back) = elim (either (c == 10)) [ inl e ↦ rw e (omega (arith, cr_fits back)) | inr e ↦ rw e (omega arith) ]

content_fits : (raw : List ℕ) → length (content raw) ≤ length raw
unfolding content
content_fits raw = omega (arith, length-reverse (content_back (reverse raw)), length-reverse raw, back_fits (reverse raw))

placed_from : (at end : ℕ) (raws : List (List ℕ)) → at + total raws ≤ end → LinesFrom at end (placed_lines at raws)
placed_from at end [] h = tt
placed_from at end (raw ∷ raws) h = (omega arith, omega arith, omega (arith, content_fits raw), omega (arith, content_fits raw), placed_from (at + length raw) end raws (omega (arith, h)))

-- within the limits, what is found is in order, and so is what of it is detachable
found_parts_in : (at end : ℕ) (fs : List Found) → FoundInOrder at end fs → InOrder at end (filter_map part_found fs)
found_parts_in at end [] h = h
found_parts_in at end (APart p ∷ fs) h = (h.0, h.1, found_parts_in p.end end fs h.2)
found_parts_in at end (TooDeep ∷ fs) h = found_parts_in at end fs h

earlier : (at at' end : ℕ) (ps : List Part) → at' ≤ at → InOrder at end ps → InOrder at' end ps
earlier at at' end [] h order = omega (arith, order)
earlier at at' end (p ∷ ps) h order = (omega (arith, order.0), order.1, order.2)

some_in_order : (test : Part → Bool) (at end : ℕ) (ps : List Part) → InOrder at end ps → InOrder at end (filter test ps)
some_in_order test at end [] h = h
some_in_order test at end (p ∷ ps) h = elim (either (test p)) [
  | inl e ↦ rw e (h.0, h.1, some_in_order test p.end end ps h.2)
  | inr e ↦ rw e (some_in_order test at end ps (earlier p.end at end ps (omega (arith, h.0, h.1)) h.2))
]

limits_in_order : (end : ℕ) (fs : List Found) → FoundInOrder 0 end fs → InOrder 0 end (within_limits fs)
limits_in_order end fs h = elim (either (list_any is_too_deep fs || nat_lt 10000 (length fs))) [
  | inl e ↦ rw e (omega arith)
  | inr e ↦ rw e (found_parts_in 0 end fs h)
]

-- The parts of a message stand in order, within it.
pub parts_in_order : (message : List ℕ) → InOrder 0 (length message) (parts_in message)
unfolding parts_in
parts_in_order message = limits_in_order (length message) (found_in message 64 (whole_entity message)) (found_ordered message 64 (whole_entity message) 0 (omega arith) (placed_from 0 (length message) (raw_lines message) (omega (arith, total_lines message))))

-- The detachable parts of a message too.
pub detachable_in_order : (message : List ℕ) → InOrder 0 (length message) (filter (λ p. p.detachable) (parts_in message))
detachable_in_order message = some_in_order (λ p. p.detachable) 0 (length message) (parts_in message) (parts_in_order message)
