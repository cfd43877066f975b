-- The leaves of a message (RFC 2045, RFC 2046): a tree of entities, each a row of lines.
use Rattle.std.specs.Prelude.{◌+◌, ◌==◌, ◌&&◌, ◌||◌, ℕ, zero, suc, min, Bool, true, false, nat_le, nat_lt, List, [], ◌∷◌, ◌++◌, length, take, drop, reverse, flat_map, filter_map, if◌then◌else◌, Option, Some, None, codes, bytes_eq, ◌≤◌}
use Rattle.std.specs.List.{list_all, list_any}
use Rattle.model_mime.specs.declared.mime.Coding.{Coding}
use Rattle.model_mime.specs.declared.mime.Kind.{Kind}
use Rattle.model_mime.specs.declared.mime.Kind.TheVariants as kinds
use Rattle.model_mime.specs.declared.mime.Fields.{Fields}
use Rattle.model_mime.specs.declared.mime.Part.{Part}
use Rattle.model_mime.specs.Lines.{TextLine, lines_from, is_blank, range}
use Rattle.model_mime.specs.Fields.{fields_of}

-- An entity is the message, or a part of a multipart: where it starts and ends, and the lines that begin in it. The
-- break of its last line may stand outside, where a delimiter line follows.
pub record Entity : Type 0 where
  pub start : ℕ
  pub end : ℕ
  pub lines : List TextLine

-- what is found in the tree: a leaf, or an entity on a level too deep
pub data Found : Type 0 where
  APart : Part → Found
  TooDeep : Found

-- The body is what follows the first empty line, and the header block what stands before it.
abbrev pub body_lines : List TextLine → List TextLine
body_lines [] = []
body_lines (line ∷ lines) = if length line.text == 0 then lines else body_lines lines

-- where the header block ends, and where the body starts, in an entity of this end: both there, where no line is empty
abbrev pub head_end : ℕ → List TextLine → ℕ
head_end end [] = end
head_end end (line ∷ lines) = if length line.text == 0 then line.start else head_end end lines

abbrev pub body_start : ℕ → List TextLine → ℕ
body_start end [] = end
body_start end (line ∷ lines) = if length line.text == 0 then min line.next end else body_start end lines

-- A delimiter line is two dashes, the boundary and blanks alone; a closing line has two dashes before the blanks.
abbrev pub has_mark : List ℕ → List ℕ → Bool
has_mark mark text = bytes_eq (take (length mark) text) mark && list_all is_blank (drop (length mark) text)

unfoldable pub is_delimiter : List ℕ → List ℕ → Bool
is_delimiter boundary text = has_mark (codes "--" ++ boundary) text

unfoldable pub is_closing : List ℕ → List ℕ → Bool
is_closing boundary text = has_mark (codes "--" ++ (boundary ++ codes "--")) text

abbrev pub ends_part : List ℕ → List ℕ → Bool
ends_part boundary text = is_delimiter boundary text || is_closing boundary text

-- The lines before the next delimiter or closing line.
unfoldable pub part_lines : List ℕ → List TextLine → List TextLine
part_lines boundary [] = []
part_lines boundary (line ∷ lines) = if ends_part boundary line.text then [] else line ∷ part_lines boundary lines

-- Where a part ends: at the line break before the next delimiter or closing line, or where the body ends. The number
-- before the body's end is where it ends if that line comes at once.
unfoldable pub part_end : List ℕ → ℕ → ℕ → List TextLine → ℕ
part_end boundary before end [] = end
part_end boundary before end (line ∷ lines) = if ends_part boundary line.text then before else part_end boundary line.end end lines

-- The parts of a multipart's body of this end: each from behind a delimiter line on, up to the first closing line.
-- What stands before the first delimiter line is no part.
unfoldable pub parts_of : List ℕ → ℕ → List TextLine → List Entity
parts_of boundary end [] = []
parts_of boundary end (line ∷ lines) =
    if is_closing boundary line.text then []
    else (if is_delimiter boundary line.text
    then record { start = line.next; end = part_end boundary line.next end lines; lines = part_lines boundary lines } ∷ parts_of boundary end lines
    else parts_of boundary end lines)

-- the size of a text without the CR and LF octets at its end (the text is read from behind)
abbrev pub skip_breaks : List ℕ → List ℕ
skip_breaks [] = []
skip_breaks (c ∷ rest) = if c == 10 || c == 13 then skip_breaks rest else c ∷ rest

abbrev pub trimmed_size : List ℕ → ℕ
trimmed_size text = length (skip_breaks (reverse text))

-- The part of a leaf whose body is this range and has so many octets without the line breaks at its end: it is
-- detachable where its kind is other and these are at least 131,072.
abbrev pub part_sized : ℕ → Coding → Bool → ℕ → ℕ → Part
part_sized size coding other start end =
    if other && nat_le 131072 size
    then record { start = start; end = start + size; coding = coding; detachable = true }
    else record { start = start; end = end; coding = coding; detachable = false }

unfoldable pub part_of : List ℕ → Coding → Bool → ℕ → ℕ → Part
part_of message coding other start end = part_sized (trimmed_size (range message start end)) coding other start end

abbrev pub is_other : Kind → Bool
is_other kinds.Other = true
is_other _ = false

-- what an entity of this coding and kind holds: the entities of its body, or itself as a leaf
abbrev pub leaf_or_parts : List ℕ → (Entity → List Found) → Entity → Coding → Kind → List Found
leaf_or_parts message below e coding (kinds.Multipart boundary) = flat_map below (parts_of boundary e.end (body_lines e.lines))
leaf_or_parts message below e coding kind = APart (part_of message coding (is_other kind) (body_start e.end e.lines) e.end) ∷ []

abbrev pub fields_in : List ℕ → Entity → Fields
fields_in message e = fields_of (range message e.start (head_end e.end e.lines))

-- What is found in an entity, with so many levels left.
unfoldable pub found_in : List ℕ → ℕ → Entity → List Found
found_in message zero e = TooDeep ∷ []
found_in message (suc levels) e = leaf_or_parts message (found_in message levels) e (fields_in message e).coding (fields_in message e).kind

abbrev pub whole_entity : List ℕ → Entity
whole_entity message = record { start = 0; end = length message; lines = lines_from 0 message }

abbrev pub is_too_deep : Found → Bool
is_too_deep TooDeep = true
is_too_deep (APart part) = false

abbrev pub part_found : Found → Option Part
part_found TooDeep = None
part_found (APart part) = Some part

abbrev pub within_limits : List Found → List Part
within_limits found = if list_any is_too_deep found || nat_lt 10000 (length found) then [] else filter_map part_found found

-- The parts of a message: its leaves in order, or none where it has more than 64 levels or 10,000 leaves.
unfoldable pub parts_in : List ℕ → List Part
parts_in message = within_limits (found_in message 64 (whole_entity message))

-- parts that stand one behind another, from a place up to an end
abbrev pub InOrder : ℕ → ℕ → List Part → Type 0
InOrder at end [] = at ≤ end
InOrder at end (p ∷ ps) = (at ≤ p.start) × (p.start ≤ p.end) × InOrder p.end end ps
