-- A text in lines, as a mail message has them: a line ends at LF, and a CR directly before it belongs to the break.
use Rattle.std.specs.Prelude.{ℕ, ◌+◌, ◌-◌, ◌==◌, ◌||◌, ◌≡◌, ◌<◌, ◌≤◌, Bool, List, [], ◌∷◌, length, map, reverse, take, drop, if◌then◌else◌}
use Rattle.model_mime.specs.declared.mime.Line.{Line}

-- what stands in a text from one place to another
abbrev pub range : List ℕ → ℕ → ℕ → List ℕ
range text start end = take (end - start) (drop start text)

-- a line: where it starts, where its text ends, where the next one starts, and its text without the line break
pub record TextLine : Type 0 where
  pub start : ℕ
  pub end : ℕ
  pub next : ℕ
  pub text : List ℕ

-- an octet before lines, as the first of the first line
abbrev pub front_line : ℕ → List (List ℕ) → List (List ℕ)
front_line c [] = (c ∷ []) ∷ []
front_line c (line ∷ lines) = (c ∷ line) ∷ lines

-- the lines of a text, each with its line break: a line ends at LF, and the last may have none
abbrev pub raw_lines : List ℕ → List (List ℕ)
raw_lines [] = []
raw_lines (c ∷ rest) = if c == 10 then (c ∷ []) ∷ raw_lines rest else front_line c (raw_lines rest)

-- a line without its line break, both read from behind: LF, and a CR directly before it
abbrev pub without_cr : List ℕ → List ℕ
without_cr [] = []
without_cr (c ∷ rest) = if c == 13 then rest else c ∷ rest

abbrev pub content_back : List ℕ → List ℕ
content_back [] = []
content_back (c ∷ rest) = if c == 10 then without_cr rest else c ∷ rest

-- A line without its line break. A CR at the end of a text without LF is content.
unfoldable pub content : List ℕ → List ℕ
content line = reverse (content_back (reverse line))

-- lines with their places, where the first starts at a place
abbrev pub placed_lines : ℕ → List (List ℕ) → List TextLine
placed_lines at [] = []
placed_lines at (raw ∷ raws) = record { start = at; end = at + length (content raw); next = at + length raw; text = content raw } ∷ placed_lines (at + length raw) raws

-- the lines of a text that starts at a place
abbrev pub lines_from : ℕ → List ℕ → List TextLine
lines_from at text = placed_lines at (raw_lines text)

-- the lines of a text, without their places
abbrev pub texts : List ℕ → List (List ℕ)
texts text = map content (raw_lines text)

-- blanks are spaces and tabs
abbrev pub is_blank : ℕ → Bool
is_blank c = c == 32 || c == 9

-- a line of a text by its places, with its octets
abbrev pub line_in : List ℕ → Line → TextLine
line_in text line = record { start = line.start; end = line.end; next = line.next; text = range text line.start line.end }

-- The line that starts at a place of a text.
pub record IsLineAt (text : List ℕ) (from : ℕ) (line : Line) : Type 0 where
  pub start : line.start ≡ from
  pub goes_on : from < line.next
  pub order : line.start ≤ line.end
  pub break : line.end ≤ line.next
  pub within : line.next ≤ length text
  pub lines : lines_from from (drop from text) ≡ line_in text line ∷ lines_from line.next (drop line.next text)
