-- What is printed of a storage file.
use Rattle.std.specs.Prelude.{◌≡◌, ◌≤◌, ◌+◌, ◌-◌, ℕ, List, [], ◌∷◌, ◌++◌, length, take, drop, flat_map, codes}
use Rattle.mdbox_base.specs.Numbers.{decimal_text}
use Rattle.model_storage.specs.declared.places.MessageAt.{MessageAt}
use Rattle.model_storage.specs.StorageFile.{Line, AreLines, line_text, Message, IsFile, place_at}

-- a message's offset and its body's size, in decimal
abbrev pub message_heading : ℕ → ℕ → List ℕ
message_heading offset size = codes "MESSAGE " ++ (decimal_text offset ++ (32 ∷ (decimal_text size ++ 10 ∷ [])))

-- a metadata line behind two spaces
abbrev pub shown_line : Line → List ℕ
shown_line line = 32 ∷ 32 ∷ line_text line

abbrev pub shown_message : ℕ → Message → List ℕ
shown_message offset m = message_heading offset (length m.body) ++ flat_map shown_line m.lines

-- messages, one directly after another from this offset on
abbrev pub dump_text : ℕ → List Message → List ℕ
dump_text offset [] = []
dump_text offset (m ∷ rest) = shown_message offset m ++ dump_text (place_at offset m).end rest

-- the text is the dump of this storage file
abbrev pub IsDumpOf : List ℕ → List ℕ → Type 0
IsDumpOf file text = (header : List ℕ) × (messages : List Message) × IsFile file header messages × (text ≡ dump_text (length header) messages)

-- the text of a message: its heading, and its metadata lines, which stand in the file at its place
abbrev pub ShowsMessage : List ℕ → MessageAt → List ℕ → Type 0
ShowsMessage file place text = (lines : List Line) × (place.lines + 1 ≤ place.end) × (place.end ≤ length file) × AreLines (take (place.end - 1 - place.lines) (drop place.lines file)) lines
    × (text ≡ message_heading place.offset place.size ++ flat_map shown_line lines)

-- the texts of messages, one after another
abbrev pub ShowsMessages : List ℕ → List MessageAt → List ℕ → Type 0
ShowsMessages file [] text = text ≡ []
ShowsMessages file (place ∷ places) text = (first : List ℕ) × (rest : List ℕ) × ShowsMessage file place first × ShowsMessages file places rest × (text ≡ first ++ rest)
