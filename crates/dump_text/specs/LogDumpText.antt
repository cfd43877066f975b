-- What is printed of a log.
use Rattle.std.specs.Prelude.{◌==◌, ◌+◌, ℕ, Bool, true, false, List, [], ◌∷◌, ◌++◌, length, codes}
use Rattle.hex.specs.Hex.{encode_lower}
use Rattle.mdbox_base.specs.Numbers.{decimal_text}
use Rattle.model_logs.specs.declared.log_head.LogHead.{LogHead}
use Rattle.model_logs.specs.LogFile.{kind_letter, log_end}

-- what a log of version 2 has at the end of its first line
abbrev pub version_mark : Bool → List ℕ
version_mark true = codes " V2"
version_mark false = []

-- what the head says: the letter of its kind, its number and its generation
abbrev pub head_line : LogHead → List ℕ
head_line head = codes "LOG " ++ (kind_letter head.kind ∷ 32 ∷ (decimal_text head.number ++ (32 ∷ (decimal_text head.generation ++ (version_mark (head.version == 2) ++ 10 ∷ [])))))

-- where an entry's record stands, and the entry in lower-case hexadecimal digits
abbrev pub entry_line : ℕ → List ℕ → List ℕ
entry_line place entry = decimal_text place ++ (32 ∷ (encode_lower entry ++ 10 ∷ []))

-- the lines of entries, of which the first stands behind the gate at this place
abbrev pub entry_lines : ℕ → List (List ℕ) → List ℕ
entry_lines gate [] = []
entry_lines gate (entry ∷ entries) = entry_line (gate + 1) entry ++ entry_lines (gate + 5 + length entry) entries

-- where the last gate stands
abbrev pub end_line : ℕ → List ℕ
end_line gate = codes "END " ++ (decimal_text gate ++ 10 ∷ [])

-- The head, each entry, and the end.
abbrev pub log_dump_text : LogHead → List (List ℕ) → List ℕ
log_dump_text head entries = head_line head ++ (entry_lines 25 entries ++ end_line (log_end entries))
