-- Logs whose entries stand where they were read.
use Rattle.std.specs.Prelude.{◌≡◌, ◌+◌, ℕ, List, [], ◌∷◌, ◌++◌, length, drop, All, Option, Some, None}
use Rattle.std.specs.Borrow.{Bor}
use Rattle.model_logs.specs.LogFile.{EntryFits, opened, EndsLog, IsLog, log_end}
use Rattle.gate_log.specs.declared.text.LogText.{LogText}

-- the text is a log with these entries, as many as it says, and its last gate stands where it says
pub record IsLogText (text : LogText) (entries : List (List ℕ)) : Type 0 where
  pub log : IsLog text.octets text.head entries
  pub end : text.end ≡ log_end entries
  pub count : text.count ≡ length entries

-- a gate of a log stands at this place of the octets, and these are the entries behind it
pub record HasEntriesAt (octets : List ℕ) (gate : ℕ) (entries : List (List ℕ)) : Type 0 where
  pub entries_fit : All EntryFits entries
  pub last : ℕ
  pub behind : List ℕ
  pub spelled : drop gate octets ≡ opened entries ++ last ∷ behind
  pub ends : EndsLog last behind

-- Of the entries behind a gate: none is next if there are none; else the first, with its record directly behind that
-- gate, and those behind it stand behind the next gate.
abbrev pub IsNextEntry : ℕ → List (List ℕ) → List ℕ → ℕ → Option (ℕ × Bor (List ℕ)) → Type 0
IsNextEntry gate entries octets next None = entries ≡ []
IsNextEntry gate entries octets next (Some found) = (rest : List (List ℕ)) × (entries ≡ found.1.now ∷ rest) × (found.0 ≡ gate + 1) × (next ≡ gate + (length found.1.now + 5)) × HasEntriesAt octets next rest
