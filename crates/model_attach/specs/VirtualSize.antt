-- The size of a message with CRLF line ends.
use Rattle.std.specs.Prelude.{◌+◌, ◌==◌, ◌&&◌, ℕ, not, List, [], ◌∷◌, length, if◌then◌else◌}

-- how many LFs have no CR directly before them, in a text behind this octet
abbrev pub bare_breaks : ℕ → List ℕ → ℕ
bare_breaks before [] = 0
bare_breaks before (c ∷ rest) = (if c == 10 && not (before == 13) then 1 else 0) + bare_breaks c rest

-- The size of a message, with each LF that no CR precedes counted as two octets.
abbrev pub virtual_size : List ℕ → ℕ
virtual_size message = length message + bare_breaks 0 message
