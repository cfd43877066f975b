-- How many files are open.
use Rattle.std.specs.Prelude.{ℕ}

-- the most that a folder which keeps files open has open; one fewer may have octets that aren't synced
abbrev pub most_open : ℕ
most_open = 16
