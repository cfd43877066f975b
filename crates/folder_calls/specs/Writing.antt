-- What a run of writes leaves on its way.
use Rattle.std.specs.Prelude.{◌≡◌, ℕ, ◌≤◌, List, length, take, Option}
use Rattle.disk_model.specs.Disk.{written}
use Rattle.folder_model.specs.System.{System, with_content}
use Rattle.folder_model.specs.Calls.{Modelled, IfModelled}

-- so many of these octets are written, and nothing else has changed
abbrev pub IsWriting : ℕ → ℕ → List ℕ → System → System → Type 0
IsWriting number at octets before s = (done : ℕ) × (done ≤ length octets) × (s ≡ with_content number (written at (take done octets)) before)

-- the same, where the system is modelled
abbrev pub IsOnItsWay : ℕ → ℕ → List ℕ → Option Modelled → System → Type 0
IsOnItsWay number at octets old s = IfModelled old (λ before. IsWriting number at octets before s)
