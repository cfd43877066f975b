-- What a caller sees of a log: its file's name, its head, where its last gate stands, how many entries it has, and its room,
-- which is how many octets of records, each with the gate after it, it can lay out without memory.
use Rattle.std.specs.Prelude.{◌≡◌, ℕ}
use Rattle.disk_model.specs.declared.name.FileName.{FileName}
use Rattle.model_logs.specs.declared.log_head.LogHead.{LogHead}

pub record LogState : Type 0 where
  pub name : FileName
  pub head : LogHead
  pub end : ℕ
  pub count : ℕ
  pub room : ℕ

-- What a caller sees of a log that was looked at: its file's name, its head, where its last gate stands, how many entries it
-- has, that gate's value, and how many octets stand behind it.
pub record InspectedLog : Type 0 where
  pub name : FileName
  pub head : LogHead
  pub end : ℕ
  pub count : ℕ
  pub gate : ℕ
  pub behind : ℕ

-- the last gate is closed, and nothing stands behind it
abbrev pub IsWholeLog : InspectedLog → Type 0
IsWholeLog found = (found.gate ≡ 0) × (found.behind ≡ 0)

-- the same log, with as much room
pub record IsSameLog (old new : LogState) : Type 0 where
  pub name : new.name ≡ old.name
  pub head : new.head ≡ old.head
  pub room : new.room ≡ old.room
