use Rattle.std.proofs.Common.{take, IsTrue}
use Rattle.std.specs.List.{list_all}
use Rattle.model_storage.specs.StorageFile.{is_letter_or_digit}
use Rattle.dbox_file.proofs.header_line.value_length.Given as goal

-- the octets so far are letters and digits
abbrev pub invariant-loop-i : goal.invariant-loop-i
invariant-loop-i l = IsTrue (list_all is_letter_or_digit (take l.i l.text))
