use Rattle.std.proofs.Common.{take, IsTrue}
use Rattle.std.specs.List.{list_all}
use Rattle.mdbox_base.specs.Words.{is_other_than}
use Rattle.file_paths.proofs.read.split.Given as goal

-- the mark is none of the octets so far
abbrev pub invariant-loop-i : goal.invariant-loop-i
invariant-loop-i l = IsTrue (list_all (is_other_than l.mark) (take l.i l.text))
