use Rattle.std.proofs.Common.{◌≡◌, ◌≤◌, ◌++◌, length, drop}
use Rattle.model_storage.specs.WrittenFile.{upper_digits}
use Rattle.dbox_file.proofs.writing.put_digits.Given as goal

abbrev pub invariant-loop-end : goal.invariant-loop-end
invariant-loop-end l = record {
  within : l.end ≤ length l.into;
  written : upper_digits (length l.initial.into) l.number ≡ upper_digits l.end l.rest ++ drop l.end l.into;
}

abbrev pub decreases-loop-end : goal.decreases-loop-end
decreases-loop-end l = l.end
