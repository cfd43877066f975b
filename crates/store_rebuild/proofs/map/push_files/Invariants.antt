use Rattle.std.proofs.Common.{◌≡◌, ◌++◌, length, map}
use Rattle.store_rebuild.proofs.MapTextLemmas.{seal_text}
use Rattle.store_rebuild.proofs.map.push_files.Given as goal

abbrev pub invariant-loop-file : goal.invariant-loop-file
invariant-loop-file l = l.draft ++ map seal_text l.rest ≡ l.fn.draft ++ map seal_text l.files

abbrev pub decreases-loop-file : goal.decreases-loop-file
decreases-loop-file l = length l.rest
