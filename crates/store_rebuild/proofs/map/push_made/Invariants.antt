use Rattle.std.proofs.Common.{◌≡◌, ◌++◌, length, map}
use Rattle.model_logs.specs.Entries.{map_text}
use Rattle.model_rebuild.specs.RebuiltLogs.{made_from}
use Rattle.store_rebuild.proofs.map.push_made.Given as goal

abbrev pub invariant-loop-name : goal.invariant-loop-name
invariant-loop-name l = l.draft ++ map map_text (made_from l.number l.generation l.rest) ≡ l.fn.draft ++ map map_text (made_from 1 l.generation l.names)

abbrev pub decreases-loop-name : goal.decreases-loop-name
decreases-loop-name l = length l.rest
