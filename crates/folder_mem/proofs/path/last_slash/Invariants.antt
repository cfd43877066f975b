use Rattle.std.proofs.Common.{◌≡◌, ◌<◌, Some, None, take, MatchOption}
use Rattle.folder_model.specs.Paths.{before_slash}
use Rattle.folder_mem.proofs.path.last_slash.Given as goal

abbrev pub invariant-loop-i : goal.invariant-loop-i
invariant-loop-i l = MatchOption l.last (before_slash (take l.i l.path) ≡ None) (λ place. (place < l.i) × (before_slash (take l.i l.path) ≡ Some (take place l.path)))
