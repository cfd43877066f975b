use Rattle.purge_task.proofs.Common.{◌≡◌, fold, drop, max, greatest, FoundFile}
use Rattle.purge_task.proofs.finding.most_messages.Given as goal

-- the greatest so far, and the rest
abbrev pub invariant-loop-found : goal.invariant-loop-found
invariant-loop-found l = fold (λ most (f : FoundFile). max most f.messages) l.most (drop l.found-index l.files) ≡ greatest (λ (f : FoundFile). f.messages) l.files
