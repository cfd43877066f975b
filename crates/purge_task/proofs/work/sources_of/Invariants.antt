use Rattle.purge_task.proofs.Common.{take, AllZip, IsNewSource}
use Rattle.purge_task.proofs.work.sources_of.Given as goal

abbrev pub invariant-loop-found : goal.invariant-loop-found
invariant-loop-found l = AllZip IsNewSource (take l.found-index l.files) l.sources.items
