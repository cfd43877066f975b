use Rattle.resync_task.proofs.Common.{◌≡◌, map, take, region_file}
use Rattle.resync_task.proofs.files.region_files.Given as goal

abbrev pub invariant-loop-place : goal.invariant-loop-place
invariant-loop-place l = l.numbers.items ≡ map region_file (take l.place l.index.meaning.records)
