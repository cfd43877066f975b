use Rattle.resync_task.proofs.Common.{map, ◌∙◌, ap, arith, region_file}
use Rattle.std.proofs.Common.{take_all}
use Rattle.store_files.proofs.NumberListLemmas.{region_file_next}
use Rattle.resync_task.proofs.files.region_files.Goals as goal

pub loop-place-preserved : goal.loop-place-preserved
loop-place-preserved c = region_file_next c.args.index.now.meaning.records c.loop-place.place c.row_at.result c.unwrap-row.result c.loop-place.numbers.items c.push.new.self.items c.row_at.ensures c.unwrap-row.ensures c.loop-place.invariant c.in_ok-push.ensures.items

pub returns : goal.returns
returns c = c.loop-place.invariant ∙ ap (map region_file) (take_all c.loop-place.place c.args.index.now.meaning.records (omega (arith, c.rows-place-end.ensures)))
