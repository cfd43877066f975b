use Rattle.purge_task.proofs.Common.{◌∙◌, ◌<◌, length, get_or, arith, get_or_default}
use Rattle.purge_task.proofs.TakenLemmas.{next_source, taken_more}
use Rattle.purge_task.proofs.taking.take_files.Goals as goal

pub loop-source-preserved : goal.loop-source-preserved
loop-source-preserved g c =
    let a = c.loop-source.auto.sources in
    let t = c.loop-source-test.true in
    let lt : c.loop-source.source-index < length c.args.sources.now = omega (arith, a, t) in
    let item = get_or c.loop-source.sources c.loop-source.source-index c.source-item.result in
    let read = next_source c.loop-source.source-index c.args.sources.now c.loop-source.sources c.args.store.now c.loop-source.store c.source-item.result lt c.loop-source.invariant ∙ get_or_default c.args.sources.now c.loop-source.source-index c.source-item.result item lt in
    taken_more c.loop-source.source-index c.args.sources.now c.loop-source.sources c.args.store.now c.loop-source.store c.take_source.new.store item c.take_source.new.source lt read c.loop-source.invariant c.take_source.ensures.store c.take_source.ensures.source
