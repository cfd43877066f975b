use Rattle.store_checks.proofs.CountLemmas.{count_next}
use Rattle.store_checks.proofs.counts.counts_of.Goals as goal

pub loop-place-preserved : goal.loop-place-preserved
loop-place-preserved c = count_next c.args.map.now.meaning.records c.loop-place.place c.row_at.result c.unwrap.result c.loop-place.counts.items c.push.new.self.items c.row_at.ensures c.unwrap.ensures c.loop-place.invariant c.in_ok-push.ensures.items
