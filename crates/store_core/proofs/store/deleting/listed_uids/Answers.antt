use Rattle.store_core.proofs.Common.{List, BoxRow}
use Rattle.std.specs.Borrow.{Bor}
use Rattle.std.proofs.lemmas.Iterator.Consumers.{YieldsList-from_first, YieldsList-end}
use Rattle.store_core.proofs.AmountsLemmas.{uids_listed}
use Rattle.store_core.proofs.Common.{◌∙◌}
use Rattle.store_core.proofs.store.deleting.listed_uids.Goals as goal

pub returns : goal.returns
returns c =
    let all = YieldsList-from_first (λ (x : Bor BoxRow). x.now) (λ (rows : List BoxRow). rows) {s = c.into_iter-row-iterator.result} c.rows-row-items.result c.into_iter-row-iterator.ensures.into_iter_gives in
    let end = YieldsList-end all c.loop-row.yielded _ c.loop-row.yielded_by _ _ c.in-None.is c.next.ensures.steps in
    c.loop-row.invariant ∙ uids_listed c.loop-row.yielded c.rows-row-items.result c.args.index.now.meaning.rows end.0 c.rows-row-items.ensures
