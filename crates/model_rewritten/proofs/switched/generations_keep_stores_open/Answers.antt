use Rattle.model_rewritten.proofs.switched.generations_keep_stores_open.Goals as goal
use Rattle.model_rewritten.proofs.SwitchOpenLemmas.{good_switched, opens_switched, means_switched, listed_switched, meanings_switched, counted_switched, accounted_by_generation}

pub returns : goal.returns
returns c = record {
  good = good_switched;
  opens = opens_switched;
  means = means_switched;
  listed = listed_switched;
  same = meanings_switched;
  counted = counted_switched;
  accounted = accounted_by_generation;
}
