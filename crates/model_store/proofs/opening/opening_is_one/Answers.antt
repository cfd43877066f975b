use Rattle.model_store.proofs.opening.opening_is_one.Goals as goal
use Rattle.model_store.proofs.OpeningLemmas.{no_store_or_opens, no_store_or_damaged, opens_or_damaged, one_damage, one_store}

pub returns : goal.returns
returns c = record {
  no_store_or_opens = no_store_or_opens;
  no_store_or_damaged = no_store_or_damaged;
  opens_or_damaged = opens_or_damaged;
  one_damage = one_damage;
  one_store = one_store;
}
