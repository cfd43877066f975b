use Rattle.model_rewritten.proofs.root.root_entries_can_be_appended.Goals as goal
use Rattle.model_rewritten.proofs.RootLemmas.{safe_by_root, safe_with_root, settled_by_root, other_append, leaves_other, good_other, opens_other}

pub returns : goal.returns
returns c = record {
  safe = safe_by_root;
  crash = safe_with_root;
  settle = settled_by_root;
  rewritten = other_append;
  synced = leaves_other;
  good = good_other;
  opens = opens_other;
}
