use Rattle.model_logs.specs.Entries.{root_text}
use Rattle.store_rebuild.proofs.DraftLemmas.{cut-more, root_length}
use Rattle.store_rebuild.proofs.draft.Draft.push_root.Goals as goal

pub returns : goal.returns
returns c = cc (
  cut-more c.self.inside.lengths.items c.self.inside.octets 5 (root_text c.args.entry.now) c.self.invariant.0 (root_length c.args.entry.now),
  c.self.view_is,
  c.in_ok-push.ensures.items,
  c.in_ok-push_root_entry.ensures.ok,
)
