use Rattle.std.proofs.Common.{◌∙◌}
use Rattle.model_logs.specs.Entries.{map_text}
use Rattle.store_rebuild.proofs.DraftLemmas.{cut-more}
use Rattle.store_rebuild.proofs.draft.Draft.push_map.Goals as goal

pub returns : goal.returns
returns c = cc (
  cut-more c.self.inside.lengths.items c.self.inside.octets c.in_ok-size.size (map_text c.args.entry.now) c.self.invariant.0 (c.in_ok-size.ensures ∙ c.map_entry_size.ensures),
  c.self.view_is,
  c.in_ok-push.ensures.items,
  c.in_ok-push_map_entry.ensures.ok,
)
