use Rattle.std.proofs.Common.{◌∙◌}
use Rattle.model_logs.specs.Entries.{box_text}
use Rattle.store_rebuild.proofs.DraftLemmas.{cut-more}
use Rattle.store_rebuild.proofs.draft.Draft.push_box.Goals as goal

pub returns : goal.returns
returns c = cc (
  cut-more c.self.inside.lengths.items c.self.inside.octets c.in_ok-size.size (box_text c.args.entry.now) c.self.invariant.0 (c.in_ok-size.ensures ∙ c.box_entry_size.ensures),
  c.self.view_is,
  c.in_ok-push.ensures.items,
  c.in_ok-push_box_entry.ensures.ok,
)
