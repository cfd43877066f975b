use Rattle.std.proofs.Common.{rules, List, Option, ◌∙◌, ap}
use Rattle.mdbox_base.specs.declared.replies.Reply.{Reply}
use Rattle.lanes.proofs.KeptLemmas.{kept_whole}
use Rattle.lanes.proofs.world.World.into_parts.Goals as goal

pub returns-clause-kept : goal.returns-clause-kept
returns-clause-kept g c = search rules

pub returns-clause-whole : goal.returns-clause-whole
returns-clause-whole g c = λ all.
    let k = returns-clause-kept g c in
    k.0 ∙ ap (λ (rs : List (Option Reply)). (c.args.self.store, rs, c.args.self.journal, c.args.self.broken)) (kept_whole _ _ _ k.1 all)
