use Rattle.map_rows.proofs.Common.{not, rules, has_map_uid, OrderKey}
use Rattle.map_rows.specs.Keys.{moved_key}
use Rattle.map_rows.proofs.SwitchLemmas.{retained}
use Rattle.map_rows.proofs.order.switching.switch_keys.Goals as goal

pub returns-clause-keys : goal.returns-clause-keys
returns-clause-keys c =
    retained _ (λ (k : OrderKey). not (has_map_uid k.uid.0 c.args.dropped.now)) (moved_key c.args.target c.args.moved.now) _ (λ x b t y called. search rules) _ _ c.retain_mut.ensures.filtered
