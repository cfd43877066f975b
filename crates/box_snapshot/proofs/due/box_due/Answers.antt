use Rattle.std.proofs.Common.{◌∙◌}
use Rattle.box_snapshot.proofs.DueLemmas.{due_there, none_there, none_mapped}
use Rattle.box_snapshot.proofs.due.box_due.Goals as goal

pub returns-in-Some-Some : goal.returns-in-Some-Some
returns-in-Some-Some g c =
    due_there c.args.mailbox.0 _ _ _ c.in-Some-Some.index.now c.in-Some-Some.generation c.is_log_due.result c.box_entries.result _ c.facts.ensures.store.box_logs c.in-Some-Some.ensures c.in-Some-Some.ensures' c.box_entries.ensures
    (c.from.ensures ∙ c.length.ensures) c.is_log_due.ensures

pub returns-in_default : goal.returns-in_default
returns-in_default g c = none_mapped c.args.mailbox.0 _ _ _ c.facts.ensures.store.box_logs c.in_default.ensures'

pub returns-in_default-2 : goal.returns-in_default-2
returns-in_default-2 g c = none_there c.args.mailbox.0 _ _ _ c.facts.ensures.store.box_logs c.in_default.ensures
