use Rattle.resync_task.proofs.Common.{sym, ◌∙◌}
use Rattle.resync_task.proofs.RegionLemmas.{end_of, if_none, no_place, none_stands, some_place}
use Rattle.resync_task.proofs.region.one_message.Goals as goal

pub returns-in_err-place-clause-none : goal.returns-in_err-place-clause-none
returns-in_err-place-clause-none c = if_none c.from_residual.result _ (none_stands c.args.region.now (no_place c.args.region.now c.message_at.result c.message_at.ensures (sym c.ok.ensures.value ∙ c.in_err-place.was)))

pub returns-then-place-region-clause-none : goal.returns-then-place-region-clause-none
returns-then-place-region-clause-none c = λ m spelled.
    absurd (c.if-place-region.true (end_of c.args.region.now c.in_ok-place.place (some_place c.args.region.now c.message_at.result c.in_ok-place.place c.message_at.ensures (sym c.ok.ensures.value ∙ c.in_ok-place.was)) m spelled))
