use Rattle.std.proofs.Common.{◌∙◌, ap, sym}
use Rattle.store_rebuild.specs.Planned.{last_number}
use Rattle.store_rebuild.proofs.PlannedLemmas.{last_push}
use Rattle.store_rebuild.proofs.plan.last_of.Goals as goal

pub returns-in-Some : goal.returns-in-Some
returns-in-Some c = sym (ap last_number c.in-Some.ensures.cases.0 ∙ last_push c.in-Some._before.now c.in-Some.last.now)
