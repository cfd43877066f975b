use Rattle.mail_ops.proofs.Common.{sym, ◌∙◌}
use Rattle.mail_ops.proofs.ChangeCheckLemmas.{no_generation}
use Rattle.mail_ops.proofs.deleting.delete.Goals as goal

pub unreachable-requires : goal.unreachable-requires
unreachable-requires g c = no_generation c.args.name.now c.in_ok-number.number.0 c.args.store.now c.in_ok-number.ensures.found (sym c.in_default.is ∙ c.generation_of.ensures)
