use Rattle.std.proofs.Common.{ℕ, subst, sym}
use Rattle.model_logs.proofs.LogFileLemmas.{written_fits}
use Rattle.model_logs.specs.LogFile.{IsVersionOf}
use Rattle.store_rebuild.proofs.logs.head_of.Goals as goal

pub returns-clause-version : goal.returns-clause-version
returns-clause-version c = subst (λ (version : ℕ). IsVersionOf c.args.kind version) (sym c.version.ensures) (written_fits c.args.kind)
