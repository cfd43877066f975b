use Rattle.model_logs.proofs.LogFileLemmas.{written_fits}
use Rattle.store_open.proofs.first_logs.head_of.Goals as goal

pub returns-clause-version : goal.returns-clause-version
returns-clause-version c = rw c.version.ensures (written_fits c.args.kind)
