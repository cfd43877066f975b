use Rattle.script_run.proofs.ShownLemmas.{opened_logs_show}
use Rattle.script_run.proofs.laws.safe_files_are_shown.Goals as goal

pub returns : goal.returns
returns c = λ old m meanings lists opened safe. opened_logs_show lists old m meanings opened c.listings_are_shown.ensures.logs safe
