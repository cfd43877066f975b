use Rattle.gate_log.proofs.MakeFileLemmas.{as_long, first_length}
use Rattle.gate_log.proofs.log.create_log.Goals as goal

pub returns-in_err-make_file-clause-any_moment : goal.returns-in_err-make_file-clause-any_moment
returns-in_err-make_file-clause-any_moment g c = as_long c.args.name _ 26 _ _ (first_length c.args.head c.first_text.result c.first_text.ensures.fits c.first_text.ensures.text) c.make_file.ensures.any_moment

pub returns-clause-any_moment : goal.returns-clause-any_moment
returns-clause-any_moment g c = as_long c.args.name _ 26 _ _ (first_length c.args.head c.first_text.result c.first_text.ensures.fits c.first_text.ensures.text) c.make_file.ensures.any_moment
