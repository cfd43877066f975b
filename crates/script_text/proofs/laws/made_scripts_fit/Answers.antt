use Rattle.script_text.proofs.MadeLemmas.{made_fits}
use Rattle.script_text.proofs.laws.made_scripts_fit.Goals as goal

pub returns : goal.returns
returns c = made_fits
