use Rattle.script_text.proofs.ScriptLemmas.{answer_same}
use Rattle.script_text.proofs.laws.a_text_is_one_script.Goals as goal

pub returns : goal.returns
returns c = answer_same
