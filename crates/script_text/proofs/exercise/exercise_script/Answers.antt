use Rattle.std.proofs.Common.{◌∙◌, sym, ap, ◌++◌, ◌∷◌, [], List, ℕ, ◌≡◌}
use Rattle.std.specs.Prelude.{map}
use Rattle.mdbox_base.specs.declared.requests.Request.{Request}
use Rattle.script_text.specs.MadeScript.{made_request, below}
use Rattle.script_text.proofs.MadeLemmas.{mapped_more}
use Rattle.script_text.proofs.exercise.exercise_script.Goals as goal
