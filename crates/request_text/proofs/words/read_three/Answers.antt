use Rattle.std.proofs.Common.{List, ℕ, [], ◌∷◌, ap}
use Rattle.request_text.specs.declared.command.Command.TheVariants as command
use Rattle.request_text.proofs.words.read_three.Goals as goal

pub returns-in-rename-clause-memory : goal.returns-in-rename-clause-memory
returns-in-rename-clause-memory c = λ e. (command.Rename c.args.first.now c.args.second.now, tt, (c.read_rename.ensures.memory e, ap (λ (verb : List ℕ). verb ∷ c.args.first.now ∷ c.args.second.now ∷ []) c.in-rename.is))
