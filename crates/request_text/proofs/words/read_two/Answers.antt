use Rattle.std.proofs.Common.{List, ℕ, [], ◌∷◌, ap}
use Rattle.request_text.specs.declared.command.Command.TheVariants as command
use Rattle.request_text.proofs.words.read_two.Goals as goal

pub returns-in-list-clause-memory : goal.returns-in-list-clause-memory
returns-in-list-clause-memory c = λ e. (command.List c.args.word.now, tt, (c.read_list.ensures.memory e, ap (λ (verb : List ℕ). verb ∷ c.args.word.now ∷ []) c.in-list.is))

pub returns-in-deliver-clause-memory : goal.returns-in-deliver-clause-memory
returns-in-deliver-clause-memory c = λ e. (command.Deliver c.args.word.now, tt, (c.read_deliver.ensures.memory e, ap (λ (verb : List ℕ). verb ∷ c.args.word.now ∷ []) c.in-deliver.is))

pub returns-in-make-clause-memory : goal.returns-in-make-clause-memory
returns-in-make-clause-memory c = λ e. (command.Make c.args.word.now, tt, (c.read_make.ensures.memory e, ap (λ (verb : List ℕ). verb ∷ c.args.word.now ∷ []) c.in-make.is))

pub returns-in-delete-clause-memory : goal.returns-in-delete-clause-memory
returns-in-delete-clause-memory c = λ e. (command.Delete c.args.word.now, tt, (c.read_delete.ensures.memory e, ap (λ (verb : List ℕ). verb ∷ c.args.word.now ∷ []) c.in-delete.is))
