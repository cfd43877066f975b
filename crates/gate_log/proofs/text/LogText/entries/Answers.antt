use Rattle.std.proofs.Common.{ℕ, List, subst, sym}
use Rattle.gate_log.specs.Text.{HasEntriesAt}
use Rattle.gate_log.proofs.TextLemmas.{first-entries}
use Rattle.gate_log.proofs.text.LogText.entries.Goals as goal

pub returns-clause-entries : goal.returns-clause-entries
returns-clause-entries c = λ entries t. subst (λ (o : List ℕ). HasEntriesAt o 25 entries) (sym c.as_slice.ensures) (first-entries c.args.self.now entries t)
