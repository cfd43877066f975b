use Rattle.store_core.proofs.Common.{◌≡◌, ◌<◌, ◌≤◌, ℕ, true, false, subst, IsUnnamed, has_made_log}
use Rattle.mdbox_base.specs.Words.{IsNumber}
use Rattle.store_core.proofs.MadeCallLemmas.{log_known, number_fresh}
use Rattle.store_core.proofs.store.Store.known_logs.Goals as goal

pub returns-clause-made : goal.returns-clause-made
returns-clause-made g c =
    subst (λ v. (number : ℕ) → has_made_log number v ≡ true → IsNumber number × (number ≤ v.drawn.mailbox) × IsUnnamed number v.map) c.self.view_is (λ number has. log_known _ _ number c.self.invariant.3 has)

pub returns-clause-fresh : goal.returns-clause-fresh
returns-clause-fresh g c =
    subst (λ v. (number : ℕ) → v.drawn.mailbox < number → IsUnnamed number v.map × (has_made_log number v ≡ false)) c.self.view_is (λ number less. number_fresh _ _ number c.self.invariant.1 c.self.invariant.3 less)
