use Rattle.store_core.proofs.Common.{◌≤◌, ℕ, subst, HasRecord, due_at}
use Rattle.store_core.proofs.DueLemmas.{due_record}
use Rattle.store_core.proofs.store.Store.known_dues.Goals as goal

pub returns : goal.returns
returns g c = subst (λ v. (uid : ℕ) → 1 ≤ due_at uid v → HasRecord v.map uid (λ row. 1 ≤ row.count)) c.self.view_is (λ uid some. due_record c.self.invariant.1.logs _ _ uid c.self.invariant.1.counts some)
