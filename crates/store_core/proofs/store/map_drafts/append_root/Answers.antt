use Rattle.store_core.proofs.Common.{ℕ, List, subst, AddsText}
use Rattle.store_core.proofs.store.map_drafts.append_root.Goals as goal

pub returns-clause-any_moment : goal.returns-clause-any_moment
returns-clause-any_moment g c = subst (λ (text : List ℕ). AddsText c.args.log.now text (g.D.Disk.history c.args.disk.now) (g.D.Disk.history c.append.new.disk)) c.naming_text-text.ensures c.append.ensures.any_moment
