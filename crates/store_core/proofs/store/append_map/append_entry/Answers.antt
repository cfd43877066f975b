use Rattle.store_core.proofs.Common.{ℕ, List, ◌∙◌, subst, AddsText}
use Rattle.store_core.proofs.store.append_map.append_entry.Goals as goal

pub returns-in-Some-clause-any_moment : goal.returns-in-Some-clause-any_moment
returns-in-Some-clause-any_moment g c =
    subst (λ (text : List ℕ). AddsText c.args.log.now text (g.D.Disk.history c.args.disk.now) (g.D.Disk.history c.append.new.disk)) (c.as_slice.ensures ∙ rw c.in-Some.is at c.requires.text) c.append.ensures.any_moment

pub returns-in-None-clause-any_moment : goal.returns-in-None-clause-any_moment
returns-in-None-clause-any_moment g c =
    subst (λ (text : List ℕ). AddsText c.args.log.now text (g.D.Disk.history c.args.disk.now) (g.D.Disk.history c.append-in-None.new.disk)) c.put_map_entry.ensures c.append-in-None.ensures.any_moment
