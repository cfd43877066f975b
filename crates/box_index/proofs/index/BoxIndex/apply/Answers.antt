use Rattle.std.proofs.Common.{ap, refl}
use Rattle.box_index.proofs.BoxAppliedLemmas.{applied-next, applied-added, applied-changed, applied-removed, order-next, order-added, order-changed, order-removed, pushed}
use Rattle.box_index.specs.declared.index.RowChange.TheVariants as change
use Rattle.box_index.proofs.index.BoxIndex.apply.Goals as goal

pub invariant_of-self : goal.invariant_of-self
invariant_of-self c = order-next _ _ c.self.invariant (rw (c.in-N.is, ← c.self.view_is) at c.requires)

pub invariant_of-self-in-F : goal.invariant_of-self-in-F
invariant_of-self-in-F c = order-changed _ c.in-F.uid (change.Flags c.known_flags-in-F.result) c.self.inside.rows.rows c.change.new.self.rows c.self.invariant refl (ap (λ p. p.rows) c.change.ensures)

pub invariant_of-self-in-R : goal.invariant_of-self-in-R
invariant_of-self-in-R c = order-removed _ _ _ _ c.self.invariant refl c.remove.ensures.rows

pub returns-in-N-clause-ok : goal.returns-in-N-clause-ok
returns-in-N-clause-ok c = rw (c.in-N.is, ← c.self.view_is) (applied-next _ _ (rw (c.in-N.is, ← c.self.view_is) at c.requires))

pub returns-in-F-clause-ok : goal.returns-in-F-clause-ok
returns-in-F-clause-ok c = rw (c.in-F.is, ← c.self.view_is) (applied-changed _ c.in-F.uid (change.Flags c.in-F.flags) c.self.inside.rows.rows c.change.new.self.rows c.self.invariant.some refl (rw c.known_flags-in-F.ensures at (ap (λ p. p.rows) c.change.ensures)))

pub returns-in-R-clause-ok : goal.returns-in-R-clause-ok
returns-in-R-clause-ok c = rw (c.in-R.is, ← c.self.view_is) (applied-removed _ c.in-R.uid c.self.inside.rows.rows c.remove.new.self.rows c.self.invariant.some refl c.remove.ensures.rows)

pub invariant_of-self-in-A : goal.invariant_of-self-in-A
invariant_of-self-in-A c = order-added _ c.in-A.uid c.in-A.flags c.in-A.time c.in-A.size c.in-A.map_uid c.in-A.guid c.in-A.words (record { uid = c.in-A.uid.0; flags = c.in-A.flags; time = c.in-A.time; size = c.in-A.size; map_uid = c.in-A.map_uid.0; guid = c.in-A.guid.0; words = c.in-A.words }) _ c.self.invariant (rw (c.in-A.is, ← c.self.view_is) at c.requires) refl (pushed _ _ _ _ (rw c.reserve.ensures.same at (ap (λ p. p.rows) c.push.ensures)) (rw (c.known_flags.ensures, c.of.ensures) refl))

pub returns-in_ok-reserve-in-A-clause-ok : goal.returns-in_ok-reserve-in-A-clause-ok
returns-in_ok-reserve-in-A-clause-ok c = rw (c.in-A.is, ← c.self.view_is) (applied-added _ _ _ _ _ _ _ _ _ (rw (c.in-A.is, ← c.self.view_is) at c.requires) (pushed _ _ _ _ (rw c.reserve.ensures.same at (ap (λ p. p.rows) c.push.ensures)) (rw (c.known_flags.ensures, c.of.ensures) refl)))

pub invariant_of-self-in-K : goal.invariant_of-self-in-K
invariant_of-self-in-K c = order-changed _ c.in-K.uid (change.Words c.of-in-K.result) c.self.inside.rows.rows c.change-in-K.new.self.rows c.self.invariant refl (ap (λ p. p.rows) c.change-in-K.ensures)

pub returns-in-K-clause-ok : goal.returns-in-K-clause-ok
returns-in-K-clause-ok c = rw (c.in-K.is, ← c.self.view_is) (applied-changed _ c.in-K.uid (change.Words c.in-K.words) c.self.inside.rows.rows c.change-in-K.new.self.rows c.self.invariant.some refl (rw c.of-in-K.ensures at (ap (λ p. p.rows) c.change-in-K.ensures)))
