use Rattle.std.proofs.Common.{sym, ◌∙◌, ap, subst}
use Rattle.task_claims.specs.Stable.{MovesOwnClaims}
use Rattle.tests.specs.Tasks.{racer_claims}
use Rattle.tests.specs.declared.tasks.race.AnyTask.{AnyTask}
use Rattle.tests.specs.declared.tasks.race.AnyTask.TheVariants as any
use Rattle.tests.proofs.tasks.race.AnyTask.step.Goals as goal

pub returns-in-Copy-clause-still : goal.returns-in-Copy-clause-still
returns-in-Copy-clause-still g c = λ up. ap (λ s. s.stopped) (c.step.ensures.keeps.still up).0 ∙ up

pub returns-in-Copy-clause-claims : goal.returns-in-Copy-clause-claims
returns-in-Copy-clause-claims g c = λ runs.
    subst (λ (t : AnyTask). MovesOwnClaims (racer_claims t) (racer_claims (any.Copy c.step.new.self)) c.step.result c.args.store.now c.step.new.store (g.D.Disk.history c.args.store.now.disk) (g.D.Disk.history c.step.new.store.disk)) (sym c.in-Copy.is) (c.step.ensures.claims runs)

pub returns-in-Move-clause-still : goal.returns-in-Move-clause-still
returns-in-Move-clause-still g c = λ up. ap (λ s. s.stopped) (c.step-in-Move.ensures.keeps.still up).0 ∙ up

pub returns-in-Move-clause-claims : goal.returns-in-Move-clause-claims
returns-in-Move-clause-claims g c = λ runs.
    subst (λ (t : AnyTask). MovesOwnClaims (racer_claims t) (racer_claims (any.Move c.step-in-Move.new.self)) c.step-in-Move.result c.args.store.now c.step-in-Move.new.store (g.D.Disk.history c.args.store.now.disk) (g.D.Disk.history c.step-in-Move.new.store.disk)) (sym c.in-Move.is) (c.step-in-Move.ensures.claims runs)

pub returns-in-Expunge-clause-still : goal.returns-in-Expunge-clause-still
returns-in-Expunge-clause-still g c = λ up. ap (λ s. s.stopped) (c.step-in-Expunge.ensures.keeps.still up).0 ∙ up

pub returns-in-Expunge-clause-claims : goal.returns-in-Expunge-clause-claims
returns-in-Expunge-clause-claims g c = λ runs.
    subst (λ (t : AnyTask). MovesOwnClaims (racer_claims t) (racer_claims (any.Expunge c.step-in-Expunge.new.self)) c.step-in-Expunge.result c.args.store.now c.step-in-Expunge.new.store (g.D.Disk.history c.args.store.now.disk) (g.D.Disk.history c.step-in-Expunge.new.store.disk)) (sym c.in-Expunge.is) (c.step-in-Expunge.ensures.claims runs)
