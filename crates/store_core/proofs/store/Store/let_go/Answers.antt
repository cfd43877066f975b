use Rattle.store_core.proofs.Common.{refl}
use Rattle.store_core.proofs.HolderLemmas.{letting_moves}
use Rattle.store_core.proofs.InstanceKeepingLemmas.{kept_holding}
use Rattle.store_core.proofs.KnownInstanceLemmas.{store_holding, instances_holding}
use Rattle.store_core.proofs.MadeLogLemmas.{made_still}
use Rattle.store_core.proofs.store.Store.let_go.Goals as goal

pub invariant_of-self : goal.invariant_of-self
invariant_of-self g c = (
  c.self.invariant.0,
  store_holding _ _ c.let_go.new.self c.self.invariant.1,
  record { map_log = c.self.invariant.2.map_log; box_logs = c.self.invariant.2.box_logs },
  made_still _ _ _ refl refl refl refl refl c.self.invariant.3,
  instances_holding _ _ c.let_go.new.self c.args.id _ c.let_go.ensures c.self.invariant.4,
)

pub returns-clause-keeps : goal.returns-clause-keeps
returns-clause-keeps g c = kept_holding g.D.Disk.history _ c.args.self.now c.let_go.new.self c.args.id _ c.self.view_is c.let_go.ensures

pub returns-clause-moves : goal.returns-clause-moves
returns-clause-moves g c = letting_moves _ c.args.self.now c.let_go.new.self c.args.id c.self.view_is c.let_go.ensures c.requires
