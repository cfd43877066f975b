use Rattle.purge_task.proofs.Common.{ap, refl, sym, ◌∙◌, ◌≡◌, StoreValue}
use Rattle.purge_task.specs.declared.task.PurgeStage.TheVariants as stage
use Rattle.purge_task.proofs.FurtherLemmas.{target_further}
use Rattle.purge_task.proofs.GoneCallLemmas.{failed_says}
use Rattle.purge_task.proofs.TargetCallLemmas.{made_says, target_one}
use Rattle.purge_task.proofs.QuietCallLemmas.{made_quiet}
use Rattle.purge_task.proofs.task.begin_target.Goals as goal

pub make_target-requires-clause-taken : goal.make_target-requires-clause-taken
make_target-requires-clause-taken g c = (target_one c.args.work c.args.target c.args.store.now (g.D.Disk.history c.args.store.now.disk) c.requires.ready c.requires.target).make.taken

pub make_target-requires-clause-absent : goal.make_target-requires-clause-absent
make_target-requires-clause-absent g c = (target_one c.args.work c.args.target c.args.store.now (g.D.Disk.history c.args.store.now.disk) c.requires.ready c.requires.target).make.unmade

pub returns-in-Ok-clause-step : goal.returns-in-Ok-clause-step
returns-in-Ok-clause-step g c t at =
    made_says g.D.Disk.history g.D.Disk.faults t _ c.args.work c.args.target c.args.store.now c.make_target.new.store at refl refl refl refl refl c.requires.running c.requires.ready (target_one c.args.work c.args.target c.args.store.now (g.D.Disk.history c.args.store.now.disk) c.requires.ready c.requires.target)
    c.facts.ensures.files.used c.in-Ok.ensures.any_moment c.in-Ok.ensures.mail_stays c.in-Ok.ensures.settled c.in-Ok.ensures.others c.in-Ok.ensures.made c.in-Ok.ensures.ok c.in-Ok.ensures.grows c.in-Ok.ensures.unfailed c.facts.ensures.store

pub returns-in-Ok-clause-further : goal.returns-in-Ok-clause-further
returns-in-Ok-clause-further g c = target_further c.args.work c.args.target c.args.store.now (g.D.Disk.history c.args.store.now.disk) c.requires.ready c.requires.target

pub returns-in-Err-clause-step : goal.returns-in-Err-clause-step
returns-in-Err-clause-step g c t at =
    failed_says g.D.Disk.history g.D.Disk.faults t _ c.args.store.now c.make_target.new.store refl c.requires.running c.in-Err.ensures.any_moment c.in-Err.ensures.mail_stays c.in-Err.ensures.refused.1 c.in-Err.ensures.grows _ refl c.in-Err.ensures.fault (λ begins. let e : stage.Begin c.args.work ≡ stage.First = sym at ∙ begins in cc e)

pub returns-in-Ok-clause-map : goal.returns-in-Ok-clause-map
returns-in-Ok-clause-map g c = ap (λ (s : StoreValue _). s.map) c.in-Ok.ensures.ok

pub returns-in-Err-clause-map : goal.returns-in-Err-clause-map
returns-in-Err-clause-map g c = ap (λ (s : StoreValue _). s.map) c.in-Err.ensures.refused.1

pub returns-in-Ok-clause-begun : goal.returns-in-Ok-clause-begun
returns-in-Ok-clause-begun g c = λ e. cc e

pub returns-in-Ok-clause-quiet : goal.returns-in-Ok-clause-quiet
returns-in-Ok-clause-quiet g c t at =
    made_quiet g.D.Disk.history t c.args.work c.args.target c.args.store.now c.make_target.new.store at c.facts.ensures.store c.requires.ready (target_one c.args.work c.args.target c.args.store.now (g.D.Disk.history c.args.store.now.disk) c.requires.ready c.requires.target)
    c.in-Ok.ensures.others c.in-Ok.ensures.made (ap (λ (s : StoreValue _). s.map) c.in-Ok.ensures.ok) (λ runs. ((returns-in-Ok-clause-step g c t at).claims runs).moves)

pub returns-in-Err-clause-quiet : goal.returns-in-Err-clause-quiet
returns-in-Err-clause-quiet g c t at = tt
