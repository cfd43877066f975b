use Rattle.purge_task.proofs.Common.{ap, Source}
use Rattle.purge_task.specs.Switched.{IsListable}
use Rattle.purge_task.proofs.SwitchReadyLemmas.{spends}
use Rattle.purge_task.proofs.switching.make_entry.Goals as goal

pub returns-clause-spent : goal.returns-clause-spent
returns-clause-spent c =
    spends c.args.work.now (IsListable c.args.map.now.meaning) c.index_mut.result.now c.spend.new.source c.requires.listable c.index_mut.ensures.value (ap (λ (s : Source). s.file) c.spend.ensures.same) (ap (λ (s : Source). s.target) c.spend.ensures.same)
