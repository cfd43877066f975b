use Rattle.resync_task.proofs.Common.{subst, arith, MapMeaning, AreRecordFiles}
use Rattle.resync_task.proofs.DamageLemmas.{store_sound}
use Rattle.resync_task.proofs.FileLemmas.{few_files}
use Rattle.resync_task.proofs.reading.Reading.of.Goals as goal

pub invariant_of-result : goal.invariant_of-result
invariant_of-result g c = (
  few_files c.args.store.now.map c.in_ok-files.files.items (store_sound (g.D.Disk.history c.args.store.now.disk) c.args.store.now c.facts.ensures.store) (subst (λ (m : MapMeaning). AreRecordFiles m c.in_ok-files.files.items) c.map.ensures c.in_ok-files.ensures),
  omega arith,
  omega arith,
)

pub returns-clause-few : goal.returns-clause-few
returns-clause-few g c = few_files c.args.store.now.map c.in_ok-files.files.items (store_sound (g.D.Disk.history c.args.store.now.disk) c.args.store.now c.facts.ensures.store) (subst (λ (m : MapMeaning). AreRecordFiles m c.in_ok-files.files.items) c.map.ensures c.in_ok-files.ensures)
