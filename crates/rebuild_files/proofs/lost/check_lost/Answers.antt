use Rattle.disk_model.proofs.MomentLemmas.{if_told-map}
use Rattle.model_store.specs.Settled.{files_of}
use Rattle.rebuild_files.proofs.lost.check_lost.Goals as goal

pub returns-in-Err-NoStore-clause-lost : goal.returns-in-Err-NoStore-clause-lost
returns-in-Err-NoStore-clause-lost g c =
    if_told-map _ _ (g.D.Disk.history c.args.disk.now) (λ disk none whole. c.opening_is_one.ensures.no_store_or_opens (files_of disk) whole.0 whole.1 whole.2 none whole.3)
    (rw c.in-Err-NoStore.field-0-is at c.in-Err-NoStore.ensures.refused)

pub returns-in-Err-Damaged-clause-lost : goal.returns-in-Err-Damaged-clause-lost
returns-in-Err-Damaged-clause-lost g c =
    if_told-map _ _ (g.D.Disk.history c.args.disk.now) (λ disk damaged whole. c.opening_is_one.ensures.opens_or_damaged (files_of disk) whole.0 whole.1 whole.2 _ _ whole.3 damaged)
    (rw c.in-Err-Damaged.field-0-is at c.in-Err-Damaged.ensures.refused)
