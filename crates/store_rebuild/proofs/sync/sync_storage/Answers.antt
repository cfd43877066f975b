use Rattle.std.proofs.Common.{◌≡◌}
use Rattle.disk_model.specs.declared.name.FileName.TheVariants as file
use Rattle.disk_model.proofs.BetweenLemmas.{between-begins}
use Rattle.disk_model.proofs.IdleLemmas.{idle-begins}
use Rattle.disk_model.proofs.MomentLemmas.{if_told-map}
use Rattle.store_rebuild.proofs.RootLemmas.{looked_images}
use Rattle.store_rebuild.specs.Writing.{IsOnlySynced, IsFileSynced}
use Rattle.store_rebuild.proofs.SyncLemmas.{only_begins}
use Rattle.store_rebuild.proofs.sync.sync_storage.Goals as goal

pub returns-then-number-last-clause-any_moment : goal.returns-then-number-last-clause-any_moment
returns-then-number-last-clause-any_moment g c = λ first before. looked_images first _ _ (idle-begins _) before

pub returns-then-number-last-clause-synced : goal.returns-then-number-last-clause-synced
returns-then-number-last-clause-synced g c = λ h. if_told-map (λ disk. c.args.number.0 ≡ c.args.last → IsFileSynced (disk (file.Mail c.args.number.0))) (λ disk. IsFileSynced (disk (file.Mail c.args.number.0))) _ (λ disk k. k c.if-number-last.true) h

pub returns-then-number-last-clause-same : goal.returns-then-number-last-clause-same
returns-then-number-last-clause-same g c = between-begins IsOnlySynced _ only_begins
