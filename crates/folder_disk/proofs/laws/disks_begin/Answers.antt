use Rattle.folder_disk.proofs.StartLemmas.{start_follows, start_is_disk}
use Rattle.folder_disk.proofs.laws.disks_begin.Goals as goal

pub returns-clause-follows : goal.returns-clause-follows
returns-clause-follows c = start_follows

pub returns-clause-disk : goal.returns-clause-disk
returns-clause-disk c = start_is_disk
