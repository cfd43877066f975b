use Rattle.std.proofs.Common.{length, Some}
use Rattle.disk_model.specs.Disk.{Reaches, synced}
use Rattle.disk_model.proofs.ChangeAndSyncLemmas.{changed_state}
use Rattle.disk_mem.specs.Mem.{told}
use Rattle.disk_mem.proofs.StepLemmas.{on_ok}
use Rattle.tests.proofs.stores.files.put_file.Goals as goal

pub returns-clause-reaches : goal.returns-clause-reaches
returns-clause-reaches c =
    on_ok c.sync.result
    (λ is. changed_state c.args.name (λ f. Reaches f (length c.args.octets.now)) (λ f. Reaches f (length c.args.octets.now)) synced
    (Some (told c.put_unsynced.new.disk)) (Some (told c.sync.new.self)) is (λ f reaches. reaches) c.in_ok-put_unsynced.ensures.reaches)
    c.sync.ensures.state
