use Rattle.std.proofs.Common.{refl}
use Rattle.folder_model.specs.System.{with_synced_names}
use Rattle.folder_kept.proofs.KeptLemmas.{kept_through, synced_keeps}
use Rattle.folder_kept.proofs.kept.KeptFolderFolder.sync_folder.Goals as goal

pub invariant_of-self : goal.invariant_of-self
invariant_of-self g c =
    let self = c.args.self.now in
    let old = g.F.Folder.modelled self.folder in
    let new = g.F.Folder.modelled c.sync_folder.new.self in
    record {
      kept = kept_through g.F.Folder.number old new self.files.files.items
          (synced_keeps c.sync_folder.result (with_synced_names c.args.path.now) old new (λ s. record { node = λ p. refl; sound = λ e. e }) c.sync_folder.ensures.synced c.sync_folder.ensures.failed) self.kept;
    }
