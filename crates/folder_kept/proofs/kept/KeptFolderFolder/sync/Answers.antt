use Rattle.std.proofs.Common.{refl}
use Rattle.folder_model.specs.System.{with_synced_file}
use Rattle.folder_kept.proofs.KeptLemmas.{kept_among, kept_through, synced_keeps}
use Rattle.folder_kept.proofs.kept.KeptFolderFolder.sync.Goals as goal

pub invariant_of-self : goal.invariant_of-self
invariant_of-self g c =
    let self = c.args.self.now in
    let old = g.F.Folder.modelled self.folder in
    let new = g.F.Folder.modelled c.sync.new.self in
    record {
      kept = kept_through g.F.Folder.number old new self.files.files.items
          (synced_keeps c.sync.result (with_synced_file _) old new (λ s. record { node = λ p. refl; sound = λ e. e }) c.sync.ensures.synced c.sync.ensures.failed) self.kept;
    }

pub invariant_of-self-2 : goal.invariant_of-self-2
invariant_of-self-2 g c =
    let self = c.args.self.now in
    let old = g.F.Folder.modelled self.folder in
    let new = g.F.Folder.modelled c.sync.new.self in
    let files = c.note.new.self.files.items in
    record {
      kept = kept_through g.F.Folder.number old new files
          (synced_keeps c.sync.result (with_synced_file _) old new (λ s. record { node = λ p. refl; sound = λ e. e }) c.sync.ensures.synced c.sync.ensures.failed)
          (kept_among g.F.Folder.number old self.files.files.items files c.note.ensures.same self.kept);
    }
