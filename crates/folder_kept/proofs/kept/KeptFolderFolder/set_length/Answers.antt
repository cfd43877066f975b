use Rattle.disk_model.specs.Disk.{cut_to}
use Rattle.folder_model.specs.System.{IsHalfCut}
use Rattle.folder_kept.proofs.KeptLemmas.{kept_among, kept_through, changed_keeps}
use Rattle.folder_kept.proofs.kept.KeptFolderFolder.set_length.Goals as goal

pub invariant_of-self : goal.invariant_of-self
invariant_of-self g c =
    let self = c.args.self.now in
    record { kept = kept_among g.F.Folder.number (g.F.Folder.modelled self.folder) self.files.files.items c.note.new.self.files.items c.note.ensures.same self.kept }

pub invariant_of-self-2 : goal.invariant_of-self-2
invariant_of-self-2 g c =
    let self = c.args.self.now in
    let old = g.F.Folder.modelled self.folder in
    let new = g.F.Folder.modelled c.set_length.new.self in
    let files = c.note.new.self.files.items in
    record {
      kept = kept_through g.F.Folder.number old new files (changed_keeps c.set_length.result _ (cut_to c.args.end) (IsHalfCut c.args.end) old new c.set_length.ensures.cut c.set_length.ensures.failed)
          (kept_among g.F.Folder.number old self.files.files.items files c.note.ensures.same self.kept);
    }
