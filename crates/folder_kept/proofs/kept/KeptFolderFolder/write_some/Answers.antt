use Rattle.std.proofs.Common.{length, take}
use Rattle.disk_model.specs.Disk.{written}
use Rattle.folder_model.specs.System.{IsHalfWritten}
use Rattle.folder_kept.proofs.KeptLemmas.{kept_among, kept_through, wrote_keeps}
use Rattle.folder_kept.proofs.kept.KeptFolderFolder.write_some.Goals as goal

pub invariant_of-self : goal.invariant_of-self
invariant_of-self g c =
    let self = c.args.self.now in
    record { kept = kept_among g.F.Folder.number (g.F.Folder.modelled self.folder) self.files.files.items c.note.new.self.files.items c.note.ensures.same self.kept }

pub invariant_of-self-2 : goal.invariant_of-self-2
invariant_of-self-2 g c =
    let self = c.args.self.now in
    let old = g.F.Folder.modelled self.folder in
    let new = g.F.Folder.modelled c.write_some.new.self in
    let files = c.note.new.self.files.items in
    record {
      kept = kept_through g.F.Folder.number old new files (wrote_keeps c.write_some.result _ (λ n. written c.args.offset (take n c.args.from.now)) (IsHalfWritten c.args.offset (length c.args.from.now)) old new c.write_some.ensures.wrote c.write_some.ensures.failed)
          (kept_among g.F.Folder.number old self.files.files.items files c.note.ensures.same self.kept);
    }
