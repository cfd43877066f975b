use Rattle.folder_model.specs.System.{with_new_file}
use Rattle.folder_kept.proofs.KeptLemmas.{kept_apart, kept_more, new_keeps, done_keeps_but, maybe_keeps_but, made_stands}
use Rattle.folder_kept.proofs.kept.KeptFolderFolder.make_new.Goals as goal

pub invariant_of-self : goal.invariant_of-self
invariant_of-self g c =
    let self = c.args.self.now in
    let old = g.F.Folder.modelled self.folder in
    let new = g.F.Folder.modelled c.make_new.new.self in
    let path = c.args.path.now in
    record { kept = kept_apart g.F.Folder.number path old new self.files.files.items (maybe_keeps_but path (with_new_file path) old new (new_keeps path) c.in_err-file.ensures.failed) (c.has.ensures.not_open c.if-has.false) self.kept }

pub invariant_of-self-2 : goal.invariant_of-self-2
invariant_of-self-2 g c =
    let self = c.args.self.now in
    let old = g.F.Folder.modelled self.folder in
    let new = g.F.Folder.modelled c.make_new.new.self in
    let path = c.args.path.now in
    let file = c.in_ok-file.file in
    let files = self.files.files.items in
    record {
      kept = kept_more g.F.Folder.number new path file files c.keep.new.self.files.items c.keep.ensures.more (made_stands g.F.Folder.number old new path file c.in_ok-file.ensures.made c.in_ok-file.ensures.number)
          (kept_apart g.F.Folder.number path old new files (done_keeps_but path (with_new_file path) old new (new_keeps path) c.in_ok-file.ensures.made) (c.has.ensures.not_open c.if-has.false) self.kept);
    }
