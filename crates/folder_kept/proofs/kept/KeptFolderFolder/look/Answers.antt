use Rattle.folder_kept.proofs.KeptLemmas.{kept_same, open_stands}
use Rattle.folder_kept.proofs.kept.KeptFolderFolder.look.Goals as goal

pub returns-then-has-clause-kind : goal.returns-then-has-clause-kind
returns-then-has-clause-kind g c =
    let self = c.args.self.now in
    open_stands g.F.Folder.number (g.F.Folder.modelled self.folder) c.args.path.now self.files.files.items self.kept (c.has.ensures.open c.if-has.true)

pub invariant_of-self : goal.invariant_of-self
invariant_of-self g c =
    let self = c.args.self.now in
    record { kept = kept_same g.F.Folder.number (g.F.Folder.modelled self.folder) (g.F.Folder.modelled c.look.new.self) self.files.files.items c.look.ensures.same self.kept }
