use Rattle.folder_disk.proofs.Common.{◌≡◌, Bool, true, false, List, Option, Ok, Err, refl, sym, ◌∙◌, ap, subst, folder_text}
use Rattle.folder_disk.specs.declared.folder_name.FolderName.TheVariants.{Top}
use Rattle.folder_disk.proofs.SystemLemmas.{folder_found}
use Rattle.folder_disk.proofs.UnseenLemmas.{unseen_same, on_err}
use Rattle.folder_disk.proofs.folders.check_top.Goals as goal

pub returns-in_err-kind_of-clause-failed : goal.returns-in_err-kind_of-clause-failed
returns-in_err-kind_of-clause-failed g c = on_err c.from_residual.result (unseen_same true (g.F.Folder.modelled c.args.folder.now) (g.F.Folder.modelled c.kind_of.new.folder) (g.F.Folder.past c.args.folder.now) (g.F.Folder.past c.kind_of.new.folder) c.kind_of.ensures.same c.kind_of.ensures.still)

pub returns-in-Folder-clause-there : goal.returns-in-Folder-clause-there
returns-in-Folder-clause-there g c = folder_found (folder_text Top) c.in_ok-kind_of.field-0 (g.F.Folder.modelled c.args.folder.now) (g.F.Folder.modelled c.kind_of.new.folder) c.kind_of.ensures.same c.in-Folder.is c.in_ok-kind_of.ensures.kind

pub returns-in-Folder-clause-unseen : goal.returns-in-Folder-clause-unseen
returns-in-Folder-clause-unseen g c = unseen_same false (g.F.Folder.modelled c.args.folder.now) (g.F.Folder.modelled c.kind_of.new.folder) (g.F.Folder.past c.args.folder.now) (g.F.Folder.past c.kind_of.new.folder) c.kind_of.ensures.same c.kind_of.ensures.still

pub returns-in_default-clause-failed : goal.returns-in_default-clause-failed
returns-in_default-clause-failed g c = unseen_same true (g.F.Folder.modelled c.args.folder.now) (g.F.Folder.modelled c.kind_of.new.folder) (g.F.Folder.past c.args.folder.now) (g.F.Folder.past c.kind_of.new.folder) c.kind_of.ensures.same c.kind_of.ensures.still
