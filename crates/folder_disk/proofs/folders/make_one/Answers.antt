use Rattle.folder_disk.proofs.Common.{◌≡◌, Bool, true, false, List, Option, Ok, Err, refl, sym, ◌∙◌, ap, subst, folder_text}
use Rattle.folder_disk.proofs.SystemLemmas.{folder_found, nothing_found}
use Rattle.folder_disk.proofs.UnseenLemmas.{unseen_same, unseen_then, on_err, on_ok_map, on_err_map}
use Rattle.folder_disk.proofs.folders.make_one.Goals as goal

pub returns-in_err-kind_of-clause-failed : goal.returns-in_err-kind_of-clause-failed
returns-in_err-kind_of-clause-failed g c = on_err c.from_residual.result (unseen_same true (g.F.Folder.modelled c.args.folder.now) (g.F.Folder.modelled c.kind_of.new.folder) (g.F.Folder.past c.args.folder.now) (g.F.Folder.past c.kind_of.new.folder) c.kind_of.ensures.same c.kind_of.ensures.still)

pub returns-in-Folder-clause-there : goal.returns-in-Folder-clause-there
returns-in-Folder-clause-there g c = folder_found (folder_text c.args.name) c.in_ok-kind_of.field-0 (g.F.Folder.modelled c.args.folder.now) (g.F.Folder.modelled c.kind_of.new.folder) c.kind_of.ensures.same c.in-Folder.is c.in_ok-kind_of.ensures.kind

pub returns-in-Folder-clause-unseen : goal.returns-in-Folder-clause-unseen
returns-in-Folder-clause-unseen g c = unseen_same false (g.F.Folder.modelled c.args.folder.now) (g.F.Folder.modelled c.kind_of.new.folder) (g.F.Folder.past c.args.folder.now) (g.F.Folder.past c.kind_of.new.folder) c.kind_of.ensures.same c.kind_of.ensures.still

pub make_new_folder-requires-clause-nothing : goal.make_new_folder-requires-clause-nothing
make_new_folder-requires-clause-nothing g c = nothing_found (folder_text c.args.name) c.in_ok-kind_of.field-0 (g.F.Folder.modelled c.args.folder.now) (g.F.Folder.modelled c.kind_of.new.folder) c.kind_of.ensures.same c.in-Nothing.is c.in_ok-kind_of.ensures.kind

pub returns-in-Nothing-clause-unseen : goal.returns-in-Nothing-clause-unseen
returns-in-Nothing-clause-unseen g c =
    on_ok_map c.make_new_folder.result (λ e. unseen_then false (g.F.Folder.modelled c.args.folder.now) (g.F.Folder.modelled c.kind_of.new.folder) (g.F.Folder.modelled c.make_new_folder.new.folder) (g.F.Folder.past c.args.folder.now) (g.F.Folder.past c.kind_of.new.folder) (g.F.Folder.past c.make_new_folder.new.folder) (unseen_same false (g.F.Folder.modelled c.args.folder.now) (g.F.Folder.modelled c.kind_of.new.folder) (g.F.Folder.past c.args.folder.now) (g.F.Folder.past c.kind_of.new.folder) c.kind_of.ensures.same c.kind_of.ensures.still) e) c.make_new_folder.ensures.unseen

pub returns-in-Nothing-clause-failed : goal.returns-in-Nothing-clause-failed
returns-in-Nothing-clause-failed g c =
    on_err_map c.make_new_folder.result (λ e. unseen_then true (g.F.Folder.modelled c.args.folder.now) (g.F.Folder.modelled c.kind_of.new.folder) (g.F.Folder.modelled c.make_new_folder.new.folder) (g.F.Folder.past c.args.folder.now) (g.F.Folder.past c.kind_of.new.folder) (g.F.Folder.past c.make_new_folder.new.folder) (unseen_same false (g.F.Folder.modelled c.args.folder.now) (g.F.Folder.modelled c.kind_of.new.folder) (g.F.Folder.past c.args.folder.now) (g.F.Folder.past c.kind_of.new.folder) c.kind_of.ensures.same c.kind_of.ensures.still) e) c.make_new_folder.ensures.failed

pub returns-in_default-clause-failed : goal.returns-in_default-clause-failed
returns-in_default-clause-failed g c = unseen_same true (g.F.Folder.modelled c.args.folder.now) (g.F.Folder.modelled c.kind_of.new.folder) (g.F.Folder.past c.args.folder.now) (g.F.Folder.past c.kind_of.new.folder) c.kind_of.ensures.same c.kind_of.ensures.still
