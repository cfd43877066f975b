use Rattle.folder_disk.proofs.Common.{◌≡◌, Bool, true, false, List, Option, Ok, Err, refl, sym, ◌∙◌, ap, subst}
use Rattle.folder_disk.proofs.UnseenLemmas.{unseen_then, on_err, on_ok_map, on_err_map}
use Rattle.folder_disk.proofs.folders.make_first.Goals as goal

pub returns-clause-unseen : goal.returns-clause-unseen
returns-clause-unseen g c = on_ok_map c.make_one.result (λ e. unseen_then false (g.F.Folder.modelled c.args.folder.now) (g.F.Folder.modelled c.check_top.new.folder) (g.F.Folder.modelled c.make_one.new.folder) (g.F.Folder.past c.args.folder.now) (g.F.Folder.past c.check_top.new.folder) (g.F.Folder.past c.make_one.new.folder) c.in_ok-check_top.ensures.unseen e) c.make_one.ensures.unseen

pub returns-clause-failed : goal.returns-clause-failed
returns-clause-failed g c = on_err_map c.make_one.result (λ e. unseen_then true (g.F.Folder.modelled c.args.folder.now) (g.F.Folder.modelled c.check_top.new.folder) (g.F.Folder.modelled c.make_one.new.folder) (g.F.Folder.past c.args.folder.now) (g.F.Folder.past c.check_top.new.folder) (g.F.Folder.past c.make_one.new.folder) c.in_ok-check_top.ensures.unseen e) c.make_one.ensures.failed
