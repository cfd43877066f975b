use Rattle.folder_disk.proofs.Common.{◌≡◌, Bool, true, false, List, Option, Ok, Err, refl, sym, ◌∙◌, ap, subst, NotesNames}
use Rattle.folder_disk.proofs.ChangedLemmas.{becomes_then, notes_then}
use Rattle.folder_disk.proofs.UnseenLemmas.{unseen_then, on_err, on_ok_map, on_err_map}
use Rattle.folder_disk.proofs.folders.make_outer.Goals as goal

pub returns-clause-unseen : goal.returns-clause-unseen
returns-clause-unseen g c = on_ok_map c.make_one.result (λ e. unseen_then false (g.F.Folder.modelled c.args.folder.now) (g.F.Folder.modelled c.make_first.new.folder) (g.F.Folder.modelled c.make_one.new.folder) (g.F.Folder.past c.args.folder.now) (g.F.Folder.past c.make_first.new.folder) (g.F.Folder.past c.make_one.new.folder) c.in_ok-make_first.ensures.unseen e) c.make_one.ensures.unseen

pub returns-clause-failed : goal.returns-clause-failed
returns-clause-failed g c = on_err_map c.make_one.result (λ e. unseen_then true (g.F.Folder.modelled c.args.folder.now) (g.F.Folder.modelled c.make_first.new.folder) (g.F.Folder.modelled c.make_one.new.folder) (g.F.Folder.past c.args.folder.now) (g.F.Folder.past c.make_first.new.folder) (g.F.Folder.past c.make_one.new.folder) c.in_ok-make_first.ensures.unseen e) c.make_one.ensures.failed

pub returns-clause-names : goal.returns-clause-names
returns-clause-names g c =
    let old = c.args.changed.now in
    let mid = c.make_first.new.changed in
    let new = c.make_one.new.changed in
    on_ok_map c.make_one.result (λ e. becomes_then (NotesNames old mid) (NotesNames mid new) (NotesNames old new) (g.F.Folder.modelled c.args.folder.now) (g.F.Folder.modelled c.make_first.new.folder) (g.F.Folder.modelled c.make_one.new.folder)
    (notes_then old mid new) c.in_ok-make_first.ensures.names e) c.make_one.ensures.names
