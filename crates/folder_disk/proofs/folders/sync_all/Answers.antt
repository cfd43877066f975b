use Rattle.folder_disk.proofs.Common.{◌≡◌, true, false, List, Option, Ok, Err, sym, subst, Modelled, IfModelled, HasAllFolders, StandInFolders, FolderName}
use Rattle.folder_disk.proofs.SystemLemmas.{all_are_synced}
use Rattle.folder_disk.proofs.UnseenLemmas.{unseen_same, unseen_then, on_err, on_ok_map, on_ok_both, on_err_map}
use Rattle.folder_disk.proofs.folders.sync_all.Goals as goal

pub returns-in_err-names-clause-failed : goal.returns-in_err-names-clause-failed
returns-in_err-names-clause-failed g c = on_err c.from_residual.result (unseen_same true (g.F.Folder.modelled c.args.folder.now) (g.F.Folder.modelled c.folders_there.new.folder) (g.F.Folder.past c.args.folder.now) (g.F.Folder.past c.folders_there.new.folder) c.folders_there.ensures.same c.folders_there.ensures.still)

pub returns-clause-synced : goal.returns-clause-synced
returns-clause-synced g c =
    let F : Option Modelled → Type 0 = λ m. IfModelled m (λ s. StandInFolders s → HasAllFolders s c.in_ok-names.names.items) in
    let G : List FolderName → Type 0 = λ l. IfModelled (g.F.Folder.modelled c.folders_there.new.folder) (λ s. StandInFolders s → HasAllFolders s l) in
    let are = subst G (sym c.deref.ensures.value) (subst F (sym c.folders_there.ensures.same) c.in_ok-names.ensures.all) in
    on_ok_both c.sync_each.result (λ nodes done. ∣ all_are_synced c.deref.result.now (g.F.Folder.modelled c.folders_there.new.folder) (g.F.Folder.modelled c.sync_each.new.folder) are nodes done ∣₁) c.sync_each.ensures.nodes c.sync_each.ensures.done

pub returns-clause-unseen : goal.returns-clause-unseen
returns-clause-unseen g c =
    let first = unseen_same false (g.F.Folder.modelled c.args.folder.now) (g.F.Folder.modelled c.folders_there.new.folder) (g.F.Folder.past c.args.folder.now) (g.F.Folder.past c.folders_there.new.folder) c.folders_there.ensures.same c.folders_there.ensures.still in
    on_ok_map c.sync_each.result (λ e. unseen_then false (g.F.Folder.modelled c.args.folder.now) (g.F.Folder.modelled c.folders_there.new.folder) (g.F.Folder.modelled c.sync_each.new.folder) (g.F.Folder.past c.args.folder.now) (g.F.Folder.past c.folders_there.new.folder) (g.F.Folder.past c.sync_each.new.folder) first e) c.sync_each.ensures.unseen

pub returns-clause-failed : goal.returns-clause-failed
returns-clause-failed g c =
    let first = unseen_same false (g.F.Folder.modelled c.args.folder.now) (g.F.Folder.modelled c.folders_there.new.folder) (g.F.Folder.past c.args.folder.now) (g.F.Folder.past c.folders_there.new.folder) c.folders_there.ensures.same c.folders_there.ensures.still in
    on_err_map c.sync_each.result (λ e. unseen_then true (g.F.Folder.modelled c.args.folder.now) (g.F.Folder.modelled c.folders_there.new.folder) (g.F.Folder.modelled c.sync_each.new.folder) (g.F.Folder.past c.args.folder.now) (g.F.Folder.past c.folders_there.new.folder) (g.F.Folder.past c.sync_each.new.folder) first e) c.sync_each.ensures.failed
