use Rattle.folder_disk.proofs.Common.{◌≡◌, Bool, true, false, List, Option, Ok, Err, refl, sym, ◌∙◌, ap, subst, System, with_synced_names, Modelled, IfModelled, done_by, folder_text, IsSyncedFolder}
use Rattle.folder_disk.proofs.PlaceLemmas.{folder_path_is}
use Rattle.folder_disk.proofs.SystemLemmas.{synced_done, synced_unseen, unsynced_unseen}
use Rattle.folder_disk.proofs.UnseenLemmas.{unseen_same, on_err, on_ok_map, on_ok_both, on_err_map}
use Rattle.folder_disk.proofs.folders.sync_one.Goals as goal

pub returns-in_err-path-clause-failed : goal.returns-in_err-path-clause-failed
returns-in_err-path-clause-failed g c = on_err c.from_residual.result (unseen_same true (g.F.Folder.modelled c.args.folder.now) (g.F.Folder.modelled c.args.folder.now) (g.F.Folder.past c.args.folder.now) (g.F.Folder.past c.args.folder.now) refl refl)

pub sync_folder-requires-clause-spelled : goal.sync_folder-requires-clause-spelled
sync_folder-requires-clause-spelled g c =
    let value = c.as_str.ensures.value in
    let named = c.in_ok-path.ensures in
    let is : c.as_str.result.now ≡ folder_text c.args.name = cc in
    folder_path_is c.args.name c.as_str.result.now c.known_folder.ensures is

pub returns-clause-done : goal.returns-clause-done
returns-clause-done g c =
    let value = c.as_str.ensures.value in
    let named = c.in_ok-path.ensures in
    let is : c.as_str.result.now ≡ folder_text c.args.name = cc in
    let F : List _ → Type 0 = λ p. IfModelled (g.F.Folder.modelled c.sync_folder.new.self) (λ s. IsSyncedFolder s p) in
    on_ok_both c.sync_folder.result (λ there done. subst F is (synced_done c.as_str.result.now (g.F.Folder.modelled c.args.folder.now) (g.F.Folder.modelled c.sync_folder.new.self) c.requires.sound there done)) c.sync_folder.ensures.there c.sync_folder.ensures.synced

pub returns-clause-unseen : goal.returns-clause-unseen
returns-clause-unseen g c = on_ok_map c.sync_folder.result (λ done. synced_unseen c.as_str.result.now (g.F.Folder.modelled c.args.folder.now) (g.F.Folder.modelled c.sync_folder.new.self) (g.F.Folder.past c.args.folder.now) (g.F.Folder.past c.sync_folder.new.self) done c.sync_folder.ensures.passed) c.sync_folder.ensures.synced

pub returns-clause-failed : goal.returns-clause-failed
returns-clause-failed g c = on_err_map c.sync_folder.result (λ done. unsynced_unseen (g.F.Folder.modelled c.args.folder.now) (g.F.Folder.modelled c.sync_folder.new.self) (g.F.Folder.past c.args.folder.now) (g.F.Folder.past c.sync_folder.new.self) done c.sync_folder.ensures.passed) c.sync_folder.ensures.failed
