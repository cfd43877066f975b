use Rattle.folder_disk.proofs.Common.{◌≡◌, Bool, true, false, ℕ, List, [], ◌∷◌, ◌++◌, Option, Ok, Err, Contains, map, codes, string_bytes, refl, sym, ◌∙◌, ap, subst, IfModelled, folder_text, IsSyncedFolder, FolderName, KeepsNames}
use Rattle.folder_disk.proofs.ChangedLemmas.{becomes_same, becomes_then, names_same, names_then}
use Rattle.folder_disk.proofs.EachLemmas.{each_none, each_at, each_all}
use Rattle.folder_disk.proofs.SystemLemmas.{same_nodes, same_nodes_then, synced_stays_told, all_told_of}
use Rattle.folder_disk.proofs.UnseenLemmas.{unseen_same, unseen_then, on_err}
use Rattle.folder_disk.proofs.folders.sync_each.Goals as goal

pub loop-name-init : goal.loop-name-init
loop-name-init g c =
    (each_none (λ name. IfModelled (g.F.Folder.modelled c.args.folder.now) (λ s. IsSyncedFolder s (folder_text name))) c.args.names.now, same_nodes (g.F.Folder.modelled c.args.folder.now), unseen_same false (g.F.Folder.modelled c.args.folder.now) (g.F.Folder.modelled c.args.folder.now) (g.F.Folder.past c.args.folder.now) (g.F.Folder.past c.args.folder.now) refl refl, c.requires.sound, becomes_same KeepsNames (g.F.Folder.modelled c.args.folder.now) (g.F.Folder.modelled c.args.folder.now) names_same refl)

pub loop-name-preserved : goal.loop-name-preserved
loop-name-preserved g c =
    let synced = c.in_ok-sync_one.ensures.synced in
    let Pn : FolderName → Type 0 = λ name. IfModelled (g.F.Folder.modelled c.loop-name.folder) (λ s. IsSyncedFolder s (folder_text name)) in
    let Qn : FolderName → Type 0 = λ name. IfModelled (g.F.Folder.modelled c.sync_one.new.folder) (λ s. IsSyncedFolder s (folder_text name)) in (
      each_at Pn Qn c.args.names.now c.loop-name.name-index _ (λ name is. synced_stays_told (folder_text name) _ (g.F.Folder.modelled c.loop-name.folder) (g.F.Folder.modelled c.sync_one.new.folder) synced is) c.loop-name-test.true c.loop-name.invariant.0 c.in_ok-sync_one.ensures.done,
      same_nodes_then _ (g.F.Folder.modelled c.args.folder.now) (g.F.Folder.modelled c.loop-name.folder) (g.F.Folder.modelled c.sync_one.new.folder) synced c.loop-name.invariant.1,
      unseen_then false (g.F.Folder.modelled c.args.folder.now) (g.F.Folder.modelled c.loop-name.folder) (g.F.Folder.modelled c.sync_one.new.folder) (g.F.Folder.past c.args.folder.now) (g.F.Folder.past c.loop-name.folder) (g.F.Folder.past c.sync_one.new.folder) c.loop-name.invariant.2 c.in_ok-sync_one.ensures.unseen,
      c.in_ok-sync_one.ensures.sound,
      becomes_then KeepsNames KeepsNames KeepsNames (g.F.Folder.modelled c.args.folder.now) (g.F.Folder.modelled c.loop-name.folder) (g.F.Folder.modelled c.sync_one.new.folder) names_then c.loop-name.invariant.4 c.in_ok-sync_one.ensures.names,
    )

pub sync_one-requires-clause-locked : goal.sync_one-requires-clause-locked
sync_one-requires-clause-locked g c = c.loop-name.invariant.2.locked c.requires.locked

pub returns-in_err-sync_one-clause-failed : goal.returns-in_err-sync_one-clause-failed
returns-in_err-sync_one-clause-failed g c = on_err c.from_residual.result (unseen_then true (g.F.Folder.modelled c.args.folder.now) (g.F.Folder.modelled c.loop-name.folder) (g.F.Folder.modelled c.sync_one.new.folder) (g.F.Folder.past c.args.folder.now) (g.F.Folder.past c.loop-name.folder) (g.F.Folder.past c.sync_one.new.folder) c.loop-name.invariant.2 c.in_err-sync_one.ensures.failed)

pub returns-clause-done : goal.returns-clause-done
returns-clause-done g c = all_told_of (g.F.Folder.modelled c.loop-name.folder) c.args.names.now c.loop-name.name-index c.loop-name-test.false c.loop-name.invariant.0
