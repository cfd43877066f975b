use Rattle.folder_disk.proofs.Common.{◌≡◌, Bool, true, false, List, Option, Ok, Err, refl, sym, ◌∙◌, ap, subst, AFolder, System, with_node, Modelled, IfModelled, IsDoneOrNot, folder_text}
use Rattle.folder_disk.proofs.ChangedLemmas.{made_notes}
use Rattle.folder_disk.proofs.PlaceLemmas.{folder_spelled_is}
use Rattle.folder_disk.proofs.SystemLemmas.{made_folder, unmade_folder, made_there, sound_by}
use Rattle.folder_disk.proofs.UnseenLemmas.{unseen_same, unseen_kept, on_err}
use Rattle.folder_disk.proofs.folders.make_new_folder.Goals as goal

pub returns-in_err-path-clause-failed : goal.returns-in_err-path-clause-failed
returns-in_err-path-clause-failed g c = on_err c.from_residual.result (unseen_same true (g.F.Folder.modelled c.args.folder.now) (g.F.Folder.modelled c.args.folder.now) (g.F.Folder.past c.args.folder.now) (g.F.Folder.past c.args.folder.now) refl refl)

pub make_folder-requires-clause-spelled : goal.make_folder-requires-clause-spelled
make_folder-requires-clause-spelled g c =
    let value = c.as_str.ensures.value in
    let named = c.in_ok-path.ensures in
    let is : c.as_str.result.now ≡ folder_text c.args.name = cc in
    folder_spelled_is c.args.name c.as_str.result.now c.requires.below c.known_folder.ensures is

pub returns-in_err-make_folder-clause-failed : goal.returns-in_err-make_folder-clause-failed
returns-in_err-make_folder-clause-failed g c =
    let value = c.as_str.ensures.value in
    let named = c.in_ok-path.ensures in
    let is : c.as_str.result.now ≡ folder_text c.args.name = cc in
    on_err c.from_residual-in_err-make_folder.result (unmade_folder c.args.name c.as_str.result.now (g.F.Folder.modelled c.args.folder.now) (g.F.Folder.modelled c.make_folder.new.self) (g.F.Folder.past c.args.folder.now) (g.F.Folder.past c.make_folder.new.self) is c.known_folder.ensures c.requires.above c.requires.nothing c.in_err-make_folder.ensures.failed c.make_folder.ensures.passed)

pub returns-then-branch-clause-there : goal.returns-then-branch-clause-there
returns-then-branch-clause-there g c =
    let value = c.as_str.ensures.value in
    let named = c.in_ok-path.ensures in
    let is : c.as_str.result.now ≡ folder_text c.args.name = cc in
    let F : List _ → Type 0 = λ p. IfModelled (g.F.Folder.modelled c.make_folder.new.self) (λ s. s.node p ≡ AFolder) in
    subst F is (made_there c.as_str.result.now AFolder (g.F.Folder.modelled c.args.folder.now) (g.F.Folder.modelled c.make_folder.new.self) (c.in_ok-make_folder.ensures.made c.if-branch.true))

pub returns-then-branch-clause-unseen : goal.returns-then-branch-clause-unseen
returns-then-branch-clause-unseen g c =
    let value = c.as_str.ensures.value in
    let named = c.in_ok-path.ensures in
    let is : c.as_str.result.now ≡ folder_text c.args.name = cc in
    made_folder c.args.name c.as_str.result.now (g.F.Folder.modelled c.args.folder.now) (g.F.Folder.modelled c.make_folder.new.self) (g.F.Folder.past c.args.folder.now) (g.F.Folder.past c.make_folder.new.self) is c.known_folder.ensures c.requires.above c.requires.nothing (c.in_ok-make_folder.ensures.made c.if-branch.true) c.make_folder.ensures.passed

pub returns-then-branch-clause-sound : goal.returns-then-branch-clause-sound
returns-then-branch-clause-sound g c = sound_by (with_node c.as_str.result.now AFolder) (g.F.Folder.modelled c.args.folder.now) (g.F.Folder.modelled c.make_folder.new.self) (λ s. refl) (c.in_ok-make_folder.ensures.made c.if-branch.true) c.requires.sound

pub returns-clause-failed : goal.returns-clause-failed
returns-clause-failed g c = unseen_kept (g.F.Folder.modelled c.args.folder.now) (g.F.Folder.modelled c.make_folder.new.self) (g.F.Folder.past c.args.folder.now) (g.F.Folder.past c.make_folder.new.self) (c.in_ok-make_folder.ensures.kept c.if-branch.false) c.make_folder.ensures.passed

pub returns-then-branch-clause-names : goal.returns-then-branch-clause-names
returns-then-branch-clause-names g c =
    let value = c.as_str.ensures.value in
    let named = c.in_ok-path.ensures in
    let is : c.as_str.result.now ≡ folder_text c.args.name = cc in
    made_notes c.args.name c.upper.result c.as_str.result.now c.args.changed.now c.note.new.self c.note-2.new.self (g.F.Folder.modelled c.args.folder.now) (g.F.Folder.modelled c.make_folder.new.self) is c.upper.ensures c.known_folder.ensures
    c.note.ensures.keeps c.note.ensures.noted c.note-2.ensures.keeps c.note-2.ensures.noted (c.in_ok-make_folder.ensures.made c.if-branch.true)
