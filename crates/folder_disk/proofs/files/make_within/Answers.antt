use Rattle.folder_disk.proofs.Common.{◌≡◌, Bool, true, false, List, Option, Ok, Err, refl, sym, ◌∙◌, ap, subst, System, IsSystem, Modelled, IfModelled, Becomes, folder_text, folder_for, IsSyncedFolder, with_new_file, ChangesName}
use Rattle.disk_record.specs.declared.change.Change.TheVariants.{Made, HalfMade}
use Rattle.folder_disk.proofs.ChangedLemmas.{becomes_done, new_changes}
use Rattle.folder_disk.proofs.FileLemmas.{by_sound}
use Rattle.folder_disk.proofs.SystemLemmas.{nothing_found}
use Rattle.folder_disk.proofs.SeenLemmas.{half_same, seen_then, emptied_seen, unemptied_seen, made_seen, unmade_seen}
use Rattle.folder_disk.proofs.UnseenLemmas.{unseen_same, on_err, on_ok_map, on_err_map}
use Rattle.folder_disk.proofs.files.make_within.Goals as goal

pub returns-in_err-look-clause-err : goal.returns-in_err-look-clause-err
returns-in_err-look-clause-err g c = on_err c.from_residual.result (half_same (HalfMade c.args.name) (g.F.Folder.modelled c.args.folder.now) (g.F.Folder.modelled c.look.new.self) (g.F.Folder.past c.args.folder.now) (g.F.Folder.past c.look.new.self) tt c.look.ensures.same c.look.ensures.still)

pub returns-in_default-clause-err : goal.returns-in_default-clause-err
returns-in_default-clause-err g c = half_same (HalfMade c.args.name) (g.F.Folder.modelled c.args.folder.now) (g.F.Folder.modelled c.look.new.self) (g.F.Folder.past c.args.folder.now) (g.F.Folder.past c.look.new.self) tt c.look.ensures.same c.look.ensures.still

pub returns-in-File-clause-ok : goal.returns-in-File-clause-ok
returns-in-File-clause-ok g c =
    on_ok_map c.cut_at.result (λ e. seen_then (Made c.args.name) false (g.F.Folder.modelled c.args.folder.now) (g.F.Folder.modelled c.look.new.self) (g.F.Folder.modelled c.cut_at.new.folder) (g.F.Folder.past c.args.folder.now) (g.F.Folder.past c.look.new.self) (g.F.Folder.past c.cut_at.new.folder) (unseen_same false (g.F.Folder.modelled c.args.folder.now) (g.F.Folder.modelled c.look.new.self) (g.F.Folder.past c.args.folder.now) (g.F.Folder.past c.look.new.self) c.look.ensures.same c.look.ensures.still)
    (emptied_seen c.args.name c.args.path.now (g.F.Folder.modelled c.look.new.self) (g.F.Folder.modelled c.cut_at.new.folder) (g.F.Folder.past c.look.new.self) (g.F.Folder.past c.cut_at.new.folder) c.requires.file c.requires.named e c.cut_at.ensures.passed)) c.cut_at.ensures.ok

pub returns-in-File-clause-err : goal.returns-in-File-clause-err
returns-in-File-clause-err g c =
    on_err_map c.cut_at.result (λ e. seen_then (HalfMade c.args.name) true (g.F.Folder.modelled c.args.folder.now) (g.F.Folder.modelled c.look.new.self) (g.F.Folder.modelled c.cut_at.new.folder) (g.F.Folder.past c.args.folder.now) (g.F.Folder.past c.look.new.self) (g.F.Folder.past c.cut_at.new.folder) (unseen_same false (g.F.Folder.modelled c.args.folder.now) (g.F.Folder.modelled c.look.new.self) (g.F.Folder.past c.args.folder.now) (g.F.Folder.past c.look.new.self) c.look.ensures.same c.look.ensures.still)
    (unemptied_seen c.args.name c.args.path.now (g.F.Folder.modelled c.look.new.self) (g.F.Folder.modelled c.cut_at.new.folder) (g.F.Folder.past c.look.new.self) (g.F.Folder.past c.cut_at.new.folder) c.requires.file c.requires.named e c.cut_at.ensures.passed)) c.cut_at.ensures.err

pub returns-in_ok-_file-in-Nothing-clause-ok : goal.returns-in_ok-_file-in-Nothing-clause-ok
returns-in_ok-_file-in-Nothing-clause-ok g c =
    let F : Option Modelled → Type 0 = λ m. IfModelled m (λ s. IsSyncedFolder s (folder_text (folder_for c.args.name))) in
    let found = by_sound _ (g.F.Folder.modelled c.args.folder.now) c.requires.sound c.in_ok-look.ensures.kind in
    let nothing = nothing_found c.args.path.now c.in_ok-look.field-0 (g.F.Folder.modelled c.args.folder.now) (g.F.Folder.modelled c.look.new.self) c.look.ensures.same c.in-Nothing.is found in
    seen_then (Made c.args.name) false (g.F.Folder.modelled c.args.folder.now) (g.F.Folder.modelled c.look.new.self) (g.F.Folder.modelled c.make_new.new.self) (g.F.Folder.past c.args.folder.now) (g.F.Folder.past c.look.new.self) (g.F.Folder.past c.make_new.new.self) (unseen_same false (g.F.Folder.modelled c.args.folder.now) (g.F.Folder.modelled c.look.new.self) (g.F.Folder.past c.args.folder.now) (g.F.Folder.past c.look.new.self) c.look.ensures.same c.look.ensures.still)
    (made_seen c.args.name c.args.path.now (g.F.Folder.modelled c.look.new.self) (g.F.Folder.modelled c.make_new.new.self) (g.F.Folder.past c.look.new.self) (g.F.Folder.past c.make_new.new.self) c.requires.file c.requires.named (g.met.F.Folder.is_system c.look.new.self) nothing (subst F (sym c.look.ensures.same) c.requires.synced) c.in_ok-_file-in-Nothing.ensures.made c.make_new.ensures.passed)

pub returns-in_err-_file-in-Nothing-clause-err : goal.returns-in_err-_file-in-Nothing-clause-err
returns-in_err-_file-in-Nothing-clause-err g c =
    let F : Option Modelled → Type 0 = λ m. IfModelled m (λ s. IsSyncedFolder s (folder_text (folder_for c.args.name))) in
    let found = by_sound _ (g.F.Folder.modelled c.args.folder.now) c.requires.sound c.in_ok-look.ensures.kind in
    let nothing = nothing_found c.args.path.now c.in_ok-look.field-0 (g.F.Folder.modelled c.args.folder.now) (g.F.Folder.modelled c.look.new.self) c.look.ensures.same c.in-Nothing.is found in
    on_err c.from_residual-in_err-_file-in-Nothing.result
    (seen_then (HalfMade c.args.name) true (g.F.Folder.modelled c.args.folder.now) (g.F.Folder.modelled c.look.new.self) (g.F.Folder.modelled c.make_new.new.self) (g.F.Folder.past c.args.folder.now) (g.F.Folder.past c.look.new.self) (g.F.Folder.past c.make_new.new.self) (unseen_same false (g.F.Folder.modelled c.args.folder.now) (g.F.Folder.modelled c.look.new.self) (g.F.Folder.past c.args.folder.now) (g.F.Folder.past c.look.new.self) c.look.ensures.same c.look.ensures.still)
    (unmade_seen c.args.name c.args.path.now (g.F.Folder.modelled c.look.new.self) (g.F.Folder.modelled c.make_new.new.self) (g.F.Folder.past c.look.new.self) (g.F.Folder.past c.make_new.new.self) c.requires.file c.requires.named (g.met.F.Folder.is_system c.look.new.self) nothing (subst F (sym c.look.ensures.same) c.requires.synced) c.in_err-_file-in-Nothing.ensures.failed c.make_new.ensures.passed))

pub returns-in_ok-_file-in-Nothing-clause-names : goal.returns-in_ok-_file-in-Nothing-clause-names
returns-in_ok-_file-in-Nothing-clause-names g c =
    let path = c.args.path.now in
    let F : Option Modelled → Type 0 = λ m. Becomes (ChangesName path) m (g.F.Folder.modelled c.make_new.new.self) in
    subst F c.look.ensures.same (becomes_done (ChangesName path) (with_new_file path) (g.F.Folder.modelled c.look.new.self) (g.F.Folder.modelled c.make_new.new.self) (new_changes path) c.in_ok-_file-in-Nothing.ensures.made)
