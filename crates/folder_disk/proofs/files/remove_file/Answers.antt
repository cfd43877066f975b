use Rattle.folder_disk.proofs.Common.{◌≡◌, Bool, true, false, List, Option, Ok, Err, refl, sym, ◌∙◌, ap, subst, Nothing, AFolder, with_node, Modelled, Becomes, ChangesName}
use Rattle.disk_record.specs.declared.change.Change.TheVariants.{Removed, HalfRemoved}
use Rattle.folder_disk.proofs.ChangedLemmas.{becomes_done, put_changes}
use Rattle.folder_disk.proofs.FileLemmas.{by_sound}
use Rattle.folder_disk.proofs.SystemLemmas.{file_found, no_file_found}
use Rattle.folder_disk.proofs.SeenLemmas.{half_same, seen_then, removed_seen, unremoved_seen, none_seen}
use Rattle.folder_disk.proofs.UnseenLemmas.{unseen_same, on_err, on_ok_map, on_err_map}
use Rattle.folder_disk.proofs.files.remove_file.Goals as goal

pub returns-in_err-look-clause-err : goal.returns-in_err-look-clause-err
returns-in_err-look-clause-err g c = on_err c.from_residual.result (half_same (HalfRemoved c.args.name) (g.F.Folder.modelled c.args.folder.now) (g.F.Folder.modelled c.look.new.self) (g.F.Folder.past c.args.folder.now) (g.F.Folder.past c.look.new.self) tt c.look.ensures.same c.look.ensures.still)

pub returns-in_default-clause-ok : goal.returns-in_default-clause-ok
returns-in_default-clause-ok g c =
    let found = by_sound _ (g.F.Folder.modelled c.args.folder.now) c.requires.sound c.in_ok-look.ensures.kind in
    none_seen c.args.name c.args.path.now (g.F.Folder.modelled c.args.folder.now) (g.F.Folder.modelled c.look.new.self) (g.F.Folder.past c.args.folder.now) (g.F.Folder.past c.look.new.self) c.requires.file c.requires.named (no_file_found c.args.path.now c.in_ok-look.field-0 (g.F.Folder.modelled c.args.folder.now) c.in_default.not-File found) c.look.ensures.same c.look.ensures.still

pub returns-in_err-remove-in-File-clause-err : goal.returns-in_err-remove-in-File-clause-err
returns-in_err-remove-in-File-clause-err g c =
    let found = by_sound _ (g.F.Folder.modelled c.args.folder.now) c.requires.sound c.in_ok-look.ensures.kind in
    let stands = file_found c.args.path.now c.in_ok-look.field-0 (g.F.Folder.modelled c.args.folder.now) (g.F.Folder.modelled c.look.new.self) c.look.ensures.same c.in-File.is found in
    on_err c.from_residual-in_err-remove-in-File.result (seen_then (HalfRemoved c.args.name) true (g.F.Folder.modelled c.args.folder.now) (g.F.Folder.modelled c.look.new.self) (g.F.Folder.modelled c.remove.new.self) (g.F.Folder.past c.args.folder.now) (g.F.Folder.past c.look.new.self) (g.F.Folder.past c.remove.new.self) (unseen_same false (g.F.Folder.modelled c.args.folder.now) (g.F.Folder.modelled c.look.new.self) (g.F.Folder.past c.args.folder.now) (g.F.Folder.past c.look.new.self) c.look.ensures.same c.look.ensures.still)
    (unremoved_seen c.args.name c.args.path.now (g.F.Folder.modelled c.look.new.self) (g.F.Folder.modelled c.remove.new.self) (g.F.Folder.past c.look.new.self) (g.F.Folder.past c.remove.new.self) c.requires.file c.requires.named stands c.in_err-remove-in-File.ensures.failed c.remove.ensures.passed))

pub returns-in_ok-remove-in-File-clause-ok : goal.returns-in_ok-remove-in-File-clause-ok
returns-in_ok-remove-in-File-clause-ok g c =
    let found = by_sound _ (g.F.Folder.modelled c.args.folder.now) c.requires.sound c.in_ok-look.ensures.kind in
    let stands = file_found c.args.path.now c.in_ok-look.field-0 (g.F.Folder.modelled c.args.folder.now) (g.F.Folder.modelled c.look.new.self) c.look.ensures.same c.in-File.is found in
    seen_then (Removed c.args.name) false (g.F.Folder.modelled c.args.folder.now) (g.F.Folder.modelled c.look.new.self) (g.F.Folder.modelled c.remove.new.self) (g.F.Folder.past c.args.folder.now) (g.F.Folder.past c.look.new.self) (g.F.Folder.past c.remove.new.self) (unseen_same false (g.F.Folder.modelled c.args.folder.now) (g.F.Folder.modelled c.look.new.self) (g.F.Folder.past c.args.folder.now) (g.F.Folder.past c.look.new.self) c.look.ensures.same c.look.ensures.still)
    (removed_seen c.args.name c.args.path.now (g.F.Folder.modelled c.look.new.self) (g.F.Folder.modelled c.remove.new.self) (g.F.Folder.past c.look.new.self) (g.F.Folder.past c.remove.new.self) c.requires.file c.requires.named stands c.in_ok-remove-in-File.ensures.removed c.remove.ensures.passed)

pub returns-in_ok-remove-in-File-clause-names : goal.returns-in_ok-remove-in-File-clause-names
returns-in_ok-remove-in-File-clause-names g c e =
    let path = c.args.path.now in
    let F : Option Modelled → Type 0 = λ m. Becomes (ChangesName path) m (g.F.Folder.modelled c.remove.new.self) in
    subst F c.look.ensures.same (becomes_done (ChangesName path) (with_node path Nothing) (g.F.Folder.modelled c.look.new.self) (g.F.Folder.modelled c.remove.new.self)
    (λ s. put_changes path Nothing s (λ f. let d : Nothing ≡ AFolder = f in cc)) c.in_ok-remove-in-File.ensures.removed)
