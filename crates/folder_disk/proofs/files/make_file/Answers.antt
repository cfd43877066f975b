use Rattle.folder_disk.proofs.Common.{◌≡◌, Bool, true, false, List, Option, Ok, Err, refl, sym, ◌∙◌, ap, subst, folder_text, IsToSync}
use Rattle.disk_record.specs.declared.change.Change.TheVariants.{Made, HalfMade}
use Rattle.folder_disk.proofs.ChangedLemmas.{file_notes}
use Rattle.folder_disk.proofs.SeenLemmas.{half_seen, seen_then}
use Rattle.folder_disk.proofs.UnseenLemmas.{unseen_then, on_err, on_ok_map, on_err_map}
use Rattle.folder_disk.proofs.files.make_file.Goals as goal

pub returns-in_err-make_way-clause-err : goal.returns-in_err-make_way-clause-err
returns-in_err-make_way-clause-err g c = on_err c.from_residual.result (half_seen (HalfMade c.args.name) true (g.F.Folder.modelled c.args.folder.now) (g.F.Folder.modelled c.make_way.new.folder) (g.F.Folder.past c.args.folder.now) (g.F.Folder.past c.make_way.new.folder) tt c.in_err-make_way.ensures.failed)

pub returns-in_err-sync_one-clause-err : goal.returns-in_err-sync_one-clause-err
returns-in_err-sync_one-clause-err g c = on_err c.from_residual-in_err-sync_one.result (half_seen (HalfMade c.args.name) true (g.F.Folder.modelled c.args.folder.now) (g.F.Folder.modelled c.sync_one.new.folder) (g.F.Folder.past c.args.folder.now) (g.F.Folder.past c.sync_one.new.folder) tt (unseen_then true (g.F.Folder.modelled c.args.folder.now) (g.F.Folder.modelled c.make_way.new.folder) (g.F.Folder.modelled c.sync_one.new.folder) (g.F.Folder.past c.args.folder.now) (g.F.Folder.past c.make_way.new.folder) (g.F.Folder.past c.sync_one.new.folder) c.in_ok-make_way.ensures.unseen c.in_err-sync_one.ensures.failed))

pub returns-clause-ok : goal.returns-clause-ok
returns-clause-ok g c = on_ok_map c.make_within.result (λ e. seen_then (Made c.args.name) false (g.F.Folder.modelled c.args.folder.now) (g.F.Folder.modelled c.sync_one.new.folder) (g.F.Folder.modelled c.make_within.new.folder) (g.F.Folder.past c.args.folder.now) (g.F.Folder.past c.sync_one.new.folder) (g.F.Folder.past c.make_within.new.folder) (unseen_then false (g.F.Folder.modelled c.args.folder.now) (g.F.Folder.modelled c.make_way.new.folder) (g.F.Folder.modelled c.sync_one.new.folder) (g.F.Folder.past c.args.folder.now) (g.F.Folder.past c.make_way.new.folder) (g.F.Folder.past c.sync_one.new.folder) c.in_ok-make_way.ensures.unseen c.in_ok-sync_one.ensures.unseen) e) c.make_within.ensures.ok

pub returns-clause-err : goal.returns-clause-err
returns-clause-err g c = on_err_map c.make_within.result (λ e. seen_then (HalfMade c.args.name) true (g.F.Folder.modelled c.args.folder.now) (g.F.Folder.modelled c.sync_one.new.folder) (g.F.Folder.modelled c.make_within.new.folder) (g.F.Folder.past c.args.folder.now) (g.F.Folder.past c.sync_one.new.folder) (g.F.Folder.past c.make_within.new.folder) (unseen_then false (g.F.Folder.modelled c.args.folder.now) (g.F.Folder.modelled c.make_way.new.folder) (g.F.Folder.modelled c.sync_one.new.folder) (g.F.Folder.past c.args.folder.now) (g.F.Folder.past c.make_way.new.folder) (g.F.Folder.past c.sync_one.new.folder) c.in_ok-make_way.ensures.unseen c.in_ok-sync_one.ensures.unseen) e) c.make_within.ensures.err

pub returns-clause-names : goal.returns-clause-names
returns-clause-names g c =
    let old = c.args.changed.now in
    let mid = c.make_way.new.changed in
    let new = c.note.new.self in
    let noted : IsToSync new (folder_text c.of-within.result) = c.note.ensures.noted in
    let F : _ → Type 0 = λ within. IsToSync new (folder_text within) in
    on_ok_map c.make_within.result (λ e. file_notes c.args.name c.args.path.now old mid new (g.F.Folder.modelled c.args.folder.now) (g.F.Folder.modelled c.make_way.new.folder) (g.F.Folder.modelled c.sync_one.new.folder) (g.F.Folder.modelled c.make_within.new.folder)
    c.requires.file c.requires.named c.in_ok-make_way.ensures.names c.in_ok-sync_one.ensures.names c.note.ensures.keeps (subst F c.of-within.ensures noted) e) c.make_within.ensures.names
