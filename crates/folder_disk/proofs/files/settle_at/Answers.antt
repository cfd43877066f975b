use Rattle.folder_disk.proofs.Common.{◌≡◌, Some, None, Bool, true, false, List, Option, Ok, Err, refl, sym, ◌∙◌, ap, subst, with_synced_file, Modelled, IfModelled, IsOpenedAt, IsSoundSystem}
use Rattle.folder_disk.proofs.SettleLemmas.{settled_unseen, settled_durable, none_durable}
use Rattle.folder_disk.proofs.SystemLemmas.{sound_by, unsynced_unseen}
use Rattle.folder_disk.proofs.UnseenLemmas.{unseen_same, unseen_then, on_err, on_ok_map, on_err_map}
use Rattle.folder_disk.proofs.files.settle_at.Goals as goal

pub returns-in_err-file-clause-failed : goal.returns-in_err-file-clause-failed
returns-in_err-file-clause-failed g c = on_err c.from_residual.result (unseen_same true (g.F.Folder.modelled c.args.folder.now) (g.F.Folder.modelled c.open_at.new.folder) (g.F.Folder.past c.args.folder.now) (g.F.Folder.past c.open_at.new.folder) c.open_at.ensures.same c.open_at.ensures.still)

pub returns-clause-unseen : goal.returns-clause-unseen
returns-clause-unseen g c = on_ok_map c.sync.result (λ e. unseen_then false (g.F.Folder.modelled c.args.folder.now) (g.F.Folder.modelled c.open_at.new.folder) (g.F.Folder.modelled c.sync.new.self) (g.F.Folder.past c.args.folder.now) (g.F.Folder.past c.open_at.new.folder) (g.F.Folder.past c.sync.new.self) (unseen_same false (g.F.Folder.modelled c.args.folder.now) (g.F.Folder.modelled c.open_at.new.folder) (g.F.Folder.past c.args.folder.now) (g.F.Folder.past c.open_at.new.folder) c.open_at.ensures.same c.open_at.ensures.still) (settled_unseen (g.F.Folder.number c.in-Some.file) (g.F.Folder.modelled c.open_at.new.folder) (g.F.Folder.modelled c.sync.new.self) (g.F.Folder.past c.open_at.new.folder) (g.F.Folder.past c.sync.new.self) (g.met.F.Folder.is_system c.open_at.new.folder) e c.sync.ensures.passed)) c.sync.ensures.synced

pub returns-clause-failed : goal.returns-clause-failed
returns-clause-failed g c = on_err_map c.sync.result (λ e. unseen_then true (g.F.Folder.modelled c.args.folder.now) (g.F.Folder.modelled c.open_at.new.folder) (g.F.Folder.modelled c.sync.new.self) (g.F.Folder.past c.args.folder.now) (g.F.Folder.past c.open_at.new.folder) (g.F.Folder.past c.sync.new.self) (unseen_same false (g.F.Folder.modelled c.args.folder.now) (g.F.Folder.modelled c.open_at.new.folder) (g.F.Folder.past c.args.folder.now) (g.F.Folder.past c.open_at.new.folder) c.open_at.ensures.same c.open_at.ensures.still) (unsynced_unseen (g.F.Folder.modelled c.open_at.new.folder) (g.F.Folder.modelled c.sync.new.self) (g.F.Folder.past c.open_at.new.folder) (g.F.Folder.past c.sync.new.self) e c.sync.ensures.passed)) c.sync.ensures.failed

pub returns-clause-durable : goal.returns-clause-durable
returns-clause-durable g c =
    let old = g.F.Folder.modelled c.args.folder.now in
    let mid = g.F.Folder.modelled c.open_at.new.folder in
    let path = c.args.path.now in
    let F : Option _ → Type 0 = λ found. IfModelled old (λ s. IsOpenedAt g.F.Folder.number found (s.node path)) in
    let G : Option Modelled → Type 0 = λ m. IfModelled m (λ s. IsOpenedAt g.F.Folder.number (Some c.in-Some.file) (s.node path)) in
    let stands = subst G (sym c.open_at.ensures.same) (subst F c.in-Some.is c.in_ok-file.ensures.found) in
    let sound = subst IsSoundSystem (sym c.open_at.ensures.same) c.requires.sound in
    on_ok_map c.sync.result (λ e. settled_durable path (g.F.Folder.number c.in-Some.file) mid (g.F.Folder.modelled c.sync.new.self) sound stands e) c.sync.ensures.synced
