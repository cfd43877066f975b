use Rattle.std.proofs.Common.{◌≡◌, Option, IfSome, sym, subst}
use Rattle.std.specs.Arc.{arc_value}
use Rattle.folder_model.specs.System.{PlainFile}
use Rattle.folder_model.specs.Calls.{Modelled, IfSound, kind_of_node}
use Rattle.folder_kept.specs.Open.{IsKeptAt, IsOpenFor}
use Rattle.folder_kept.proofs.KeptLemmas.{kept_same, kept_among, kept_more, open_number, opened_stands}
use Rattle.folder_kept.proofs.kept.KeptFolderFolder.open.Goals as goal

pub returns-in-Some-clause-file : goal.returns-in-Some-clause-file
returns-in-Some-clause-file g c =
    let self = c.args.self.now in
    let F : Option _ → Type 0 = λ found. IfSome found (λ kept. IsKeptAt c.args.path.now (arc_value kept.file) self.files.files.items) in
    open_number g.F.Folder.number (g.F.Folder.modelled self.folder) c.args.path.now (arc_value c.in-Some.file.file) self.files.files.items self.kept (subst F c.in-Some.is c.in_ok-file.ensures.found)

pub invariant_of-self : goal.invariant_of-self
invariant_of-self g c =
    let self = c.args.self.now in
    let old = g.F.Folder.modelled self.folder in
    let files = c.close_synced.new.self.files.items in
    record { kept = kept_same g.F.Folder.number old (g.F.Folder.modelled c.look.new.self) files c.look.ensures.same (kept_among g.F.Folder.number old self.files.files.items files c.close_synced.ensures.same self.kept) }

pub invariant_of-self-in-Break-branch-5 : goal.invariant_of-self-in-Break-branch-5
invariant_of-self-in-Break-branch-5 g c =
    let self = c.args.self.now in
    let old = g.F.Folder.modelled self.folder in
    let mid = g.F.Folder.modelled c.look.new.self in
    let files = c.close_synced.new.self.files.items in
    record {
      kept = kept_same g.F.Folder.number mid (g.F.Folder.modelled c.open.new.self) files c.open.ensures.same
          (kept_same g.F.Folder.number old mid files c.look.ensures.same (kept_among g.F.Folder.number old self.files.files.items files c.close_synced.ensures.same self.kept));
    }

pub invariant_of-self-in-File : goal.invariant_of-self-in-File
invariant_of-self-in-File g c =
    let self = c.args.self.now in
    let number = g.F.Folder.number in
    let old = g.F.Folder.modelled self.folder in
    let mid = g.F.Folder.modelled c.look.new.self in
    let new = g.F.Folder.modelled c.open.new.self in
    let files = c.close_synced.new.self.files.items in
    let path = c.args.path.now in
    let file = c.in_ok-file-in-File.file in
    let F : Option Modelled → Type 0 = λ m. IfSound m (λ s. c.in_ok-look.field-0 ≡ kind_of_node (s.node path)) in
    let G : Option Modelled → Type 0 = λ m. IfSound m (λ s. s.node path ≡ PlainFile (number file)) in
    let stands = opened_stands number mid path c.in_ok-look.field-0 file c.in-File.is (subst F (sym c.look.ensures.same) c.in_ok-look.ensures.kind) c.in_ok-file-in-File.ensures.file in
    record {
      kept = kept_more number new path file files c.keep.new.self.files.items c.keep.ensures.more (subst G (sym c.open.ensures.same) stands)
          (kept_same number mid new files c.open.ensures.same
          (kept_same number old mid files c.look.ensures.same (kept_among number old self.files.files.items files c.close_synced.ensures.same self.kept)));
    }

pub invariant_of-self-in_default-2 : goal.invariant_of-self-in_default-2
invariant_of-self-in_default-2 g c =
    let self = c.args.self.now in
    let old = g.F.Folder.modelled self.folder in
    let files = c.close_synced.new.self.files.items in
    record { kept = kept_same g.F.Folder.number old (g.F.Folder.modelled c.look.new.self) files c.look.ensures.same (kept_among g.F.Folder.number old self.files.files.items files c.close_synced.ensures.same self.kept) }

pub returns-in-Some-clause-writable : goal.returns-in-Some-clause-writable
returns-in-Some-clause-writable g c =
    let F : Option _ → Type 0 = λ found. IfSome found (λ kept. IsOpenFor c.args.path.now c.args.to_write kept c.args.self.now.files.files.items) in
    subst F c.in-Some.is c.in_ok-file.ensures.writable
