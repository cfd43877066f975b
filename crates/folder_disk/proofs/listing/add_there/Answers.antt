use Rattle.folder_disk.proofs.Common.{◌≡◌, Bool, true, false, List, [], ◌∷◌, ◌++◌, Option, Ok, Err, Contains, refl, sym, ◌∙◌, ap, subst, KeepsAll, FolderName}
use Rattle.folder_disk.proofs.ListingLemmas.{keeps_more, has_last, added_told}
use Rattle.folder_disk.proofs.UnseenLemmas.{on_ok_map}
use Rattle.folder_disk.proofs.listing.add_there.Goals as goal

pub returns-in-Folder-clause-there : goal.returns-in-Folder-clause-there
returns-in-Folder-clause-there g c =
    let F : List FolderName → Type 0 = λ l. Contains l c.args.name in
    on_ok_map c.add.result (λ e. added_told (g.F.Folder.modelled c.args.folder.now) c.args.name c.in_ok-kind_of.field-0 c.add.new.list.items c.in_ok-kind_of.ensures.kind (λ is. subst F (sym e) (has_last c.args.names.now.items c.args.name))) c.add.ensures

pub returns-in-Folder-clause-keeps : goal.returns-in-Folder-clause-keeps
returns-in-Folder-clause-keeps g c =
    let F : List FolderName → Type 0 = KeepsAll c.args.names.now.items in
    on_ok_map c.add.result (λ e. subst F (sym e) (keeps_more c.args.names.now.items c.args.name)) c.add.ensures

pub returns-in_default-clause-there : goal.returns-in_default-clause-there
returns-in_default-clause-there g c = added_told (g.F.Folder.modelled c.args.folder.now) c.args.name c.in_ok-kind_of.field-0 c.args.names.now.items c.in_ok-kind_of.ensures.kind (λ is. absurd (c.in_default.not-Folder is))

pub returns-in_default-clause-keeps : goal.returns-in_default-clause-keeps
returns-in_default-clause-keeps g c = λ name has. has
