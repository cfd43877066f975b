use Rattle.folder_disk.proofs.Common.{◌≡◌, Bool, true, false, ℕ, List, [], ◌∷◌, ◌++◌, Option, Ok, Err, map, string_bytes, refl, sym, ◌∙◌, ap, subst}
use Rattle.folder_disk.proofs.FileLemmas.{by_sound, path_is}
use Rattle.folder_disk.proofs.NamesLemmas.{adds_none, adds_named, no_plain_file}
use Rattle.folder_disk.proofs.PlaceLemmas.{file_path_is}
use Rattle.folder_disk.proofs.UnseenLemmas.{on_ok_map}
use Rattle.folder_disk.proofs.names.add_named.Goals as goal

pub look-requires-clause-spelled : goal.look-requires-clause-spelled
look-requires-clause-spelled g c = file_path_is c.args.name c.args.path.now c.requires.file c.requires.named

pub returns-in-File-clause-added : goal.returns-in-File-clause-added
returns-in-File-clause-added g c =
    let found = by_sound _ (g.F.Folder.modelled c.args.folder.now) c.requires.sound c.in_ok-look.ensures.kind in
    on_ok_map c.insert.result (λ updates. adds_named (g.F.Folder.modelled c.args.folder.now) c.in_ok-look.field-0 c.args.path.now c.args.name c.args.names.now c.insert.new.names c.in-File.is found c.requires.file c.requires.named updates) c.insert.ensures

pub returns-in_default-clause-added : goal.returns-in_default-clause-added
returns-in_default-clause-added g c =
    let found = by_sound _ (g.F.Folder.modelled c.args.folder.now) c.requires.sound c.in_ok-look.ensures.kind in
    adds_none (λ p. p ≡ c.args.path.now) (g.F.Folder.modelled c.args.folder.now) c.args.names.now (no_plain_file (g.F.Folder.modelled c.args.folder.now) c.args.path.now c.in_ok-look.field-0 found c.in_default.not-File)
