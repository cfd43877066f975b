use Rattle.folder_disk.proofs.Common.{◌≡◌, Bool, true, false, List, Option, Ok, Err, refl, sym, ◌∙◌, ap, subst, folder_text}
use Rattle.folder_disk.proofs.PlaceLemmas.{folder_path_is}
use Rattle.folder_disk.proofs.folders.kind_of.Goals as goal

pub look-requires-clause-spelled : goal.look-requires-clause-spelled
look-requires-clause-spelled g c =
    let value = c.as_str.ensures.value in
    let named = c.in_ok-path.ensures in
    let is : c.as_str.result.now ≡ folder_text c.args.name = cc in
    folder_path_is c.args.name c.as_str.result.now c.known_folder.ensures is
