use Rattle.folder_disk.proofs.Common.{◌≡◌, string_bytes, path_text, IsStoreFile}
use Rattle.std.proofs.Common.{rules}
use Rattle.folder_disk.proofs.FileLemmas.{path_is}
use Rattle.folder_disk.proofs.paths.path_of.Goals as goal

pub returns-in-Ok-clause-spelled : goal.returns-in-Ok-clause-spelled
returns-in-Ok-clause-spelled c =
    let is : IsStoreFile c.args.name × (string_bytes c.in-Ok.path ≡ path_text c.args.name) = search rules in
    path_is c.args.name (string_bytes c.in-Ok.path) is.0 is.1
