-- A path tells its file.
use Rattle.std.specs.Prelude.{◌≡◌}
use Rattle.disk_model.specs.declared.name.FileName.{FileName}
use Rattle.file_paths.specs.Paths.{path_text, IsStoreFile}

-- no two files of a store have one path
abbrev pub HaveOwnPaths : Type 0
HaveOwnPaths = (a b : FileName) → IsStoreFile a → IsStoreFile b → path_text a ≡ path_text b → a ≡ b
