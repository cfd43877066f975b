-- The paths of a store's files in its folder.
use Rattle.std.specs.Prelude.{◌≡◌, ℕ, List, ◌++◌, length, codes}
use Rattle.disk_model.specs.declared.name.FileName.{FileName}
use Rattle.disk_model.specs.declared.name.FileName.TheVariants as file
use Rattle.mdbox_base.specs.Numbers.{decimal_text}
use Rattle.mdbox_base.specs.Words.{IsOctets, IsNumber}
use Rattle.model_storage.specs.References.{instance_path}

-- The path of a file. Numbers are decimal; an instance stands under the first two octets of its hash, as in Dovecot's
-- attachment storage.
abbrev pub path_text : FileName → List ℕ
path_text file.Root = codes "storage/root.log"
path_text (file.Map generation) = codes "storage/map." ++ (decimal_text generation ++ codes ".log")
path_text (file.Box number generation) = codes "mailboxes/b." ++ (decimal_text number ++ (codes "." ++ (decimal_text generation ++ codes ".log")))
path_text (file.Mail number) = codes "storage/m." ++ decimal_text number
path_text (file.Inst hash id) = codes "attachments/" ++ instance_path (record { 0 = hash }) (record { 0 = id })

-- A file of a store: its numbers are from 1 to 4,294,967,294, its hash has 20 octets and its id 16.
abbrev pub IsStoreFile : FileName → Type 0
IsStoreFile file.Root = Unit {0}
IsStoreFile (file.Map generation) = IsNumber generation
IsStoreFile (file.Box number generation) = IsNumber number × IsNumber generation
IsStoreFile (file.Mail number) = IsNumber number
IsStoreFile (file.Inst hash id) = (length hash ≡ 20) × IsOctets hash × (length id ≡ 16) × IsOctets id
