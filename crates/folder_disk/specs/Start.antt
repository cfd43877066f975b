-- The state of a disk as its process begins, by the system under it.
use Rattle.std.specs.Prelude.{ℕ, zero, suc, ◌==◌, ◌&&◌, ◌||◌, not, nat_le, nat_lt, Bool, true, false, if◌then◌else◌, List, [], ◌∷◌, length, Option, Some, None, codes}
use Rattle.std.specs.List.{list_all}
use Rattle.disk_model.specs.Disk.{FileState, DiskState, no_file}
use Rattle.disk_model.specs.Name.{same_octets}
use Rattle.disk_model.specs.declared.name.FileName.{FileName}
use Rattle.disk_model.specs.declared.name.FileName.TheVariants as file
use Rattle.file_paths.specs.Paths.{path_text}
use Rattle.folder_model.specs.Paths.{folder_at}
use Rattle.folder_model.specs.System.{Node, Nothing, PlainFile, AFolder, Another, System}

-- tests of a name: its numbers are those of a store's file, and so are its octets
abbrev pub is_file_number : ℕ → Bool
is_file_number n = nat_le 1 n && nat_le n 4294967294

abbrev pub are_so_many_octets : ℕ → List ℕ → Bool
are_so_many_octets count octets = (length octets == count) && list_all (λ octet. nat_lt octet 256) octets

abbrev pub is_store_file : FileName → Bool
is_store_file file.Root = true
is_store_file (file.Map generation) = is_file_number generation
is_store_file (file.Box number generation) = is_file_number number && is_file_number generation
is_store_file (file.Mail number) = is_file_number number
is_store_file (file.Inst hash id) = are_so_many_octets 20 hash && are_so_many_octets 16 id

abbrev pub is_plain : Node → Bool
is_plain Nothing = false
is_plain (PlainFile number) = true
is_plain AFolder = false
is_plain Another = false

abbrev pub is_folder : Node → Bool
is_folder Nothing = false
is_folder (PlainFile number) = false
is_folder AFolder = true
is_folder Another = false

abbrev pub has_none : {A : Type 0} → List A → Bool
has_none [] = true
has_none (x ∷ xs) = false

-- whether a crash leaves this folder, and those above it, so many at most
abbrev pub keeps_folder : ℕ → System → List ℕ → Bool
keeps_folder zero s path = same_octets path (codes ".")
keeps_folder (suc above) s path =
    same_octets path (codes ".") || (is_folder (s.node path) && (has_none (s.earlier path) && keeps_folder above s (folder_at path)))

-- the first plain file of these
abbrev pub first_file : List Node → Option ℕ
first_file [] = None
first_file (Nothing ∷ nodes) = first_file nodes
first_file (PlainFile number ∷ nodes) = Some number
first_file (AFolder ∷ nodes) = first_file nodes
first_file (Another ∷ nodes) = first_file nodes

-- whether a crash may leave another thing at a path, or take its folder away
abbrev pub is_loose_path : System → List ℕ → Bool
is_loose_path s path = not (has_none (s.earlier path) && (not (is_plain (s.node path)) || keeps_folder 4 s (folder_at path)))

-- a file with this content, or none
abbrev pub started : System → Bool → Bool → Option ℕ → FileState
started s is_there is_loose None = record no_file { is_name_loose = is_loose }
started s is_there is_loose (Some number) = record (s.content number) { is_there = is_there; is_name_loose = is_loose }

-- The file that stands at a path or may stand there after a crash, as long as it may be and with as many loose octets.
abbrev pub started_at : System → List ℕ → FileState
started_at s path = started s (is_plain (s.node path)) (is_loose_path s path) (first_file (s.node path ∷ s.earlier path))

-- the disk as a process begins with it: what an earlier one left, durable or not
abbrev pub started_disk : System → DiskState
started_disk s = λ name. if is_store_file name then started_at s (path_text name) else no_file
