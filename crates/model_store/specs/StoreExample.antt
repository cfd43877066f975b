-- The files of a store with one message of no octets in INBOX, and that they are safe for these lists.
use Rattle.std.specs.Prelude.{◌==◌, ◌&&◌, ℕ, List, [], ◌∷◌, ◌++◌, codes, if◌then◌else◌, Option, Some, None}
use Rattle.disk_model.specs.Disk.{Files, FileState, DiskState, no_file, still}
use Rattle.disk_model.specs.declared.name.FileName.TheVariants as file
use Rattle.model_storage.specs.declared.metadata_value.Metadata.{Metadata}
use Rattle.model_lists.specs.Lists.{Lists}
use Rattle.model_storage.specs.StorageFile.{Message}
use Rattle.model_logs.specs.LogExamples.{root_log, box_log, map_log}
use Rattle.model_meaning.specs.MeaningExamples.{example_guid}

-- the storage file: a header line, and the message
abbrev pub file_header : List ℕ
file_header = codes "2 M1e C65000000" ++ 10 ∷ []

abbrev pub message_header : List ℕ
message_header = 1 ∷ 2 ∷ (codes "N          0000000000000000" ++ 10 ∷ [])

abbrev pub message_block : List ℕ
message_block = 10 ∷ 1 ∷ 3 ∷ 10 ∷ (codes "R65000000" ++ 10 ∷ (codes "V0" ++ 10 ∷ (codes "G00112233445566770000000100000010" ++ 10 ∷ (codes "BINBOX" ++ 10 ∷ 10 ∷ []))))

abbrev pub example_file : List ℕ
example_file = file_header ++ (message_header ++ message_block)

abbrev pub example_message : Message
example_message = record {
  body = [];
  lines = record { key = 82; value = codes "65000000" } ∷ record { key = 86; value = codes "0" } ∷ record { key = 71; value = codes "00112233445566770000000100000010" } ∷ record { key = 66; value = codes "INBOX" } ∷ [];
}

abbrev pub example_metadata : Metadata
example_metadata = record { guid = Some (record { 0 = example_guid }); received = Some 0x65000000; physical = None; virtual_size = Some 0; origin = Some (codes "INBOX"); refs = []; unknown = [] }

-- The files.
unfoldable pub example_image : Files
example_image file.Root = Some root_log
example_image (file.Map g) = if g == 1 then Some map_log else None
example_image (file.Box k g) = if (k == 1) && (g == 1) then Some box_log else None
example_image (file.Mail n) = if n == 1 then Some example_file else None
example_image (file.Inst hash id) = None

-- a file at rest with these octets, or none, and the disk at rest that reads as these files
abbrev pub file_at_rest : Option (List ℕ) → FileState
file_at_rest None = no_file
file_at_rest (Some octets) = still octets

abbrev pub disk_at_rest : Files → DiskState
disk_at_rest files = λ name. file_at_rest (files name)

-- The lists.
abbrev pub example_lists : Lists
example_lists = record { number = 1; name = codes "INBOX"; next_uid = 2; messages = record { uid = 1; flags = 0; time = 0x65000000; guid = example_guid; octets = []; words = [] } ∷ [] } ∷ []
