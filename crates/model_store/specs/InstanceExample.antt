-- The files of a store with one message of four octets in INBOX, two of them in an instance, and the lists that they are
-- safe for. The record's origin is 1: a rebuild found the message.
use Rattle.std.specs.Prelude.{◌==◌, ◌&&◌, ℕ, List, [], ◌∷◌, ◌++◌, codes, if◌then◌else◌, Some, None}
use Rattle.std.specs.Str.{bytes_eq}
use Rattle.disk_model.specs.Disk.{Files}
use Rattle.disk_model.specs.declared.name.FileName.TheVariants as file
use Rattle.mdbox_base.specs.declared.entries.BoxEntry.{BoxEntry}
use Rattle.mdbox_base.specs.declared.entries.BoxEntry.TheVariants as box
use Rattle.mdbox_base.specs.declared.entries.InstRow.{InstRow}
use Rattle.mdbox_base.specs.declared.entries.MapEntry.{MapEntry}
use Rattle.mdbox_base.specs.declared.entries.MapEntry.TheVariants as map
use Rattle.mdbox_base.specs.declared.metadata.ExtRef.{ExtRef}
use Rattle.model_storage.specs.declared.metadata_value.Metadata.{Metadata}
use Rattle.model_storage.specs.StorageFile.{Message}
use Rattle.model_lists.specs.Lists.{Lists}
use Rattle.model_logs.specs.LogExamples.{example_store, root_log, map_made}
use Rattle.model_meaning.specs.MeaningExamples.{example_guid, example_made}
use Rattle.model_store.specs.StoreExample.{file_header}

-- ---- the instance

-- its octets, their SHA-1, and its id: the store's id, FF FF FF FF, number 1
abbrev pub instance_octets : List ℕ
instance_octets = codes "xy"

abbrev pub instance_hash : List ℕ
instance_hash = 0x5f ∷ 0x84 ∷ 0x59 ∷ 0x98 ∷ 0x2f ∷ 0x9f ∷ 0x61 ∷ 0x9f ∷ 0x4b ∷ 0x0d ∷ 0x9a ∷ 0xf2 ∷ 0x54 ∷ 0x2a ∷ 0x20 ∷ 0x86 ∷ 0xe5 ∷ 0x6a ∷ 0x4b ∷ 0xef ∷ []

abbrev pub instance_id : List ℕ
instance_id = example_store ++ (0xff ∷ 0xff ∷ 0xff ∷ 0xff ∷ 0 ∷ 0 ∷ 0 ∷ 1 ∷ [])

-- as the map log has it
abbrev pub instance_row : InstRow
instance_row = record { hash = record { 0 = instance_hash }; id = record { 0 = instance_id }; size = 2 }

-- as the message's lines have it: two octets from place 1 on
abbrev pub instance_reference : ExtRef
instance_reference = record { start = 1; count = 2; form = None; hash = record { 0 = instance_hash }; id = record { 0 = instance_id } }

-- ---- the storage file

-- the message's header, its body, and its block of metadata
abbrev pub instance_message_header : List ℕ
instance_message_header = 1 ∷ 2 ∷ (codes "N          0000000000000002" ++ 10 ∷ [])

abbrev pub message_body : List ℕ
message_body = codes "ab"

abbrev pub reference_value : List ℕ
reference_value = codes "1 2 - 5f/84/5f8459982f9f619f4b0d9af2542a2086e56a4bef-0011223344556677ffffffff00000001"

abbrev pub instance_message_block : List ℕ
instance_message_block = 10 ∷ 1 ∷ 3 ∷ 10 ∷ (codes "R65000000" ++ 10 ∷ (codes "Z4" ++ 10 ∷ (codes "V4" ++ 10 ∷ (codes "G00112233445566770000000100000010" ++ 10 ∷ (codes "BINBOX" ++ 10 ∷ (codes "X" ++ (reference_value ++ 10 ∷ 10 ∷ [])))))))

abbrev pub message_octets : List ℕ
message_octets = instance_message_header ++ (message_body ++ instance_message_block)

abbrev pub stored_instance_file : List ℕ
stored_instance_file = file_header ++ message_octets

abbrev pub instance_message : Message
instance_message = record {
  body = message_body;
  lines = record { key = 82; value = codes "65000000" } ∷ record { key = 90; value = codes "4" } ∷ record { key = 86; value = codes "4" }
      ∷ record { key = 71; value = codes "00112233445566770000000100000010" } ∷ record { key = 66; value = codes "INBOX" } ∷ record { key = 88; value = reference_value } ∷ [];
}

abbrev pub instance_metadata : Metadata
instance_metadata = record { guid = Some (record { 0 = example_guid }); received = Some 0x65000000; physical = Some 4; virtual_size = Some 4; origin = Some (codes "INBOX"); refs = instance_reference ∷ []; unknown = [] }

-- ---- the logs

-- The mailbox log has version 2 and one entry of 39 octets: a message with UID 1, of four octets, received at 0x65000000,
-- without keywords.
abbrev pub instance_added : BoxEntry
instance_added = box.A (record { 0 = 1 }) 0 0x65000000 4 (record { 0 = 1 }) (record { 0 = example_guid }) []

abbrev pub added_entry : List ℕ
added_entry = 0x41 ∷ 0 ∷ 0 ∷ 0 ∷ 1 ∷ 0 ∷ 0 ∷ 0 ∷ 0 ∷ 0 ∷ 0x65 ∷ 0 ∷ 0 ∷ 0 ∷ 0 ∷ 0 ∷ 0 ∷ 4 ∷ 0 ∷ 0 ∷ 0 ∷ 1
    ∷ 0x00 ∷ 0x11 ∷ 0x22 ∷ 0x33 ∷ 0x44 ∷ 0x55 ∷ 0x66 ∷ 0x77 ∷ 0 ∷ 0 ∷ 0 ∷ 1 ∷ 0 ∷ 0 ∷ 0 ∷ 0x10 ∷ 0 ∷ []

abbrev pub instance_box_log : List ℕ
instance_box_log = codes "MDBXLOG2" ++ example_store ++ (0x42 ∷ 0 ∷ 0 ∷ 0 ∷ 1 ∷ 0 ∷ 0 ∷ 0 ∷ 1 ∷ 1 ∷ 0 ∷ 0 ∷ 0 ∷ 39 ∷ []) ++ added_entry ++ 0 ∷ []

-- The map log has two entries, of 15 and of 78 octets: mailbox 1 of generation 1 is INBOX, and a region of 0xb5 octets of
-- file 1 with one instance.
abbrev pub instance_stored : MapEntry
instance_stored = map.S 1 1 (record { 0 = 1 }) (record { 0 = 1 }) 0x10 0xb5 (record { 0 = example_guid }) (instance_row ∷ [])

abbrev pub instance_map : List MapEntry
instance_map = example_made ∷ instance_stored ∷ []

abbrev pub stored_entry : List ℕ
stored_entry = 0x53 ∷ 1 ∷ 0 ∷ 1 ∷ 0 ∷ 0 ∷ 0 ∷ 1 ∷ 0 ∷ 0 ∷ 0 ∷ 1 ∷ 0 ∷ 0 ∷ 0 ∷ 0x10 ∷ 0 ∷ 0 ∷ 0 ∷ 0xb5
    ∷ 0x00 ∷ 0x11 ∷ 0x22 ∷ 0x33 ∷ 0x44 ∷ 0x55 ∷ 0x66 ∷ 0x77 ∷ 0 ∷ 0 ∷ 0 ∷ 1 ∷ 0 ∷ 0 ∷ 0 ∷ 0x10 ∷ 0 ∷ 1
    ∷ 0x5f ∷ 0x84 ∷ 0x59 ∷ 0x98 ∷ 0x2f ∷ 0x9f ∷ 0x61 ∷ 0x9f ∷ 0x4b ∷ 0x0d ∷ 0x9a ∷ 0xf2 ∷ 0x54 ∷ 0x2a ∷ 0x20 ∷ 0x86 ∷ 0xe5 ∷ 0x6a ∷ 0x4b ∷ 0xef
    ∷ 0x00 ∷ 0x11 ∷ 0x22 ∷ 0x33 ∷ 0x44 ∷ 0x55 ∷ 0x66 ∷ 0x77 ∷ 0xff ∷ 0xff ∷ 0xff ∷ 0xff ∷ 0 ∷ 0 ∷ 0 ∷ 1 ∷ 0 ∷ 0 ∷ 0 ∷ 2 ∷ []

abbrev pub instance_map_log : List ℕ
instance_map_log = codes "MDBXLOG1" ++ example_store ++ (0x4d ∷ 0 ∷ 0 ∷ 0 ∷ 0 ∷ 0 ∷ 0 ∷ 0 ∷ 1 ∷ 1 ∷ 0 ∷ 0 ∷ 0 ∷ 15 ∷ []) ++ map_made ++ (1 ∷ 0 ∷ 0 ∷ 0 ∷ 78 ∷ []) ++ stored_entry ++ 0 ∷ []

-- ---- the files, and the lists

unfoldable pub instance_image : Files
instance_image file.Root = Some root_log
instance_image (file.Map g) = if g == 1 then Some instance_map_log else None
instance_image (file.Box k g) = if (k == 1) && (g == 1) then Some instance_box_log else None
instance_image (file.Mail n) = if n == 1 then Some stored_instance_file else None
instance_image (file.Inst hash id) = if bytes_eq hash instance_hash && bytes_eq id instance_id then Some instance_octets else None

abbrev pub whole_octets : List ℕ
whole_octets = codes "axyb"

abbrev pub instance_lists : Lists
instance_lists = record { number = 1; name = codes "INBOX"; next_uid = 2; messages = record { uid = 1; flags = 0; time = 0x65000000; guid = example_guid; octets = whole_octets; words = [] } ∷ [] } ∷ []
