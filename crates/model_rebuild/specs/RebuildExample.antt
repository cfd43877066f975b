-- Two storage files without a root log: what a rebuild takes of them, and the lists and logs that it makes. The first file has a
-- message with an attachment. The second has this message again, another one with its GUID, and one of the mailbox Work.
use Rattle.std.specs.Prelude.{◌==◌, ◌&&◌, ℕ, List, [], ◌∷◌, ◌++◌, codes, if◌then◌else◌, Some, None}
use Rattle.std.specs.Str.{bytes_eq}
use Rattle.disk_model.specs.Disk.{Files}
use Rattle.disk_model.specs.declared.name.FileName.TheVariants as file
use Rattle.mdbox_base.specs.declared.entries.BoxEntry.{BoxEntry}
use Rattle.mdbox_base.specs.declared.entries.BoxEntry.TheVariants as box
use Rattle.mdbox_base.specs.declared.entries.MapEntry.{MapEntry}
use Rattle.mdbox_base.specs.declared.entries.MapEntry.TheVariants as map
use Rattle.model_found.specs.declared.reason.Reason.TheVariants as reason
use Rattle.model_lists.specs.Lists.{Lists}
use Rattle.model_meaning.specs.MeaningExamples.{example_guid}
use Rattle.model_storage.specs.StorageFile.{Message}
use Rattle.model_storage.specs.WrittenFile.{first_header, written_message}
use Rattle.model_storage.specs.declared.metadata_value.Metadata.{Metadata}
use Rattle.model_store.specs.InstanceExample.{instance_hash, instance_id, instance_message, instance_octets, instance_row, whole_octets}
use Rattle.model_rebuild.specs.RebuildPlan.{RebuildPlan}

-- ---- the messages

-- another message with the GUID of `instance_message`; its lines say no more
abbrev pub double_message : Message
double_message = record { body = codes "other"; lines = record { key = 71; value = codes "00112233445566770000000100000010" } ∷ [] }

abbrev pub double_metadata : Metadata
double_metadata = record { guid = Some (record { 0 = example_guid }); received = None; physical = None; virtual_size = None; origin = None; refs = []; unknown = [] }

-- a message of the mailbox Work, whose GUID isn't of this store
abbrev pub work_guid : List ℕ
work_guid = 0xff ∷ 0xee ∷ 0xdd ∷ 0xcc ∷ 0xbb ∷ 0xaa ∷ 0x99 ∷ 0x88 ∷ 0x77 ∷ 0x66 ∷ 0x55 ∷ 0x44 ∷ 0x33 ∷ 0x22 ∷ 0x11 ∷ 0x00 ∷ []

abbrev pub work_message : Message
work_message = record { body = codes "hello"; lines = record { key = 71; value = codes "ffeeddccbbaa99887766554433221100" } ∷ record { key = 66; value = codes "Work" } ∷ [] }

abbrev pub work_metadata : Metadata
work_metadata = record { guid = Some (record { 0 = work_guid }); received = None; physical = None; virtual_size = None; origin = Some (codes "Work"); refs = []; unknown = [] }

-- ---- the files

abbrev pub first_storage : List ℕ
first_storage = first_header ++ written_message instance_message

abbrev pub second_storage : List ℕ
second_storage = first_header ++ (written_message instance_message ++ (written_message double_message ++ written_message work_message))

-- Of the logs only an empty map log of generation 1 is left.
unfoldable pub lost_files : Files
lost_files file.Root = None
lost_files (file.Map g) = if g == 1 then Some [] else None
lost_files (file.Box k g) = None
lost_files (file.Mail n) = if n == 1 then Some first_storage else (if n == 2 then Some second_storage else None)
lost_files (file.Inst hash id) = if bytes_eq hash instance_hash && bytes_eq id instance_id then Some instance_octets else None

-- ---- the rebuild

-- The message with the attachment is taken from the first file, that of Work from the second. The other message with the GUID is
-- skipped, so the second file will be sealed. The new map log has generation 2.
abbrev pub example_plan : RebuildPlan
example_plan = record {
  taken = record { file = 1; offset = 16; size = 181; guid = example_guid; time = 0x65000000; octets = whole_octets; mailbox = codes "INBOX"; instances = instance_row ∷ [] }
      ∷ record { file = 2; offset = 271; size = 80; guid = work_guid; time = 0; octets = codes "hello"; mailbox = codes "Work"; instances = [] } ∷ [];
  skipped = record { number = 2; offset = 197; why = reason.GuidTwice } ∷ [];
  highest = record { file = 2; map = 0; instance = 1; mailbox = 0 };
  map_generation = 2;
  box_generation = 1;
}

abbrev pub rebuilt_lists : Lists
rebuilt_lists =
    record { number = 1; name = codes "INBOX"; next_uid = 2; messages = record { uid = 1; flags = 0; time = 0x65000000; guid = example_guid; octets = whole_octets; words = [] } ∷ [] }
    ∷ record { number = 2; name = codes "Work"; next_uid = 2; messages = record { uid = 1; flags = 0; time = 0; guid = work_guid; octets = codes "hello"; words = [] } ∷ [] } ∷ []

abbrev pub rebuilt_map_entries : List MapEntry
rebuilt_map_entries =
    map.H (record { file = 2; map = 0; instance = 1; mailbox = 0 })
    ∷ map.B (record { 0 = 1 }) 1 (codes "INBOX")
    ∷ map.B (record { 0 = 2 }) 1 (codes "Work")
    ∷ map.S 1 1 (record { 0 = 1 }) (record { 0 = 1 }) 16 181 (record { 0 = example_guid }) (instance_row ∷ [])
    ∷ map.S 1 1 (record { 0 = 2 }) (record { 0 = 2 }) 271 80 (record { 0 = work_guid }) []
    ∷ map.E (record { 0 = 2 }) ∷ []

-- the log of Work: its message has map uid 2
abbrev pub rebuilt_work_entries : List BoxEntry
rebuilt_work_entries = box.A (record { 0 = 1 }) 0 0 5 (record { 0 = 2 }) (record { 0 = work_guid }) [] ∷ []
