-- What an index means, and how much it can take in without memory.
use Rattle.std.specs.Prelude.{◌≤◌, ◌-◌, max, length}
use Rattle.mdbox_base.specs.declared.entries.MapEntry.{MapEntry}
use Rattle.mdbox_base.specs.declared.entries.MapEntry.TheVariants as entry
use Rattle.model_meaning.specs.MapMeaning.{MapMeaning}
use Rattle.map_index.specs.declared.room.MapRoom.{MapRoom}

pub record MapIndexValue : Type 0 where
  pub meaning : MapMeaning
  pub room : MapRoom

abbrev pub no_room : MapRoom
no_room = record { records = 0; instances = 0; boxes = 0; files = 0 }

-- what an entry needs: a record and its instances, a mailbox, or a sealed file
abbrev pub room_for : MapEntry → MapRoom
room_for (entry.B mailbox generation name) = record no_room { boxes = 1 }
room_for (entry.S origin count uid file offset size guid instances) = record no_room { records = 1; instances = length instances }
room_for (entry.E file) = record no_room { files = 1 }
room_for other = no_room

-- what it leaves
abbrev pub room_left : MapEntry → MapRoom → MapRoom
room_left entry room = record {
  records = room.records - (room_for entry).records;
  instances = room.instances - (room_for entry).instances;
  boxes = room.boxes - (room_for entry).boxes;
  files = room.files - (room_for entry).files;
}

-- the greater of each two
abbrev pub larger_room : MapRoom → MapRoom → MapRoom
larger_room a b = record { records = max a.records b.records; instances = max a.instances b.instances; boxes = max a.boxes b.boxes; files = max a.files b.files }

-- there is at least so much of each
pub record IsNoLessRoom (least room : MapRoom) : Type 0 where
  pub records : least.records ≤ room.records
  pub instances : least.instances ≤ room.instances
  pub boxes : least.boxes ≤ room.boxes
  pub files : least.files ≤ room.files

-- the entry can be taken in without memory
abbrev pub HasRoomFor : MapEntry → MapRoom → Type 0
HasRoomFor entry room = IsNoLessRoom (room_for entry) room
