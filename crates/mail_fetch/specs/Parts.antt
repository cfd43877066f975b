-- What a fetch reads of a message: its region of a storage file, and each instance that its record names.
use Rattle.std.specs.Prelude.{◌≤◌, ◌+◌, ◌-◌, ◌/◌, min, nat_lt, ℕ, Bool, List, [], ◌∷◌, map, filter, flat_map, sum_by, if◌then◌else◌}
use Rattle.disk_model.specs.Disk.{Files}
use Rattle.disk_model.specs.declared.name.FileName.{FileName}
use Rattle.disk_model.specs.declared.name.FileName.TheVariants.{Mail, Inst}
use Rattle.mdbox_base.specs.declared.entries.InstRow.{InstRow}
use Rattle.sis_store.specs.declared.instance.KnownInstance.{KnownInstance}
use Rattle.storage_files.specs.OnDisk.{piece_read}
use Rattle.store_core.specs.StoreInstances.{IsKnownRow}
use Rattle.mail_fetch.specs.declared.parts.Part.{Part}
use Rattle.mail_fetch.specs.declared.parts.Source.{Source}
use Rattle.mail_fetch.specs.declared.parts.Source.TheVariants as source
use Rattle.mail_fetch.specs.declared.parts.StoredAt.{StoredAt}

-- ---- the parts

abbrev pub source_file : Source → FileName
source_file (source.Mail file) = Mail file.0
source_file (source.Instance row) = Inst row.hash.0 row.id.0

abbrev pub region_part : StoredAt → Part
region_part from = record { source = source.Mail from.file; offset = from.offset; size = from.size }

abbrev pub instance_part : InstRow → Part
instance_part row = record { source = source.Instance row; offset = 0; size = row.size }

abbrev pub has_octets : Part → Bool
has_octets part = nat_lt 0 part.size

abbrev pub HasSomeOctets : Part → Type 0
HasSomeOctets part = 1 ≤ part.size

-- First the region, then each instance, in order. An instance without octets isn't read.
abbrev pub parts_to_read : StoredAt → List Part
parts_to_read from = filter has_octets (region_part from ∷ map instance_part from.instances)

-- how many octets region and instances have
abbrev pub octets_to_read : StoredAt → ℕ
octets_to_read from = from.size + sum_by (λ row. row.size) from.instances

-- ---- what files have of them

abbrev pub part_read : Files → Part → List ℕ
part_read files part = piece_read part.offset part.size (files (source_file part.source))

-- one part behind another
abbrev pub parts_read : Files → List Part → List ℕ
parts_read files parts = flat_map (part_read files) parts

-- ---- pieces

-- A part is read in pieces of 65,536 octets, the last of which may be shorter.
abbrev pub pieces_in : ℕ → ℕ
pieces_in size = (size + 65535) / 65536

abbrev pub pieces_left : List Part → ℕ
pieces_left parts = sum_by (λ part. pieces_in part.size) parts

-- what files have of the first piece
abbrev pub first_read : Files → List Part → List ℕ
first_read files [] = []
first_read files (part ∷ rest) = part_read files (record part { size = min 65536 part.size })

-- the parts behind it
abbrev pub left_after : List Part → List Part
left_after [] = []
left_after (part ∷ rest) = if nat_lt 65536 part.size then record part { offset = part.offset + 65536; size = part.size - 65536 } ∷ rest else rest

-- a storage file, or an instance that a store knows
abbrev pub KnowsSource : List KnownInstance → Source → Type 0
KnowsSource known (source.Mail file) = Unit {0}
KnowsSource known (source.Instance row) = IsKnownRow known row
