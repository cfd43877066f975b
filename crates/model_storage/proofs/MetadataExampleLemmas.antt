-- Metadata computes on examples.
use Rattle.std.specs.Prelude.{◌≡◌, true, List, [], ◌∷◌, ◌++◌, flat_map, codes, Some, None, refl}
use Rattle.std.specs.Fmt.{digits}
use Rattle.std.proofs.Common.{lit≤, inl}
use Rattle.hex.specs.Hex.{encode_with, decode_pairs}
use Rattle.mdbox_base.specs.declared.metadata.ExtRef.{ExtRef}
use Rattle.model_storage.specs.declared.metadata_value.Metadata.{Metadata}
use Rattle.model_storage.specs.StorageFile.{Line, line_text}
use Rattle.model_storage.specs.References.{references_text}
use Rattle.model_storage.specs.Metadata.{IsMetadata, metadata_text}

abbrev pub example_lines : List Line
example_lines = record { key = 82; value = codes "65000001" } ∷ record { key = 86; value = codes "b" }
    ∷ record { key = 71; value = codes "00112233445566770000000100000010" } ∷ record { key = 80; value = codes "abc" } ∷ []

abbrev pub example_metadata : Metadata
example_metadata = record {
  guid = Some (record { 0 = 0x00 ∷ 0x11 ∷ 0x22 ∷ 0x33 ∷ 0x44 ∷ 0x55 ∷ 0x66 ∷ 0x77 ∷ 0 ∷ 0 ∷ 0 ∷ 1 ∷ 0 ∷ 0 ∷ 0 ∷ 0x10 ∷ [] });
  received = Some 0x65000001;
  physical = None;
  virtual_size = Some 11;
  origin = None;
  refs = [];
  unknown = codes "Pabc" ++ 10 ∷ [];
}

-- four lines, one of them unknown, and what they say
pub lines_say : IsMetadata example_lines example_metadata
unfolding decode_pairs
lines_say = record {
  received = (codes "65000001", refl, record { some = lit≤ tt; short = lit≤ tt; value = refl });
  physical = refl;
  virtual_size = (codes "b", refl, record { some = lit≤ tt; short = lit≤ tt; value = refl });
  guid = (codes "00112233445566770000000100000010", refl, record { length = refl; octets = refl });
  origin = inl refl;
  refs = refl;
  unknown = refl;
}

-- they are in the written form
pub lines_are_written : metadata_text example_metadata ≡ flat_map line_text example_lines
unfolding encode_with digits
lines_are_written = refl

-- a reference to an instance with the hash of `abc`
abbrev pub example_reference : ExtRef
example_reference = record {
  start = 225;
  count = 246314;
  form = Some (record { length = 76; crlf = true });
  hash = record { 0 = 0xa9 ∷ 0x99 ∷ 0x3e ∷ 0x36 ∷ 0x47 ∷ 0x06 ∷ 0x81 ∷ 0x6a ∷ 0xba ∷ 0x3e ∷ 0x25 ∷ 0x71 ∷ 0x78 ∷ 0x50 ∷ 0xc2 ∷ 0x6c ∷ 0x9c ∷ 0xd0 ∷ 0xd8 ∷ 0x9d ∷ [] };
  id = record { 0 = 0x00 ∷ 0x11 ∷ 0x22 ∷ 0x33 ∷ 0x44 ∷ 0x55 ∷ 0x66 ∷ 0x77 ∷ 0xff ∷ 0xff ∷ 0xff ∷ 0xff ∷ 0 ∷ 0 ∷ 0 ∷ 1 ∷ [] };
}

pub reference_is_written : references_text (example_reference ∷ []) ≡ codes "225 246314 B76C a9/99/a9993e364706816aba3e25717850c26c9cd0d89d-0011223344556677ffffffff00000001"
unfolding encode_with digits
reference_is_written = refl
