-- The fields of a stored message's entry before its instances.
use Rattle.std.specs.Prelude.{◌≡◌, ◌<◌, ◌^◌, ℕ, List, ◌∷◌, ◌++◌, length}
use Rattle.std.specs.Int.{w16, to_be_bytes}
use Rattle.model_logs.specs.Entries.{four}
use Rattle.mdbox_base.specs.declared.entries.MapEntry.{MapEntry}
use Rattle.mdbox_base.specs.declared.entries.MapEntry.TheVariants as map
use Rattle.log_records.specs.declared.stored.Stored.{Stored}

abbrev pub stored_text : Stored → List ℕ
stored_text s = s.origin ∷ (to_be_bytes w16 s.count ++ (four s.uid.0 ++ (four s.file.0 ++ (four s.offset ++ (four s.size ++ s.guid.0)))))

-- Its numbers fit their widths.
abbrev pub StoredInRange : Stored → Type 0
StoredInRange s = (s.origin < 256) × (s.count < 2 ^ 16) × (s.uid.0 < 2 ^ 32) × (s.file.0 < 2 ^ 32) × (s.offset < 2 ^ 32) × (s.size < 2 ^ 32) × (length s.guid.0 ≡ 16)

-- The entry stores a message.
abbrev pub IsStored : MapEntry → Type 0
IsStored (map.S origin count uid file offset size guid instances) = Unit {0}
IsStored other = ⊥
