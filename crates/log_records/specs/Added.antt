-- The fields of an added message's entry before its keywords.
use Rattle.std.specs.Prelude.{◌≡◌, ◌<◌, ◌^◌, ℕ, List, ◌∷◌, ◌++◌, length}
use Rattle.std.specs.Int.{w64, to_be_bytes}
use Rattle.model_logs.specs.Entries.{four}
use Rattle.log_records.specs.declared.added.Added.{Added}

abbrev pub added_text : Added → List ℕ
added_text a = four a.uid.0 ++ (a.flags ∷ (to_be_bytes w64 a.time ++ (four a.size ++ (four a.map_uid.0 ++ a.guid.0))))

-- Its numbers fit their widths.
abbrev pub AddedInRange : Added → Type 0
AddedInRange a = (a.uid.0 < 2 ^ 32) × (a.flags < 256) × (a.time < 2 ^ 64) × (a.size < 2 ^ 32) × (a.map_uid.0 < 2 ^ 32) × (length a.guid.0 ≡ 16)
