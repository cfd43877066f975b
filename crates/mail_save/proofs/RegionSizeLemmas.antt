-- How long a message's region is, and the header before the first.
use Rattle.mail_save.proofs.Common.{◌≤◌, ◌<◌, ◌^◌, ℕ, List, [], ◌∷◌, Option, ap, arith, length, length-append, History, IsName, unknown_guid, ids_in, StoreValue, IsAttached, SavedParts}
use Rattle.mdbox_base.specs.Numbers.{hex_text}
use Rattle.model_octets.proofs.HexTextLemmas.{hex_text_is_hex}
use Rattle.model_storage.specs.WrittenFile.{written_header}
use Rattle.saved_message.proofs.StoredLemmas.{laid_short}

header_long : (time : ℕ) → time < 2 ^ 64 → length (written_header time) ≤ 40
header_long time small = let hex = hex_text_is_hex time small in let a = length-append (hex_text time) (10 ∷ []) in omega (arith, a, hex.short)

pub header_short : {D : Type 0} → (name : List ℕ) (time : ℕ) (parts : SavedParts) (store : StoreValue D) (history : Option History) → time < 2 ^ 64 → IsAttached name time parts store history → length parts.header ≤ 40
header_short name time parts store history timed a = let long = header_long time timed in let same = ap length a.0.2.laid.header in omega (arith, long, same)

pub region_short : {D : Type 0} → (name : List ℕ) (time : ℕ) (parts : SavedParts) (store : StoreValue D) (history : Option History) → IsName name → time < 2 ^ 64 → IsAttached name time parts store history
    → (1 ≤ length parts.laid.region) × (length parts.laid.region ≤ 67164541)
region_short name time parts store history named timed a =
    laid_short name time a.0.0 a.0.2.prepared (ids_in parts.rows) unknown_guid parts.laid (record { named = named; timed = timed; small = a.0.1; form = a.0.2.form }) a.0.2.laid.laid
