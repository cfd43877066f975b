-- What a removal of a storage file or of an instance asks, and what it leaves.
use Rattle.std.specs.Prelude.{◌≢◌, ◌==◌, ◌&&◌, ℕ, Bool, not, find, List, Option, All}
use Rattle.std.specs.Option.{option_map}
use Rattle.disk_model.specs.Disk.{History, Between}
use Rattle.map_index.specs.Shown.{is_instance_named}
use Rattle.mdbox_base.specs.declared.ids.InstId.{InstId}
use Rattle.model_meaning.specs.MapMeaning.{MapRecord, MapMeaning}
use Rattle.model_store.specs.Settled.{files_of}
use Rattle.model_store.specs.Stands.{StoresMessage}
use Rattle.sis_store.specs.Instances.{is_id_past}
use Rattle.sis_store.specs.declared.instance.KnownInstance.{KnownInstance}

-- ---- storage files

-- No record lies in the file.
abbrev pub AreElsewhere : ℕ → List MapRecord → Type 0
AreElsewhere n rows = All (λ row. row.file ≢ n) rows

-- Records of any map that lie in other files store what they stored.
abbrev pub KeepsStoredBut : ℕ → Option History → Option History → Type 0
KeepsStoredBut n = Between (λ a b. (row : MapRecord) (octets : List ℕ) → row.file ≢ n → StoresMessage (files_of a) row octets → StoresMessage (files_of b) row octets)

-- ---- instances

-- nobody holds the instance, and no record names it
abbrev pub is_useless : MapMeaning → KnownInstance → Bool
is_useless m k = (k.holders == 0) && not (is_instance_named m k.row.id.0)

-- the instance of no use with the least id past this one
abbrev pub useless_past : Option InstId → MapMeaning → List KnownInstance → Option InstId
useless_past after m known = option_map (λ k. k.row.id) (find (λ k. is_useless m k && is_id_past after k.row.id) known)

-- No record names the instance of this id.
abbrev pub NameOthers : List ℕ → List MapRecord → Type 0
NameOthers id rows = All (λ row. All (λ inst. inst.id.0 ≢ id) row.instances) rows

-- Records of any map that don't name it store what they stored.
abbrev pub KeepsStoredBeside : List ℕ → Option History → Option History → Type 0
KeepsStoredBeside id = Between (λ a b. (row : MapRecord) (octets : List ℕ) → All (λ inst. inst.id.0 ≢ id) row.instances → StoresMessage (files_of a) row octets → StoresMessage (files_of b) row octets)
