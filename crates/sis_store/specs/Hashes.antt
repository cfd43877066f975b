-- Instances in order of hash, size and id.
use Rattle.std.specs.Prelude.{◌≡◌, ◌==◌, ◌&&◌, ℕ, Bool, true, false, List, All, AllPairs, Contains, sum_by, Option, Some, None}
use Rattle.std.specs.Str.{bytes_eq}
use Rattle.std.specs.Ordering.{nat_cmp, ordering_then, is_le, is_gt}
use Rattle.std.specs.Cmp.Lexicographic.{slice_cmp}
use Rattle.std.specs.declared.cmp.Ordering.{Ordering}
use Rattle.std.specs.declared.cmp.Ordering.TheVariants.{Less, Equal, Greater}
use Rattle.mdbox_base.specs.declared.entries.InstRow.{InstRow}
use Rattle.mdbox_base.specs.declared.ids.Hash.{Hash}
use Rattle.mdbox_base.specs.declared.ids.InstId.{InstId}
use Rattle.sis_store.specs.Instances.{is_id_past}
use Rattle.sis_store.specs.declared.instance.HashKey.{HashKey}
use Rattle.sis_store.specs.declared.instance.KnownInstance.{KnownInstance}

abbrev pub hash_key : InstRow → HashKey
hash_key row = record { hash = row.hash; size = row.size; id = row.id }

-- the order of a key's hash and size against these
abbrev pub kind_order : Hash → ℕ → HashKey → Ordering
kind_order hash size key = ordering_then (slice_cmp nat_cmp key.hash.0 hash.0) (nat_cmp key.size size)

-- the order by hash, size and id
abbrev pub key_order : HashKey → HashKey → Ordering
key_order a b = ordering_then (slice_cmp nat_cmp a.hash.0 b.hash.0) (ordering_then (nat_cmp a.size b.size) (slice_cmp nat_cmp a.id.0 b.id.0))

-- the key of an instance of this hash and size
abbrev pub is_key_of : Hash → ℕ → HashKey → Bool
is_key_of hash size key = bytes_eq key.hash.0 hash.0 && (key.size == size)

-- an id isn't past this one
abbrev pub is_id_up_to : Option InstId → InstId → Bool
is_id_up_to None id = false
is_id_up_to (Some after) id = is_le (slice_cmp nat_cmp id.0 after.0)

abbrev pub is_before_by : Ordering → Bool → Bool
is_before_by Less up_to = true
is_before_by Equal up_to = up_to
is_before_by Greater up_to = false

-- a key stands before all keys of this hash and size with an id past this one
abbrev pub is_key_before : Hash → ℕ → Option InstId → HashKey → Bool
is_key_before hash size after key = is_before_by (kind_order hash size key) (is_id_up_to after key.id)

-- the key of an instance of this hash and size with an id past this one
abbrev pub is_key_wanted : Hash → ℕ → Option InstId → HashKey → Bool
is_key_wanted hash size after key = is_key_of hash size key && is_id_past after key.id

-- it is an id of this hash and size past this one, and none of them is less
pub record IsLeastWanted (hash : Hash) (size : ℕ) (after : Option InstId) (keys : List HashKey) (id : InstId) : Type 0 where
  pub key : HashKey
  pub there : Contains keys key
  pub wanted : is_key_wanted hash size after key ≡ true
  pub is : key.id ≡ id
  pub least : All (λ other. is_key_wanted hash size after other ≡ true → is_gt (slice_cmp nat_cmp id.0 other.id.0) ≡ false) keys

-- The keys are those of these instances, as often, in order.
pub record AreHashKeys (keys : List HashKey) (known : List KnownInstance) : Type 0 where
  pub order : AllPairs (λ a b. is_gt (key_order a b) ≡ false) keys
  pub same : (f : HashKey → ℕ) → sum_by f keys ≡ sum_by (λ k. f (hash_key k.row)) known
