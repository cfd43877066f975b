-- What callers see of the instances of a store: which are known, how many hold each, and which numbers were drawn.
use Rattle.std.specs.Prelude.{◌≡◌, ◌==◌, ◌+◌, ◌≤◌, ℕ, Bool, true, not, ◌&&◌, if◌then◌else◌, List, ◌∷◌, ◌++◌, map, filter, find, All, AllPairs, Option, Some, None, IsSome}
use Rattle.std.specs.Option.{option_map, option_map_or}
use Rattle.std.specs.Int.{w32, to_be_bytes}
use Rattle.std.specs.Str.{bytes_eq}
use Rattle.std.specs.Ordering.{nat_cmp, is_lt}
use Rattle.std.specs.Cmp.Lexicographic.{slice_cmp}
use Rattle.std.specs.declared.cmp.Ordering.TheVariants.{Less}
use Rattle.mdbox_base.specs.declared.entries.InstRow.{InstRow}
use Rattle.mdbox_base.specs.declared.ids.Hash.{Hash}
use Rattle.mdbox_base.specs.declared.ids.InstId.{InstId}
use Rattle.mdbox_base.specs.declared.ids.StoreId.{StoreId}
use Rattle.sis_store.specs.declared.instance.KnownInstance.{KnownInstance}

pub record InstancesValue : Type 0 where
  -- the known instances, in order of id
  pub known : List KnownInstance
  pub store : StoreId
  -- the greatest running number that was drawn
  pub highest : ℕ

-- ids are ordered by their octets
abbrev pub IsIdBefore : InstId → InstId → Type 0
IsIdBefore a b = slice_cmp nat_cmp a.0 b.0 ≡ Less

-- the id of a running number in a store
abbrev pub numbered_id : StoreId → ℕ → InstId
numbered_id store number = record { 0 = store.0 ++ (255 ∷ 255 ∷ 255 ∷ 255 ∷ to_be_bytes w32 number) }

-- If the id has a running number of this store, FF FF FF FF aside, that number was drawn.
abbrev pub HasDrawnNumber : StoreId → ℕ → InstId → Type 0
HasDrawnNumber store highest id = (number : ℕ) → number ≤ 4294967294 → id ≡ numbered_id store number → number ≤ highest

-- Ids rise, and running numbers are drawn ones.
pub record AreInstances (value : InstancesValue) : Type 0 where
  pub rising : AllPairs (λ a b. IsIdBefore a.row.id b.row.id) value.known
  pub drawn : All (λ k. HasDrawnNumber value.store value.highest k.row.id) value.known
  pub last : value.highest ≤ 4294967294

-- an instance as an opening found it, which nobody holds
abbrev pub instance_found : InstRow → KnownInstance
instance_found row = record { row = row; holders = 0 }

abbrev pub has_id : InstId → KnownInstance → Bool
has_id id k = bytes_eq k.row.id.0 id.0

-- the known instance of an id
abbrev pub instance_in : InstId → List KnownInstance → Option KnownInstance
instance_in id known = find (has_id id) known

abbrev pub IsInstanceKnown : InstId → List KnownInstance → Type 0
IsInstanceKnown id known = IsSome (instance_in id known)

-- how many hold the instance of an id
abbrev pub holders_in : InstId → List KnownInstance → ℕ
holders_in id known = option_map_or (λ k. k.holders) (instance_in id known) 0

-- so many hold this instance
abbrev pub with_holders : InstId → ℕ → List KnownInstance → List KnownInstance
with_holders id holders known = map (λ k. if has_id id k then record k { holders = holders } else k) known

-- an id is past this one, if there is one
abbrev pub is_id_past : Option InstId → InstId → Bool
is_id_past None id = true
is_id_past (Some after) id = is_lt (slice_cmp nat_cmp after.0 id.0)

-- an instance has this hash and size
abbrev pub is_of_kind : Hash → ℕ → InstRow → Bool
is_of_kind hash size row = bytes_eq row.hash.0 hash.0 && (row.size == size)

-- the instance of this hash and size with the least id past this one
abbrev pub candidate_in : Hash → ℕ → Option InstId → List KnownInstance → Option InstId
candidate_in hash size after known = option_map (λ k. k.row.id) (find (λ k. is_of_kind hash size k.row && is_id_past after k.row.id) known)

-- the known instance with the least id past this one
abbrev pub instance_past : Option InstId → List KnownInstance → Option InstId
instance_past after known = option_map (λ k. k.row.id) (find (λ k. is_id_past after k.row.id) known)

-- the known instance that nobody holds with the least id past this one
abbrev pub unheld_past : Option InstId → List KnownInstance → Option InstId
unheld_past after known = option_map (λ k. k.row.id) (find (λ k. (k.holders == 0) && is_id_past after k.row.id) known)

-- one instance more, at its place
abbrev pub with_instance : KnownInstance → List KnownInstance → List KnownInstance
with_instance new known =
    filter (λ k. is_lt (slice_cmp nat_cmp k.row.id.0 new.row.id.0)) known ++ new ∷ filter (λ k. is_lt (slice_cmp nat_cmp new.row.id.0 k.row.id.0)) known

-- all but the instance of this id
abbrev pub without_instance : InstId → List KnownInstance → List KnownInstance
without_instance id known = filter (λ k. not (has_id id k)) known

-- the id that the next instance gets
abbrev pub next_id : InstancesValue → InstId
next_id value = numbered_id value.store (value.highest + 1)

-- a new instance of this hash and size, which one holds
abbrev pub instance_placed : InstancesValue → Hash → ℕ → KnownInstance
instance_placed value hash size = record { row = record { hash = hash; id = next_id value; size = size }; holders = 1 }

-- what is known after an instance of this hash and size was placed
abbrev pub after_placing : Hash → ℕ → InstancesValue → InstancesValue
after_placing hash size value = record value { known = with_instance (instance_placed value hash size) value.known; highest = value.highest + 1 }
