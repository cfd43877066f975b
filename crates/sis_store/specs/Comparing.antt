-- Candidates that are compared one after another, in order of id.
use Rattle.std.specs.Prelude.{◌≡◌, ◌≢◌, ◌&&◌, ℕ, true, false, List, length, filter, All, Option, Some}
use Rattle.disk_model.specs.Disk.{History, IfTold, reading}
use Rattle.mdbox_base.specs.declared.ids.Hash.{Hash}
use Rattle.mdbox_base.specs.declared.ids.InstId.{InstId}
use Rattle.mdbox_base.specs.declared.ids.StoreId.{StoreId}
use Rattle.sis_store.specs.declared.instance.KnownInstance.{KnownInstance}
use Rattle.sis_store.specs.Instances.{HasDrawnNumber, is_of_kind, is_id_past}
use Rattle.sis_store.specs.OnDisk.{instance_file}

-- no known instance of this hash and size with an id up to this one has these octets
abbrev pub IsUnlikeUpTo : Hash → ℕ → List ℕ → Option InstId → List KnownInstance → Option History → Type 0
IsUnlikeUpTo hash size octets after known history =
    IfTold history (λ disk. All (λ k. is_of_kind hash size k.row ≡ true → is_id_past after k.row.id ≡ false → reading (disk (instance_file k.row)) ≢ Some octets) known)

-- The same of those alone that were known when this was the greatest running number drawn. So it stays, whatever is placed since.
abbrev pub IsUnlikeCompared : StoreId → Hash → ℕ → List ℕ → Option InstId → ℕ → List KnownInstance → Option History → Type 0
IsUnlikeCompared store hash size octets after drawn known history =
    IfTold history (λ disk. All (λ k. is_of_kind hash size k.row ≡ true → is_id_past after k.row.id ≡ false → HasDrawnNumber store drawn k.row.id → reading (disk (instance_file k.row)) ≢ Some octets) known)

-- how many candidates there are past an id
abbrev pub candidates_left : Hash → ℕ → Option InstId → List KnownInstance → ℕ
candidates_left hash size after known = length (filter (λ k. is_of_kind hash size k.row && is_id_past after k.row.id) known)
