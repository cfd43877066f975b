-- What a fetch claims between its events, and what it needs for the next.
use Rattle.std.specs.Prelude.{◌≡◌, ◌≤◌, ◌<◌, ◌+◌, ◌-◌, ℕ, Bool, true, false, List, [], ◌∷◌, length, All, Option}
use Rattle.disk_model.specs.Disk.{History}
use Rattle.mdbox_base.specs.declared.entries.InstRow.{InstRow}
use Rattle.mdbox_base.specs.declared.ids.InstId.{InstId}
use Rattle.save_instances.specs.Attaching.{found_let_go}
use Rattle.sis_store.specs.Instances.{holders_in, with_holders}
use Rattle.sis_store.specs.declared.instance.KnownInstance.{KnownInstance}
use Rattle.storage_files.specs.Files.{changed_in, pins_in, with_pins}
use Rattle.store_core.specs.Keeping.{holds_of}
use Rattle.store_core.specs.StoreInstances.{IsKnownRow}
use Rattle.store_core.specs.Value.{StoreValue}
use Rattle.task_claims.specs.Claims.{AreIn, Claims, Held, Pinned, no_claims}
use Rattle.mail_fetch.specs.Parts.{KnowsSource}
use Rattle.mail_fetch.specs.Region.{RegionValue}
use Rattle.mail_fetch.specs.Removal.{CanRemove, claims_of_removal, with_file_gone}
use Rattle.mail_fetch.specs.Stages.{IsFrontOfStored, Reading}
use Rattle.mail_fetch.specs.Task.{one_pin}
use Rattle.mail_fetch.specs.declared.parts.Part.{Part}
use Rattle.mail_fetch.specs.declared.parts.Source.{Source}
use Rattle.mail_fetch.specs.declared.parts.Source.TheVariants as source
use Rattle.mail_fetch.specs.declared.parts.StoredAt.{StoredAt}
use Rattle.mail_fetch.specs.declared.task.FetchStage.{FetchStage}
use Rattle.mail_fetch.specs.declared.task.FetchStage.TheVariants as stage

-- ---- claims

-- one pin of the message's file, and one hold of each of its instances
abbrev pub claims_of_pinned : StoredAt → Claims
claims_of_pinned from (Pinned file) = one_pin from.file.0 file
claims_of_pinned from (Held id) = holds_of from.instances id
claims_of_pinned from thing = 0

-- what is left of them once both are given back: the removal of the file, if it is to be removed now
abbrev pub claims_unpinned : ℕ → Bool → Claims
claims_unpinned file true = claims_of_removal file
claims_unpinned file false = no_claims

-- after its first event and before it unpins, and then, if it removes the file
abbrev pub fetch_claims : FetchStage → Claims
fetch_claims stage.First = no_claims
fetch_claims (stage.Reading region) = claims_of_pinned region.from
fetch_claims (stage.Unpinning from given) = claims_of_pinned from
fetch_claims (stage.Removing file given) = claims_of_removal file.0

-- ---- what it makes of the store

-- each of these instances is held once more, once for each row
abbrev pub held_for : List InstRow → List KnownInstance → List KnownInstance
held_for [] known = known
held_for (row ∷ rows) known = held_for rows (with_holders row.id (holders_in row.id known + 1) known)

-- the message's file has so many pins, and these instances are known, with their holders
abbrev pub with_use : {D : Type 0} → StoredAt → ℕ → List KnownInstance → StoreValue D → StoreValue D
with_use from pins known store = record store {
  files = record store.files { files = changed_in from.file.0 (with_pins pins) store.files.files };
  instances = record store.instances { known = known };
}

-- the message's file is pinned once more, and its instances are held; and both are given back
abbrev pub with_claims : {D : Type 0} → StoredAt → StoreValue D → StoreValue D
with_claims from store = with_use from (pins_in from.file.0 store.files.files + 1) (held_for from.instances store.instances.known) store

abbrev pub without_claims : {D : Type 0} → StoredAt → StoreValue D → StoreValue D
without_claims from store = with_use from (pins_in from.file.0 store.files.files - 1) (found_let_go from.instances store.instances.known) store

-- The store after an event that came from one stage to another, but for its disk. A removal that leaves the task where it was failed, and
-- stopped the store.
abbrev pub used_by : {D : Type 0} → FetchStage → FetchStage → StoreValue D → StoreValue D
used_by stage.First (stage.Reading region) store = with_claims region.from store
used_by (stage.Unpinning from given) stage.First store = without_claims from store
used_by (stage.Unpinning from given) (stage.Removing file reply) store = without_claims from store
used_by (stage.Removing file given) stage.First store = with_file_gone file.0 store
used_by (stage.Removing file given) (stage.Removing other reply) store = record store { stopped = true }
used_by now next store = store

-- ---- what it needs

-- A part that ends here is of the message's file, and within its region, or it is of an instance that the fetch holds.
abbrev pub IsClaimedTo : StoredAt → ℕ → Source → Type 0
IsClaimedTo from end (source.Mail file) = (file ≡ from.file) × (end ≤ from.offset + from.size)
IsClaimedTo from end (source.Instance row) = 1 ≤ holds_of from.instances row.id

abbrev pub IsClaimedPart : StoredAt → Part → Type 0
IsClaimedPart from part = IsClaimedTo from (part.offset + part.size) part.source

-- What it claims of a message is among what all tasks do, the store knows its instances, and a record names 65,535 at the most.
pub record HasClaimed {D : Type 0} (from : StoredAt) (store : StoreValue D) : Type 0 where
  pub claimed : AreIn store (claims_of_pinned from)
  pub known : All (IsKnownRow store.instances.known) from.instances
  pub few : length from.instances ≤ 65535

-- A fetch reads parts that it claims, and the store knows the instances that are left to read.
pub record IsReadyToRead {D : Type 0} (region : RegionValue) (store : StoreValue D) : Type 0 where
  pub parts : All (IsClaimedPart region.from) region.left
  pub left : All (λ part. KnowsSource store.instances.known part.source) region.left
  pub own : HasClaimed region.from store

abbrev pub IsReadyToFetch : {D : Type 0} → FetchStage → StoreValue D → Type 0
IsReadyToFetch stage.First store = Unit {0}
IsReadyToFetch (stage.Reading region) store = IsReadyToRead region store
IsReadyToFetch (stage.Unpinning from given) store = HasClaimed from store
IsReadyToFetch (stage.Removing file given) store = CanRemove file.0 store

-- For its first event each storage file can be pinned once more, and each instance held 65,535 times more.
pub record HasUseRoom {D : Type 0} (store : StoreValue D) : Type 0 where
  pub pins : (file : ℕ) → pins_in file store.files.files < 4294967295
  pub holds : (id : InstId) → holders_in id store.instances.known + 65535 ≤ 4294967295

abbrev pub HasFetchRoom : {D : Type 0} → FetchStage → StoreValue D → Type 0
HasFetchRoom stage.First store = HasUseRoom store
HasFetchRoom now store = Unit {0}

-- The disk stores these octets where the fetch reads, and what was read is the front of them.
abbrev pub ReadsStored : FetchStage → List ℕ → Option History → Type 0
ReadsStored (stage.Reading region) octets history = Reading (IsFrontOfStored region octets) history
ReadsStored now octets history = Unit {0}
