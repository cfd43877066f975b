-- The instances of a message's attachments, found one after another.
use Rattle.std.specs.Prelude.{◌≡◌, ◌==◌, ◌+◌, ◌*◌, ◌-◌, ◌≤◌, ℕ, if◌then◌else◌, List, [], ◌∷◌, ◌++◌, length, slice_get, Option, Some, None}
use Rattle.std.specs.Option.{option_map, option_map_or}
use Rattle.attach_detach.specs.declared.message.Detached.{Detached}
use Rattle.disk_model.specs.Disk.{History}
use Rattle.mdbox_base.specs.declared.entries.InstRow.{InstRow}
use Rattle.mdbox_base.specs.declared.ids.InstId.{InstId}
use Rattle.sis_store.specs.Comparing.{IsUnlikeCompared, candidates_left}
use Rattle.sis_store.specs.Instances.{InstancesValue, candidate_in, holders_in, with_holders}
use Rattle.sis_store.specs.declared.instance.KnownInstance.{KnownInstance}
use Rattle.store_core.specs.Keeping.{holds_of}
use Rattle.store_core.specs.StoreInstances.{IsFirstWith}
use Rattle.store_core.specs.Value.{StoreValue}

-- What callers see: the attachments, in order; the instances that were found of the first of them; up to which id the known ones
-- were compared with the next; and the greatest running number that was drawn then.
pub record AttachingValue : Type 0 where
  pub parts : List Detached
  pub found : List InstRow
  pub after : Option InstId
  pub drawn : ℕ

-- no instance was found yet
abbrev pub nothing_found : List Detached → AttachingValue
nothing_found parts = record { parts = parts; found = []; after = None; drawn = 0 }

-- ---- what comes next

-- the attachment whose instance is found next
abbrev pub next_attachment : AttachingValue → Option Detached
next_attachment value = slice_get value.parts (length value.found)

-- Up to this id none needs to be compared again. Where a number was drawn since, an instance may have been placed before it: then
-- all are compared anew.
abbrev pub compared_to : AttachingValue → InstancesValue → Option InstId
compared_to value instances = if value.drawn == instances.highest then value.after else None

-- an instance of the attachment with this id
abbrev pub part_row : Detached → InstId → InstRow
part_row part id = record { hash = part.hash; id = id; size = length part.octets }

abbrev pub candidate_for : Option Detached → Option InstId → List KnownInstance → Option InstRow
candidate_for None after known = None
candidate_for (Some part) after known = option_map (part_row part) (candidate_in part.hash (length part.octets) after known)

-- the known instance that the next attachment is compared with
abbrev pub next_candidate : AttachingValue → InstancesValue → Option InstRow
next_candidate value instances = candidate_for (next_attachment value) (compared_to value instances) instances.known

-- ---- what an event makes of it

-- the instance of the next attachment was found
abbrev pub with_found : InstRow → AttachingValue → AttachingValue
with_found row value = record value { found = value.found ++ row ∷ []; after = None; drawn = 0 }

-- a candidate was compared, which has other octets
abbrev pub with_compared : InstRow → ℕ → AttachingValue → AttachingValue
with_compared candidate drawn value = record value { after = Some candidate.id; drawn = drawn }

-- what is known after a candidate was found, which is held once more
abbrev pub candidate_held : InstRow → List KnownInstance → List KnownInstance
candidate_held row known = with_holders row.id (holders_in row.id known + 1) known

-- what is known after instances were let go, once for each of these rows
abbrev pub found_let_go : List InstRow → List KnownInstance → List KnownInstance
found_let_go [] known = known
found_let_go (row ∷ rows) known = found_let_go rows (with_holders row.id (holders_in row.id known - 1) known)

-- how many attachments are left, and how many candidates of the next one
abbrev pub parts_left : AttachingValue → ℕ
parts_left value = length value.parts - length value.found

abbrev pub candidates_of : AttachingValue → InstancesValue → ℕ
candidates_of value instances = option_map_or (λ part. candidates_left part.hash (length part.octets) (compared_to value instances) instances.known) (next_attachment value) 0

-- how many running numbers are left to be drawn
abbrev pub numbers_left : InstancesValue → ℕ
numbers_left instances = 4294967294 - instances.highest

-- How many events are still to come at the most, whatever other tasks place. Each attachment but the next one may have to be compared
-- with all instances, those that are placed by then too; and so may the next one again, for each running number that is drawn.
abbrev pub attach_events_left : AttachingValue → InstancesValue → ℕ
attach_events_left value instances = candidates_of value instances + (parts_left value + numbers_left instances) * (length instances.known + numbers_left instances + 1)

-- ---- what was found

-- the instance is known, with the attachment's hash and size, and is the first that has its octets
pub record IsOfPart (row : InstRow) (part : Detached) (known : List KnownInstance) (history : Option History) : Type 0 where
  pub hash : row.hash ≡ part.hash
  pub size : row.size ≡ length part.octets
  pub first : IsFirstWith part.octets row known history

-- these are the instances of the first attachments, in order, one for each
abbrev pub AreOfParts : List InstRow → List Detached → List KnownInstance → Option History → Type 0
AreOfParts [] parts known history = Unit {0}
AreOfParts (row ∷ rows) [] known history = ⊥
AreOfParts (row ∷ rows) (part ∷ parts) known history = IsOfPart row part known history × AreOfParts rows parts known history

-- each is held at least as often as it was found
abbrev pub AreHeld : List InstRow → List KnownInstance → Type 0
AreHeld rows known = (id : InstId) → holds_of rows id ≤ holders_in id known

-- What was found is known and held, and none that was compared with the next attachment has its octets.
pub record IsAttaching {D : Type 0} (value : AttachingValue) (store : StoreValue D) (history : Option History) : Type 0 where
  pub found : AreOfParts value.found value.parts store.instances.known history
  pub held : AreHeld value.found store.instances.known
  pub drawn : value.drawn ≤ store.instances.highest
  pub unlike : (part : Detached) → next_attachment value ≡ Some part → IsUnlikeCompared store.instances.store part.hash (length part.octets) part.octets value.after value.drawn store.instances.known history
