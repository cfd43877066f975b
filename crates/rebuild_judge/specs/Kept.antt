-- What is kept of taken messages.
use Rattle.std.specs.Prelude.{◌≡◌, ◌+◌, nat_le, ℕ, Bool, false, not, List, [], ◌∷◌, ◌++◌, length, map, min, find, slice_get, count_by, if◌then◌else◌, All, Option, Some, None}
use Rattle.std.specs.BTreeMap.{BTreeMap, get}
use Rattle.std.specs.Cmp.Lexicographic.{slice_cmp}
use Rattle.std.specs.List.{list_any}
use Rattle.std.specs.Option.{option_map_or}
use Rattle.std.specs.Ordering.{nat_cmp}
use Rattle.std.specs.Str.{bytes_eq}
use Rattle.disk_model.specs.Disk.{Files}
use Rattle.mdbox_base.specs.declared.entries.InstRow.{InstRow}
use Rattle.mdbox_base.specs.declared.ids.Hash.{Hash}
use Rattle.mdbox_base.specs.declared.metadata.ExtRef.{ExtRef}
use Rattle.model_taken.specs.NamedInstances.{is_other_hash}
use Rattle.model_taken.specs.Rebuild.{SkippedPlace}
use Rattle.model_taken.specs.Taken.{TakenMessage, mailboxes_met, taken_with, instances_taken}
use Rattle.rebuild_judge.specs.declared.mailboxes.MetMailbox.{MetMailbox}
use Rattle.rebuild_judge.specs.declared.taken.Keeping.{Keeping}
use Rattle.rebuild_judge.specs.declared.taken.SkippedAt.{SkippedAt}
use Rattle.rebuild_judge.specs.declared.taken.TakenRow.{TakenRow}
use Rattle.rebuild_judge.specs.Reading.{RejoinsTo}

-- what is kept of a message: all but its octets, of which their number is kept
abbrev pub taken_row : TakenMessage → TakenRow
taken_row t = record {
  file = record { 0 = t.file };
  offset = t.offset;
  size = t.size;
  guid = record { 0 = t.guid };
  time = t.time;
  whole = length t.octets;
  mailbox = t.mailbox;
  instances = t.instances;
}

abbrev pub skipped_row : SkippedPlace → SkippedAt
skipped_row s = record { file = record { 0 = s.number }; offset = s.offset; why = s.why }

-- ---- mailboxes

-- the mailboxes that are met, with the number of messages that go to each
abbrev pub counted_mailboxes : List TakenMessage → List MetMailbox
counted_mailboxes taken = map (λ name. record { name = name; count = count_by (λ t. bytes_eq t.mailbox name) taken }) (mailboxes_met taken)

-- one message more goes to the mailbox with this name
abbrev pub with_one_more : List ℕ → List MetMailbox → List MetMailbox
with_one_more name [] = record { name = name; count = 1 } ∷ []
with_one_more name (m ∷ rest) = if bytes_eq m.name name then record { name = m.name; count = m.count + 1 } ∷ rest else m ∷ with_one_more name rest

-- the mailbox with this name has 1,000,000 messages, or it isn't met and 1,024 others are
abbrev pub are_full : List ℕ → List MetMailbox → Bool
are_full name met = option_map_or (λ m. nat_le 1000000 m.count) (find (λ m. bytes_eq m.name name) met) (nat_le 1024 (length met))

-- ---- instances

-- there is a hash, and it is another one
abbrev pub is_hash_but : Hash → Option Hash → Bool
is_hash_but hash None = false
is_hash_but hash (Some other) = not (bytes_eq other.0 hash.0)

-- A reference names an id that one of these instances has with another hash, if and only if the hash that is kept of the id is another one.
abbrev pub AreHashesOf : BTreeMap (List ℕ) Hash → List InstRow → Type 0
AreHashesOf hashes named = (ref : ExtRef) → list_any (λ row. is_other_hash row.hash row.id ref) named ≡ is_hash_but ref.hash (get (slice_cmp nat_cmp) hashes ref.id.0)

-- an instance, as a reference names it
abbrev pub naming : InstRow → ExtRef
naming row = record { start = 0; count = 0; form = None; hash = row.hash; id = row.id }

-- none of the second instances has the id of one before it with another hash
abbrev pub NameNoOther : List InstRow → List InstRow → Type 0
NameNoOther named [] = Unit {0}
NameNoOther named (row ∷ rows) = (list_any (λ other. is_other_hash other.hash other.id (naming row)) named ≡ false) × NameNoOther (named ++ row ∷ []) rows

-- the instances of references, with these sizes; a size above 32 bits is told as the greatest number of 32 bits
abbrev pub sized_rows : List ExtRef → List ℕ → List InstRow
sized_rows [] sizes = []
sized_rows (ref ∷ refs) [] = []
sized_rows (ref ∷ refs) (size ∷ sizes) = record { hash = ref.hash; id = ref.id; size = min size 4294967295 } ∷ sized_rows refs sizes

-- ---- all of it

-- the place of the message with this GUID, if one was taken
abbrev pub IsGuidPlace : List ℕ → List TakenMessage → Option ℕ → Type 0
IsGuidPlace guid taken None = taken_with guid taken ≡ None
IsGuidPlace guid taken (Some place) = (t : TakenMessage) × (slice_get taken place ≡ Some t) × (taken_with guid taken ≡ Some t)

-- the message's region rejoins to its octets
abbrev pub IsRejoined : Files → TakenMessage → Type 0
IsRejoined files t = RejoinsTo files t.file t.offset t.size t.octets

-- This is kept of the messages that are taken.
pub record AreKept (files : Files) (taken : List TakenMessage) (keeping : Keeping) : Type 0 where
  pub rows : keeping.taken ≡ map taken_row taken
  pub places : (guid : List ℕ) → IsGuidPlace guid taken (get (slice_cmp nat_cmp) keeping.by_guid guid)
  pub hashes : AreHashesOf keeping.hashes (instances_taken taken)
  pub mailboxes : keeping.mailboxes.items ≡ counted_mailboxes taken
  pub rejoined : All (IsRejoined files) taken

-- One more can be kept.
pub record CanBeKept (files : Files) (taken : List TakenMessage) (t : TakenMessage) : Type 0 where
  pub new : taken_with t.guid taken ≡ None
  pub alike : NameNoOther (instances_taken taken) t.instances
  pub rejoined : IsRejoined files t
  pub room : are_full t.mailbox (counted_mailboxes taken) ≡ false
