-- What a fetch has read of a message, as it holds it: octets in memory that its first event took.
use Rattle.std.specs.Prelude.{◌≡◌, ◌≢◌, ◌≤◌, ◌++◌, ℕ, List, [], length, min, sum_by, take, vec_capacity}
use Rattle.std.specs.Global.{Vec}
use Rattle.attach_join.specs.Kept.{FitInto, kept_in}
use Rattle.attach_join.specs.Spread.{outside}
use Rattle.mdbox_base.specs.declared.entries.InstRow.{InstRow}
use Rattle.mdbox_base.specs.declared.metadata.ExtRef.{ExtRef}
use Rattle.mail_fetch.specs.Parts.{octets_to_read}
use Rattle.mail_fetch.specs.Region.{HoldsWhole, IsStoredMessage}
use Rattle.mail_fetch.specs.Room.{IsCut}
use Rattle.mail_fetch.specs.declared.held.Held.{Held}
use Rattle.mail_fetch.specs.declared.held.Held.TheVariants as held
use Rattle.mail_fetch.specs.declared.parts.StoredAt.{StoredAt}

-- The octets that were read behind the message's header: as they came; or the body, which stands outside of the ranges of the references,
-- what is behind it, and the octets of instances that are kept in the ranges.
abbrev pub octets_held : List InstRow → Held → List ℕ
octets_held rows (held.AsRead octets refs tail) = octets.items
octets_held rows (held.Spread whole refs tail kept) = outside refs.items whole.items ++ (tail.items ++ take kept (kept_in refs.items rows whole.items))
octets_held rows (held.Damaged octets) = octets.items

-- it isn't known yet whether the region is the message that is stored there
abbrev pub IsUnknown : Held → Type 0
IsUnknown (held.AsRead octets refs tail) = Unit {0}
IsUnknown other = ⊥

-- how many octets the instances of a message have
abbrev pub octets_of_instances : StoredAt → ℕ
octets_of_instances from = sum_by (λ row. row.size) from.instances

-- There is room for all octets that are to be read, the header aside or not.
pub record HasOctetRoom (from : StoredAt) (head : List ℕ) (octets : Vec ℕ) : Type 0 where
  pub cut : IsCut head octets.items
  pub room : octets_to_read from ≤ vec_capacity octets

-- There is room for as many references as the record has instances; and if it has any, for the octets of the whole, and for the metadata.
pub record HasJoinRoom (from : StoredAt) (octets : Vec ℕ) (refs : Vec ExtRef) (tail : Vec ℕ) : Type 0 where
  pub no_refs : refs.items ≡ []
  pub refs_room : length from.instances ≤ vec_capacity refs
  pub no_tail : tail.items ≡ []
  pub tail_room : from.instances ≢ [] → min 1048576 from.size ≤ vec_capacity tail
  pub whole_room : from.instances ≢ [] → from.listed ≤ vec_capacity octets

-- The region is the message that is stored there; the buffer has the size that is listed, and the ranges have room for the instances.
pub record IsSpread (from : StoredAt) (head whole tail : List ℕ) (refs : List ExtRef) (kept : ℕ) : Type 0 where
  pub stored : IsStoredMessage from (head ++ (outside refs whole ++ tail))
  pub body : outside refs whole ≡ stored.message.body
  pub refs_are : refs ≡ stored.meta.refs
  pub size : length (head ++ (outside refs whole ++ tail)) ≡ from.size
  pub listed : length whole ≡ from.listed
  pub fit : (count : ℕ) × FitInto (length whole) count refs from.instances
  pub few : kept ≤ octets_of_instances from

-- What was read is damaged, whatever comes, where at most so many octets come.
abbrev pub IsLost : StoredAt → List ℕ → ℕ → Type 0
IsLost from read left = (more whole : List ℕ) → length more ≤ left → HoldsWhole from (read ++ more) whole → ⊥

-- what is held behind this header, where at most so many octets come
abbrev pub HoldsPart : StoredAt → List ℕ → ℕ → Held → Type 0
HoldsPart from head left (held.AsRead octets refs tail) = HasOctetRoom from head octets × HasJoinRoom from octets refs tail
HoldsPart from head left (held.Spread whole refs tail kept) = IsSpread from head whole.items tail.items refs.items kept
HoldsPart from head left (held.Damaged octets) = HasOctetRoom from head octets × IsLost from (head ++ octets.items) left
