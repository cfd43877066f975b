-- What an entry more in the map log leads to.
use Rattle.std.specs.Prelude.{◌≡◌, ◌≤◌, ◌+◌, ◌==◌, ℕ, not, List, [], ◌∷◌, ◌++◌, length, take, drop, map, filter, count_by, if◌then◌else◌, Some, All}
use Rattle.std.specs.Option.{option_map_or}
use Rattle.disk_model.specs.Disk.{Files, DiskState, IsImage}
use Rattle.disk_model.specs.declared.name.FileName.TheVariants as file
use Rattle.mdbox_base.specs.declared.ids.FileNo.{FileNo}
use Rattle.mdbox_base.specs.declared.ids.Guid.{Guid}
use Rattle.mdbox_base.specs.declared.ids.MapUid.{MapUid}
use Rattle.mdbox_base.specs.declared.entries.BoxEntry.{BoxEntry}
use Rattle.mdbox_base.specs.declared.entries.InstRow.{InstRow}
use Rattle.mdbox_base.specs.declared.entries.MapEntry.{MapEntry}
use Rattle.mdbox_base.specs.declared.entries.MapPlace.{MapPlace}
use Rattle.mdbox_base.specs.declared.entries.MapEntry.TheVariants as map_entry
use Rattle.model_lists.specs.Lists.{Mailbox, Lists, empty_mailbox}
use Rattle.model_logs.specs.Entries.{MapInRange}
use Rattle.model_meaning.specs.MapFits.{MapFits, HasRecord}
use Rattle.model_meaning.specs.BoxMeaning.{BoxMeaning}
use Rattle.model_meaning.specs.MapMeaning.{MapRecord, MapBox, MapMeaning, map_meaning, count_given, record_at, record_made, box_made}
use Rattle.model_store.specs.Listing.{meaning_numbered}
use Rattle.model_store.specs.Safe.{HasAll}
use Rattle.model_store.specs.Settled.{files_of, HasSameRegion, HasSameInstance, AreAlike}
use Rattle.model_store.specs.Stands.{StoresMessage, AreMailboxes, StoredOnce, KeepsDetached}

-- ---- kinds of entries

-- Entries that move no region, drop no record, and remove or change no mailbox: all but the purge, the new generation, the
-- deletion and the new name.
abbrev pub OnlyAdds : MapEntry → Type 0
OnlyAdds (map_entry.G mailbox generation) = ⊥
OnlyAdds (map_entry.P file target moved dropped) = ⊥
OnlyAdds (map_entry.X mailbox amounts) = ⊥
OnlyAdds (map_entry.V mailbox name) = ⊥
OnlyAdds entry = Unit {0}

-- Of these, entries that make neither a record nor a mailbox: they change counts at most.
abbrev pub ChangesCounts : MapEntry → Type 0
ChangesCounts (map_entry.U uid) = Unit {0}
ChangesCounts (map_entry.D uids) = Unit {0}
ChangesCounts (map_entry.T counts) = Unit {0}
ChangesCounts (map_entry.H highest) = Unit {0}
ChangesCounts (map_entry.E file) = Unit {0}
ChangesCounts entry = ⊥

-- Entries that remove a mailbox of the map, or give it another name. Of records they change counts at most.
abbrev pub ChangesMailbox : MapEntry → Type 0
ChangesMailbox (map_entry.X mailbox amounts) = Unit {0}
ChangesMailbox (map_entry.V mailbox name) = Unit {0}
ChangesMailbox entry = ⊥

-- the record that an `S` makes
abbrev pub stored_row : ℕ → ℕ → MapUid → FileNo → ℕ → ℕ → Guid → List InstRow → MapRecord
stored_row origin count uid file_no offset size guid instances = record {
  uid = uid.0;
  origin = origin;
  count = count;
  file = file_no.0;
  offset = offset;
  size = size;
  guid = guid.0;
  instances = instances;
}

-- The lists with the mailboxes that an entry makes: a `B` makes one, without messages. The logs likewise.
abbrev pub lists_made : MapEntry → Lists → Lists
lists_made e lists = lists ++ map (λ box. empty_mailbox box.number box.name) (box_made e)

abbrev pub logs_made : MapEntry → List (List BoxEntry) → List (List BoxEntry)
logs_made e logs = logs ++ map (λ box. []) (box_made e)

-- The lists with such an entry, and the logs: without the mailbox of an `X`, and with the name that a `V` gives.
abbrev pub named_anew : ℕ → List ℕ → Mailbox → Mailbox
named_anew number name mailbox = if number == mailbox.number then record mailbox { name = name } else mailbox

abbrev pub lists_changed : MapEntry → Lists → Lists
lists_changed (map_entry.X mailbox amounts) lists = filter (λ m. not (mailbox.0 == m.number)) lists
lists_changed (map_entry.V mailbox name) lists = map (named_anew mailbox.0 name) lists
lists_changed e lists = lists

-- what stands beside the mailboxes of the map, one for each, without that of this number
abbrev pub beside_without : {X : Type 0} → ℕ → List MapBox → List X → List X
beside_without number (box ∷ boxes) (x ∷ xs) = if number == box.number then beside_without number boxes xs else x ∷ beside_without number boxes xs
beside_without number boxes xs = []

abbrev pub beside_changed : {X : Type 0} → MapEntry → List MapBox → List X → List X
beside_changed (map_entry.X mailbox amounts) boxes xs = beside_without mailbox.0 boxes xs
beside_changed e boxes xs = xs

-- An `X` names each record that the mailbox lists, with the number of its listings there, and no other.
abbrev pub NamesListed : MapEntry → List MapBox → List BoxMeaning → Type 0
NamesListed (map_entry.X mailbox amounts) boxes meanings =
    (uid : ℕ) → count_given uid amounts 0 ≡ option_map_or (λ m. count_by (λ row. row.map_uid == uid) m.rows) (meaning_numbered mailbox.0 boxes meanings) 0
NamesListed e boxes meanings = Unit {0}

-- ---- what an entry needs

-- An entry of the map log changes its meaning from m to n in these files: each record that is referred to is still there, with
-- its GUID, and stores what it stored; each attachment is stored once, and own saves keep detached forms.
pub record IsMapStep (files : Files) (m n : MapMeaning) : Type 0 where
  pub found : (uid : ℕ) (row : MapRecord) → record_at m uid ≡ Some row → 1 ≤ row.count → HasRecord n uid (λ other. (other.guid ≡ row.guid) × ((octets : List ℕ) → StoresMessage files row octets → StoresMessage files other octets))
  pub once : StoredOnce files n
  pub detached : KeepsDetached files n

-- An entry can be appended to the map log of files that are safe for the first lists, and gives the second ones: it is in
-- range and fits behind the log's entries, it is such a step, and by the new meaning the mailboxes are the second lists, and
-- the files have all that these need.
pub record IsMapAppend (files : Files) (store : List ℕ) (entries : List MapEntry) (lists later : Lists) (e : MapEntry) : Type 0 where
  pub in_range : MapInRange e
  pub fits : MapFits (map_meaning store entries) e
  pub step : IsMapStep files (map_meaning store entries) (map_meaning store (entries ++ e ∷ []))
  pub mailboxes : AreMailboxes files (map_meaning store (entries ++ e ∷ [])) (map_meaning store (entries ++ e ∷ [])).boxes later
  pub all : HasAll files (map_meaning store (entries ++ e ∷ [])) later

-- What a store will read for this entry, a crash leaves as the disk reads it: the region and the instances of the record that
-- it makes, and the log of the mailbox that it makes.
pub record AddsSynced (disk : DiskState) (e : MapEntry) : Type 0 where
  pub regions : (image : Files) → IsImage disk image → All (HasSameRegion (files_of disk) image) (record_made e)
  pub instances : (image : Files) → IsImage disk image → All (λ row. All (HasSameInstance (files_of disk) image) row.instances) (record_made e)
  pub boxes : (image : Files) → IsImage disk image → All (λ box. image (file.Box box.number box.generation) ≡ files_of disk (file.Box box.number box.generation)) (box_made e)

-- Whatever a crash leaves agrees with what the disk reads on all that a store reads by this meaning.
abbrev pub LeavesAlike : ℕ → MapMeaning → DiskState → Type 0
LeavesAlike generation m disk = (image : Files) → IsImage disk image → AreAlike generation m (files_of disk) image

-- ---- the purge

-- A record's region lies in its file, and its octets stand also in this file, from this offset on.
pub record IsCopiedTo (files : Files) (target offset : ℕ) (row : MapRecord) : Type 0 where
  pub first : List ℕ
  pub second : List ℕ
  pub in_first : files (file.Mail row.file) ≡ Some first
  pub in_second : files (file.Mail target) ≡ Some second
  pub first_holds : row.offset + row.size ≤ length first
  pub second_holds : offset + row.size ≤ length second
  pub same : take row.size (drop offset second) ≡ take row.size (drop row.offset first)

-- what a purge moves stands in its target, octet for octet
abbrev pub AreCopied : Files → MapMeaning → ℕ → List MapPlace → Type 0
AreCopied files m target moved = All (λ place. HasRecord m place.uid.0 (IsCopiedTo files target place.offset)) moved

-- a crash leaves it there as the disk reads it
abbrev pub AreCopiesSynced : DiskState → MapMeaning → ℕ → List MapPlace → Type 0
AreCopiesSynced disk m target moved =
    (image : Files) → IsImage disk image → All (λ place. HasRecord m place.uid.0 (λ row. HasSameRegion (files_of disk) image (record row { file = target; offset = place.offset }))) moved
