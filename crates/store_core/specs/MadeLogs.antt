-- Logs of mailboxes that were made and that the map doesn't name yet.
use Rattle.std.specs.Prelude.{◌≡◌, ◌≢◌, ◌≤◌, ◌==◌, ℕ, Bool, true, false, not, List, [], filter, All, AllPairs, Option}
use Rattle.std.specs.List.{list_any}
use Rattle.disk_model.specs.Disk.{History}
use Rattle.disk_model.specs.declared.name.FileName.TheVariants as file
use Rattle.gate_log.specs.Log.{Holds}
use Rattle.mdbox_base.specs.Words.{IsNumber}
use Rattle.mdbox_base.specs.declared.entries.Highest.{Highest}
use Rattle.model_logs.specs.declared.log_head.LogKind.TheVariants as kind
use Rattle.model_meaning.specs.BoxMeaning.{box_meaning}
use Rattle.model_meaning.specs.MapMeaning.{MapMeaning}
use Rattle.model_store.specs.Stands.{head_of}
use Rattle.store_core.specs.Value.{StoreValue, entry_room}
use Rattle.store_core.specs.declared.store.OpenBox.{OpenBox}

-- ---- by number

-- the map has no mailbox with this number
abbrev pub IsUnnamed : ℕ → MapMeaning → Type 0
IsUnnamed number m = All (λ box. box.number ≢ number) m.boxes

-- the log of the mailbox with this number was made, and the map doesn't name it yet
abbrev pub has_made_log : {D : Type 0} → ℕ → StoreValue D → Bool
has_made_log number store = list_any (λ open_box. open_box.number.0 == number) store.made

-- mailboxes without those of this number
abbrev pub without_box : ℕ → List OpenBox → List OpenBox
without_box number boxes = filter (λ open_box. not (open_box.number.0 == number)) boxes

-- the logs that were made of mailboxes with other numbers are there still
abbrev pub SparesLogs : {D : Type 0} → ℕ → StoreValue D → StoreValue D → Type 0
SparesLogs number old new = (other : ℕ) → other ≢ number → has_made_log other old ≡ true → has_made_log other new ≡ true

-- The number was given to a mailbox, no mailbox has it, and no log of it is made: that of a mailbox which was deleted.
pub record IsGone {D : Type 0} (number : ℕ) (store : StoreValue D) : Type 0 where
  pub given : number ≤ store.map.highest.mailbox
  pub unnamed : IsUnnamed number store.map
  pub unmade : has_made_log number store ≡ false

-- Numbers of which this is so stay such.
abbrev pub KeepsGone : {D : Type 0} → StoreValue D → StoreValue D → Type 0
KeepsGone old new = (number : ℕ) → IsGone number old → IsGone number new

-- ---- what holds of every store

-- A log that was made is of generation 1 of a mailbox whose number was drawn and which the map doesn't have. It has no entry,
-- and room for one of 64 octets.
pub record IsMadeLog (m : MapMeaning) (drawn : Highest) (open_box : OpenBox) : Type 0 where
  pub is_number : IsNumber open_box.number.0
  pub was_drawn : open_box.number.0 ≤ drawn.mailbox
  pub unnamed : IsUnnamed open_box.number.0 m
  pub name : open_box.log.name ≡ file.Box open_box.number.0 1
  pub head : open_box.log.head ≡ head_of m.store kind.Box open_box.number.0 1
  pub empty : open_box.index.meaning ≡ box_meaning []
  pub room : entry_room ≤ open_box.log.room

abbrev pub HaveOtherNumbers : OpenBox → OpenBox → Type 0
HaveOtherNumbers a b = a.number.0 ≢ b.number.0

-- The logs that were made have numbers of their own. Unless the store is stopped, the disk reads them, and a crash leaves them so.
pub record KeepsMadeLogs {D : Type 0} (history : Option History) (store : StoreValue D) : Type 0 where
  pub are_made : All (IsMadeLog store.map store.drawn) store.made
  pub apart : AllPairs HaveOtherNumbers store.made
  pub held : store.stopped ≡ false → All (λ open_box. Holds open_box.log [] history) store.made
