-- What the entry that deletes a mailbox says, and what it leaves of lists.
use Rattle.std.specs.Prelude.{◌≡◌, ◌≤◌, ◌<◌, ◌+◌, ◌==◌, ℕ, not, List, [], ◌∷◌, filter, length, map, count_by, if◌then◌else◌, All}
use Rattle.std.specs.List.Sorted.{IsStrictlyIncreasing}
use Rattle.mdbox_base.specs.declared.entries.MapCount.{MapCount}
use Rattle.mdbox_base.specs.declared.entries.MapEntry.{MapEntry}
use Rattle.mdbox_base.specs.declared.entries.MapEntry.TheVariants as map_entry
use Rattle.mdbox_base.specs.declared.ids.BoxNo.{BoxNo}
use Rattle.model_appends.specs.MapAppending.{NamesListed}
use Rattle.model_lists.specs.Lists.{Lists}
use Rattle.model_logs.specs.Entries.{MapInRange}
use Rattle.model_meaning.specs.BoxMeaning.{LogRow}
use Rattle.model_meaning.specs.MapFits.{MapFits}
use Rattle.model_meaning.specs.MapMeaning.{count_given}
use Rattle.store_core.specs.Value.{StoreValue, indexes_of}

-- These amounts are those of a mailbox: each record that it lists, with how many of its messages have it. Map uids rise, and each
-- amount is at least 1, as the entry has to fit; so no other list is such.
pub record AreAmounts {D : Type 0} (mailbox : BoxNo) (amounts : List MapCount) (store : StoreValue D) : Type 0 where
  pub in_range : MapInRange (map_entry.X mailbox amounts)
  pub fits : MapFits store.map (map_entry.X mailbox amounts)
  pub listed : NamesListed (map_entry.X mailbox amounts) store.map.boxes (indexes_of store.boxes)

-- the lists without the mailbox of this number
abbrev pub lists_without : ℕ → Lists → Lists
lists_without number lists = filter (λ mailbox. not (number == mailbox.number)) lists

-- ---- within the crate

-- Each of these map uids once, in rising order, with how often it is there.
pub record AreAmountsOf (uids : List ℕ) (amounts : List MapCount) : Type 0 where
  pub rising : IsStrictlyIncreasing (map (λ c. c.uid.0) amounts)
  pub some : All (λ c. 1 ≤ c.count) amounts
  pub given : (uid : ℕ) → count_given uid amounts 0 ≡ count_by (λ u. u == uid) uids
  pub few : length amounts ≤ length uids

-- the entry removes a mailbox that lists these rows
abbrev pub IsDeletionOf : BoxNo → List LogRow → MapEntry → Type 0
IsDeletionOf mailbox rows entry = (amounts : List MapCount) × (entry ≡ map_entry.X mailbox amounts) × AreAmountsOf (map (λ row. row.map_uid) rows) amounts

-- one more of this map uid: of the last amount, where it is of it, else a new one
abbrev pub with_uid_counted : ℕ → List MapCount → List MapCount
with_uid_counted uid [] = record { uid = record { 0 = uid }; count = 1 } ∷ []
with_uid_counted uid (c ∷ []) = if c.uid.0 == uid then record c { count = c.count + 1 } ∷ [] else c ∷ record { uid = record { 0 = uid }; count = 1 } ∷ []
with_uid_counted uid (c ∷ d ∷ rest) = c ∷ with_uid_counted uid (d ∷ rest)

-- the count of each amount of this map uid can rise
abbrev pub IsBelowLimit : ℕ → List MapCount → Type 0
IsBelowLimit uid amounts = All (λ c. c.uid.0 ≡ uid → c.count < 65535) amounts
