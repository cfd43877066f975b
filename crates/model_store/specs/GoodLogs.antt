-- What the logs of a store say, apart from the files that they need.
use Rattle.std.specs.Prelude.{◌≡◌, ℕ, List, length, All}
use Rattle.std.specs.List.{AllByRecursion}
use Rattle.mdbox_base.specs.declared.entries.MapEntry.{MapEntry}
use Rattle.mdbox_base.specs.declared.entries.BoxEntry.{BoxEntry}
use Rattle.model_meaning.specs.BoxMeaning.{rows_after}
use Rattle.model_meaning.specs.MapMeaning.{map_meaning}
use Rattle.model_store.specs.Opening.{AreMapEntries, AreBoxEntries, HasItsRecord, IsCounted}

-- The map log of a store with this id has these entries, and the mailboxes have these logs, one for each in order of
-- number: all of them fit, each listed message has a record of its GUID, and each count is at least its references.
pub record AreGoodLogs (store : List ℕ) (entries : List MapEntry) (logs : List (List BoxEntry)) : Type 0 where
  pub map_entries : AreMapEntries store entries
  pub box_entries : AllByRecursion AreBoxEntries logs
  pub one_each : length logs ≡ length (map_meaning store entries).boxes
  pub records : AllByRecursion (λ log. All (HasItsRecord (map_meaning store entries)) (rows_after log)) logs
  pub counts : All (IsCounted logs) (map_meaning store entries).records
