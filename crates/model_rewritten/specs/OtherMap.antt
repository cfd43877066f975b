-- Another map log, which the root log may name.
use Rattle.std.specs.Prelude.{◌≡◌, ℕ, List, [], map}
use Rattle.std.specs.List.{AllByRecursion}
use Rattle.disk_model.specs.Disk.{Files}
use Rattle.disk_model.specs.declared.name.FileName.TheVariants as file
use Rattle.mdbox_base.specs.Words.{IsNumber}
use Rattle.mdbox_base.specs.declared.entries.MapEntry.{MapEntry}
use Rattle.model_lists.specs.Lists.{Lists}
use Rattle.model_logs.specs.Entries.{map_text, MapInRange}
use Rattle.model_logs.specs.declared.log_head.LogKind.TheVariants as kind
use Rattle.model_meaning.specs.MapFits.{AllMapFit}
use Rattle.model_meaning.specs.MapMeaning.{map_meaning}
use Rattle.model_store.specs.Safe.{HasAll}
use Rattle.model_store.specs.Stands.{head_of, HasLog, AreMailboxes, StoredOnce, KeepsDetached}

-- A map log of this generation is there, whole, whose entries fit; by its meaning the files as they are stand for the lists, and
-- have all that these need. So the root log may name it.
pub record IsRootAppend (files : Files) (store : List ℕ) (generation : ℕ) (entries : List MapEntry) (lists : Lists) : Type 0 where
  pub generation_number : IsNumber generation
  pub log : HasLog files (file.Map generation) (head_of store kind.Map 0 generation) (map map_text entries)
  pub in_range : AllByRecursion MapInRange entries
  pub fit : AllMapFit store [] entries
  pub mailboxes : AreMailboxes files (map_meaning store entries) (map_meaning store entries).boxes lists
  pub once : StoredOnce files (map_meaning store entries)
  pub detached : KeepsDetached files (map_meaning store entries)
  pub all : HasAll files (map_meaning store entries) lists

-- A map log of this generation is there, whole, whose entries fit and mean the same as the others.
pub record IsOtherMap (files : Files) (store : List ℕ) (generation : ℕ) (entries others : List MapEntry) : Type 0 where
  pub generation_number : IsNumber generation
  pub log : HasLog files (file.Map generation) (head_of store kind.Map 0 generation) (map map_text others)
  pub in_range : AllByRecursion MapInRange others
  pub fit : AllMapFit store [] others
  pub means : map_meaning store others ≡ map_meaning store entries
