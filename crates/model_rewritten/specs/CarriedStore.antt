-- Files that open again, with logs that mean the same and the same mail.
use Rattle.std.specs.Prelude.{◌≡◌, ℕ, List, map, All}
use Rattle.disk_model.specs.Disk.{Files}
use Rattle.mdbox_base.specs.declared.entries.BoxEntry.{BoxEntry}
use Rattle.mdbox_base.specs.declared.entries.MapEntry.{MapEntry}
use Rattle.model_meaning.specs.BoxMeaning.{box_meaning}
use Rattle.model_meaning.specs.MapMeaning.{MapMeaning, map_meaning}
use Rattle.model_meaning.specs.SameMeaning.{MeansSame}
use Rattle.model_store.specs.Opening.{Opens}
use Rattle.model_store.specs.Settled.{HasSameRegion, HasSameInstance}

-- each record's region is the same in both, and each named instance
pub record CarriesMail (m : MapMeaning) (a b : Files) : Type 0 where
  pub regions : All (HasSameRegion a b) m.records
  pub instances : All (λ row. All (HasSameInstance a b) row.instances) m.records

-- The second files open again, with logs that mean the same but for the generations of mailbox logs, and have the same mail.
pub record CarriesStore (store : List ℕ) (entries : List MapEntry) (logs : List (List BoxEntry)) (a b : Files) : Type 0 where
  pub later : List MapEntry
  pub later_logs : List (List BoxEntry)
  pub opens : Opens b store later later_logs
  pub means : MeansSame (map_meaning store entries) (map_meaning store later)
  pub boxes : map box_meaning later_logs ≡ map box_meaning logs
  pub mail : CarriesMail (map_meaning store entries) a b
