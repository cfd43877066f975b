-- Files that carry over what a store reads: its logs with the same entries, the same regions and the same instances.
use Rattle.std.specs.Prelude.{◌≡◌, ℕ, List, Option, All}
use Rattle.disk_model.specs.Disk.{Files}
use Rattle.disk_model.specs.declared.name.FileName.{FileName}
use Rattle.disk_model.specs.declared.name.FileName.TheVariants as file
use Rattle.model_logs.specs.declared.log_head.LogHead.{LogHead}
use Rattle.model_logs.specs.LogFile.{IsLogFile}
use Rattle.model_meaning.specs.MapMeaning.{MapMeaning}
use Rattle.model_store.specs.Settled.{IsSameRegion, HasSameRegion, HasSameInstance}

-- the second is a log of the same head and entries where the first is one
abbrev pub HasSameEntries : Option (List ℕ) → Option (List ℕ) → Type 0
HasSameEntries a b = (head : LogHead) (entries : List (List ℕ)) → IsLogFile a head entries → IsLogFile b head entries

-- The second files carry over what a store reads of the first whose map log of this generation means this. What stands
-- behind the last gate of a log, behind the regions, and in other files may differ.
pub record CarryOver (generation : ℕ) (m : MapMeaning) (a b : Files) : Type 0 where
  pub root : HasSameEntries (a file.Root) (b file.Root)
  pub map : HasSameEntries (a (file.Map generation)) (b (file.Map generation))
  pub boxes : All (λ box. HasSameEntries (a (file.Box box.number box.generation)) (b (file.Box box.number box.generation))) m.boxes
  pub regions : All (HasSameRegion a b) m.records
  pub instances : All (λ row. All (HasSameInstance a b) row.instances) m.records

-- What stands at a name carries over what the store reads there.
abbrev pub CarriesOver : ℕ → MapMeaning → Files → FileName → Option (List ℕ) → Type 0
CarriesOver generation m a file.Root left = HasSameEntries (a file.Root) left
CarriesOver generation m a (file.Map g) left = g ≡ generation → HasSameEntries (a (file.Map g)) left
CarriesOver generation m a (file.Box k g) left = All (λ box. box.number ≡ k → box.generation ≡ g → HasSameEntries (a (file.Box k g)) left) m.boxes
CarriesOver generation m a (file.Mail n) left = All (λ row. row.file ≡ n → IsSameRegion (a (file.Mail n)) left row) m.records
CarriesOver generation m a (file.Inst hash id) left = All (λ row. All (λ inst. inst.hash.0 ≡ hash → inst.id.0 ≡ id → left ≡ a (file.Inst hash id)) row.instances) m.records
