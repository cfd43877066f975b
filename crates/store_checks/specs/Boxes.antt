-- What the reading of a mailbox log answers.
use Rattle.std.specs.Prelude.{◌≡◌, ℕ, List, [], ◌∷◌, length, map, All, Option, ◌⊎◌, ⊤}
use Rattle.std.specs.List.{AllByRecursion}
use Rattle.disk_model.specs.Disk.{Files, History, IfTold}
use Rattle.disk_model.specs.declared.name.FileName.{FileName}
use Rattle.disk_model.specs.declared.name.FileName.TheVariants as file
use Rattle.model_logs.specs.declared.log_head.LogHead.{LogHead}
use Rattle.model_logs.specs.declared.log_head.LogKind.TheVariants as kind
use Rattle.mdbox_base.specs.declared.entries.BoxEntry.{BoxEntry}
use Rattle.model_meaning.specs.BoxMeaning.{box_meaning, rows_after}
use Rattle.model_meaning.specs.MapMeaning.{MapBox, MapMeaning}
use Rattle.model_logs.specs.Entries.{box_text}
use Rattle.model_store.specs.Settled.{files_of}
use Rattle.model_store.specs.Stands.{head_of, HasLog}
use Rattle.model_store.specs.Opening.{IsBadLog, AreBoxEntries, HasItsRecord, LacksRecord, PassBoxes, IsBadBox}
use Rattle.gate_log.specs.State.{InspectedLog}
use Rattle.gate_log.specs.Log.{IsFound}
use Rattle.map_index.specs.Shown.{shown_box}
use Rattle.map_index.specs.declared.rows.BoxAt.{BoxAt}
use Rattle.store_checks.specs.declared.mailbox.CheckedBox.{CheckedBox}
use Rattle.store_checks.specs.declared.error.CheckError.{CheckError}
use Rattle.store_checks.specs.declared.error.CheckError.TheVariants as check

-- a log was found under this name, with this head, and stands with these entries
pub record IsFoundAs (found : InspectedLog) (name : FileName) (head : LogHead) (entries : List (List ℕ)) (now : Option History) : Type 0 where
  pub name_is : found.name ≡ name
  pub head_is : found.head ≡ head
  pub stands : IfTold now (IsFound found entries)

-- the name and the head of a mailbox log
abbrev pub box_file : BoxAt → FileName
box_file at = file.Box at.number.0 at.generation

abbrev pub box_head : List ℕ → BoxAt → LogHead
box_head store at = head_of store kind.Box at.number.0 at.generation

-- A mailbox was read: its log has these entries, each listed message has its record, and the index is what they mean.
pub record IsBoxRead (store : List ℕ) (m : MapMeaning) (at : BoxAt) (checked : CheckedBox) (entries : List BoxEntry) (old new : Option History) : Type 0 where
  pub good : AreBoxEntries entries
  pub meaning : checked.index.meaning ≡ box_meaning entries
  pub records : All (HasItsRecord m) (rows_after entries)
  pub log : IfTold old (λ disk. HasLog (files_of disk) (box_file at) (box_head store at) (map box_text entries))
  pub found : IsFoundAs checked.log (box_file at) (box_head store at) (map box_text entries) new

-- the log of a mailbox is bad at this place, or good, and a listed message there has no record
abbrev pub FailsBox : Files → MapMeaning → MapBox → ℕ → Type 0
FailsBox files m mailbox place =
    IsBadLog box_text AreBoxEntries (head_of m.store kind.Box mailbox.number mailbox.generation) (files (file.Box mailbox.number mailbox.generation)) place ⊎ LacksRecord files m mailbox place

-- why a mailbox wasn't read
abbrev pub IsBoxCause : MapMeaning → BoxAt → Option History → CheckError → Type 0
IsBoxCause m at old (check.Damaged name place) = (name ≡ box_file at) × ((mailbox : MapBox) → shown_box mailbox ≡ at → IfTold old (λ disk. FailsBox (files_of disk) m mailbox place))
IsBoxCause m at old check.NoStore = ⊥
IsBoxCause m at old check.DiskFault = ⊤
IsBoxCause m at old check.NoMemory = ⊤

-- the logs of mailboxes were found, one for each, with these entries
abbrev pub AreFound : List ℕ → List MapBox → List CheckedBox → List (List BoxEntry) → Option History → Type 0
AreFound store [] [] [] now = Unit {0}
AreFound store (mailbox ∷ mailboxes) (checked ∷ boxes) (entries ∷ logs) now =
    IsFoundAs checked.log (file.Box mailbox.number mailbox.generation) (head_of store kind.Box mailbox.number mailbox.generation) (map box_text entries) now × AreFound store mailboxes boxes logs now
AreFound store mailboxes boxes logs now = ⊥

-- Mailboxes were read: they pass with these logs, one each, whose entries fit and whose listed messages have their records,
-- the indexes are what the logs mean, and the logs stand as they were found.
pub record AreRead (store : List ℕ) (m : MapMeaning) (mailboxes : List MapBox) (boxes : List CheckedBox) (logs : List (List BoxEntry)) (old new : Option History) : Type 0 where
  pub pass : IfTold old (λ disk. PassBoxes (files_of disk) m mailboxes logs)
  pub box_entries : AllByRecursion AreBoxEntries logs
  pub one_each : length logs ≡ length mailboxes
  pub records : AllByRecursion (λ log. All (HasItsRecord m) (rows_after log)) logs
  pub meanings : map (λ b. b.index.meaning) boxes ≡ map box_meaning logs
  pub found : AreFound store mailboxes boxes logs new

-- why mailboxes weren't read
abbrev pub IsBoxesCause : MapMeaning → Option History → CheckError → Type 0
IsBoxesCause m old (check.Damaged name place) = IfTold old (λ disk. IsBadBox (files_of disk) m name place)
IsBoxesCause m old check.NoStore = ⊥
IsBoxesCause m old check.DiskFault = ⊤
IsBoxesCause m old check.NoMemory = ⊤
