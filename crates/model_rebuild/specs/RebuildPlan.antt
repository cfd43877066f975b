-- What a rebuild writes, as the files that are there determine it.
use Rattle.std.specs.Prelude.{◌≡◌, ◌≢◌, ◌≤◌, ◌⊎◌, ℕ, List, Some, None, Contains}
use Rattle.disk_model.specs.Disk.{Files}
use Rattle.disk_model.specs.Name.{IsNameInRange}
use Rattle.disk_model.specs.declared.name.FileName.TheVariants as file
use Rattle.mdbox_base.specs.Words.{IsNumber}
use Rattle.mdbox_base.specs.declared.entries.Highest.{Highest}
use Rattle.mdbox_base.specs.declared.ids.Guid.{Guid}
use Rattle.model_found.specs.Findings.{Stored, FileFinding}
use Rattle.model_meaning.specs.MapMeaning.{guid_file, instance_number}
use Rattle.model_storage.specs.declared.metadata_value.Metadata.{Metadata}
use Rattle.model_storage.specs.declared.places.MessageAt.{MessageAt}
use Rattle.model_storage.specs.Metadata.{IsMetadata}
use Rattle.model_storage.specs.StorageFile.{Message}
use Rattle.model_taken.specs.Rebuild.{Rebuild, SkippedPlace}
use Rattle.model_taken.specs.Taken.{TakenMessage}

-- ---- the highest numbers

-- n is the greatest number of a kind, or 0 if there is none
pub record IsGreatest (Has : ℕ → Type 0) (n : ℕ) : Type 0 where
  pub most : (m : ℕ) → Has m → m ≤ n
  pub reached : (n ≡ 0) ⊎ Has n

-- a message that was found has this GUID in its lines, be it taken or skipped
pub record IsGuidFound (found : List FileFinding) (guid : Guid) : Type 0 where
  pub number : ℕ
  pub place : MessageAt
  pub message : Message
  pub meta : Metadata
  pub stands : Contains found (record { number = number; finding = Stored place message })
  pub says : IsMetadata message.lines meta
  pub is : meta.guid ≡ Some guid

-- A number of a storage file that is there, or that a found GUID of this store names. (`guid_file` is 0 if it names none.)
abbrev pub IsFileNumber : Files → List ℕ → List FileFinding → ℕ → Type 0
IsFileNumber files store found n = (IsNumber n × (files (file.Mail n) ≢ None)) ⊎ ((guid : Guid) × IsGuidFound found guid × (n ≡ guid_file store guid.0))

-- The running number of an instance that is there, if its id has this store's form. (`instance_number` is 0 if it hasn't.)
abbrev pub IsInstanceNumber : Files → List ℕ → ℕ → Type 0
IsInstanceNumber files store n = (hash : List ℕ) × (id : List ℕ) × IsNameInRange (file.Inst hash id) × (files (file.Inst hash id) ≢ None) × (n ≡ instance_number store id)

-- the highest numbers with which the map log begins: those that may have been given before, so that none is given again
pub record AreHighestFound (files : Files) (store : List ℕ) (found : List FileFinding) (h : Highest) : Type 0 where
  pub files_are : IsGreatest (IsFileNumber files store found) h.file
  pub instances_are : IsGreatest (IsInstanceNumber files store) h.instance
  pub map_is : h.map ≡ 0
  pub mailbox_is : h.mailbox ≡ 0

-- ---- generations

-- the least generation of which no log is there; 1 if there is a log of each
abbrev pub IsFreeGeneration : (ℕ → Type 0) → ℕ → Type 0
IsFreeGeneration IsUsed n =
    (IsNumber n × (IsUsed n → ⊥) × ((m : ℕ) → IsNumber m → (IsUsed m → ⊥) → n ≤ m)) ⊎ (((m : ℕ) → IsNumber m → IsUsed m) × (n ≡ 1))

abbrev pub IsMapUsed : Files → ℕ → Type 0
IsMapUsed files generation = files (file.Map generation) ≢ None

-- some mailbox, of whatever number, has a log of this generation
abbrev pub IsBoxUsed : Files → ℕ → Type 0
IsBoxUsed files generation = (number : ℕ) × (files (file.Box number generation) ≢ None)

-- ---- the plan

-- what is taken and what is skipped, the numbers with which the map log begins, and the generations of the new logs
pub record RebuildPlan : Type 0 where
  pub taken : List TakenMessage
  pub skipped : List SkippedPlace
  pub highest : Highest
  pub map_generation : ℕ
  pub box_generation : ℕ

-- The plan of a rebuild of these files as the store with this id.
pub record IsPlanFor (files : Files) (store : List ℕ) (plan : RebuildPlan) : Type 0 where
  pub rebuild : Rebuild files plan.taken plan.skipped
  pub numbers : AreHighestFound files store rebuild.found plan.highest
  pub map_free : IsFreeGeneration (IsMapUsed files) plan.map_generation
  pub box_free : IsFreeGeneration (IsBoxUsed files) plan.box_generation
