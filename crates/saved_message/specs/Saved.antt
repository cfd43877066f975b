-- A saved message in the files.
use Rattle.std.specs.Prelude.{◌≡◌, ◌≤◌, ◌<◌, ◌+◌, ◌^◌, ℕ, List, [], ◌∷◌, All, length, map, take, drop, Some}
use Rattle.disk_model.specs.Disk.{Files}
use Rattle.disk_model.specs.declared.name.FileName.TheVariants as file
use Rattle.mdbox_base.specs.Words.{IsName}
use Rattle.mdbox_base.specs.declared.entries.InstRow.{InstRow}
use Rattle.mdbox_base.specs.declared.ids.InstId.{InstId}
use Rattle.model_meaning.specs.MapMeaning.{MapRecord}
use Rattle.model_store.specs.Stands.{HasInstances}
use Rattle.attach_detach.specs.Prepared.{IsPrepared}
use Rattle.attach_detach.specs.declared.message.Detached.{Detached}
use Rattle.attach_detach.specs.declared.message.Prepared.{Prepared}
use Rattle.saved_message.specs.Laid.{AreSixteen}
use Rattle.saved_message.specs.Region.{written_region}

-- A message that can be written: to a mailbox name, at a time of 64 bits, of at most 67,108,864 octets, in this form.
pub record CanBeWritten (name : List ℕ) (time : ℕ) (message : List ℕ) (prepared : Prepared) : Type 0 where
  pub named : IsName name
  pub timed : time < 2 ^ 64
  pub small : length message ≤ 67108864
  pub form : IsPrepared message prepared

-- the instances of detached attachments, in order, one for each, by their hash
abbrev pub AreInstancesOf : List Detached → List InstRow → Type 0
AreInstancesOf [] [] = Unit {0}
AreInstancesOf [] (row ∷ rows) = ⊥
AreInstancesOf (d ∷ parts) [] = ⊥
AreInstancesOf (d ∷ parts) (row ∷ rows) = (row.hash ≡ d.hash) × AreInstancesOf parts rows

abbrev pub ids_in : List InstRow → List InstId
ids_in rows = map (λ row. row.id) rows

-- The record's region lies in its file, and is what is written of the message with the record's GUID and the ids of its
-- instances. These are the instances of the detached attachments, and their files have the attachments' octets.
pub record HasWritten (files : Files) (row : MapRecord) (name : List ℕ) (time : ℕ) (prepared : Prepared) : Type 0 where
  pub there : List ℕ
  pub in_file : files (file.Mail row.file) ≡ Some there
  pub inside : row.offset + row.size ≤ length there
  pub region : take row.size (drop row.offset there) ≡ written_region name time prepared (ids_in row.instances) row.guid
  pub guid : AreSixteen row.guid
  pub ids : All (λ inst. AreSixteen inst.id.0) row.instances
  pub instances : AreInstancesOf prepared.parts row.instances
  pub octets : HasInstances files row.instances (map (λ d. d.octets) prepared.parts)
