-- What each event of a delivery makes of the storage files and the instances, as the disk has them.
use Rattle.std.specs.Prelude.{◌≡◌, ◌≢◌, ℕ, List, Option, Some, None}
use Rattle.disk_model.specs.Disk.{History, IfTold, Between, Keeps, reading}
use Rattle.disk_model.specs.declared.name.FileName.TheVariants.{Mail, Inst}
use Rattle.attach_detach.specs.declared.message.Detached.{Detached}
use Rattle.attach_detach.specs.declared.message.Prepared.{Prepared}
use Rattle.mdbox_base.specs.declared.entries.InstRow.{InstRow}
use Rattle.save_instances.specs.Attaching.{next_attachment, next_candidate, part_row}
use Rattle.saved_message.specs.Region.{written_region}
use Rattle.saved_message.specs.Saved.{ids_in}
use Rattle.sis_store.specs.Instances.{next_id}
use Rattle.sis_store.specs.OnDisk.{instance_file}
use Rattle.storage_files.specs.Files.{end_in}
use Rattle.storage_files.specs.OnDisk.{IsAddedTo}
use Rattle.store_core.specs.Value.{StoreValue}
use Rattle.task_claims.specs.Leaving.{IsSameOrSynced}
use Rattle.mail_save.specs.Parts.{AreLaidOut}
use Rattle.mail_save.specs.declared.task.SaveStage.{SaveStage}
use Rattle.mail_save.specs.declared.task.SaveStage.TheVariants as stage

-- All instances, and all storage files, or all but this one, are as they were, or their names were synced.
abbrev pub ReadsSameMail : Option History → Option History → Type 0
ReadsSameMail = Between (λ a b. ((number : ℕ) → IsSameOrSynced (a (Mail number)) (b (Mail number))) × ((hash id : List ℕ) → IsSameOrSynced (a (Inst hash id)) (b (Inst hash id))))

abbrev pub ReadsOtherMail : ℕ → Option History → Option History → Type 0
ReadsOtherMail file = Between (λ a b. ((number : ℕ) → number ≢ file → IsSameOrSynced (a (Mail number)) (b (Mail number))) × ((hash id : List ℕ) → IsSameOrSynced (a (Inst hash id)) (b (Inst hash id))))

-- A storage file was taken: it was there, or it has this header alone, which a crash leaves.
pub record TakesWithHeader {D : Type 0} (header : List ℕ) (file : ℕ) (old : StoreValue D) (before after : Option History) : Type 0 where
  pub others : ReadsOtherMail file before after
  pub known : (end : ℕ) → end_in file old.files.files ≡ Some end → ReadsSameMail before after
  pub made : end_in file old.files.files ≡ None → IfTold after (λ now. Keeps (now (Mail file)) header)

-- This region was added to its storage file.
pub record HasAppended (region : List ℕ) (file : ℕ) (before after : Option History) : Type 0 where
  pub others : ReadsOtherMail file before after
  pub added : Between (λ a b. IsAddedTo region (a (Mail file)) (b (Mail file))) before after

-- An instance with these octets was placed, which wasn't there and which a crash leaves. All other instances read as they did, and all
-- storage files are as they were, or their names were synced.
pub record AddsInstance (row : InstRow) (octets : List ℕ) (before after : Option History) : Type 0 where
  pub fresh : IfTold before (λ now. reading (now (instance_file row)) ≡ None)
  pub files : Between (λ a b. (number : ℕ) → IsSameOrSynced (a (Mail number)) (b (Mail number))) before after
  pub others : Between (λ a b. (hash id : List ℕ) → Inst hash id ≢ instance_file row → reading (b (Inst hash id)) ≡ reading (a (Inst hash id))) before after
  pub made : IfTold after (λ now. Keeps (now (instance_file row)) octets)

-- What the event writes that goes on with this attachment: where it is compared with a candidate, nothing; else it is placed.
abbrev pub WritesAttachment : {D : Type 0} → Option InstRow → Option Detached → StoreValue D → Option History → Option History → Type 0
WritesAttachment None (Some part) old before after = AddsInstance (part_row part (next_id old.instances)) part.octets before after
WritesAttachment candidate part old before after = ReadsSameMail before after

-- By stage: an event compares or places an attachment, one takes a file, one adds to it, and the others write to none.
abbrev pub WritesMail : {D : Type 0} → SaveStage → SaveStage → List ℕ → ℕ → StoreValue D → Option History → Option History → Type 0
WritesMail (stage.Attaching parts attaching) stage.Ended name time old before after = ReadsSameMail before after
WritesMail (stage.Attaching parts attaching) next name time old before after = WritesAttachment (next_candidate attaching old.instances) (next_attachment attaching) old before after
WritesMail (stage.Taking parts) (stage.Placing laid file) name time old before after = TakesWithHeader parts.header file.0 old before after
WritesMail (stage.Placing parts file) (stage.Storing at rows room) name time old before after =
    (prepared : Prepared) → AreLaidOut name time prepared (ids_in parts.rows) parts → HasAppended (written_region name time prepared (ids_in parts.rows) at.guid.0) file.0 before after
WritesMail now next name time old before after = ReadsSameMail before after
