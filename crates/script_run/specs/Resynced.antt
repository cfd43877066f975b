-- What a resync alone makes of a store.
use Rattle.std.specs.Prelude.{◌≡◌, ◌≢◌, ◌==◌, ◌⊎◌, ℕ, List, [], ◌∷◌, All, AllPairs, Contains, length, sum_by, count_by, Option}
use Rattle.disk_model.specs.Disk.{History}
use Rattle.mdbox_base.specs.declared.entries.MapCount.{MapCount}
use Rattle.mdbox_base.specs.declared.replies.Refusal.TheVariants as refusal
use Rattle.mdbox_base.specs.declared.replies.Reply.{Reply}
use Rattle.mdbox_base.specs.declared.replies.Reply.TheVariants as reply
use Rattle.mdbox_base.specs.declared.requests.Request.TheVariants as request
use Rattle.model_meaning.specs.BoxMeaning.{BoxMeaning}
use Rattle.model_meaning.specs.MapFits.{HasRecord}
use Rattle.model_meaning.specs.MapMeaning.{MapRecord, MapMeaning}
use Rattle.journal.specs.Journal.{Requests}
use Rattle.resync_task.specs.Damage.{HasDamagedRegion, HasWholeRegion}
use Rattle.resync_task.specs.Stages.{corrected_map}
use Rattle.resync_task.specs.WrongCounts.{wrong_beside}

-- how many messages the logs of mailboxes list of the record with this map uid: its references
abbrev pub references_in : List BoxMeaning → ℕ → ℕ
references_in meanings uid = sum_by (λ m. count_by (λ row. row.map_uid == uid) m.rows) meanings

-- the counts of the map that aren't so, in order of map uid, each as it is right
abbrev pub wrong_in : List BoxMeaning → MapMeaning → List MapCount
wrong_in meanings m = wrong_beside (references_in meanings) m.records

-- These are the map uids of the records whose regions aren't one message of that size with the record's GUID, each once, as far as the
-- disk tells.
pub record AreDamagedRegions (history : Option History) (m : MapMeaning) (uids : List ℕ) : Type 0 where
  pub once : AllPairs (λ a b. a ≢ b) uids
  pub bad : All (λ uid. HasRecord m uid (λ row. HasDamagedRegion history row)) uids
  pub every : All (λ row. Contains uids row.uid ⊎ HasWholeRegion history row) m.records

-- The listings stay, and of the map the counts that were wrong are right and nothing else is another: so each count is exactly its
-- references. So many counts were wrong, and so many regions are damaged.
pub record IsResynced (corrected damaged : ℕ) (opened : Option History) (m : MapMeaning) (meanings : List BoxMeaning) (later : MapMeaning) (later_meanings : List BoxMeaning) : Type 0 where
  pub listings : later_meanings ≡ meanings
  pub corrected_are : corrected ≡ length (wrong_in meanings m)
  pub map_is : later ≡ corrected_map (wrong_in meanings m) m
  pub exact : (row : MapRecord) → Contains later.records row → row.count ≡ references_in later_meanings row.uid
  pub damaged_regions : List ℕ
  pub damaged_are : damaged ≡ length damaged_regions
  pub regions : AreDamagedRegions opened m damaged_regions

-- What a resync replies: its two numbers; or there was no memory, a read failed, or a change of the disk did.
abbrev pub IsResyncAnswer : Reply → Option History → MapMeaning → List BoxMeaning → MapMeaning → List BoxMeaning → Type 0
IsResyncAnswer (reply.Resynced corrected damaged) opened m meanings later later_meanings = IsResynced corrected damaged opened m meanings later later_meanings
IsResyncAnswer (reply.Refused refusal.NoMemory) opened m meanings later later_meanings = Unit {0}
IsResyncAnswer (reply.Refused refusal.ReadFault) opened m meanings later later_meanings = Unit {0}
IsResyncAnswer (reply.Refused refusal.Stopped) opened m meanings later later_meanings = Unit {0}
IsResyncAnswer given opened m meanings later later_meanings = ⊥

-- So a resync alone is answered.
abbrev pub IsResyncedAlone : Requests → List Reply → Option History → MapMeaning → List BoxMeaning → MapMeaning → List BoxMeaning → Type 0
IsResyncedAlone ((lane, request.Resync) ∷ []) (given ∷ []) opened m meanings later later_meanings = IsResyncAnswer given opened m meanings later later_meanings
IsResyncedAlone script given opened m meanings later later_meanings = Unit {0}
