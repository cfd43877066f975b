-- The logs of a rebuilt store.
use Rattle.std.specs.Prelude.{◌≡◌, ◌+◌, ℕ, List, [], ◌∷◌, ◌++◌, length, map, filter, All}
use Rattle.std.specs.Str.{bytes_eq}
use Rattle.disk_model.specs.Disk.{Files}
use Rattle.disk_model.specs.declared.name.FileName.TheVariants as file
use Rattle.mdbox_base.specs.declared.entries.BoxEntry.{BoxEntry}
use Rattle.mdbox_base.specs.declared.entries.BoxEntry.TheVariants as box
use Rattle.mdbox_base.specs.declared.entries.Highest.{Highest}
use Rattle.mdbox_base.specs.declared.entries.MapEntry.{MapEntry}
use Rattle.mdbox_base.specs.declared.entries.MapEntry.TheVariants as map_entry
use Rattle.mdbox_base.specs.declared.entries.RootEntry.TheVariants as root
use Rattle.model_logs.specs.declared.log_head.LogKind.TheVariants as kind
use Rattle.model_logs.specs.Entries.{root_text, map_text, box_text}
use Rattle.model_meaning.specs.MapMeaning.{with_number}
use Rattle.model_rebuild.specs.RebuildPlan.{RebuildPlan}
use Rattle.model_store.specs.Stands.{head_of, HasLog}
use Rattle.model_taken.specs.Rebuild.{SkippedPlace}
use Rattle.model_taken.specs.Taken.{TakenMessage, mailboxes_met}

-- ---- the entries of the map log

-- mailboxes with these names, numbered from this number on
abbrev pub made_from : ℕ → ℕ → List (List ℕ) → List MapEntry
made_from number generation [] = []
made_from number generation (name ∷ names) = map_entry.B (record { 0 = number }) generation name ∷ made_from (number + 1) generation names

-- a message with this map uid: found by a rebuild (origin 1), with a count of 1
abbrev pub rebuilt_entry : ℕ → TakenMessage → MapEntry
rebuilt_entry uid t = map_entry.S 1 1 (record { 0 = uid }) (record { 0 = t.file }) t.offset t.size (record { 0 = t.guid }) t.instances

-- messages with map uids from this one on
abbrev pub all_stored_from : ℕ → List TakenMessage → List MapEntry
all_stored_from uid [] = []
all_stored_from uid (t ∷ rest) = rebuilt_entry uid t ∷ all_stored_from (uid + 1) rest

-- the storage files that have a skipped place, in order of number: they are sealed
abbrev pub numbers_skipped : List SkippedPlace → List ℕ
numbers_skipped [] = []
numbers_skipped (s ∷ rest) = with_number s.number (numbers_skipped rest)

-- The highest numbers; then each mailbox, each message, each sealed file.
abbrev pub rebuilt_map : Highest → ℕ → List TakenMessage → List SkippedPlace → List MapEntry
rebuilt_map highest generation taken skipped =
    map_entry.H highest ∷ (made_from 1 generation (mailboxes_met taken)
    ++ (all_stored_from 1 taken ++ map (λ number. map_entry.E (record { 0 = number })) (numbers_skipped skipped)))

-- ---- the entries of mailbox logs

-- a message with its map uid
pub record MappedMessage : Type 0 where
  pub uid : ℕ
  pub message : TakenMessage

-- messages with map uids from this one on
abbrev pub mapped_from : ℕ → List TakenMessage → List MappedMessage
mapped_from uid [] = []
mapped_from uid (t ∷ rest) = record { uid = uid; message = t } ∷ mapped_from (uid + 1) rest

-- they are added, with UIDs from this one on, without keywords
abbrev pub added_from : ℕ → List MappedMessage → List BoxEntry
added_from uid [] = []
added_from uid (t ∷ rest) = box.A (record { 0 = uid }) 0 t.message.time (length t.message.octets) (record { 0 = t.uid }) (record { 0 = t.message.guid }) [] ∷ added_from (uid + 1) rest

-- the entries of the log of the mailbox with this name
abbrev pub rebuilt_box : List ℕ → List TakenMessage → List BoxEntry
rebuilt_box name taken = added_from 1 (filter (λ t. bytes_eq t.message.mailbox name) (mapped_from 1 taken))

-- ---- the logs

-- mailboxes with these names, numbered from this number on, have their logs
abbrev pub HasRebuiltBoxes : Files → List ℕ → ℕ → ℕ → List (List ℕ) → List TakenMessage → Type 0
HasRebuiltBoxes image store number generation [] taken = Unit {0}
HasRebuiltBoxes image store number generation (name ∷ names) taken =
    HasLog image (file.Box number generation) (head_of store kind.Box number generation) (map box_text (rebuilt_box name taken)) × HasRebuiltBoxes image store (number + 1) generation names taken

-- The logs of the store with this id are there as planned: the root log with the one entry that names the map log, the map log, and
-- the log of each mailbox.
pub record HasRebuiltLogs (image : Files) (store : List ℕ) (plan : RebuildPlan) : Type 0 where
  pub root_log : HasLog image file.Root (head_of store kind.Root 0 0) (root_text (root.M plan.map_generation) ∷ [])
  pub map_log : HasLog image (file.Map plan.map_generation) (head_of store kind.Map 0 plan.map_generation) (map map_text (rebuilt_map plan.highest plan.box_generation plan.taken plan.skipped))
  pub box_logs : HasRebuiltBoxes image store 1 plan.box_generation (mailboxes_met plan.taken) plan.taken

-- both have the same storage file of a message, and the same instances
pub record HasSameMessage (files image : Files) (t : TakenMessage) : Type 0 where
  pub storage : image (file.Mail t.file) ≡ files (file.Mail t.file)
  pub instances : All (λ i. image (file.Inst i.hash.0 i.id.0) ≡ files (file.Inst i.hash.0 i.id.0)) t.instances
