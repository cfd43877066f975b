-- Where a delivery stands in a run.
use Rattle.std.specs.Prelude.{◌≡◌, ◌≢◌, ◌⊎◌, ℕ, Bool, true, List, [], ◌∷◌, ◌++◌, length, flat_map, if◌then◌else◌, Some, All}
use Rattle.std.specs.List.{AllByRecursion}
use Rattle.mdbox_base.specs.Words.{IsOctets}
use Rattle.mdbox_base.specs.declared.entries.InstRow.{InstRow}
use Rattle.mdbox_base.specs.declared.entries.MapEntry.{MapEntry}
use Rattle.mdbox_base.specs.declared.replies.Refusal.{Refusal}
use Rattle.mdbox_base.specs.declared.replies.Refusal.TheVariants as refusal
use Rattle.mdbox_base.specs.declared.replies.Reply.{Reply}
use Rattle.mdbox_base.specs.declared.replies.Reply.TheVariants as reply
use Rattle.model_meaning.specs.MapMeaning.{guid_file}
use Rattle.list_machine.specs.Run.{First, Compares, PlacesInstance, TakesFile, PlacesMessage, StoresRecord, Last, RunEvent, Run, own_events, given_by_others}
use Rattle.list_machine.specs.Machine.{is_step}
use Rattle.journal.specs.Events.{plain, uid_raised}
use Rattle.task_steps.specs.Step.{was_given}

-- ---- its own events

-- The event laid the message out, and did nothing in the store.
pub record HasLaidOut (event : RunEvent) : Type 0 where
  pub part : event.part ≡ First
  pub did : event ≡ plain event

-- the event compared an instance with the next part of the message, or placed that part as one
pub record HasAttached (event : RunEvent) : Type 0 where
  pub part : (event.part ≡ Compares) ⊎ (event.part ≡ PlacesInstance)
  pub did : event ≡ record (plain event) { compared = event.compared; equal = event.equal; placed = event.placed; drew = event.drew }

-- the event took this storage file, a new one or not
pub record TookFile (file : ℕ) (event : RunEvent) : Type 0 where
  pub new : Bool
  pub part : event.part ≡ TakesFile new
  pub did : event ≡ record (plain event) { files = record { file = file; target = 0 } ∷ []; made = event.made; drew = event.drew }

-- the event placed the message, and gave it this GUID
pub record HasPlaced (guid : List ℕ) (event : RunEvent) : Type 0 where
  pub part : event.part ≡ PlacesMessage
  pub did : event ≡ record (plain event) { given = guid ∷ [] }

-- the event stored the message, with a count that is held of this record
pub record HasStored (uid : ℕ) (event : RunEvent) : Type 0 where
  pub part : event.part ≡ StoresRecord
  pub entry : MapEntry
  pub raised : uid_raised entry ≡ Some uid
  pub did : event ≡ record (plain event) { map_entries = entry ∷ []; drew = event.drew }

-- the event didn't add the message: it was refused by this
pub record WasNotAdded (why : Refusal) (event : RunEvent) : Type 0 where
  pub part : event.part ≡ Last
  pub refused : event.refused ≡ Some why
  pub bare : event.map_entries ≡ []

-- ---- its events so far

-- It laid the message out, and found these instances for its parts, in order.
pub record AreAttachedSoFar (rows : List InstRow) (own : List RunEvent) : Type 0 where
  pub first : RunEvent
  pub more : List RunEvent
  pub own_are : own ≡ first ∷ more
  pub laid : HasLaidOut first
  pub attached : AllByRecursion HasAttached more
  pub found : flat_map (λ event. event.equal ++ event.placed) more ≡ rows

-- It also took this storage file.
pub record AreTakenSoFar (rows : List InstRow) (file : ℕ) (own : List RunEvent) : Type 0 where
  pub front : List RunEvent
  pub second : RunEvent
  pub own_are : own ≡ front ++ second ∷ []
  pub attached : AreAttachedSoFar rows front
  pub took : TookFile file second

-- It also placed the message there, with this GUID.
pub record ArePlacedSoFar (rows : List InstRow) (file : ℕ) (guid : List ℕ) (own : List RunEvent) : Type 0 where
  pub front : List RunEvent
  pub second : RunEvent
  pub third : RunEvent
  pub own_are : own ≡ front ++ second ∷ third ∷ []
  pub attached : AreAttachedSoFar rows front
  pub took : TookFile file second
  pub placed : HasPlaced guid third

-- It also stored the message under this map uid.
pub record AreStoredSoFar (guid : List ℕ) (uid : ℕ) (own : List RunEvent) : Type 0 where
  pub rows : List InstRow
  pub file : ℕ
  pub front : List RunEvent
  pub second : RunEvent
  pub third : RunEvent
  pub fourth : RunEvent
  pub own_are : own ≡ front ++ second ∷ third ∷ fourth ∷ []
  pub attached : AreAttachedSoFar rows front
  pub took : TookFile file second
  pub placed : HasPlaced guid third
  pub stored : HasStored uid fourth

-- It also tried to add the message, and was refused by this.
pub record AreRefusedSoFar (uid : ℕ) (why : Refusal) (own : List RunEvent) : Type 0 where
  pub rows : List InstRow
  pub file : ℕ
  pub guid : List ℕ
  pub front : List RunEvent
  pub second : RunEvent
  pub third : RunEvent
  pub fourth : RunEvent
  pub fifth : RunEvent
  pub own_are : own ≡ front ++ second ∷ third ∷ fourth ∷ fifth ∷ []
  pub attached : AreAttachedSoFar rows front
  pub took : TookFile file second
  pub placed : HasPlaced guid third
  pub stored : HasStored uid fourth
  pub refused : WasNotAdded why fifth

-- ---- its stages

-- The GUID has 16 octets, an event of the run gave it, and no other request did.
pub record IsOwnGuid (guid : List ℕ) (run : Run) (place : ℕ) : Type 0 where
  pub long : length guid ≡ 16
  pub each : IsOctets guid
  pub given : was_given run guid ≡ true
  pub once : All (λ other. other ≢ guid) (given_by_others place run)

-- Nothing was answered yet at these stages, and they tell the events so far: it has found these instances, and takes a file behind
-- the last of them, places the message in this file, stores a message of this file with this GUID, each with these instances, or
-- adds that of this GUID under this map uid.
abbrev pub IsTakingFile : List InstRow → Run → ℕ → List Reply → Type 0
IsTakingFile rows run place said = AreAttachedSoFar rows (own_events place run) × (said ≡ [])

abbrev pub IsPlacingMessage : List InstRow → ℕ → Run → ℕ → List Reply → Type 0
IsPlacingMessage rows file run place said = AreTakenSoFar rows file (own_events place run) × (said ≡ [])

-- the file that was taken is that of the GUID
abbrev pub IsStoringMessage : List InstRow → ℕ → List ℕ → Run → ℕ → List Reply → Type 0
IsStoringMessage rows file guid run place said = ArePlacedSoFar rows file guid (own_events place run) × (guid_file run.store guid ≡ file) × IsOwnGuid guid run place × (said ≡ [])

abbrev pub IsAddingMessage : List ℕ → ℕ → Run → ℕ → List Reply → Type 0
IsAddingMessage guid uid run place said = AreStoredSoFar guid uid (own_events place run) × IsOwnGuid guid run place × (said ≡ [])

-- It lowers the count of this record next: it was refused by a check, which was answered, or for lack of memory.
abbrev pub IsLoweringCount : ℕ → Refusal → Run → ℕ → List Reply → Type 0
IsLoweringCount uid why run place said =
    AreRefusedSoFar uid why (own_events place run) × (said ≡ (if is_step why then reply.Refused why ∷ [] else [])) × ((is_step why ≡ true) ⊎ (why ≡ refusal.NoMemory))
