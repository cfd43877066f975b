-- Drafts of mailbox logs: logs of a generation that the store doesn't need yet, which may be put in the place of those in force.
use Rattle.std.specs.Prelude.{◌≡◌, ◌≢◌, ◌≤◌, ◌<◌, ◌==◌, ◌⊎◌, ℕ, false, List, [], ◌∷◌, map, length, sum, sum_by, count_by, if◌then◌else◌, All, Option, Some}
use Rattle.disk_model.specs.Disk.{DiskState, History, IfTold, named}
use Rattle.disk_model.specs.declared.name.FileName.{FileName}
use Rattle.disk_model.specs.declared.name.FileName.TheVariants as file
use Rattle.box_index.specs.State.{BoxState}
use Rattle.gate_log.specs.Log.{Drafts, Holds, cut_by}
use Rattle.gate_log.specs.State.{LogState}
use Rattle.mdbox_base.specs.Words.{IsNumber}
use Rattle.mdbox_base.specs.declared.entries.BoxEntry.{BoxEntry}
use Rattle.mdbox_base.specs.declared.ids.BoxNo.{BoxNo}
use Rattle.model_lists.specs.Lists.{ListedMessage, Lists}
use Rattle.model_logs.specs.Entries.{box_text}
use Rattle.model_logs.specs.declared.log_head.LogKind.TheVariants as kind
use Rattle.model_meaning.specs.BoxMeaning.{BoxMeaning, BoxFits, box_applied, box_meaning}
use Rattle.model_meaning.specs.MapMeaning.{MapBox, MapMeaning}
use Rattle.model_rewritten.specs.Switched.{list_switched}
use Rattle.model_store.specs.Opening.{AreBoxEntries, HasItsRecord}
use Rattle.model_store.specs.Settled.{files_of}
use Rattle.model_store.specs.Stands.{AreListed, head_of}
use Rattle.store_core.specs.MadeLogs.{has_made_log}
use Rattle.store_core.specs.Value.{StoreValue, indexes_of, list_numbered}
use Rattle.store_core.specs.declared.store.OpenBox.{OpenBox}

-- What a caller sees of a draft: whose log it is, of which generation, the log, and what its entries mean.
pub record BoxDraftValue : Type 0 where
  pub number : BoxNo
  pub generation : ℕ
  pub log : LogState
  pub index : BoxState

-- The store needs no log of this mailbox in this generation: the map has the mailbox with an earlier one or not at all, and no log
-- of it was made that the map doesn't name.
pub record IsNewer {D : Type 0} (number generation : ℕ) (store : StoreValue D) : Type 0 where
  pub is_number : IsNumber number
  pub was_drawn : number ≤ store.drawn.mailbox
  pub is_generation : IsNumber generation
  pub later : All (λ box. box.number ≡ number → box.generation < generation) store.map.boxes
  pub unmade : has_made_log number store ≡ false

-- The disk reads the draft: a log of this mailbox in a generation that the store doesn't need, with entries that fit and mean this,
-- each of whose messages has its record.
pub record IsBoxDraft {D : Type 0} (history : Option History) (draft : BoxDraftValue) (store : StoreValue D) : Type 0 where
  pub entries : List BoxEntry
  pub good : AreBoxEntries entries
  pub means : draft.index.meaning ≡ box_meaning entries
  pub name : draft.log.name ≡ file.Box draft.number.0 draft.generation
  pub head : draft.log.head ≡ head_of store.map.store kind.Box draft.number.0 draft.generation
  pub reads : Drafts draft.log (map box_text entries) history
  pub records : All (HasItsRecord store.map) draft.index.meaning.rows
  pub newer : IsNewer draft.number.0 draft.generation store

-- ---- extending

-- each entry fits behind entries of this meaning and those before it
abbrev pub AllFitBehind : BoxMeaning → List BoxEntry → Type 0
AllFitBehind m [] = Unit {0}
AllFitBehind m (entry ∷ rest) = BoxFits m entry × AllFitBehind (box_applied entry m) rest

-- ---- putting in force

-- what the logs of the mailboxes mean, where the one of the mailbox with this number means this
abbrev pub meanings_with : ℕ → BoxMeaning → List MapBox → List BoxMeaning → List BoxMeaning
meanings_with number m (box ∷ boxes) (old ∷ olds) = (if number == box.number then m else old) ∷ meanings_with number m boxes olds
meanings_with number m boxes olds = olds

-- the mailboxes, where the one with the draft's number has the draft's log and what it means
abbrev pub boxes_with : BoxDraftValue → List OpenBox → List OpenBox
boxes_with draft boxes = map (λ b. if b.number.0 == draft.number.0 then record { number = draft.number; log = draft.log; index = draft.index } else b) boxes

-- how many listed messages have this map uid, where the mailbox has the draft's list
abbrev pub listed_with : {D : Type 0} → BoxDraftValue → ℕ → StoreValue D → ℕ
listed_with draft uid store = sum_by (λ m. count_by (λ row. row.map_uid == uid) m.rows) (meanings_with draft.number.0 draft.index.meaning store.map.boxes (indexes_of store.boxes))

-- the draft lists these messages, as the disk reads them
abbrev pub ListsMessages : BoxDraftValue → MapMeaning → List ListedMessage → Option History → Type 0
ListsMessages draft m messages history = IfTold history (λ now. AreListed (files_of now) m draft.index.meaning.rows messages)

-- each file but these three is as it was, with its name synced
abbrev pub AreNamedButFor : FileName → FileName → FileName → DiskState → DiskState → Type 0
AreNamedButFor first second third a b = (other : FileName) → other ≢ first → other ≢ second → other ≢ third → b other ≡ named (a other)

-- ---- within the crate

-- A draft that a crash leaves as it reads.
pub record IsHeldDraft {D : Type 0} (history : Option History) (draft : BoxDraftValue) (store : StoreValue D) : Type 0 where
  pub drafted : IsBoxDraft history draft store
  pub held : Holds draft.log (map box_text drafted.entries) history

-- The draft, in force, gives these later lists in the place of the former: the mailbox has its messages, or the lists stay, where it
-- means what the log in force means.
abbrev pub GivesLists : {D : Type 0} → BoxDraftValue → StoreValue D → Option History → Lists → Lists → Type 0
GivesLists draft store history lists later =
    ((messages : List ListedMessage) × ListsMessages draft store.map messages history × (later ≡ list_switched draft.number.0 draft.index.meaning.next messages lists))
    ⊎ ((list_numbered store draft.number.0 ≡ Some draft.index.meaning) × (later ≡ lists))

-- No mailbox of the map has the log of this generation.
abbrev pub IsOutOfForce : ℕ → ℕ → MapMeaning → Type 0
IsOutOfForce number generation m = All (λ box. box.number ≡ number → box.generation ≢ generation) m.boxes

-- These octets are the texts of entries, one after another, and these are their lengths.
pub record AreEntryTexts (texts : List (List ℕ)) (octets lengths : List ℕ) : Type 0 where
  pub cut : cut_by lengths octets ≡ texts
  pub whole : sum lengths ≡ length octets
  pub some : All (λ size. 1 ≤ size) lengths
  pub many : length lengths ≡ length texts
