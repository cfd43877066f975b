-- The store as a script leaves it, before its disk is handed back.
use Rattle.std.specs.Prelude.{◌≡◌, ◌⊎◌, true, List, [], ◌∷◌, Option}
use Rattle.disk_model.specs.Disk.{History, Faults, IsIdle}
use Rattle.mdbox_base.specs.declared.replies.Reply.{Reply}
use Rattle.mdbox_base.specs.declared.requests.Request.{Request}
use Rattle.mdbox_base.specs.declared.script.JournalEntry.{JournalEntry}
use Rattle.model_lists.specs.Lists.{Lists}
use Rattle.model_meaning.specs.BoxMeaning.{BoxMeaning}
use Rattle.model_meaning.specs.MapMeaning.{MapMeaning}
use Rattle.model_store.specs.Settled.{IsSettledFor}
use Rattle.journal.specs.Journal.{Broken, JournalStep, Requests, left_by}
use Rattle.store_core.specs.Value.{StoreValue, indexes_of}
use Rattle.store_open.specs.Opened.{IsOpenedAs}
use Rattle.script_run.specs.Done.{IsScriptDone, MayRead}
use Rattle.script_run.specs.One.{IsGivenBackAlone, IsToldAlone, IsUndoneAlone, IsUnmadeAlone, MeansAlike, MeansByMake, ReadAlike, alone}
use Rattle.script_run.specs.Opening.{LogsShowLists}
use Rattle.script_run.specs.Purged.{IsPurgedAlone, IsRefusedRoomAlone}
use Rattle.script_run.specs.Resynced.{IsResyncedAlone}
use Rattle.script_run.specs.Script.{HasStopped, OpensShowing}

-- The files open, with logs that show the lists that the journal leaves, or those that the broken steps leave behind it.
abbrev pub OpensOnLeft : Lists → List JournalStep → Broken → Option History → Type 0
OpensOnLeft lists journal broken new =
    ((m : MapMeaning) × OpensShowing m (left_by lists journal) new) ⊎ ((m : MapMeaning) × OpensShowing m (left_by (left_by lists journal) broken.steps) new)

-- The script was done, and logs mean this now: from whatever lists it was served, they show those that the journal leaves, and the run has
-- come to this map; and the files open with them, unless a reply says that the store is stopped. Also where one does, the files of a disk
-- that was settled for the lists open, with logs that show what the journal leaves, or the broken steps behind it. Of a resync and of a purge alone its reply tells what it made of them, and
-- of a purge, what it made of the files; one that is refused for lack of numbers or room lacks them.
pub record ComesTo (script : Requests) (given : List Reply) (entries : List JournalEntry) (old new : Option History) (began now : Faults) (done : IsScriptDone script given entries old new began now) (m : MapMeaning) (meanings : List BoxMeaning) : Type 0 where
  pub shows : (lists : Lists) (shown_by : LogsShowLists done.m done.meanings lists) (may : MayRead script lists old) → LogsShowLists m meanings (left_by lists (done.serves lists shown_by may).journal)
  pub means : (lists : Lists) (shown_by : LogsShowLists done.m done.meanings lists) (may : MayRead script lists old) → (done.serves lists shown_by may).m ≡ m
  pub again : (HasStopped given → ⊥) → IsOpenedAs new m meanings
  pub reopens : (lists : Lists) (shown_by : LogsShowLists done.m done.meanings lists) (may : MayRead script lists old) → IsSettledFor lists old → OpensOnLeft lists (done.serves lists shown_by may).journal (done.serves lists shown_by may).broken new
  pub alike : IsGivenBackAlone script given → MeansAlike done.m done.meanings m meanings
  pub made : MeansByMake script given done.m done.meanings m meanings
  pub resynced : IsResyncedAlone script given done.leaves.opened done.m done.meanings m meanings
  pub purged : IsPurgedAlone script given done.leaves.opened new done.m m
  pub room : IsRefusedRoomAlone script given done.leaves.opened done.m

-- The script was done, and this store is left open, which has come to where the logs have: it is stopped only if a reply says so. Of a
-- script of one request that may change lists, but for a delivery, the reply is so by the logs with which the store opened; and one that
-- is refused has changed nothing since then, unless the store is stopped. A make alone that isn't done leaves each file reading as it did
-- then: the log that it made is removed.
pub record IsServedOpen {D : Type 0} (script : Requests) (given : List Reply) (entries : List JournalEntry) (old new : Option History) (began now : Faults) (store : StoreValue D) : Type 0 where
  pub done : IsScriptDone script given entries old new began now
  pub comes : ComesTo script given entries old new began now done store.map (indexes_of store.boxes)
  pub stopped : store.stopped ≡ true → HasStopped given
  pub told : IsToldAlone script done.m done.meanings given
  pub undone : IsUndoneAlone script given → IsIdle done.leaves.opened new
  pub unmade : IsUnmadeAlone script given → ReadAlike done.leaves.opened new

-- A request alone was done, as a script of its own, and logs mean this now, which have come to what it leaves; flags or keywords are set, or not,
-- and a message is removed, or not, as the logs said with which the store opened. Where it isn't removed, or keywords aren't set, nothing
-- has changed since then, unless the store is stopped. Where a mailbox isn't made, each file reads as it did then.
pub record IsRequestDone (request : Request) (given : Reply) (old new : Option History) (began now : Faults) : Type 0 where
  pub entries : List JournalEntry
  pub done : IsScriptDone (alone request) (given ∷ []) entries old new began now
  pub later : MapMeaning
  pub later_meanings : List BoxMeaning
  pub comes : ComesTo (alone request) (given ∷ []) entries old new began now done later later_meanings
  pub told : IsToldAlone (alone request) done.m done.meanings (given ∷ [])
  pub undone : IsUndoneAlone (alone request) (given ∷ []) → IsIdle done.leaves.opened new
  pub unmade : IsUnmadeAlone (alone request) (given ∷ []) → ReadAlike done.leaves.opened new
