-- How the run of a script ends.
use Rattle.std.specs.Prelude.{◌≡◌, ◌⊎◌, ℕ, true, false, List, All, Option, length}
use Rattle.disk_model.specs.Disk.{History, Faults, Grows, IsIdle}
use Rattle.mdbox_base.specs.declared.replies.Reply.{Reply}
use Rattle.mdbox_base.specs.declared.script.JournalEntry.{JournalEntry}
use Rattle.model_lists.specs.Lists.{Lists}
use Rattle.model_meaning.specs.BoxMeaning.{BoxMeaning}
use Rattle.model_meaning.specs.MapMeaning.{MapMeaning}
use Rattle.model_store.specs.Settled.{IsSettledFor}
use Rattle.journal.specs.Journal.{Requests, refusal_in}
use Rattle.lanes.specs.Going.{TellsDamage}
use Rattle.store_open.specs.Opened.{IsClosedWell, IsOpenedAs, KeepsOpenedMail, StoreCarries}
use Rattle.store_sweep.specs.Moments.{IdleIf}
use Rattle.store_sweep.specs.Swept.{IsSwept}
use Rattle.task_claims.specs.Leaving.{SyncsMail}
use Rattle.script_run.specs.Faults.{CountsStay, FaultsByReplies}
use Rattle.script_run.specs.Opening.{AreSafeFor, BeginsAs, LogsShowLists}
use Rattle.script_run.specs.Script.{HasStopped, ServesScript, has_change, has_delivery, has_fetch, has_purge}
use Rattle.script_run.specs.Sealed.{KeepsSealed}

-- If the script reads a message, the disk was settled for these lists; of a script of one request it is enough that its files were safe
-- for them.
abbrev pub MayRead : Requests → Lists → Option History → Type 0
MayRead script lists old = has_fetch script ≡ true → IsSettledFor lists old ⊎ ((length script ≡ 1) × AreSafeFor lists old)

-- There are lists from which it may be served; and it may be said of it that storage files and instances stay: a script that delivers
-- messages and fetches others has to find a settled disk, and one that purges doesn't leave them where they were.
abbrev pub MayBeServed : Requests → Option History → Type 0
MayBeServed script old = (lists : Lists) × MayRead script lists old

abbrev pub MayBeKept : Requests → Option History → Type 0
MayBeKept script old = (has_purge script ≡ false) × (has_delivery script ≡ true → MayBeServed script old)

-- The opening swept the disk, and the store opens again with logs that mean the same and the same mail, with all that it read where no
-- log was due to be written anew; a store that was closed well it left as it was. A script that only lists, counts and fetches changes
-- nothing since; and one with neither a delivery nor a purge leaves storage files and instances as the opening left them, but that names
-- may be synced, unless a change of the disk failed.
pub record LeavesStore (script : Requests) (m : MapMeaning) (given : List Reply) (old new : Option History) : Type 0 where
  pub generation : ℕ
  pub opened : Option History
  pub swept : IsSwept generation m old opened
  pub carried : StoreCarries old opened
  pub closed_well : IdleIf IsClosedWell old opened
  pub grows : Grows opened new
  pub idle : has_change script ≡ false → IsIdle opened new
  pub mail : has_delivery script ≡ false → has_purge script ≡ false → (HasStopped given → ⊥) → SyncsMail opened new

-- The store was opened, and each request of the script has its reply. The script was served from any lists that the logs show with
-- which the store opened, if it reads a message only from those from which it may (`MayRead`), by a run that begins with the map that
-- the logs mean; whenever the files are safe for lists, the logs show them. No reply says that a message is damaged, if the script may be
-- served from any lists; and then no reply to a script that only lists, counts and fetches says that the store is stopped. Which calls of
-- the disk failed follows from the replies; of a script that can't be served so, how the counts of faults stay. At each moment
-- storage files and instances stayed; and where a script purges, sealed storage files did.
pub record IsScriptDone (script : Requests) (given : List Reply) (entries : List JournalEntry) (old new : Option History) (began now : Faults) : Type 0 where
  pub each : length given ≡ length script
  pub m : MapMeaning
  pub meanings : List BoxMeaning
  pub opened : IsOpenedAs old m meanings
  pub shown : (lists : Lists) → AreSafeFor lists old → LogsShowLists m meanings lists
  pub leaves : LeavesStore script m given old new
  pub serves : (lists : Lists) → LogsShowLists m meanings lists → MayRead script lists old → ServesScript script lists given entries began now old leaves.opened new
  pub begins : (lists : Lists) (shown_by : LogsShowLists m meanings lists) (may : MayRead script lists old) → BeginsAs m (serves lists shown_by may).run
  pub undamaged : MayBeServed script old → All (λ one. TellsDamage (refusal_in one) → ⊥) given
  pub running : MayBeServed script old → has_change script ≡ false → HasStopped given → ⊥
  pub faults : MayBeServed script old → FaultsByReplies given began now
  pub counts : CountsStay script given began now
  pub stays : MayBeKept script old → KeepsOpenedMail old new
  pub sealed : MayBeServed script old → KeepsSealed old new
