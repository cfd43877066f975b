-- What a script makes of a store.
use Rattle.std.specs.Prelude.{◌≡◌, ◌≤◌, ◌⊎◌, ℕ, Bool, true, false, not, List, All, Option, Some, Contains, map}
use Rattle.std.specs.List.{list_any}
use Rattle.disk_model.specs.Disk.{told_calls, History, Faults, EachImage, IsIdle, IsMoment}
use Rattle.mdbox_base.specs.declared.entries.Highest.{Highest}
use Rattle.mdbox_base.specs.declared.replies.Refusal.{Refusal}
use Rattle.mdbox_base.specs.declared.replies.Refusal.TheVariants as refusal
use Rattle.mdbox_base.specs.declared.replies.Reply.{Reply}
use Rattle.mdbox_base.specs.declared.replies.Reply.TheVariants as reply
use Rattle.mdbox_base.specs.declared.requests.Request.{Request}
use Rattle.mdbox_base.specs.declared.requests.Request.TheVariants as request
use Rattle.mdbox_base.specs.declared.script.JournalEntry.{JournalEntry}
use Rattle.model_lists.specs.Lists.{Lists}
use Rattle.model_meaning.specs.BoxMeaning.{BoxMeaning}
use Rattle.model_meaning.specs.MapMeaning.{MapMeaning, map_meaning}
use Rattle.model_store.specs.Settled.{IsSettledFor}
use Rattle.list_machine.specs.Machine.{is_step}
use Rattle.list_machine.specs.Run.{Run, RunEvent}
use Rattle.journal.specs.Journal.{Broken, JournalStep, Requests, left_by, moment_of}
use Rattle.journal.specs.Makes.{IsServed}
use Rattle.store_open.specs.Opened.{IsOpenedAs}
use Rattle.task_steps.specs.Serves.{AreTimely, IsReached}
use Rattle.lanes.specs.Worlds.{AreEntriesAt}
use Rattle.script_run.specs.Opening.{AreSafeFor, LogsShowLists, RunBegins, RunHasCome}

-- some request was replied that the store is stopped
abbrev pub HasStopped : List Reply → Type 0
HasStopped given = Contains given (reply.Refused refusal.Stopped)

-- The files open, their map log means this, and they show these lists.
abbrev pub OpensShowing : MapMeaning → Lists → Option History → Type 0
OpensShowing m lists new = (later : List BoxMeaning) × IsOpenedAs new m later × LogsShowLists m later lists

-- A world was made after so many calls of the device, as the disk tells that the store was open; no event of the run had ended before.
abbrev pub IsMadeBefore : Option History → ℕ → Run → Type 0
IsMadeBefore opened made run = IsMoment opened made × All (λ event. told_calls opened ≤ event.moment) run.events

-- the event answered its request, with a refusal that one of its checks gave
abbrev pub IsRefusedAtOnce : RunEvent → Type 0
IsRefusedAtOnce event = (why : Refusal) × (event.reply ≡ Some (reply.Refused why)) × (is_step why ≡ true)

-- a request that may change the store: any but a listing, a count and a fetch; a delivery; and a purge
abbrev pub only_reads : Request → Bool
only_reads (request.List name) = true
only_reads (request.Fetch name uid) = true
only_reads request.Counts = true
only_reads other = false

abbrev pub is_delivery : Request → Bool
is_delivery (request.Deliver name time octets) = true
is_delivery other = false

abbrev pub is_purge : Request → Bool
is_purge request.Purge = true
is_purge other = false

abbrev pub has_change : Requests → Bool
has_change script = list_any (λ asked. not (only_reads asked.1)) script

abbrev pub has_delivery : Requests → Bool
has_delivery script = list_any (λ asked. is_delivery asked.1) script

abbrev pub has_purge : Requests → Bool
has_purge script = list_any (λ asked. is_purge asked.1) script

-- From these lists a script was served legally, by a run that begins with the map log of the files, and each request has its reply.
-- The run has come to where the disk is now: unless a change of it failed, to what its map log means,
-- and its logs show what the journal leaves; and to its number of calls, so that by now every step is acknowledged. Of a disk that was
-- settled for the lists each crash image since is safe for lists that the journal reaches. So are its files as they read in the end, also
-- after a change that failed: for the lists that the journal leaves, or for those that the broken steps leave behind it. At the moment of
-- each event it was settled for what the steps up to it left; and it is settled for the lists that the journal leaves, unless a change of
-- it failed. The entries are those of the journal's steps, in order, of a world that was made after so many calls, which is the number of
-- its calls as the store was open. Where each event answered its request with a refusal, but for want of memory or by a failed call,
-- nothing has changed since then.
pub record ServesScript (script : Requests) (lists : Lists) (given : List Reply) (entries : List JournalEntry) (began now : Faults) (old opened new : Option History) : Type 0 where
  pub run : Run
  pub journal : List JournalStep
  pub broken : Broken
  pub m : MapMeaning
  pub drawn : Highest
  pub made : ℕ
  pub begins : RunBegins run old
  pub ends : (HasStopped given → ⊥) → RunHasCome run m new
  pub shows : (HasStopped given → ⊥) → OpensShowing m (left_by lists journal) new
  pub served : IsServed lists script run journal broken (map Some given) began now (map_meaning run.store run.start) m drawn (told_calls new)
  pub crash : IsSettledFor lists old → EachImage (IsReached lists run journal broken) old new
  pub reads : IsSettledFor lists old → AreSafeFor (left_by lists journal) new ⊎ AreSafeFor (left_by (left_by lists journal) broken.steps) new
  pub timely : IsSettledFor lists old → AreTimely lists run journal new
  pub settled : (HasStopped given → ⊥) → IsSettledFor lists old → IsSettledFor (left_by lists journal) new
  pub made_is : IsMadeBefore opened made run
  pub entries_are : AreEntriesAt new made (moment_of run) journal entries
  pub refused : All IsRefusedAtOnce run.events → IsIdle opened new

-- the request reads a message, and a request of the script does
abbrev pub is_fetch : Request → Bool
is_fetch (request.Fetch name uid) = true
is_fetch other = false

abbrev pub has_fetch : Requests → Bool
has_fetch script = list_any (λ asked. is_fetch asked.1) script

-- a request that reads octets of storage files or instances
abbrev pub reads_mail : Request → Bool
reads_mail (request.Fetch name uid) = true
reads_mail (request.Deliver name time octets) = true
reads_mail request.Purge = true
reads_mail request.Resync = true
reads_mail other = false

abbrev pub has_mail_read : Requests → Bool
has_mail_read script = list_any (λ asked. reads_mail asked.1) script
