-- A script of one request, and the lists that it leaves.
use Rattle.std.specs.Prelude.{◌≡◌, ◌<◌, ◌+◌, ◌++◌, ◌⊎◌, ℕ, nat_le, Bool, List, [], ◌∷◌, All, if◌then◌else◌, codes, is_none, is_some, length, Option, Some, None}
use Rattle.std.specs.Option.{option_map_or, option_or}
use Rattle.std.specs.Str.{bytes_eq}
use Rattle.disk_model.specs.Disk.{Between, told_calls, History, Faults, EachImage, reading}
use Rattle.disk_model.specs.declared.name.FileName.{FileName}
use Rattle.mdbox_base.specs.declared.entries.Highest.{Highest}
use Rattle.mdbox_base.specs.declared.entries.MapEntry.TheVariants as map_entry
use Rattle.mdbox_base.specs.declared.ids.Guid.{Guid}
use Rattle.mdbox_base.specs.declared.ids.Uid.{Uid}
use Rattle.mdbox_base.specs.declared.replies.Refusal.{Refusal}
use Rattle.mdbox_base.specs.declared.replies.Refusal.TheVariants as refusal
use Rattle.mdbox_base.specs.declared.replies.Reply.{Reply}
use Rattle.mdbox_base.specs.declared.replies.Reply.TheVariants as reply
use Rattle.mdbox_base.specs.declared.requests.Request.{Request}
use Rattle.mdbox_base.specs.declared.requests.Request.TheVariants as request
use Rattle.model_lists.specs.Lists.{Lists}
use Rattle.model_meaning.specs.BoxMeaning.{BoxMeaning, box_meaning, row_at}
use Rattle.model_meaning.specs.MapMeaning.{MapMeaning, count_of, map_applied, map_meaning}
use Rattle.model_store.specs.Listing.{meaning_named}
use Rattle.model_store.specs.Settled.{IsSettledFor}
use Rattle.list_machine.specs.Machine.{Answers, add_message, delete_mailbox, expunge, is_used_up, refused_where, rename_mailbox, set_flags, set_words}
use Rattle.list_machine.specs.Run.{First, Run, RunEvent, map_of}
use Rattle.journal.specs.Journal.{JournalStep, Broken, Requests, left_by}
use Rattle.journal.specs.Makes.{IsServed}
use Rattle.mail_ops.specs.Copy.{copied_lists}
use Rattle.mail_ops.specs.Copying.{room_refusal}
use Rattle.mail_ops.specs.Making.{with_mailbox}
use Rattle.store_open.specs.Opened.{IsOpenedAs, StoreCarries}
use Rattle.store_sweep.specs.Swept.{IsSwept}
use Rattle.task_steps.specs.Serves.{AreTimely, IsReached}
use Rattle.script_run.specs.Opening.{LogsShowLists, RunBegins, RunHasCome}

-- ---- the lists

-- the lists with a message that is saved: last in its mailbox, whose next UID it gets, without flags or keywords
abbrev pub saved_lists : List ℕ → ℕ → List ℕ → Guid → Lists → Lists
saved_lists name time octets guid lists = add_message name (record { uid = 0; flags = 0; time = time; guid = guid.0; octets = octets; words = [] }) lists

-- the lists with the copy of a moved message and without the message, and those that the move leaves, by whether the message had
-- gone before it was removed
abbrev pub moved_lists : List ℕ → Uid → List ℕ → Lists → Lists
moved_lists name uid target lists = expunge name uid.0 (copied_lists name uid target lists)

abbrev pub lists_behind : List ℕ → Uid → List ℕ → Bool → Lists → Lists
lists_behind name uid target gone lists = if gone then copied_lists name uid target lists else moved_lists name uid target lists

-- the lists that a request leaves which had this reply: the same unless it is done. A make adds a mailbox, whose number the reply
-- doesn't tell.
abbrev pub lists_told : Request → Reply → Lists → Lists
lists_told (request.Deliver name time octets) (reply.Saved uid guid) lists = saved_lists name time octets guid lists
lists_told (request.Flag name uid flags) reply.Done lists = set_flags name uid.0 flags lists
lists_told (request.Keywords name uid words) reply.Done lists = set_words name uid.0 words lists
lists_told (request.Expunge name uid) reply.Done lists = expunge name uid.0 lists
lists_told (request.Delete name) reply.Done lists = delete_mailbox name lists
lists_told (request.Rename name target) reply.Done lists = rename_mailbox name target lists
lists_told (request.Copy name uid target) (reply.Copied given) lists = copied_lists name uid target lists
lists_told (request.Move name uid target) (reply.Moved given gone) lists = lists_behind name uid target gone lists
lists_told asked given lists = lists

-- These lists were left, of a make with a number above those of all mailboxes.
abbrev pub AreListsTold : Request → Reply → Lists → Lists → Type 0
AreListsTold (request.Make name) reply.Done old new = (number : ℕ) × All (λ mailbox. mailbox.number < number) old × (new ≡ with_mailbox number name old)
AreListsTold asked given old new = new ≡ lists_told asked given old

-- a reply that isn't of a failed call of the disk
abbrev pub IsUnfailed : Reply → Type 0
IsUnfailed (reply.Refused refusal.ReadFault) = ⊥
IsUnfailed (reply.Refused refusal.Stopped) = ⊥
IsUnfailed given = Unit {0}

-- ---- the script

-- the script of a request alone
abbrev pub alone : Request → Requests
alone request = (1, request) ∷ []

-- a request of one event
abbrev pub HasOneEvent : Request → Type 0
HasOneEvent (request.List name) = Unit {0}
HasOneEvent (request.Flag name uid flags) = Unit {0}
HasOneEvent (request.Keywords name uid words) = Unit {0}
HasOneEvent request.Counts = Unit {0}
HasOneEvent other = ⊥

-- A request that makes its step at the same event always: an expunge, a deletion and a copy have further events.
abbrev pub MakesOneStep : Request → Type 0
MakesOneStep (request.Expunge name uid) = Unit {0}
MakesOneStep (request.Delete name) = Unit {0}
MakesOneStep (request.Rename name target) = Unit {0}
MakesOneStep (request.Copy name uid target) = Unit {0}
MakesOneStep asked = HasOneEvent asked

-- A request that makes one step so; or a make, which makes one step, of a mailbox whose number its reply doesn't tell; or a move, which
-- makes two. None of them reads octets of messages.
abbrev pub MakesSteps : Request → Type 0
MakesSteps (request.Make name) = Unit {0}
MakesSteps (request.Move name uid target) = Unit {0}
MakesSteps asked = MakesOneStep asked

-- It was replied what the machine answers, on these lists, at its first event: of a run whose map is this then.
pub record IsAnsweredFirst (request : Request) (m : MapMeaning) (lists : Lists) (given : Reply) : Type 0 where
  pub run : Run
  pub event : RunEvent
  pub left : Lists
  pub map_is : map_of run ≡ m
  pub part_is : event.part ≡ First
  pub answers : Answers run lists request event given left

-- the lists before it, or those that a step of it leaves which answered so
abbrev pub IsAlongOne : Request → Lists → Lists → Type 0
IsAlongOne request start lists = (given : Reply) × AreListsTold request given start lists

-- the refusals that aren't the machine's, of a request of one event that may change the store
abbrev pub IsUnanswered : Reply → Type 0
IsUnanswered given = (given ≡ reply.Refused refusal.NoMemory) ⊎ (given ≡ reply.Refused refusal.Stopped)

-- The request is a script of its own, on one lane. From these lists, for which the files were safe, it was served legally,
-- by a run that begins with the map log of the files, which shows the lists with the logs of its mailboxes, and was replied this. The run has come to where the disk is now: to what
-- its map log means, unless a change of it failed, and to its number of calls, so that by now every step is acknowledged. Of a
-- disk that was settled for the lists each crash image since is safe for lists that the journal reaches; at the moment of each
-- event it was settled for what the steps up to it left; and it is settled for the lists that the journal leaves, unless a change
-- of it failed.
pub record ServesRequest (request : Request) (lists : Lists) (given : Reply) (began now : Faults) (old new : Option History) : Type 0 where
  pub run : Run
  pub journal : List JournalStep
  pub broken : Broken
  pub m : MapMeaning
  pub drawn : Highest
  pub begins : RunBegins run old
  pub meanings : List BoxMeaning
  pub shown : LogsShowLists (map_meaning run.store run.start) meanings lists
  pub ends : (given ≡ reply.Refused refusal.Stopped → ⊥) → RunHasCome run m new
  pub served : IsServed lists (alone request) run journal broken (Some given ∷ []) began now (map_meaning run.store run.start) m drawn (told_calls new)
  pub crash : IsSettledFor lists old → EachImage (IsReached lists run journal broken) old new
  pub timely : IsSettledFor lists old → AreTimely lists run journal new
  pub settled : (given ≡ reply.Refused refusal.Stopped → ⊥) → IsSettledFor lists old → IsSettledFor (left_by lists journal) new

-- The files open again with logs that mean the same and the same mail, with all that was read where no log was due to be written anew,
-- and the disk was swept.
abbrev pub OpensUnchanged : MapMeaning → List BoxMeaning → Option History → Option History → Type 0
OpensUnchanged m meanings old new = IsOpenedAs new m meanings × StoreCarries old new × ((generation : ℕ) × IsSwept generation m old new)

-- ---- what is replied by the logs

-- Why the message with this UID isn't found, by what the log of its mailbox means: no mailbox has the name, or no message of it
-- the UID.
abbrev pub missing_cause : Option BoxMeaning → ℕ → Option Refusal
missing_cause found uid = option_map_or (λ m. if is_some (row_at m uid) then None else Some refusal.NoMessage) found (Some refusal.NoMailbox)

-- Why the message isn't found is replied, if it isn't. Else it is done; or a change of the disk failed, and the store is stopped.
abbrev pub IsFlagAnswer : Option Refusal → Reply → Type 0
IsFlagAnswer (Some why) given = given ≡ reply.Refused why
IsFlagAnswer None given = (given ≡ reply.Done) ⊎ (given ≡ reply.Refused refusal.Stopped)

-- Why the mailbox with this name isn't deleted, by what the logs mean: no mailbox has the name, or it is INBOX. And why it doesn't get
-- another name: besides, a mailbox has that.
abbrev pub undeleted_cause : List ℕ → Option BoxMeaning → Option Refusal
undeleted_cause name found = option_or (refused_where (is_none found) refusal.NoMailbox) (refused_where (bytes_eq name (codes "INBOX")) refusal.Inbox)

abbrev pub unrenamed_cause : List ℕ → Option BoxMeaning → Option BoxMeaning → Option Refusal
unrenamed_cause name found other = option_or (undeleted_cause name found) (refused_where (is_some other) refusal.Exists)

-- What a request replies that is done or isn't: its cause, if there is one. Else it is done; or there was no memory; or a change of
-- the disk failed, and the store is stopped.
abbrev pub IsChangeAnswer : Option Refusal → Reply → Type 0
IsChangeAnswer (Some why) given = given ≡ reply.Refused why
IsChangeAnswer None given = (given ≡ reply.Done) ⊎ ((given ≡ reply.Refused refusal.NoMemory) ⊎ (given ≡ reply.Refused refusal.Stopped))

-- Why the message isn't copied, by what the logs of its mailbox, of the target and of the map mean: no mailbox has either name, no
-- message the UID, the target lists 1,000,000 or has no further UID, or the count of the message's record is 65,535.
abbrev pub uncopied_cause : Option BoxMeaning → Option BoxMeaning → MapMeaning → ℕ → Option Refusal
uncopied_cause from to m uid =
    option_map_or (λ source. option_map_or (λ target. option_map_or (λ row. option_or (room_refusal target) (refused_where (nat_le 65535 (count_of m row.guid)) (refusal.TooManyCopies 65535))) (row_at source uid) (Some refusal.NoMessage)) to (Some refusal.NoMailbox)) from (Some refusal.NoMailbox)

-- the copy has the target's next UID
abbrev pub IsCopiedAs : Option BoxMeaning → Reply → Type 0
IsCopiedAs to given = (target : BoxMeaning) × (uid : Uid) × (to ≡ Some target) × (uid.0 ≡ target.next) × (given ≡ reply.Copied uid)

-- Why it isn't copied is replied, if it isn't. Else it is; or there was no memory; or a change of the disk failed, and the store
-- is stopped.
abbrev pub IsCopyAnswer : Option Refusal → Option BoxMeaning → Reply → Type 0
IsCopyAnswer (Some why) to given = given ≡ reply.Refused why
IsCopyAnswer None to given = IsCopiedAs to given ⊎ ((given ≡ reply.Refused refusal.NoMemory) ⊎ (given ≡ reply.Refused refusal.Stopped))

-- the copy has the target's next UID
abbrev pub IsMovedAs : Option BoxMeaning → Reply → Type 0
IsMovedAs to given = (target : BoxMeaning) × (uid : Uid) × (gone : Bool) × (to ≡ Some target) × (uid.0 ≡ target.next) × (given ≡ reply.Moved uid gone)

-- Why it isn't moved is replied, if it isn't, which is why a copy would not be made. Else it is; or there was no memory; or a
-- change of the disk failed, and the store is stopped.
abbrev pub IsMoveAnswer : Option Refusal → Option BoxMeaning → Reply → Type 0
IsMoveAnswer (Some why) to given = given ≡ reply.Refused why
IsMoveAnswer None to given = IsMovedAs to given ⊎ ((given ≡ reply.Refused refusal.NoMemory) ⊎ (given ≡ reply.Refused refusal.Stopped))

-- these lists, those with the copy, or those that are moved: with the copy and without the message
abbrev pub AreAlongMove : List ℕ → Uid → List ℕ → Lists → Lists → Type 0
AreAlongMove name uid target lists some = (some ≡ lists) ⊎ ((some ≡ copied_lists name uid target lists) ⊎ (some ≡ moved_lists name uid target lists))

-- Why no mailbox is made, by what the log of the mailbox with its name and the map's log mean: there is one, 1,024 mailboxes are
-- there, or the numbers of mailboxes are used up.
abbrev pub unmade_cause : Option BoxMeaning → MapMeaning → Option Refusal
unmade_cause found m =
    option_or (option_or (refused_where (is_some found) refusal.Exists) (refused_where (nat_le 1024 (length m.boxes)) (refusal.TooManyMailboxes 1024))) (refused_where (is_used_up m.highest.mailbox) (refusal.StoreFull 4294967294))

-- the number of the mailbox that is made: the next above the highest that the map's log names
abbrev pub next_mailbox : MapMeaning → ℕ
next_mailbox m = m.highest.mailbox + 1

-- what the map's log means with the entry that names the next mailbox
abbrev pub with_next_named : List ℕ → MapMeaning → MapMeaning
with_next_named name m = map_applied (map_entry.B (record { 0 = next_mailbox m }) 1 name) m

-- each file reads as it did
abbrev pub ReadAlike : Option History → Option History → Type 0
ReadAlike = Between (λ a b. (name : FileName) → reading (b name) ≡ reading (a name))

-- these lists, or those with the mailbox of this number
abbrev pub AreAlongMake : ℕ → List ℕ → Lists → Lists → Type 0
AreAlongMake number name lists some = (some ≡ lists) ⊎ (some ≡ with_mailbox number name lists)

-- The reply to a make, a deletion, a renaming, a setting of flags or keywords, an expunge, a copy or a move alone is so by the logs with
-- which the store opened.
abbrev pub IsToldAlone : Requests → MapMeaning → List BoxMeaning → List Reply → Type 0
IsToldAlone ((lane, request.Make name) ∷ []) m meanings (given ∷ []) = IsChangeAnswer (unmade_cause (meaning_named name m.boxes meanings) m) given
IsToldAlone ((lane, request.Delete name) ∷ []) m meanings (given ∷ []) = IsChangeAnswer (undeleted_cause name (meaning_named name m.boxes meanings)) given
IsToldAlone ((lane, request.Rename name target) ∷ []) m meanings (given ∷ []) =
    IsChangeAnswer (unrenamed_cause name (meaning_named name m.boxes meanings) (meaning_named target m.boxes meanings)) given
IsToldAlone ((lane, request.Flag name uid flags) ∷ []) m meanings (given ∷ []) = IsFlagAnswer (missing_cause (meaning_named name m.boxes meanings) uid.0) given
IsToldAlone ((lane, request.Keywords name uid words) ∷ []) m meanings (given ∷ []) = IsChangeAnswer (missing_cause (meaning_named name m.boxes meanings) uid.0) given
IsToldAlone ((lane, request.Expunge name uid) ∷ []) m meanings (given ∷ []) = IsChangeAnswer (missing_cause (meaning_named name m.boxes meanings) uid.0) given
IsToldAlone ((lane, request.Copy name uid target) ∷ []) m meanings (given ∷ []) =
    IsCopyAnswer (uncopied_cause (meaning_named name m.boxes meanings) (meaning_named target m.boxes meanings) m uid.0) (meaning_named target m.boxes meanings) given
IsToldAlone ((lane, request.Move name uid target) ∷ []) m meanings (given ∷ []) =
    IsMoveAnswer (uncopied_cause (meaning_named name m.boxes meanings) (meaning_named target m.boxes meanings) m uid.0) (meaning_named target m.boxes meanings) given
IsToldAlone script m meanings given = Unit {0}

-- A make, a deletion, a renaming, a setting of keywords, an expunge, a copy, a move, a resync or a purge alone was refused, and the store
-- isn't stopped: nothing has changed since the opening. So it is of a deletion, a renaming, a setting of keywords, an expunge, a resync and
-- a purge also for want of memory; of a purge not if a read failed.
abbrev pub IsUndoneAlone : Requests → List Reply → Type 0
IsUndoneAlone ((lane, request.Make name) ∷ []) (reply.Refused why ∷ []) = (why ≡ refusal.Stopped → ⊥) × (why ≡ refusal.NoMemory → ⊥)
IsUndoneAlone ((lane, request.Delete name) ∷ []) (reply.Refused why ∷ []) = why ≡ refusal.Stopped → ⊥
IsUndoneAlone ((lane, request.Rename name target) ∷ []) (reply.Refused why ∷ []) = why ≡ refusal.Stopped → ⊥
IsUndoneAlone ((lane, request.Keywords name uid words) ∷ []) (reply.Refused why ∷ []) = why ≡ refusal.Stopped → ⊥
IsUndoneAlone ((lane, request.Expunge name uid) ∷ []) (reply.Refused why ∷ []) = why ≡ refusal.Stopped → ⊥
IsUndoneAlone ((lane, request.Copy name uid target) ∷ []) (reply.Refused why ∷ []) = (why ≡ refusal.Stopped → ⊥) × (why ≡ refusal.NoMemory → ⊥)
IsUndoneAlone ((lane, request.Move name uid target) ∷ []) (reply.Refused why ∷ []) = (why ≡ refusal.Stopped → ⊥) × (why ≡ refusal.NoMemory → ⊥)
IsUndoneAlone ((lane, request.Resync) ∷ []) (reply.Refused why ∷ []) = why ≡ refusal.Stopped → ⊥
IsUndoneAlone ((lane, request.Purge) ∷ []) (reply.Refused why ∷ []) = (why ≡ refusal.ReadFault → ⊥) × (why ≡ refusal.Stopped → ⊥)
IsUndoneAlone script given = ⊥

-- There was no memory for a copy or a move alone, which gives back the count that it may have raised.
abbrev pub IsGivenBackAlone : Requests → List Reply → Type 0
IsGivenBackAlone ((lane, request.Copy name uid target) ∷ []) (reply.Refused refusal.NoMemory ∷ []) = Unit {0}
IsGivenBackAlone ((lane, request.Move name uid target) ∷ []) (reply.Refused refusal.NoMemory ∷ []) = Unit {0}
IsGivenBackAlone script given = ⊥

-- Logs have the same listings, and the same mailboxes and records of the map, and their counts.
pub record MeansAlike (m : MapMeaning) (meanings : List BoxMeaning) (later : MapMeaning) (later_meanings : List BoxMeaning) : Type 0 where
  pub indexes : later_meanings ≡ meanings
  pub mailboxes : later.boxes ≡ m.boxes
  pub records : later.records ≡ m.records

-- Of a make alone: out of memory logs mean what they did; and where it is done they name the mailbox of the next number too, whose
-- log means nothing yet.
abbrev pub MeansByMake : Requests → List Reply → MapMeaning → List BoxMeaning → MapMeaning → List BoxMeaning → Type 0
MeansByMake ((lane, request.Make name) ∷ []) (reply.Refused refusal.NoMemory ∷ []) m meanings later later_meanings = (later ≡ m) × (later_meanings ≡ meanings)
MeansByMake ((lane, request.Make name) ∷ []) (reply.Done ∷ []) m meanings later later_meanings = (later ≡ with_next_named name m) × (later_meanings ≡ meanings ++ box_meaning [] ∷ [])
MeansByMake script given m meanings later later_meanings = Unit {0}

-- A make alone was refused, or there was no memory, and the store isn't stopped.
abbrev pub IsUnmadeAlone : Requests → List Reply → Type 0
IsUnmadeAlone ((lane, request.Make name) ∷ []) (reply.Refused why ∷ []) = why ≡ refusal.Stopped → ⊥
IsUnmadeAlone script given = ⊥
