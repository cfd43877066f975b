-- Requests that make a mailbox: what they are refused for, where they stand, and what their events do.
use Rattle.std.specs.Prelude.{◌≡◌, ◌⊎◌, ◌≤◌, ◌<◌, ◌+◌, ◌==◌, ◌||◌, ◌++◌, ◌∷◌, [], ℕ, nat_le, nat_lt, true, false, List, length, is_some, if◌then◌else◌, Option, Some, None}
use Rattle.std.specs.Option.{option_or}
use Rattle.disk_model.specs.Disk.{History, Faults, Grows, IfTold, no_file}
use Rattle.gate_log.specs.Log.{NamedButFor}
use Rattle.disk_model.specs.declared.name.FileName.TheVariants as file
use Rattle.mdbox_base.specs.Streams.{Rose}
use Rattle.mdbox_base.specs.Words.{IsNumber}
use Rattle.mdbox_base.specs.declared.entries.MapEntry.TheVariants as map_entry
use Rattle.mdbox_base.specs.declared.ids.BoxNo.{BoxNo}
use Rattle.mdbox_base.specs.declared.progress.Did.{Did}
use Rattle.mdbox_base.specs.declared.progress.Did.TheVariants as did
use Rattle.mdbox_base.specs.declared.progress.Progress.{Progress}
use Rattle.mdbox_base.specs.declared.progress.Progress.TheVariants as progress
use Rattle.mdbox_base.specs.declared.replies.Refusal.{Refusal}
use Rattle.mdbox_base.specs.declared.replies.Refusal.TheVariants as refusal
use Rattle.mdbox_base.specs.declared.replies.Reply.{Reply}
use Rattle.mdbox_base.specs.declared.replies.Reply.TheVariants as reply
use Rattle.mdbox_base.specs.declared.script.Half.TheVariants as half
use Rattle.model_kept.specs.Kept.{MailIsKept}
use Rattle.model_lists.specs.Lists.{Lists, empty_mailbox}
use Rattle.model_meaning.specs.BoxMeaning.{box_meaning}
use Rattle.model_meaning.specs.MapMeaning.{MapMeaning, map_applied}
use Rattle.model_store.specs.Settled.{IsSettledFor, Leaves}
use Rattle.list_machine.specs.Machine.{refused_where}
use Rattle.list_machine.specs.Run.{Run}
use Rattle.store_core.specs.Dues.{KeepsStored}
use Rattle.store_core.specs.Keeping.{KeepsMail}
use Rattle.store_core.specs.MadeLogs.{IsUnnamed, has_made_log, without_box}
use Rattle.store_core.specs.Value.{StoreValue, indexes_of, list_named}
use Rattle.mail_ops.specs.Event.{refusal_told, told_as}
use Rattle.mail_ops.specs.MakeStages.{IsToMakeLog, HasMadeLog}
use Rattle.mail_ops.specs.declared.event.NotDone.{NotDone}
use Rattle.mail_ops.specs.declared.event.NotDone.TheVariants as not_done
use Rattle.mail_ops.specs.declared.making.MakeStage.{MakeStage}
use Rattle.mail_ops.specs.declared.making.MakeStage.TheVariants as stage

-- The name of the mailbox, which event is next, and what the last one did: nothing before the first.
pub record MakeValue : Type 0 where
  pub name : List ℕ
  pub stage : MakeStage
  pub did : Did

-- Where the task stands: it is to make a log, or it has made the one of this number, which is still to be named.
abbrev pub IsAtMake : MakeStage → Run → ℕ → List Reply → Type 0
IsAtMake stage.First run place said = IsToMakeLog run place said
IsAtMake (stage.Naming number) run place said = HasMadeLog number.0 run place said

-- ---- what is refused

-- Why no mailbox is made, at both events: one has the name, or 1,024 are there.
abbrev pub naming_refusal : {D : Type 0} → List ℕ → StoreValue D → Option Refusal
naming_refusal name store = option_or (refused_where (is_some (list_named store name)) refusal.Exists) (refused_where (nat_le 1024 (length store.map.boxes)) (refusal.TooManyMailboxes 1024))

-- And at the first also: no number is left.
abbrev pub making_refusal : {D : Type 0} → List ℕ → StoreValue D → Option Refusal
making_refusal name store = option_or (naming_refusal name store) (refused_where (nat_le 4294967294 store.drawn.mailbox) (refusal.StoreFull 4294967294))

-- ---- the log of a task

-- What an event asks of the store: the log that the task has made is there still, and isn't named.
abbrev pub IsReadyToMake : {D : Type 0} → MakeStage → StoreValue D → Type 0
IsReadyToMake stage.First store = Unit {0}
IsReadyToMake (stage.Naming number) store = has_made_log number.0 store ≡ true

-- Of the store's value no more has changed than its map, its mailboxes, the logs that were made, the numbers drawn, and whether it is
-- stopped: what is due, its storage files and its instances are as they were.
abbrev pub KeepsAllButLogs : {D : Type 0} → StoreValue D → StoreValue D → Type 0
KeepsAllButLogs old new = new ≡ record old { disk = new.disk; map_log = new.map_log; map = new.map; boxes = new.boxes; made = new.made; drawn = new.drawn; stopped = new.stopped }

-- How many events are still to come at the most, as long as no other task makes a mailbox: a log whose number was overtaken is
-- removed, and another made.
abbrev pub make_left : {D : Type 0} → MakeStage → StoreValue D → ℕ
make_left stage.First store = 2
make_left (stage.Naming number) store = if nat_lt store.map.highest.mailbox number.0 then 1 else 3

-- ---- the store

-- with this number drawn
abbrev pub with_drawn_box : {D : Type 0} → ℕ → StoreValue D → StoreValue D
with_drawn_box number store = record store { drawn = record store.drawn { mailbox = number } }

-- The log of the next number was made, beside those that were, and nothing else of the store has changed.
pub record MakesLog {D : Type 0} (number : ℕ) (old new : StoreValue D) : Type 0 where
  pub next : number ≡ old.drawn.mailbox + 1
  pub is_number : IsNumber number
  pub unmade : has_made_log number old ≡ false
  pub made : (other : ℕ) → has_made_log other new ≡ (has_made_log other old || number == other)
  pub unnamed : IsUnnamed number new.map
  pub same : new ≡ record (with_drawn_box number old) { disk = new.disk; made = new.made }

-- The map names the mailbox, which is its last one and empty, and whose log is no longer one of those that it doesn't name. The map log
-- has grown, and has no less room.
pub record NamesLog {D : Type 0} (number : BoxNo) (name : List ℕ) (old new : StoreValue D) : Type 0 where
  pub map : new.map ≡ map_applied (map_entry.B number 1 name) old.map
  pub indexes : indexes_of new.boxes ≡ indexes_of old.boxes ++ box_meaning [] ∷ []
  pub made : new.made ≡ without_box number.0 old.made
  pub room : old.map_log.room ≤ new.map_log.room
  pub further : old.map_log.end < new.map_log.end
  pub same : new ≡ record old { disk = new.disk; map_log = new.map_log; map = new.map; boxes = new.boxes; made = new.made }

-- The log was removed: no crash leaves it. Each other file is as it was, with its name synced.
pub record RemovesLog {D : Type 0} (number : ℕ) (old new : StoreValue D) (before after : Option History) : Type 0 where
  pub gone : IfTold after (λ now. now (file.Box number 1) ≡ no_file)
  pub others : NamedButFor (file.Box number 1) before after
  pub same : new ≡ record old { disk = new.disk; made = without_box number old.made }

-- Why no log was made. Of want of memory, and where a change of the disk failed, the number is drawn still.
abbrev pub IsLogNotMade : {D : Type 0} → List ℕ → NotDone → StoreValue D → StoreValue D → Type 0
IsLogNotMade name (not_done.Refused why) old new = (new ≡ old) × (making_refusal name old ≡ Some why)
IsLogNotMade name not_done.NoMemory old new = (new ≡ with_drawn_box (old.drawn.mailbox + 1) old) × (making_refusal name old ≡ None)
IsLogNotMade name not_done.Stopped old new = (new ≡ record (with_drawn_box (old.drawn.mailbox + 1) old) { disk = new.disk; stopped = true }) × (making_refusal name old ≡ None)

-- A change of the disk failed at the second event: the store is stopped, and what its logs mean stays.
abbrev pub IsStoppedSo : {D : Type 0} → StoreValue D → StoreValue D → Type 0
IsStoppedSo old new = new ≡ record old { disk = new.disk; map_log = new.map_log; stopped = true }

-- What is answered. The first event is refused, or out of memory, or makes the log of the next number. The second names it, if
-- nothing refuses it now and its number is above the highest; or it removes it, and answers by what it was refused, or that
-- it is out of memory, or begins anew, if another mailbox has overtaken the number. A change of the disk that fails leaves the log
-- and the stage. A log that is made or removed leaves each other file, with its name synced; the entry that names it leaves storage
-- files and instances.
abbrev pub MakeAnswers : {D : Type 0} → List ℕ → MakeStage → StoreValue D → StoreValue D → Option History → Option History → MakeStage → Progress → Type 0
MakeAnswers name stage.First old new before after (stage.Naming number) progress.More = (making_refusal name old ≡ None) × MakesLog number.0 old new × NamedButFor (file.Box number.0 1) before after
MakeAnswers name stage.First old new before after stage.First (progress.Done (reply.Refused why)) = (e : NotDone) × (why ≡ refusal_told e) × IsLogNotMade name e old new
MakeAnswers name (stage.Naming number) old new before after stage.First (progress.Done reply.Done) =
    (naming_refusal name old ≡ None) × (old.map.highest.mailbox < number.0) × NamesLog number name old new × KeepsMail before after
MakeAnswers name (stage.Naming number) old new before after stage.First progress.More = (naming_refusal name old ≡ None) × (number.0 ≤ old.map.highest.mailbox) × RemovesLog number.0 old new before after
MakeAnswers name (stage.Naming number) old new before after stage.First (progress.Done (reply.Refused why)) =
    RemovesLog number.0 old new before after × ((naming_refusal name old ≡ Some why) ⊎ ((naming_refusal name old ≡ None) × (old.map.highest.mailbox < number.0) × (why ≡ refusal.NoMemory)))
MakeAnswers name (stage.Naming number) old new before after (stage.Naming still) (progress.Done (reply.Refused why)) =
    (still ≡ number) × (why ≡ refusal.Stopped) × IsStoppedSo old new
MakeAnswers name now old new before after next answer = ⊥

-- ---- within the crate

-- Of a settled disk each image at every moment of an event is safe for its lists, or for those that the event makes of them, whichever call
-- fails, and storage files and instances stay. No read of the disk fails.
pub record ChangesDisk (left : Lists → Lists) (before after : Option History) (began now : Faults) : Type 0 where
  pub moments : (lists : Lists) → IsSettledFor lists before → Leaves lists (left lists) before after
  pub stays : (m : MapMeaning) → MailIsKept m before after
  pub grows : Grows before after
  pub reads : now.reads ≡ began.reads
  pub changes : began.changes ≤ now.changes

-- Nothing failed: the disk is settled for those lists, and each record stores what it stored.
pub record HasChangedDisk (left : Lists → Lists) (before after : Option History) (began now : Faults) : Type 0 where
  pub change : ChangesDisk left before after began now
  pub settled : (lists : Lists) → IsSettledFor lists before → IsSettledFor (left lists) after
  pub stored : KeepsStored before after
  pub unfailed : now ≡ began

-- A change of the disk failed.
pub record FellChanging (left : Lists → Lists) (before after : Option History) (began now : Faults) : Type 0 where
  pub change : ChangesDisk left before after began now
  pub rose : Rose began.changes now.changes

abbrev pub same_lists : Lists → Lists
same_lists lists = lists

abbrev pub with_mailbox : ℕ → List ℕ → Lists → Lists
with_mailbox number name lists = lists ++ empty_mailbox number name ∷ []

-- The first event made this log, or why it made none.
pub record MadeLogSo {D : Type 0} (name : List ℕ) (number : ℕ) (old new : StoreValue D) (before after : Option History) (began now : Faults) : Type 0 where
  pub free : making_refusal name old ≡ None
  pub log : MakesLog number old new
  pub others : NamedButFor (file.Box number 1) before after
  pub disk : HasChangedDisk same_lists before after began now

abbrev pub FellIfStopped : NotDone → Option History → Option History → Faults → Faults → Type 0
FellIfStopped not_done.Stopped before after began now = FellChanging same_lists before after began now
FellIfStopped other before after began now = Unit {0}

-- The log can be named: no check refuses it, and the number is above the highest.
pub record CanBeNamed {D : Type 0} (name : List ℕ) (number : ℕ) (store : StoreValue D) : Type 0 where
  pub free : naming_refusal name store ≡ None
  pub above : store.map.highest.mailbox < number

-- The log was removed, and this is answered and told; or a change of the disk failed.
abbrev pub RemovesOr : {D : Type 0} → BoxNo → Progress → Did → MakeStage → Progress → Did → StoreValue D → StoreValue D → Option History → Option History → Faults → Faults → Type 0
RemovesOr number answer told stage.First given how old new before after began now = (given ≡ answer) × (how ≡ told) × RemovesLog number.0 old new before after × HasChangedDisk same_lists before after began now
RemovesOr number answer told (stage.Naming still) given how old new before after began now =
    (still ≡ number) × (given ≡ progress.Done (reply.Refused refusal.Stopped)) × (how ≡ did.Failed) × IsStoppedSo old new × FellChanging same_lists before after began now

-- What an event does, of a store that isn't stopped: from one stage to another, with this answer.
abbrev pub MakesOn : {D : Type 0} → List ℕ → MakeStage → MakeStage → Progress → Did → StoreValue D → StoreValue D → Option History → Option History → Faults → Faults → Type 0
MakesOn name stage.First (stage.Naming number) progress.More how old new before after began now = (how ≡ did.Quiet) × MadeLogSo name number.0 old new before after began now
MakesOn name stage.First stage.First (progress.Done (reply.Refused why)) how old new before after began now =
    (e : NotDone) × (why ≡ refusal_told e) × (how ≡ told_as half.Whole did.Failed e) × IsLogNotMade name e old new × FellIfStopped e before after began now
MakesOn name (stage.Naming number) stage.First (progress.Done reply.Done) how old new before after began now =
    (how ≡ did.Step half.Whole) × CanBeNamed name number.0 old × NamesLog number name old new × KeepsMail before after × HasChangedDisk (with_mailbox number.0 name) before after began now
MakesOn name (stage.Naming number) stage.First progress.More how old new before after began now =
    (how ≡ did.Quiet) × (naming_refusal name old ≡ None) × (number.0 ≤ old.map.highest.mailbox) × RemovesLog number.0 old new before after × HasChangedDisk same_lists before after began now
MakesOn name (stage.Naming number) stage.First (progress.Done (reply.Refused why)) how old new before after began now =
    RemovesLog number.0 old new before after × HasChangedDisk same_lists before after began now
    × (((how ≡ did.Step half.Whole) × (naming_refusal name old ≡ Some why)) ⊎ ((how ≡ did.Quiet) × CanBeNamed name number.0 old × (why ≡ refusal.NoMemory)))
MakesOn name (stage.Naming number) (stage.Naming still) (progress.Done (reply.Refused why)) how old new before after began now =
    (still ≡ number) × (why ≡ refusal.Stopped) × IsStoppedSo old new
    × (((how ≡ did.Failed) × FellChanging same_lists before after began now) ⊎ ((how ≡ did.Broken half.Whole) × CanBeNamed name number.0 old × FellChanging (with_mailbox number.0 name) before after began now))
MakesOn name now next answer how old new before after began faulted = ⊥
