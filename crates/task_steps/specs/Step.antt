-- What an event of a task did: to the journal, to the disk, and by what its request ended.
use Rattle.std.specs.Prelude.{◌≡◌, ◌≢◌, ◌≤◌, ◌↔◌, ◌+◌, ◌==◌, ◌||◌, ◌++◌, ◌∷◌, ℕ, Bool, true, false, List, [], All, flat_map, sum_by, count_by, length, if◌then◌else◌, slice_get, Option, Some, None, is_some}
use Rattle.std.specs.List.{list_any}
use Rattle.std.specs.Option.{IfSome}
use Rattle.std.specs.Str.{bytes_eq}
use Rattle.disk_model.specs.Disk.{History, Faults}
use Rattle.disk_model.specs.FaultCounts.{NoFault}
use Rattle.mdbox_base.specs.Streams.{Rose}
use Rattle.mdbox_base.specs.declared.entries.Highest.{Highest}
use Rattle.mdbox_base.specs.declared.entries.InstRow.{InstRow}
use Rattle.mdbox_base.specs.declared.replies.Refusal.TheVariants as refusal
use Rattle.mdbox_base.specs.declared.replies.Reply.{Reply}
use Rattle.mdbox_base.specs.declared.replies.Reply.TheVariants as reply
use Rattle.mdbox_base.specs.declared.requests.Request.{Request}
use Rattle.model_lists.specs.Lists.{Lists, AreWellFormed}
use Rattle.model_meaning.specs.BoxMeaning.{BoxMeaning}
use Rattle.model_kept.specs.Kept.{MailIsKept}
use Rattle.model_meaning.specs.MapMeaning.{MapMeaning, is_sealed}
use Rattle.model_store.specs.Listing.{ShowLists}
use Rattle.list_machine.specs.Run.{RunEvent, Run, and_then, map_of, own_events, is_one_of, has_unpinned, is_doomed}
use Rattle.journal.specs.Journal.{half_of, halves_of, IsReplyOf}
use Rattle.journal.specs.Events.{Around, begun_in, ended_in}
use Rattle.journal.specs.Found.{AgreesWithRun, is_known_file, is_taken, is_same_instance, is_known_instance}
use Rattle.journal.specs.Makes.{HasCome, WouldMake, Makes}
use Rattle.disk_model.specs.Disk.{told_calls, Between, Grows, IfTold}
use Rattle.sis_store.specs.declared.instance.KnownInstance.{KnownInstance}
use Rattle.store_core.specs.StoreInstances.{AreInstancesFirm}
use Rattle.model_store.specs.Settled.{Leaves}
use Rattle.model_store.specs.Settled.{IsSettledFor}
use Rattle.mdbox_base.specs.declared.progress.Did.{Did}
use Rattle.mdbox_base.specs.declared.progress.Did.TheVariants as did
use Rattle.mdbox_base.specs.declared.progress.Progress.{Progress}
use Rattle.mdbox_base.specs.declared.progress.Progress.TheVariants as progress

-- ---- a store as an event begins or ends

-- What is seen of a store: what its map and the logs of its mailboxes mean, the numbers drawn, what its disk tells, the
-- faults counted, and whether it is stopped. Then what it keeps of its tasks: how much is due of each record, how many pins
-- each file has, which files are doomed, which are no new ones, that it may have doomed or removed, and which may have been
-- barred; the GUIDs that it may have given; the instances that it may have removed; the files that it knows to be there, the
-- instances that are, and which are known with who holds them.
pub record Seen : Type 0 where
  pub map : MapMeaning
  pub meanings : List BoxMeaning
  pub drawn : Highest
  pub history : Option History
  pub faults : Faults
  pub stopped : Bool
  pub due : ℕ → ℕ
  pub pins : ℕ → ℕ
  pub doomed : ℕ → Bool
  pub used : ℕ → Bool
  pub barred : ℕ → Bool
  pub gave : List ℕ → Bool
  pub gone : InstRow → Bool
  pub files : ℕ → Bool
  pub instances : InstRow → Bool
  pub known : List KnownInstance

-- it shows the lists, which are well formed
abbrev pub ShowsSeen : Seen → Lists → Type 0
ShowsSeen seen lists = AreWellFormed lists × ShowLists seen.map.boxes seen.meanings lists

-- an event of the run gave this GUID
abbrev pub was_given : Run → List ℕ → Bool
was_given run guid = list_any (bytes_eq guid) (flat_map (λ e. e.given) run.events)

-- how many pins a file has: those of requests that haven't unpinned
abbrev pub pins_of : Run → ℕ → ℕ
pins_of run file = sum_by (λ e. if has_unpinned e.request run then 0 else count_by (λ p. p.file == file) e.pins) run.events

-- an event of the run doomed this file, or removed it
abbrev pub was_used : Run → ℕ → Bool
was_used run file = list_any (λ e. is_one_of e.doomed file || is_one_of e.removed file) run.events

-- an event of the run removed this instance
abbrev pub was_gone : Run → InstRow → Bool
was_gone run instance = list_any (λ e. list_any (is_same_instance instance) e.gone) run.events

-- What a store that runs keeps of its tasks, as a run says it: of each record as much began as ended and is due, files are pinned
-- and doomed, and instances there, as the store has them, and it knows each file that is there, unless that is sealed.
pub record KeepsTasks (run : Run) (seen : Seen) : Type 0 where
  pub due : (uid : ℕ) → sum_by (begun_in uid) run.events ≡ seen.due uid + sum_by (ended_in uid) run.events
  pub pins : (file : ℕ) → pins_of run file ≡ seen.pins file
  pub doomed : (file : ℕ) → is_doomed run file ≡ seen.doomed file
  pub instances : (instance : InstRow) → is_known_instance run instance ≡ seen.instances instance
  pub files : (file : ℕ) → is_sealed (map_of run) file ≡ false → is_known_file run file ≡ true → seen.files file ≡ true

-- The run has come to where the store stands. Its entries, numbers and moments are the store's; unless it is stopped, it keeps of
-- its tasks what the run says; files were barred, events used files, gave GUIDs and removed instances only if the store may have;
-- and the files that the store knows are there as far as the run tells.
pub record HasComeTo (run : Run) (seen : Seen) : Type 0 where
  pub come : HasCome run seen.map seen.drawn (told_calls seen.history)
  pub keeps : seen.stopped ≡ false → KeepsTasks run seen
  pub used : (file : ℕ) → was_used run file ≡ true → seen.used file ≡ true
  pub barred : (file : ℕ) → is_one_of run.barred file ≡ true → seen.barred file ≡ true
  pub gave : (guid : List ℕ) → was_given run guid ≡ true → seen.gave guid ≡ true
  pub gone : (instance : InstRow) → was_gone run instance ≡ true → seen.gone instance ≡ true
  pub files : (file : ℕ) → seen.files file ≡ true → is_known_file run file ≡ true

-- ---- the disk

-- The disk is settled for these lists, and a record that is made may name each instance that is known.
abbrev pub IsSettledIn : Lists → Seen → Type 0
IsSettledIn lists seen = IsSettledFor lists seen.history × IfTold seen.history (AreInstancesFirm seen.known seen.map)

-- If the disk is settled for these lists, a record that is made may name each instance that is known.
abbrev pub IsFirmAt : Lists → Seen → Type 0
IsFirmAt lists seen = IsSettledFor lists seen.history → IfTold seen.history (AreInstancesFirm seen.known seen.map)

-- Where a record may name each that is known, it may afterwards.
abbrev pub StaysFirm : Seen → Seen → Type 0
StaysFirm old new = Between (λ a b. AreInstancesFirm old.known old.map a → AreInstancesFirm new.known new.map b) old.history new.history

-- Of a disk that is so settled each image at every moment is safe for the lists before or for those behind.
abbrev pub Stops : Lists → Lists → Seen → Seen → Type 0
Stops lists left old new = IsSettledIn lists old → Leaves lists left old.history new.history

-- It is so, and afterwards the disk is settled for the lists behind.
pub record Leads (lists left : Lists) (old new : Seen) : Type 0 where
  pub stops : Stops lists left old new
  pub settled : IsSettledIn lists old → IsSettledFor left new.history

-- A change of the disk failed in this event, which stopped the store.
pub record Fell (event : RunEvent) (answer : Option Reply) (old new : Seen) : Type 0 where
  pub refused : event.refused ≡ Some refusal.Stopped
  pub unanswered : answer ≡ None
  pub ran : old.stopped ≡ false
  pub stopped : new.stopped ≡ true

-- By the way that its task tells, an event was a step of the journal, none, a failed change that would have made none, or a
-- failed append that would have made a step.
abbrev pub Went : Did → Request → Run → Lists → Lists → RunEvent → Option Reply → Seen → Seen → Type 0
Went did.Quiet request run lists left event answer old new = (answer ≡ None) × (new.stopped ≡ old.stopped) × Leads lists lists old new
Went (did.Step half) request run lists left event answer old new = (is_some answer ≡ true) × (half_of request event.part ≡ half) × (new.stopped ≡ false) × Leads lists left old new
Went did.Failed request run lists left event answer old new = Fell event answer old new × Stops lists lists old new
Went (did.Broken half) request run lists left event answer old new =
    Fell event answer old new × (half_of request event.part ≡ half) × ((w : WouldMake run request lists event) × Stops lists w.left old new)

-- ---- the end of a request

-- the answers of a request's steps, with one that was made or none
abbrev pub and_told : List Reply → Option Reply → List Reply
and_told said None = said
and_told said (Some answer) = said ++ answer ∷ []

abbrev pub IsFault : Did → Type 0
IsFault did.Quiet = ⊥
IsFault (did.Step half) = ⊥
IsFault other = Unit {0}

-- The counts of faults never fall, and that of failed changes rose where this holds.
pub record FaultsGrow (failed : Type 0) (old new : Faults) : Type 0 where
  pub reads : old.reads ≤ new.reads
  pub changes : old.changes ≤ new.changes
  pub rose : failed → Rose old.changes new.changes

-- A step is the next of its request. What a request is replied follows from the answers of its steps; exactly a stopped store
-- replies so, and in one that was stopped nothing happens but that pins are taken away; an event is refused by a read fault
-- where a read failed. In an event that was refused by none, and in which no change failed, no call failed.
pub record EndsRequest (request : Request) (said : List Reply) (event : RunEvent) (answer ended : Option Reply) (did : Did) (old new : Seen) : Type 0 where
  pub in_turn : is_some answer ≡ true → slice_get (halves_of request) (length said) ≡ Some (half_of request event.part)
  pub replied : (given : Reply) → ended ≡ Some given → IsReplyOf request (and_told said answer) given
  pub halts : (ended ≡ Some (reply.Refused refusal.Stopped)) ↔ (new.stopped ≡ true)
  pub still : old.stopped ≡ true → new ≡ record old { pins = new.pins }
  pub reads : event.refused ≡ Some refusal.ReadFault → Rose old.faults.reads new.faults.reads
  pub faults : FaultsGrow (IsFault did) old.faults new.faults
  pub unfailed : event.refused ≢ Some refusal.ReadFault → (IsFault did → ⊥) → NoFault old.faults new.faults

-- ---- an event

-- The GUIDs that an event gives are new to the run.
abbrev pub GivesNew : Run → RunEvent → Type 0
GivesNew run event = All (λ guid. was_given run guid ≡ false) event.given

-- What an event did, of a run and of lists: which event of the run it was and what it answered, that what it found agrees with
-- the run, the lists that the store shows now, that the run with it has come to the store, what a crash within it leaves, that at
-- each of its moments storage files and instances have what its map needed as it began, and how its request ended, if it did.
pub record DidEvent (around after : Around) (run : Run) (lane place : ℕ) (said : List Reply) (request : Request) (lists : Lists) (old new : Seen) (did : Did) (ended : Option Reply) : Type 0 where
  pub left : Lists
  pub shown : ShowsSeen new left
  pub makes : Makes around after run lane place request lists left new.map new.drawn (told_calls new.history) ended
  pub found : AgreesWithRun around run request makes.event makes.event.part
  pub come : HasComeTo (and_then run makes.event) new
  pub gives : GivesNew run makes.event
  pub went : Went did request run lists left makes.event makes.answer old new
  pub grows : Grows old.history new.history
  pub mail : MailIsKept old.map old.history new.history
  pub ends : EndsRequest request said makes.event makes.answer ended did old new

-- The clause of a task's step: of every run that has come to the store, of any lists that it shows, and where the task stands
-- at its stage: the stage is of the run, of the request's place, and of the answers of its steps. Where it goes on, it stands
-- at the new stage, of the run with the event.
abbrev pub Steps : (Run → ℕ → List Reply → Type 0) → (Run → ℕ → List Reply → Type 0) → Around → Around → Request → Seen → Seen → Did → Option Reply → Type 0
Steps Stood Stands around after request old new did ended =
    (run : Run) (lane place : ℕ) (said : List Reply) (lists : Lists) → HasComeTo run old → ShowsSeen old lists → Stood run place said
    → (d : DidEvent around after run lane place said request lists old new did ended) × (ended ≡ None → Stands (and_then run d.makes.event) place (and_told said d.makes.answer))

-- No request has taken the file in which a delivery finds room. A store doesn't say who has taken its files, so a task that takes
-- one does as its clause says only where this holds.
abbrev pub FindsRoom : Around → Run → Type 0
FindsRoom around run = IfSome around.room (λ file. is_taken run file ≡ false)

abbrev pub ended_by : Progress → Option Reply
ended_by progress.More = None
ended_by (progress.Done given) = Some given

-- A stage is kept by every event of another request. So it may read its request's own events and the answers of its steps,
-- the number that it drew last (`number_of`), whether a file was pinned as it was doomed (`was_pinned`), and that no other
-- request gave a GUID that was given. What others change, a task reads of the store as its event begins.
abbrev pub IsKept : (Run → ℕ → List Reply → Type 0) → Type 0
IsKept Stands = (run : Run) (place : ℕ) (said : List Reply) (event : RunEvent) → event.request ≢ place → GivesNew run event → Stands run place said → Stands (and_then run event) place said

-- the stage of a task of one event
abbrev pub HasNotBegun : Run → ℕ → List Reply → Type 0
HasNotBegun run place said = (own_events place run ≡ []) × (said ≡ [])
