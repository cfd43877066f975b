-- What a caller sees of a delivery, and what a step of it says.
use Rattle.std.specs.Prelude.{◌≡◌, ◌↔◌, ◌⊎◌, ◌≢◌, ◌≤◌, ◌<◌, ◌+◌, ℕ, true, false, List, length, if◌then◌else◌, Option, Some, None, IsSome}
use Rattle.attach_detach.specs.Prepared.{IsPrepared}
use Rattle.disk_model.specs.Disk.{History, Faults, Grows}
use Rattle.disk_model.specs.FaultCounts.{NoFault, ChangeFaultCounted, ReadFaultCounted}
use Rattle.mdbox_base.specs.declared.entries.InstRow.{InstRow}
use Rattle.mdbox_base.specs.declared.ids.BoxNo.{BoxNo}
use Rattle.mdbox_base.specs.declared.ids.Uid.{Uid}
use Rattle.mdbox_base.specs.declared.progress.Did.{Did}
use Rattle.mdbox_base.specs.declared.progress.Did.TheVariants as did
use Rattle.mdbox_base.specs.declared.script.Half.TheVariants as half
use Rattle.list_machine.specs.Machine.{is_step}
use Rattle.mdbox_base.specs.declared.progress.Progress.{Progress}
use Rattle.mdbox_base.specs.declared.progress.Progress.TheVariants as progress
use Rattle.mdbox_base.specs.declared.replies.Refusal.{Refusal}
use Rattle.mdbox_base.specs.declared.replies.Refusal.TheVariants as refusal
use Rattle.mdbox_base.specs.declared.replies.Reply.{Reply}
use Rattle.mdbox_base.specs.declared.replies.Reply.TheVariants as reply
use Rattle.mdbox_base.specs.declared.requests.Request.TheVariants as request
use Rattle.journal.specs.Events.{Around}
use Rattle.model_appends.specs.Appending.{lists_by}
use Rattle.model_kept.specs.Kept.{MailIsKept}
use Rattle.model_lists.specs.Lists.{Lists}
use Rattle.model_meaning.specs.MapFits.{HasRecord}
use Rattle.model_store.specs.Settled.{IsSettledFor, Leaves}
use Rattle.save_instances.specs.Attaching.{AreHeld, AttachingValue, attach_events_left, next_attachment, next_candidate, nothing_found, parts_left}
use Rattle.sis_store.specs.Instances.{InstancesValue}
use Rattle.storage_files.specs.Files.{is_doomed_in}
use Rattle.store_core.specs.Append.{Brings}
use Rattle.store_core.specs.Dues.{Moves, amounts_in, due_at}
use Rattle.store_core.specs.Keeping.{KeepsInstances, MovesHolds}
use Rattle.store_core.specs.MapAppend.{IsReadyToStore}
use Rattle.store_core.specs.Value.{StoreValue, list_named}
use Rattle.store_seen.specs.Seeing.{seen_of}
use Rattle.mail_save.specs.Added.{HasRoomUnder, entry_added}
use Rattle.mail_save.specs.Events.{box_refusal, instance_refusal, save_refusal, uid_refusal}
use Rattle.mail_save.specs.Held.{HasHoldRoom, save_amounts, save_holds}
use Rattle.mail_save.specs.Left.{HoldsFile, HoldsInstances, HoldsRegion}
use Rattle.mail_save.specs.MailFiles.{WritesMail}
use Rattle.mail_save.specs.Others.{KeepsOthers}
use Rattle.mail_save.specs.Parts.{AreAttached, AreBeingAttached}
use Rattle.mail_save.specs.Ready.{IsReadyToSave}
use Rattle.mail_save.specs.Record.{MayBeNamed, entry_stored}
use Rattle.mail_save.specs.SaveEffects.{AreSpared, SaveEffects}
use Rattle.mail_save.specs.SaveSeen.{HasItsParts, IsAtSave, StepsWithRoom, around_saving}
use Rattle.mail_save.specs.declared.first.SavedParts.{SavedParts}
use Rattle.mail_save.specs.declared.task.SaveStage.{SaveStage}
use Rattle.mail_save.specs.declared.task.SaveStage.TheVariants as stage

-- The mailbox, when the message was received, how many octets it has, which event is next, and what the last one did: nothing
-- before the first.
pub record SaveValue : Type 0 where
  pub name : List ℕ
  pub time : ℕ
  pub size : ℕ
  pub stage : SaveStage
  pub did : Did

-- the instances of a message of at most 67,108,864 octets are being found, or were
abbrev pub IsAttachedSoFar : {D : Type 0} → List ℕ → ℕ → SavedParts → AttachingValue → StoreValue D → Option History → Type 0
IsAttachedSoFar name time parts attaching store history = (octets : List ℕ) × (length octets ≤ 67108864) × AreBeingAttached name time octets parts attaching store history

abbrev pub IsAttached : {D : Type 0} → List ℕ → ℕ → SavedParts → StoreValue D → Option History → Type 0
IsAttached name time parts store history = ((octets : List ℕ) × (length octets ≤ 67108864) × AreAttached name time octets parts store history) × AreHeld parts.rows store.instances.known

-- What the task and its store have before an event: the message, the instances that were found and are held, the file that was
-- taken, the region that was placed, or the record that is held. Each instance can be held once more for each attachment that has
-- none yet. Of a task that has ended there is none.
abbrev pub HasLeft : {D : Type 0} → SaveStage → List ℕ → ℕ → StoreValue D → Option History → Type 0
HasLeft (stage.First prepared) name time store history = ((octets : List ℕ) × (length octets ≤ 67108864) × IsPrepared octets prepared) × HasHoldRoom (length prepared.parts) store
HasLeft (stage.Attaching parts attaching) name time store history =
    IsAttachedSoFar name time parts attaching store history × IsSome (next_attachment attaching) × HasHoldRoom (parts_left attaching) store
HasLeft (stage.Taking parts) name time store history = IsAttached name time parts store history
HasLeft (stage.Placing parts file) name time store history = IsAttached name time parts store history × HoldsFile file.0 (length parts.laid.region) store
HasLeft (stage.Storing at rows room) name time store history = HoldsRegion at store × (1 ≤ at.size) × HoldsInstances rows store history
HasLeft (stage.Adding added room) name time store history =
    HasRecord store.map added.map_uid.0 (λ row. row.guid ≡ added.guid.0) × (1 ≤ due_at added.map_uid.0 store) × (added.size ≤ 67108864)
HasLeft (stage.GivingBack uid why room) name time store history = (1 ≤ due_at uid.0 store) × (why ≢ refusal.Stopped) × (why ≢ refusal.ReadFault)
HasLeft stage.Ended name time store history = ⊥

-- how many instances it may come to hold more
abbrev pub holds_to_come : SaveStage → ℕ
holds_to_come (stage.First prepared) = length prepared.parts
holds_to_come (stage.Attaching parts attaching) = parts_left attaching
holds_to_come now = 0

-- What the task and its store have before an event, but for room to hold instances, which other deliveries take up too.
abbrev pub HasKept : {D : Type 0} → SaveStage → List ℕ → ℕ → StoreValue D → Option History → Type 0
HasKept (stage.First prepared) name time store history = (octets : List ℕ) × (length octets ≤ 67108864) × IsPrepared octets prepared
HasKept (stage.Attaching parts attaching) name time store history = IsAttachedSoFar name time parts attaching store history × IsSome (next_attachment attaching)
HasKept now name time store history = HasLeft now name time store history

-- A delivery of the message with these octets is ready for its next event.
pub record IsReadyToDeliver {D : Type 0} (now : SaveStage) (name : List ℕ) (time size : ℕ) (octets : List ℕ) (store : StoreValue D) (history : Option History) : Type 0 where
  pub kept : HasKept now name time store history
  pub ready : IsReadyToSave now name time size octets store history

-- how many events are still to come at the most, whatever other tasks place
abbrev pub save_events_left : SaveStage → InstancesValue → ℕ
save_events_left (stage.First prepared) instances = attach_events_left (nothing_found prepared.parts) instances + 7
save_events_left (stage.Attaching parts attaching) instances = attach_events_left attaching instances + 6
save_events_left (stage.Taking parts) instances = 5
save_events_left (stage.Placing parts file) instances = 4
save_events_left (stage.Storing at rows room) instances = 3
save_events_left (stage.Adding added room) instances = 2
save_events_left (stage.GivingBack uid why room) instances = 1
save_events_left stage.Ended instances = 0

-- ---- what a step says

-- Each image at every moment is safe for the lists of a settled disk, whatever fails. One that stores the message asks that
-- its region is ready; one that adds it may leave the lists with the message, of the octets that its record stores.
abbrev pub MomentsAt : {D : Type 0} → SaveStage → List ℕ → StoreValue D → Option History → Option History → Type 0
MomentsAt (stage.Storing at rows room) name store old new =
    (lists : Lists) → IsReadyToStore (entry_stored rows (record { 0 = store.drawn.map + 1 }) at) old → MayBeNamed rows store old → IsSettledFor lists old → Leaves lists lists old new
MomentsAt (stage.Adding added room) name store old new =
    (number : BoxNo) (uid : Uid) → HasRoomUnder name number uid store → (lists : Lists) (octets : List ℕ) → Brings store.map (entry_added uid added) octets old → IsSettledFor lists old
    → Leaves lists (lists_by number.0 octets (entry_added uid added) lists) old new
MomentsAt other name store old new = (lists : Lists) → IsSettledFor lists old → Leaves lists lists old new

-- Unless the store is stopped then, the disk is settled for its lists again, or, after a message was saved, for those with the
-- message.
abbrev pub RestsAt : {D : Type 0} → SaveStage → List ℕ → Progress → StoreValue D → Option History → Option History → Type 0
RestsAt (stage.Storing at rows room) name answer store old new =
    (lists : Lists) → IsReadyToStore (entry_stored rows (record { 0 = store.drawn.map + 1 }) at) old → MayBeNamed rows store old → IsSettledFor lists old → IsSettledFor lists new
RestsAt (stage.Adding added room) name (progress.Done (reply.Saved uid guid)) store old new =
    (number : BoxNo) → HasRoomUnder name number uid store → (lists : Lists) (octets : List ℕ) → Brings store.map (entry_added uid added) octets old → IsSettledFor lists old
    → IsSettledFor (lists_by number.0 octets (entry_added uid added) lists) new
RestsAt other name answer store old new = (lists : Lists) → IsSettledFor lists old → IsSettledFor lists new

-- the request goes on, or is refused by one of these
abbrev pub GoesOnOr : (Refusal → Type 0) → Progress → Type 0
GoesOnOr Refuses progress.More = Unit {0}
GoesOnOr Refuses (progress.Done (reply.Refused why)) = Refuses why
GoesOnOr Refuses (progress.Done given) = ⊥

-- why the instance of an attachment is not found: its candidate can't be read; or none is left, and it can't be placed
abbrev pub IsAttachRefusal : Option InstRow → ℕ → Refusal → Type 0
IsAttachRefusal (Some candidate) drawn why = why ≡ refusal.ReadFault
IsAttachRefusal None drawn why = (instance_refusal drawn ≡ Some why) ⊎ ((instance_refusal drawn ≡ None) × ((why ≡ refusal.Stopped) ⊎ (why ≡ refusal.NoMemory)))

-- What each event of a store that isn't stopped replies. The first one is refused by its causes, or out of memory; the last
-- one replies the UID and the GUID.
abbrev pub RepliesAt : {D : Type 0} → SaveStage → List ℕ → Progress → SaveStage → StoreValue D → Type 0
RepliesAt (stage.First prepared) name answer next store = GoesOnOr (λ why. (save_refusal name store ≡ Some why) ⊎ ((save_refusal name store ≡ None) × (why ≡ refusal.NoMemory))) answer
RepliesAt (stage.Attaching parts attaching) name answer next store = GoesOnOr (IsAttachRefusal (next_candidate attaching store.instances) store.drawn.instance) answer
RepliesAt (stage.Taking parts) name answer next store = GoesOnOr (λ why. (why ≡ refusal.Stopped) ⊎ ((why ≡ refusal.NoMemory) ⊎ (why ≡ refusal.StoreFull 4294967294))) answer
RepliesAt (stage.Placing parts file) name answer next store = GoesOnOr (λ why. why ≡ refusal.Stopped) answer
RepliesAt (stage.Storing at rows room) name answer next store =
    GoesOnOr (λ why. (uid_refusal store.drawn.map ≡ Some why) ⊎ ((uid_refusal store.drawn.map ≡ None) × ((why ≡ refusal.Stopped) ⊎ (why ≡ refusal.NoMemory)))) answer
RepliesAt (stage.Adding added room) name answer next store =
    ((number : BoxNo) × (uid : Uid) × HasRoomUnder name number uid store × (answer ≡ progress.Done (reply.Saved uid added.guid)))
    ⊎ (((number : BoxNo) × (uid : Uid) × HasRoomUnder name number uid store × (answer ≡ progress.Done (reply.Refused refusal.Stopped)))
    ⊎ ((why : Refusal) × ((box_refusal (list_named store name) ≡ Some why) ⊎ ((box_refusal (list_named store name) ≡ None) × (why ≡ refusal.NoMemory))) × (answer ≡ progress.More) × (next ≡ stage.GivingBack added.map_uid why room)))
RepliesAt (stage.GivingBack uid why room) name answer next store = (answer ≡ progress.Done (reply.Refused why)) ⊎ (answer ≡ progress.Done (reply.Refused refusal.Stopped))
RepliesAt stage.Ended name answer next store = ⊥

-- What a refused event did: a step, unless out of memory or by a fault; one whose change of the disk failed would have made none.
abbrev pub refused_did : Refusal → Did
refused_did why = if is_step why then did.Step half.Whole else did.Quiet

abbrev pub failing_did : Refusal → Did
failing_did refusal.Stopped = did.Failed
failing_did why = refused_did why

-- What the event that adds the message did, and what each event did.
abbrev pub adding_did : SaveStage → Progress → Did
adding_did next (progress.Done (reply.Saved uid guid)) = did.Step half.Whole
adding_did (stage.GivingBack uid why room) progress.More = refused_did why
adding_did next answer = did.Broken half.Whole

abbrev pub giving_did : Progress → Did
giving_did (progress.Done (reply.Refused refusal.Stopped)) = did.Failed
giving_did answer = did.Quiet

abbrev pub saved_did : SaveStage → SaveStage → Progress → Did
saved_did (stage.Adding added room) next answer = adding_did next answer
saved_did (stage.GivingBack uid why room) next answer = giving_did answer
saved_did now next (progress.Done (reply.Refused why)) = failing_did why
saved_did now next answer = did.Quiet

-- the reply of a store that is stopped
abbrev pub stopped_reply : Progress
stopped_reply = progress.Done (reply.Refused refusal.Stopped)

-- A change of the disk failed if the store is stopped then, a read if the reply says so, and else no call.
abbrev pub FaultsAt : Progress → Faults → Faults → Type 0
FaultsAt (progress.Done (reply.Refused refusal.Stopped)) began ended = ChangeFaultCounted (Unit {0}) began ended
FaultsAt (progress.Done (reply.Refused refusal.ReadFault)) began ended = ReadFaultCounted (Unit {0}) began ended
FaultsAt answer began ended = NoFault began ended

-- What a step of a delivery says, of a store that isn't stopped: from this stage to the next one.
pub record Saves {D : Type 0} (now next : SaveStage) (name : List ℕ) (time size : ℕ) (answer : Progress) (how : Did) (old new : StoreValue D) (before after : Option History) (began ended : Faults) : Type 0 where
  pub replies : RepliesAt now name answer next old
  pub did_is : how ≡ saved_did now next answer
  pub moments : MomentsAt now name old before after
  pub stays : MailIsKept old.map before after
  pub rests : new.stopped ≡ false → RestsAt now name answer old before after
  pub mail : new.stopped ≡ false → WritesMail now next name time old before after
  pub ready : answer ≡ progress.More → (octets : List ℕ) → IsReadyToSave now name time size octets old before → IsReadyToSave next name time size octets new after
  pub left : answer ≡ progress.More → HasLeft next name time new after
  pub fewer : answer ≡ progress.More → save_events_left next new.instances < save_events_left now old.instances
  pub effects : SaveEffects now next name time size answer old new
  pub idle : new ≡ old → after ≡ before
  pub spared : new.stopped ≡ false → AreSpared old new before after
  pub others : KeepsOthers now old new
  pub moves : new.stopped ≡ false → Moves (save_amounts now) (save_amounts next) (amounts_in old) (amounts_in new)
  pub holds : MovesHolds (save_holds now) (save_holds next) old new
  pub instances : new.stopped ≡ false → KeepsInstances old new before after
  pub stopped : (answer ≡ stopped_reply) ↔ (new.stopped ≡ true)
  pub faults : FaultsAt answer began ended
  pub grows : Grows before after

-- How a step ends: it replies so if and only if the store is stopped then, and a store that was stopped stays as it was. Else no file
-- is doomed more or less.
pub record EndsSave {D : Type 0} (answer : Progress) (old new : StoreValue D) : Type 0 where
  pub stopped : (answer ≡ stopped_reply) ↔ (new.stopped ≡ true)
  pub still : old.stopped ≡ true → new ≡ old
  pub doomed : new.stopped ≡ false → (file : ℕ) → is_doomed_in file new.files.files ≡ is_doomed_in file old.files.files

-- Of the message with these octets, where the task is ready for it: its clause, with what the store has for the message. In a store that
-- was stopped it need not be ready, but for the number of attachments.
abbrev pub StepsDelivery : {D : Type 0} → SaveValue → SaveValue → List ℕ → (ℕ → ℕ) → Around → StoreValue D → StoreValue D → Option History → Option History → Faults → Faults → Option Reply → Type 0
StepsDelivery t next octets pins around old new before after began now ended =
    HasItsParts t.stage octets → (old.stopped ≡ false → IsReadyToSave t.stage t.name t.time t.size octets old before)
    → StepsWithRoom (IsAtSave t.stage) (IsAtSave next.stage) (around_saving octets t.stage old) around (request.Deliver t.name t.time octets) (seen_of pins old before began) (seen_of pins new after now) next.did ended
