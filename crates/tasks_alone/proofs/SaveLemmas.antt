-- What the events of a delivery alone say together.
use Rattle.std.specs.Prelude.{◌≡◌, ◌≢◌, ◌↔◌, ◌⊎◌, ◌+◌, ◌≤◌, ◌<◌, ◌∷◌, ◌++◌, ℕ, nat_le, All, Bool, Contains, true, false, List, [], length, if◌then◌else◌, Option, Some, None, IsSome}
use Rattle.std.specs.Option.{option_map_or, option_or}
use Rattle.std.proofs.Common.{refl, sym, ◌∙◌, ap, subst, inl, inr, arith}
use Rattle.std.proofs.lemmas.Bool.{leb-true}
use Rattle.std.proofs.lemmas.List.{length-append}
use Rattle.std.proofs.lemmas.List.Elements.{Contains-append_left, Contains-push}
use Rattle.std.proofs.lemmas.Option.{slice_get_within}
use Rattle.attach_detach.specs.Prepared.{IsPrepared}
use Rattle.attach_detach.specs.declared.message.Detached.{Detached}
use Rattle.attach_detach.specs.declared.message.Prepared.{Prepared}
use Rattle.disk_model.specs.Disk.{DiskState, History, Faults, IfTold}
use Rattle.disk_model.specs.declared.name.FileName.TheVariants.{Inst}
use Rattle.disk_model.proofs.BetweenLemmas.{between-on}
use Rattle.mdbox_base.specs.declared.entries.InstRow.{InstRow}
use Rattle.mdbox_base.specs.declared.ids.BoxNo.{BoxNo}
use Rattle.mdbox_base.specs.declared.ids.FileNo.{FileNo}
use Rattle.mdbox_base.specs.declared.ids.Guid.{Guid}
use Rattle.mdbox_base.specs.declared.ids.MapUid.{MapUid}
use Rattle.mdbox_base.specs.declared.ids.Uid.{Uid}
use Rattle.mdbox_base.specs.declared.progress.Progress.{Progress}
use Rattle.mdbox_base.specs.declared.progress.Progress.TheVariants as progress
use Rattle.mdbox_base.specs.declared.replies.ListRow.{ListRow}
use Rattle.mdbox_base.specs.declared.replies.Refusal.{Refusal}
use Rattle.mdbox_base.specs.declared.replies.Refusal.TheVariants as refusal
use Rattle.mdbox_base.specs.declared.replies.Reply.{Reply}
use Rattle.mdbox_base.specs.declared.replies.Reply.TheVariants as reply
use Rattle.mdbox_base.specs.declared.requests.Request.TheVariants as request
use Rattle.model_lists.specs.Lists.{Lists, AreWellFormed}
use Rattle.model_appends.specs.Appending.{lists_by, meanings_by}
use Rattle.model_meaning.specs.BoxMeaning.{BoxMeaning}
use Rattle.model_meaning.specs.MapMeaning.{MapBox, MapMeaning, is_sealed, map_applied}
use Rattle.model_storage.specs.WrittenFile.{written_header}
use Rattle.model_store.specs.Listing.{ShowLists, meaning_named}
use Rattle.model_store.specs.Settled.{IsSettledFor, files_of}
use Rattle.model_store.specs.Stands.{HasInstances}
use Rattle.list_machine.specs.Machine.{add_message}
use Rattle.task_steps.specs.Step.{ended_by}
use Rattle.task_steps.proofs.OneEventLemmas.{not_true}
use Rattle.entry_steps.proofs.AppendListLemmas.{added_by}
use Rattle.save_instances.specs.Attaching.{AttachingValue, found_let_go, next_attachment, next_candidate, part_row, with_compared, with_found}
use Rattle.saved_message.specs.Region.{guid_of_place, written_region}
use Rattle.saved_message.specs.Saved.{AreInstancesOf, ids_in}
use Rattle.sis_store.proofs.IdLemmas.{contained}
use Rattle.sis_store.specs.Instances.{next_id}
use Rattle.sis_store.specs.declared.instance.KnownInstance.{KnownInstance}
use Rattle.storage_files.specs.Files.{FilesValue, IsTakeFor, end_in, file_in, is_taken_in}
use Rattle.storage_files.specs.declared.file.MailFile.{MailFile}
use Rattle.storage_files.specs.declared.file.Take.{Take}
use Rattle.storage_files.specs.declared.file.Take.TheVariants as take
use Rattle.store_core.specs.Running.{IsStore}
use Rattle.store_core.specs.StoreInstances.{HasKnownInstances}
use Rattle.store_core.specs.Value.{StoreValue, indexes_of, list_named}
use Rattle.mail_ops.proofs.CopyPlaceLemmas.{ShownBox, ShowsBox, shows_box}
use Rattle.mail_ops.proofs.FlagListLemmas.{numbered}
use Rattle.mail_ops.proofs.ShownEntryLemmas.{MakesAlike, shown_entry}
use Rattle.mail_save.specs.Added.{HasRoomUnder, entry_added}
use Rattle.mail_save.specs.Events.{box_refusal, instance_refusal, uid_refusal, save_refusal}
use Rattle.mail_save.specs.Left.{HoldsRegion}
use Rattle.mail_save.proofs.MailFileLemmas.{synced_reads}
use Rattle.mail_save.specs.MailFiles.{HasAppended, TakesWithHeader, ReadsSameMail, WritesAttachment, WritesMail}
use Rattle.mail_save.specs.Record.{entry_stored}
use Rattle.mail_save.specs.SaveEffects.{AttachesNext, AttachesNone, LetsGo, TakesFileFor, TookAs, TakesNone, PlacesParts, StoresPlaced, StoresNone, AddsStored, LowersRecord, SaveEffects}
use Rattle.mail_save.specs.Ready.{IsReadyToSave, IsPlacedReady}
use Rattle.mail_save.specs.Task.{HasKept, RestsAt, SaveValue, HasLeft, IsAttachRefusal, RepliesAt, Saves, stopped_reply}
use Rattle.mail_save.specs.declared.add.Added.{Added}
use Rattle.mail_save.specs.declared.first.SavedParts.{SavedParts}
use Rattle.mail_save.specs.declared.place.SavedAt.{SavedAt}
use Rattle.mail_save.specs.declared.task.SaveStage.{SaveStage}
use Rattle.mail_save.specs.declared.task.SaveStage.TheVariants as stage
use Rattle.script_run.specs.One.{saved_lists}
use Rattle.tasks_alone.specs.DeliveryAlone.{AreFirstNamed, undelivered_cause, attachment_octets, region_length, IsFileFor, IsSavedAs, IsSavedPlace, IsOutOfFiles, IsOutOfInstances, IsUncompared, IsDeliverAnswer, HasRecordMore, HasRecordLeft}
use Rattle.tasks_alone.specs.SavedMail.{AddedMail, LeftMail, TookMail, WroteMail}
use Rattle.script_run.proofs.CopyTaskLemmas.{memory_runs}
use Rattle.script_run.proofs.OneTaskLemmas.{KeepsAlone, one_refusal, some_reply}
use Rattle.tasks_alone.proofs.FirstLemmas.{AreFirstKnown, firsts_let_go, firsts_named, firsts_on}
use Rattle.tasks_alone.proofs.SavedFormLemmas.{AttachedAs, attached_as, attaching_parts, ready_instances}
use Rattle.tasks_alone.proofs.WroteLemmas.{AreAmong, added_among, added_none, added_on, compares_attachment, instances_on, places_attachment, took_mail, wrote_mail, wrote_on}
use Rattle.lane_tasks.specs.Clause.{StaysOfRequest, TellsStore, progress_by}
use Rattle.lane_tasks.specs.Tasks.{BeginsTask}
use Rattle.lane_tasks.specs.declared.task.Task.{Task}
use Rattle.lane_tasks.specs.declared.task.Task.TheVariants as task
use Rattle.lane_tasks.proofs.StepLemmas.{ops_asked}
use Rattle.mail_ops.specs.Requests.{IsOpsRequest}
use Rattle.script_run.specs.Opening.{StaysSettled}

-- ---- what a delivery alone does

-- The store has the same listings and mailboxes.
pub record IsAlike {D : Type 0} (store later : StoreValue D) : Type 0 where
  pub indexes : indexes_of later.boxes ≡ indexes_of store.boxes
  pub mailboxes : later.map.boxes ≡ store.map.boxes

-- From any lists that the store shows the later one shows those that the change makes of them.
abbrev pub ShowsChanged : {D : Type 0} → (Lists → Lists) → StoreValue D → StoreValue D → Type 0
ShowsChanged change store later = (lists : Lists) → AreWellFormed lists → ShowLists store.map.boxes (indexes_of store.boxes) lists → ShowLists later.map.boxes (indexes_of later.boxes) (change lists)

-- The message was saved with this GUID: the map has its record more, its region was written, to a storage file that isn't sealed,
-- and the files of the record's instances have the octets of its attachments, and each is the first that has them.
pub record StoresAlone {D : Type 0} (name : List ℕ) (time : ℕ) (prepared : Prepared) (uid : MapUid) (guid : Guid) (store later : StoreValue D) (old new : Option History) : Type 0 where
  pub at : SavedAt
  pub guid_is : at.guid ≡ guid
  pub rows : List InstRow
  pub more : HasRecordMore name time prepared store.drawn.map store.map store.files rows uid at later.map
  pub unsealed : is_sealed store.map at.file.0 ≡ true → ⊥
  pub mail : WroteMail prepared.parts rows time at.file.0 at.offset (written_region name time prepared (ids_in rows) guid.0) old new
  pub attachments : IfTold new (λ now. HasInstances (files_of now) rows (attachment_octets prepared.parts))
  pub once : IfTold new (AreFirstNamed rows later.map)

-- What the events of a delivery did, of a message with this detached form.
pub record SavesAlone {D : Type 0} (name : List ℕ) (time : ℕ) (octets : List ℕ) (prepared : Prepared) (store later : StoreValue D) (old new : Option History) (given : Reply) : Type 0 where
  pub given_is : IsDeliverAnswer (undelivered_cause (list_named store name) store.drawn) (list_named store name) store.map.store (region_length name time prepared) store.drawn.instance (length prepared.parts) store.files given
  pub refused : (why : Refusal) → undelivered_cause (list_named store name) store.drawn ≡ Some why → (later ≡ store) × (new ≡ old)
  pub unsaved : (why : Refusal) → given ≡ reply.Refused why → (why ≡ refusal.Stopped → ⊥) → IsAlike store later
  pub left : (why : Refusal) → given ≡ reply.Refused why → (why ≡ refusal.Stopped → ⊥) → (later.map ≡ store.map) ⊎ HasRecordLeft name time prepared store.drawn.map store.map store.files later.map
  pub uncompared : given ≡ reply.Refused refusal.ReadFault → (rows : List InstRow) × AddedMail prepared.parts rows old new
  pub settled : given ≡ reply.Refused refusal.ReadFault → StaysSettled old new
  pub leaves : (why : Refusal) → given ≡ reply.Refused why → (why ≡ refusal.Stopped → ⊥) → (rows : List InstRow) × LeftMail name time prepared rows old new
  pub shows : (uid : Uid) (guid : Guid) → given ≡ reply.Saved uid guid → ShowsChanged (saved_lists name time octets guid) store later
  pub stored : (uid : Uid) (guid : Guid) → given ≡ reply.Saved uid guid → (map_uid : MapUid) × StoresAlone name time prepared map_uid guid store later old new

more_done : (given : Reply) → progress.More ≡ progress.Done given → ⊥
more_done given e = cc e

one_done : (a b : Reply) → progress.Done a ≡ progress.Done b → a ≡ b
one_done a b e = cc e

-- ---- the lists with the message

-- whatever UID the message had
same_message : (name : List ℕ) (time : ℕ) (octets : List ℕ) (guid : Guid) (uid : ℕ) (lists : Lists) → add_message name (record { uid = uid; flags = 0; time = time; guid = guid.0; octets = octets; words = [] }) lists ≡ saved_lists name time octets guid lists
same_message name time octets guid uid lists = refl

pub save_gives : {D : Type 0} → (name octets : List ℕ) (added : Added) (number : BoxNo) (uid : Uid) (s : StoreValue D) (lists : Lists) → HasRoomUnder name number uid s → AreWellFormed lists → ShowLists s.map.boxes (indexes_of s.boxes) lists
    → lists_by number.0 octets (entry_added uid added) lists ≡ saved_lists name added.time octets added.guid lists
save_gives name octets added number uid s lists room well h =
    let t : ShownBox name lists room.mailbox = subst (ShowsBox name lists) room.named (shows_box name s.map.boxes (indexes_of s.boxes) lists h) in
    let number_is = numbered name number.0 s.map.boxes (indexes_of s.boxes) lists t.mailbox h room.number_is t.named in
    subst (λ (k : ℕ). lists_by k octets (entry_added uid added) lists ≡ saved_lists name added.time octets added.guid lists) number_is
    (added_by lists name t.mailbox octets uid 0 added.time added.size added.map_uid added.guid [] well t.named (room.next ∙ sym t.next) ∙ same_message name added.time octets added.guid uid.0 lists)

save_alike : (octets : List ℕ) (added : Added) (uid : Uid) → added.size ≡ length octets → MakesAlike octets (entry_added uid added)
save_alike octets added uid e = ap (λ (n : ℕ). let r : ListRow = record { uid = record { 0 = uid.0 }; flags = 0; size = n; time = added.time; guid = record { 0 = added.guid.0 }; words = [] } in r ∷ []) e

-- what the log means with the message shows them
save_shows : {D : Type 0} → (name octets : List ℕ) (added : Added) (number : BoxNo) (uid : Uid) (s : StoreValue D) (lists : Lists) → HasRoomUnder name number uid s → added.size ≡ length octets → AreWellFormed lists → ShowLists s.map.boxes (indexes_of s.boxes) lists
    → ShowLists s.map.boxes (meanings_by number.0 (entry_added uid added) s.map.boxes (indexes_of s.boxes)) (saved_lists name added.time octets added.guid lists)
save_shows name octets added number uid s lists room size well h =
    subst (λ (ls : Lists). ShowLists s.map.boxes (meanings_by number.0 (entry_added uid added) s.map.boxes (indexes_of s.boxes)) ls) (save_gives name octets added number uid s lists room well h)
    (shown_entry number.0 octets (entry_added uid added) s.map.boxes (indexes_of s.boxes) lists (save_alike octets added uid size) h)

-- ---- why it isn't saved

-- where there is none, neither the mailbox nor the map uids have one
none_first : (a b : Option Refusal) → option_or a b ≡ None → a ≡ None
none_first None b e = refl
none_first (Some why) b e = absurd (let k : Some why ≡ None = e in cc k)

none_second : (a b : Option Refusal) → option_or a b ≡ None → b ≡ None
none_second None b e = e
none_second (Some why) b e = absurd (let k : Some why ≡ None = e in cc k)

no_cause : (why : Refusal) (o : Option Refusal) → o ≡ None → o ≡ Some why → ⊥
no_cause why o none some = let k : None ≡ Some why = sym none ∙ some in cc k

named_alike : {D : Type 0} → (name : List ℕ) (first s : StoreValue D) → IsAlike first s → list_named s name ≡ list_named first name
named_alike name first s b = ap (λ (bs : List MapBox). meaning_named name bs (indexes_of s.boxes)) b.mailboxes ∙ ap (meaning_named name first.map.boxes) b.indexes

same_alike : {D : Type 0} → (first s : StoreValue D) → s ≡ first → IsAlike first s
same_alike first s e = record { indexes = ap (λ (v : StoreValue _). indexes_of v.boxes) e; mailboxes = ap (λ (v : StoreValue _). v.map.boxes) e }

-- ---- an event

-- What an event of the task says, of the message that it is of, in a store that ran.
pub record SaveEvent {D : Type 0} (name : List ℕ) (time : ℕ) (octets : List ℕ) (now next : SaveStage) (s t : StoreValue D) (before after : Option History) (answer : Progress) : Type 0 where
  pub replies : RepliesAt now name answer next s
  pub effects : SaveEffects now next name time (length octets) answer s t
  pub idle : t ≡ s → after ≡ before
  pub stopped : (answer ≡ stopped_reply) ↔ (t.stopped ≡ true)
  pub running : s.stopped ≡ false
  pub is : IsStore before s
  pub ready : IsReadyToSave now name time (length octets) octets s before
  pub kept : HasKept now name time s before
  pub left : answer ≡ progress.More → HasLeft next name time t after
  pub mail : t.stopped ≡ false → WritesMail now next name time s before after
  pub rests : t.stopped ≡ false → RestsAt now name answer s before after

-- ---- so far

-- the logs mean what they meant, and no map uid was drawn
pub record KeepsLogs {D : Type 0} (first s : StoreValue D) : Type 0 where
  pub map : s.map ≡ first.map
  pub indexes : indexes_of s.boxes ≡ indexes_of first.boxes
  pub drawn : s.drawn.map ≡ first.drawn.map

-- ---- instances

-- the instances have these octets still
attachments_on : (rows : List InstRow) (octets : List (List ℕ)) (before after : Option History) → ReadsSameMail before after → IfTold before (λ now. HasInstances (files_of now) rows octets) → IfTold after (λ now. HasInstances (files_of now) rows octets)
attachments_on rows octets before after same told = between-on _ (λ (now : DiskState). HasInstances (files_of now) rows octets) (λ (now : DiskState). HasInstances (files_of now) rows octets) before after (λ a b s h. instances_on rows octets a b (λ hash id. synced_reads (a (Inst hash id)) (b (Inst hash id)) (s.1 hash id)) h) same told

-- Behind the events that find these instances: some of them are new on the disk, which is settled for what it was.
pub record AttachedAlone {D : Type 0} (old new : Option History) (name : List ℕ) (prepared : Prepared) (rows : List InstRow) (first s : StoreValue D) : Type 0 where
  pub logs : KeepsLogs first s
  pub files : s.files ≡ first.files
  pub free : save_refusal name first ≡ None
  pub mail : AddedMail prepared.parts rows old new
  pub settled : StaysSettled old new

-- which file was taken, of a store that had these: as it was, or new with a header
abbrev pub IsTakenFor : {D : Type 0} → ℕ → ℕ → FilesValue → FileNo → StoreValue D → Type 0
IsTakenFor size time files file s =
    (IsTakeFor size files (take.Known file) × (end_in file.0 s.files.files ≡ end_in file.0 files.files)) ⊎ (IsTakeFor size files (take.New file) × (end_in file.0 s.files.files ≡ Some (length (written_header time))))

-- Behind the event that takes a storage file: it is the one for so many octets, and as it was, or new with a header.
pub record TakenAlone {D : Type 0} (old new : Option History) (name : List ℕ) (time : ℕ) (prepared : Prepared) (rows : List InstRow) (first s : StoreValue D) (file : FileNo) : Type 0 where
  pub logs : KeepsLogs first s
  pub free : save_refusal name first ≡ None
  pub taken : IsTakenFor (region_length name time prepared) time first.files file s
  pub mail : TookMail prepared.parts rows time file.0 old new

-- Behind the event that places the message.
pub record PlacedAlone {D : Type 0} (old new : Option History) (name : List ℕ) (time : ℕ) (prepared : Prepared) (first s : StoreValue D) (at : SavedAt) (rows : List InstRow) : Type 0 where
  pub logs : KeepsLogs first s
  pub free : save_refusal name first ≡ None
  pub rows_are : AreInstancesOf prepared.parts rows
  pub place : IsSavedPlace time (region_length name time prepared) first.map first.files at
  pub unsealed : is_sealed first.map at.file.0 ≡ true → ⊥
  pub mail : WroteMail prepared.parts rows time at.file.0 at.offset (written_region name time prepared (ids_in rows) at.guid.0) old new

-- The record was stored. Each of its instances is the first known one of its octets.
pub record StoredAlone {D : Type 0} (name : List ℕ) (time : ℕ) (prepared : Prepared) (uid : MapUid) (guid : Guid) (first s : StoreValue D) (old new : Option History) : Type 0 where
  pub at : SavedAt
  pub guid_is : at.guid ≡ guid
  pub rows : List InstRow
  pub more : HasRecordMore name time prepared first.drawn.map first.map first.files rows uid at s.map
  pub unsealed : is_sealed first.map at.file.0 ≡ true → ⊥
  pub mail : WroteMail prepared.parts rows time at.file.0 at.offset (written_region name time prepared (ids_in rows) guid.0) old new
  pub attachments : IfTold new (λ now. HasInstances (files_of now) rows (attachment_octets prepared.parts))
  pub firsts : AreFirstKnown rows s.instances.known new

-- Behind the event that stores its record.
pub record RecordedAlone {D : Type 0} (old new : Option History) (name : List ℕ) (time : ℕ) (prepared : Prepared) (first s : StoreValue D) (uid : MapUid) (guid : Guid) : Type 0 where
  pub alike : IsAlike first s
  pub free : save_refusal name first ≡ None
  pub stored : StoredAlone name time prepared uid guid first s old new

-- What is known of the store at each stage. An instance was placed for each attachment that has one, at the most. Alone, the message
-- isn't added for want of memory at the most.
abbrev pub SaveKnows : {D : Type 0} → Option History → Option History → List ℕ → ℕ → List ℕ → Prepared → StoreValue D → StoreValue D → SaveStage → Type 0
SaveKnows old new name time octets prepared first s (stage.First form) = (s ≡ first) × (new ≡ old)
SaveKnows old new name time octets prepared first s (stage.Attaching parts attaching) = AttachedAlone old new name prepared attaching.found first s × (s.drawn.instance ≤ first.drawn.instance + length attaching.found)
SaveKnows old new name time octets prepared first s (stage.Taking parts) = AttachedAlone old new name prepared parts.rows first s
SaveKnows old new name time octets prepared first s (stage.Placing parts file) = TakenAlone old new name time prepared parts.rows first s file
SaveKnows old new name time octets prepared first s (stage.Storing at rows room) = PlacedAlone old new name time prepared first s at rows
SaveKnows old new name time octets prepared first s (stage.Adding added room) = RecordedAlone old new name time prepared first s added.map_uid added.guid × (added.time ≡ time) × (added.size ≡ length octets)
SaveKnows old new name time octets prepared first s (stage.GivingBack uid why room) = (guid : Guid) × RecordedAlone old new name time prepared first s uid guid × (why ≡ refusal.NoMemory)
SaveKnows old new name time octets prepared first s stage.Ended = Unit {0}

-- ---- the first event

first_logs : {D : Type 0} → (first t : StoreValue D) → t ≡ first → KeepsLogs first t
first_logs first t same = record { map = ap (λ (v : StoreValue _). v.map) same; indexes = ap (λ (v : StoreValue _). indexes_of v.boxes) same; drawn = ap (λ (v : StoreValue _). v.drawn.map) same }

first_attached : {D : Type 0} → (h0 h1 h2 : Option History) (name : List ℕ) (prepared : Prepared) (rows : List InstRow) (first s t : StoreValue D) → (s ≡ first) × (h1 ≡ h0) → t ≡ s → save_refusal name s ≡ None → ReadsSameMail h1 h2 → StaysSettled h1 h2 → AttachedAlone h0 h2 name prepared rows first t
first_attached h0 h1 h2 name prepared rows first s t is same free reads still = record {
  logs = first_logs first t (same ∙ is.0);
  files = ap (λ (v : StoreValue _). v.files) (same ∙ is.0);
  free = subst (λ (v : StoreValue _). save_refusal name v ≡ None) is.0 free;
  mail = added_none prepared.parts rows h0 h2 (subst (λ (h : Option History). ReadsSameMail h h2) is.1 reads);
  settled = subst (λ (h : Option History). StaysSettled h h2) is.1 still;
}

none_drawn : {D : Type 0} → (first t : StoreValue D) (attaching : AttachingValue) → t ≡ first → t.drawn.instance ≤ first.drawn.instance + length attaching.found
none_drawn first t attaching same = let e : t.drawn.instance ≡ first.drawn.instance = ap (λ (v : StoreValue _). v.drawn.instance) same in omega (arith, e)

-- ---- an attachment

-- one more is found
among_push : (found : List InstRow) (row : InstRow) → AreAmong found (found ++ row ∷ [])
among_push found row = λ other c. Contains-append_left found (row ∷ []) other c

found_more : (alike : Bool) (candidate : InstRow) (highest : ℕ) (attaching more : AttachingValue) → more ≡ (if alike then with_found candidate attaching else with_compared candidate highest attaching) → AreAmong attaching.found more.found × (length attaching.found ≤ length more.found)
found_more true candidate highest attaching more e =
    let same : more.found ≡ attaching.found ++ candidate ∷ [] = ap (λ (v : AttachingValue). v.found) e in
    let a : length more.found ≡ length (attaching.found ++ candidate ∷ []) = ap length same in
    let b = length-append attaching.found (candidate ∷ []) in
    (subst (λ (rs : List InstRow). AreAmong attaching.found rs) (sym same) (among_push attaching.found candidate), omega (arith, a, b))
found_more false candidate highest attaching more e =
    let same : more.found ≡ attaching.found = ap (λ (v : AttachingValue). v.found) e in
    let a : length more.found ≡ length attaching.found = ap length same in
    (subst (λ (rs : List InstRow). AreAmong attaching.found rs) (sym same) (λ row c. c), omega (arith, a))

-- the attachment that is gone on with is one of the message's
part_among : (attaching : AttachingValue) (prepared : Prepared) → attaching.parts ≡ prepared.parts → (part : Detached) → next_attachment attaching ≡ Some part → Contains prepared.parts part
part_among attaching prepared same part e = subst (λ (ps : List Detached). Contains ps part) same (contained attaching.parts (length attaching.found) part e)

more_attached : {D : Type 0} → (h0 h1 h2 : Option History) (name : List ℕ) (prepared : Prepared) (first s t : StoreValue D) (attaching more : AttachingValue) → attaching.parts ≡ prepared.parts → AttachedAlone h0 h1 name prepared attaching.found first s → s.drawn.instance ≤ first.drawn.instance + length attaching.found
    → AttachesNext attaching more s t → WritesAttachment (next_candidate attaching s.instances) (next_attachment attaching) s h1 h2 → StaysSettled h1 h2 → AttachedAlone h0 h2 name prepared more.found first t × (t.drawn.instance ≤ first.drawn.instance + length more.found)
more_attached h0 h1 h2 name prepared first s t attaching more parts_are k few (inl compares) wrote still =
    let b = found_more compares.alike compares.candidate s.instances.highest attaching more compares.more_is in
    let a : t.drawn.instance ≡ s.drawn.instance = ap (λ (v : StoreValue _). v.drawn.instance) compares.same in
    let long = b.1 in (
      record {
        logs = record {
          map = ap (λ (v : StoreValue _). v.map) compares.same ∙ k.logs.map;
          indexes = ap (λ (v : StoreValue _). indexes_of v.boxes) compares.same ∙ k.logs.indexes;
          drawn = ap (λ (v : StoreValue _). v.drawn.map) compares.same ∙ k.logs.drawn;
        };
        files = ap (λ (v : StoreValue _). v.files) compares.same ∙ k.files;
        free = k.free;
        mail = added_on prepared.parts more.found h0 h1 h2 (added_among prepared.parts attaching.found more.found h0 h1 b.0 k.mail)
            (compares_attachment (next_candidate attaching s.instances) (next_attachment attaching) compares.candidate prepared.parts more.found s h1 h2 compares.next wrote);
        settled = λ lists at. still lists (k.settled lists at);
      },
      omega (arith, a, long, few),
    )
more_attached h0 h1 h2 name prepared first s t attaching more parts_are k few (inr places) wrote still =
    let row : InstRow = part_row places.part (next_id s.instances) in
    let same : more.found ≡ attaching.found ++ row ∷ [] = ap (λ (v : AttachingValue). v.found) places.more_is in
    let a : t.drawn.instance ≡ s.drawn.instance + 1 = ap (λ (v : StoreValue _). v.drawn.instance) places.same in
    let b : length more.found ≡ length (attaching.found ++ row ∷ []) = ap length same in
    let c = length-append attaching.found (row ∷ []) in (
      record {
        logs = record {
          map = ap (λ (v : StoreValue _). v.map) places.same ∙ k.logs.map;
          indexes = ap (λ (v : StoreValue _). indexes_of v.boxes) places.same ∙ k.logs.indexes;
          drawn = ap (λ (v : StoreValue _). v.drawn.map) places.same ∙ k.logs.drawn;
        };
        files = ap (λ (v : StoreValue _). v.files) places.same ∙ k.files;
        free = k.free;
        mail = added_on prepared.parts more.found h0 h1 h2
            (added_among prepared.parts attaching.found more.found h0 h1 (subst (λ (rs : List InstRow). AreAmong attaching.found rs) (sym same) (among_push attaching.found row)) k.mail)
            (places_attachment (next_candidate attaching s.instances) (next_attachment attaching) places.part prepared.parts more.found s h1 h2 places.compared places.next (part_among attaching prepared parts_are places.part places.next)
            (subst (λ (rs : List InstRow). Contains rs row) (sym same) (Contains-push attaching.found row)) wrote);
        settled = λ lists at. still lists (k.settled lists at);
      },
      omega (arith, a, b, c, few),
    )

-- the instances are named in what was laid out
named_attached : {D : Type 0} → (h0 h1 h2 : Option History) (name : List ℕ) (prepared : Prepared) (rows found : List InstRow) (first t : StoreValue D) → rows ≡ found → AttachedAlone h0 h2 name prepared found first t → AttachedAlone h0 h2 name prepared rows first t
named_attached h0 h1 h2 name prepared rows found first t same k = subst (λ (rs : List InstRow). AttachedAlone h0 h2 name prepared rs first t) (sym same) k

-- ---- each later event that goes on

took_drawn : {D : Type 0} → (taken : Take) (header : ℕ) (file : FileNo) (s t : StoreValue D) → TookAs taken header file s t → t.drawn.map ≡ s.drawn.map
took_drawn (take.Known known) header file s t took = ap (λ (h : _). h.map) took.1
took_drawn (take.New new) header file s t took = ap (λ (h : _). h.map) took.1
took_drawn take.Full header file s t took = absurd took

taken_logs : {D : Type 0} → (header size : ℕ) (file : FileNo) (first s t : StoreValue D) → KeepsLogs first s → TakesFileFor header size file s t → KeepsLogs first t
taken_logs header size file first s t k took = record {
  map = ap (λ (v : StoreValue _). v.map) took.same ∙ k.map;
  indexes = ap (λ (v : StoreValue _). indexes_of v.boxes) took.same ∙ k.indexes;
  drawn = took_drawn took.take header file s t took.took ∙ k.drawn;
}

placed_same : {D : Type 0} → {files : FilesValue} → (s t : StoreValue D) → t ≡ record s { disk = t.disk; files = files } → t ≡ record s { disk = t.disk; files = t.files }
placed_same {files = files} s t same = same ∙ ap (λ (f : FilesValue). record s { disk = t.disk; files = f }) (sym (ap (λ (v : StoreValue _). v.files) same))

placed_logs : {D : Type 0} → (first s t : StoreValue D) → KeepsLogs first s → t ≡ record s { disk = t.disk; files = t.files } → KeepsLogs first t
placed_logs first s t k same = record {
  map = ap (λ (v : StoreValue _). v.map) same ∙ k.map;
  indexes = ap (λ (v : StoreValue _). indexes_of v.boxes) same ∙ k.indexes;
  drawn = ap (λ (v : StoreValue _). v.drawn.map) same ∙ k.drawn;
}

stored_alike : {D : Type 0} → (at : SavedAt) (rows : List InstRow) (time size : ℕ) (added : Added) (first s t : StoreValue D) → KeepsLogs first s → StoresPlaced at rows time size added s t → IsAlike first t
stored_alike at rows time size added first s t k e = record {
  indexes = ap (λ (v : StoreValue _). indexes_of v.boxes) e.same ∙ k.indexes;
  mailboxes = e.mailboxes ∙ ap (λ (m : MapMeaning). m.boxes) k.map;
}

-- which file was taken
taken_as : {D : Type 0} → (time header size many : ℕ) (file : FileNo) (taken : Take) (s t : StoreValue D) → header ≡ length (written_header time) → size ≡ many → IsTakeFor size s.files taken → TookAs taken header file s t → IsTakenFor many time s.files file t
taken_as time header size many file (take.Known known) s t h n is took = inl (subst (λ (f : FileNo). IsTakeFor many s.files (take.Known f)) took.0 (subst (λ (k : ℕ). IsTakeFor k s.files (take.Known known)) n is), took.2 file.0)
taken_as time header size many file (take.New new) s t h n is took = inr (subst (λ (f : FileNo). IsTakeFor many s.files (take.New f)) took.0 (subst (λ (k : ℕ). IsTakeFor k s.files (take.New new)) n is), took.3 ∙ ap (λ (k : ℕ). Some k) h)
taken_as time header size many file take.Full s t h n is took = absurd took

taken_alone : {D : Type 0} → (h0 h1 h2 : Option History) (name : List ℕ) (time : ℕ) (prepared : Prepared) (parts : SavedParts) (file : FileNo) (first s t : StoreValue D) → AttachedAlone h0 h1 name prepared parts.rows first s → s.stopped ≡ false → IsStore h1 s → AttachedAs name time prepared parts
    → TakesFileFor (length parts.header) (length parts.laid.region) file s t → TakesWithHeader parts.header file.0 s h1 h2 → TakenAlone h0 h2 name time prepared parts.rows first t file
taken_alone h0 h1 h2 name time prepared parts file first s t knows runs is kept took wrote = record {
  logs = taken_logs (length parts.header) (length parts.laid.region) file first s t knows.logs took;
  free = knows.free;
  taken = subst (λ (fs : FilesValue). IsTakenFor (region_length name time prepared) time fs file t) knows.files (taken_as time (length parts.header) (length parts.laid.region) (region_length name time prepared) file took.take s t (ap length kept.laid.header) kept.sized took.is took.took);
  mail = took_mail prepared.parts parts.rows time file.0 parts.header s h0 h1 h2 kept.laid.header knows.mail ((is.running runs).files_known file.0) wrote;
}

-- a file that somebody has taken isn't sealed
taken_unsealed : {D : Type 0} → (number : ℕ) (s : StoreValue D) (now : Option History) → IsStore now s → is_taken_in number s.files.files ≡ true → is_sealed s.map number ≡ true → ⊥
taken_unsealed number s now k taken sealed = by_file (file_in number s.files.files) refl
  where
    by_file : (o : Option MailFile) → file_in number s.files.files ≡ o → ⊥
    by_file None e = let no : false ≡ true = sym (ap (λ (o : Option MailFile). option_map_or (λ f. f.taken) o false) e) ∙ taken in absurd (cc no)
    by_file (Some f) e =
        let own : f.taken ≡ true = sym (ap (λ (o : Option MailFile). option_map_or (λ g. g.taken) o false) e) ∙ taken in
        let no : false ≡ true = sym (k.files.taken number f e own).unsealed ∙ (k.files.sealed number f e ∙ sealed) in
        absurd (cc no)

one_end : (a b : ℕ) → Some a ≡ Some b → a ≡ b
one_end a b e = cc e

-- its place
placed_at : {D : Type 0} → (size time : ℕ) (at : SavedAt) (first s : StoreValue D) → end_in at.file.0 s.files.files ≡ Some at.offset → IsTakenFor size time first.files at.file s
    → (IsTakeFor size first.files (take.Known at.file) × (end_in at.file.0 first.files.files ≡ Some at.offset)) ⊎ (IsTakeFor size first.files (take.New at.file) × (at.offset ≡ length (written_header time)))
placed_at size time at first s began (inl known) = inl (known.0, sym known.1 ∙ began)
placed_at size time at first s began (inr new) = inr (new.0, one_end at.offset (length (written_header time)) (sym began ∙ new.1))

placed_alone : {D : Type 0} → (h0 h1 h2 : Option History) (name : List ℕ) (time : ℕ) (prepared : Prepared) (parts : SavedParts) (file : FileNo) (at : SavedAt) (rows : List InstRow) (first s t : StoreValue D) → TakenAlone h0 h1 name time prepared parts.rows first s file → s.stopped ≡ false → IsStore h1 s → AttachedAs name time prepared parts
    → PlacesParts parts file at rows s t → HoldsRegion at t → HasAppended (written_region name time prepared (ids_in parts.rows) at.guid.0) file.0 h1 h2 → PlacedAlone h0 h2 name time prepared first t at rows
placed_alone h0 h1 h2 name time prepared parts file at rows first s t knows0 runs is kept e holds wrote0 = record {
  logs = placed_logs first s t knows.logs (placed_same s t e.same);
  free = knows.free;
  rows_are = subst (λ (rs : List InstRow). AreInstancesOf prepared.parts rs) (sym e.rows_are) kept.rows;
  place = record {
    size_is = e.size_is ∙ kept.sized;
    guid_is = e.guid ∙ (ap (λ (f : FileNo). guid_of_place s.map.store f.0 at.offset) (sym e.file_is) ∙ ap (λ (m : MapMeaning). guid_of_place m.store at.file.0 at.offset) knows.logs.map);
    guid_new = subst (λ (m : MapMeaning). All (λ row. row.guid ≢ at.guid.0) m.records) (ap (λ (v : StoreValue _). v.map) e.same ∙ knows.logs.map) holds.guid_new;
    taken = placed_at (region_length name time prepared) time at first s began knows.taken;
  };
  unsealed = λ sealed. taken_unsealed at.file.0 s h1 is (sym (e.taken at.file.0) ∙ holds.taken) (subst (λ (m : MapMeaning). is_sealed m at.file.0 ≡ true) (sym knows.logs.map) sealed);
  mail = wrote_mail prepared.parts rows time at.file.0 at.offset (written_region name time prepared (ids_in rows) at.guid.0) s h0 h1 h2 knows.mail ((is.running runs).files_known at.file.0) began wrote;
}
  where
    knows : TakenAlone h0 h1 name time prepared rows first s at.file
    knows = subst (λ (f : FileNo). TakenAlone h0 h1 name time prepared rows first s f) (sym e.file_is) (subst (λ (rs : List InstRow). TakenAlone h0 h1 name time prepared rs first s file) (sym e.rows_are) knows0)

    began : end_in at.file.0 s.files.files ≡ Some at.offset
    began = subst (λ (f : FileNo). end_in f.0 s.files.files ≡ Some at.offset) (sym e.file_is) e.began

    wrote : HasAppended (written_region name time prepared (ids_in rows) at.guid.0) at.file.0 h1 h2
    wrote = subst (λ (f : FileNo). HasAppended (written_region name time prepared (ids_in rows) at.guid.0) f.0 h1 h2) (sym e.file_is)
        (subst (λ (rs : List InstRow). HasAppended (written_region name time prepared (ids_in rs) at.guid.0) file.0 h1 h2) (sym e.rows_are) wrote0)

-- instances that are let go are only held less
alike_let_go : {D : Type 0} → (found : List InstRow) (first left t : StoreValue D) → LetsGo found left t → IsAlike first left → IsAlike first t
alike_let_go found first left t go a = record { indexes = ap (λ (v : StoreValue _). indexes_of v.boxes) go ∙ a.indexes; mailboxes = ap (λ (v : StoreValue _). v.map.boxes) go ∙ a.mailboxes }

map_let_go : {D : Type 0} → (found : List InstRow) (left t : StoreValue D) → LetsGo found left t → t.map ≡ left.map
map_let_go found left t go = ap (λ (v : StoreValue _). v.map) go

recorded_alone : {D : Type 0} → (h0 h1 h2 : Option History) (name : List ℕ) (time : ℕ) (octets : List ℕ) (prepared : Prepared) (at : SavedAt) (rows : List InstRow) (size : ℕ) (added : Added) (first s left t : StoreValue D) → IsPrepared octets prepared → IsPlacedReady at rows name time octets h1
    → AreFirstKnown rows s.instances.known h1 → PlacedAlone h0 h1 name time prepared first s at rows → StoresPlaced at rows time size added s left → LetsGo rows left t → ReadsSameMail h1 h2 → RecordedAlone h0 h2 name time prepared first t added.map_uid added.guid
recorded_alone h0 h1 h2 name time octets prepared at rows size added first s left t form ready firsts knows e go same = record {
  alike = alike_let_go rows first left t go (stored_alike at rows time size added first s left knows.logs e);
  free = knows.free;
  stored = record {
    at = at;
    guid_is = sym e.guid_is;
    rows = rows;
    more = record {
      next = e.uid_is ∙ ap (λ (n : ℕ). n + 1) knows.logs.drawn;
      place = knows.place;
      rows_are = knows.rows_are;
      map_is = map_let_go rows left t go ∙ (e.map ∙ ap (λ (m : MapMeaning). map_applied (entry_stored rows added.map_uid at) m) knows.logs.map);
    };
    unsealed = knows.unsealed;
    mail = subst (λ (g : Guid). WroteMail prepared.parts rows time at.file.0 at.offset (written_region name time prepared (ids_in rows) g.0) h0 h2) (sym e.guid_is)
        (wrote_on prepared.parts rows time at.file.0 at.offset (written_region name time prepared (ids_in rows) at.guid.0) h0 h1 h2 knows.mail same);
    attachments = attachments_on rows (attachment_octets prepared.parts) h1 h2 same (ready_instances at rows name time octets prepared h1 form ready);
    firsts = subst (λ (known : List KnownInstance). AreFirstKnown rows known h2) (sym (ap (λ (v : StoreValue _). v.instances.known) go ∙ ap (λ (v : StoreValue _). found_let_go rows v.instances.known) e.same))
        (firsts_let_go rows rows s.instances.known h2 (firsts_on rows s.instances.known h1 h2 same firsts));
  };
}

one_why : (a b : Refusal) (uid held : _) (room left : _) → stage.GivingBack uid a room ≡ stage.GivingBack held b left → a ≡ b
one_why a b uid held room left e = cc e

only_memory : {D : Type 0} → (name : List ℕ) (first s t : StoreValue D) (added : Added) (room left : _) (uid : _) (why : Refusal) → IsAlike first s → save_refusal name first ≡ None → RepliesAt (stage.Adding added room) name progress.More (stage.GivingBack uid why left) s → why ≡ refusal.NoMemory
only_memory name first s t added room left uid why b free (inl saved) = absurd (more_done (reply.Saved saved.1 added.guid) saved.3)
only_memory name first s t added room left uid why b free (inr (inl stopped)) = absurd (more_done (reply.Refused refusal.Stopped) stopped.3)
only_memory name first s t added room left uid why b free (inr (inr back)) =
    let same : why ≡ back.0 = one_why why back.0 uid added.map_uid left room back.3 in
    elim back.1 [
      | inl cause ↦ absurd (no_cause back.0 (box_refusal (list_named s name)) (ap box_refusal (named_alike name first s b) ∙ none_first (box_refusal (list_named first name)) (uid_refusal first.drawn.map) free) cause)
      | inr none ↦ same ∙ none.1
    ]

goes_on : {D : Type 0} → (t : StoreValue D) → (progress.More ≡ stopped_reply) ↔ (t.stopped ≡ true) → t.stopped ≡ false
goes_on t stopped = not_true t.stopped (λ e. more_done (reply.Refused refusal.Stopped) (stopped.1 e))

pub saving_on : {D : Type 0} → (h0 h1 h2 : Option History) (name : List ℕ) (time : ℕ) (octets : List ℕ) (prepared : Prepared) (first s t : StoreValue D) (now next : SaveStage) → IsPrepared octets prepared → SaveKnows h0 h1 name time octets prepared first s now
    → SaveEvent name time octets now next s t h1 h2 progress.More → SaveKnows h0 h2 name time octets prepared first t next
saving_on h0 h1 h2 name time octets prepared first s t (stage.First form) (stage.Attaching parts attaching) formed knows event =
    (first_attached h0 h1 h2 name prepared attaching.found first s t knows event.effects.0 event.effects.2.allowed (event.mail (goes_on t event.stopped)) (event.rests (goes_on t event.stopped)), none_drawn first t attaching (event.effects.0 ∙ knows.0))
saving_on h0 h1 h2 name time octets prepared first s t (stage.First form) (stage.Taking parts) formed knows event =
    (first_attached h0 h1 h2 name prepared parts.rows first s t knows event.effects.0 event.effects.2.allowed (event.mail (goes_on t event.stopped)) (event.rests (goes_on t event.stopped)))
saving_on h0 h1 h2 name time octets prepared first s t (stage.Attaching parts attaching) (stage.Attaching laid more) formed knows event =
    (more_attached h0 h1 h2 name prepared first s t attaching more (attaching_parts name time octets prepared parts attaching s h1 formed event.ready.1) knows.0 knows.1 event.effects.1 (event.mail (goes_on t event.stopped)) (event.rests (goes_on t event.stopped)))
saving_on h0 h1 h2 name time octets prepared first s t (stage.Attaching parts attaching) (stage.Taking named) formed knows event =
    (named_attached h0 h1 h2 name prepared named.rows event.effects.0.found first t event.effects.3.rows
    (more_attached h0 h1 h2 name prepared first s t attaching event.effects.0 (attaching_parts name time octets prepared parts attaching s h1 formed event.ready.1) knows.0 knows.1 event.effects.1 (event.mail (goes_on t event.stopped)) (event.rests (goes_on t event.stopped))).0)
saving_on h0 h1 h2 name time octets prepared first s t (stage.Taking parts) (stage.Placing laid file) formed knows event =
    (subst (λ (p : SavedParts). TakenAlone h0 h2 name time prepared p.rows first t file) (sym event.effects.0)
    (taken_alone h0 h1 h2 name time prepared parts file first s t knows event.running event.is (attached_as name time octets prepared parts s h1 formed event.ready.1) event.effects.1 (event.mail (goes_on t event.stopped))))
saving_on h0 h1 h2 name time octets prepared first s t (stage.Placing parts file) (stage.Storing at rows room) formed knows event =
    let kept = attached_as name time octets prepared parts s h1 formed event.ready.1 in
    (placed_alone h0 h1 h2 name time prepared parts file at rows first s t knows event.running event.is kept event.effects (event.left refl).0 (event.mail (goes_on t event.stopped) prepared kept.laid))
saving_on h0 h1 h2 name time octets prepared first s t (stage.Storing at rows room) (stage.Adding added left) formed knows event =
    (recorded_alone h0 h1 h2 name time octets prepared at rows (length octets) added first s event.effects.0 t formed event.ready.1 event.kept.2.first knows event.effects.1 event.effects.2 (event.mail (goes_on t event.stopped)), event.effects.1.time_is, event.effects.1.size_is)
saving_on h0 h1 h2 name time octets prepared first s t (stage.Adding added room) (stage.GivingBack uid why left) formed knows event = (
  added.guid,
  subst (λ (h : Option History). RecordedAlone h0 h name time prepared first t uid added.guid) (sym (event.idle event.effects.1))
      (subst (λ (v : StoreValue _). RecordedAlone h0 h1 name time prepared first v uid added.guid) (sym event.effects.1) (subst (λ (k : MapUid). RecordedAlone h0 h1 name time prepared first s k added.guid) (sym event.effects.0) knows.0)),
  only_memory name first s t added room left uid why knows.0.alike knows.0.free event.replies,
)
saving_on h0 h1 h2 name time octets prepared first s t (stage.GivingBack uid why room) stage.Ended formed knows event = absurd event.effects
saving_on h0 h1 h2 name time octets prepared first s t now next formed knows event = absurd event.effects

-- ---- the end

-- what it replies where nothing refuses it
abbrev FreeAnswer : Option BoxMeaning → List ℕ → ℕ → ℕ → ℕ → FilesValue → Reply → Type 0
FreeAnswer to store size highest parts files given =
    IsSavedAs to store size files given ⊎ (IsOutOfFiles size files given ⊎ (IsOutOfInstances highest parts given ⊎ (IsUncompared parts given ⊎ ((given ≡ reply.Refused refusal.NoMemory) ⊎ (given ≡ reply.Refused refusal.Stopped)))))

free_answers : {D : Type 0} → (name : List ℕ) (size parts : ℕ) (first : StoreValue D) (given : Reply) → save_refusal name first ≡ None → FreeAnswer (list_named first name) first.map.store size first.drawn.instance parts first.files given
    → IsDeliverAnswer (save_refusal name first) (list_named first name) first.map.store size first.drawn.instance parts first.files given
free_answers name size parts first given free is = subst (λ (o : Option Refusal). IsDeliverAnswer o (list_named first name) first.map.store size first.drawn.instance parts first.files given) (sym free) is

-- refused by a check, at the first event
early_saves : {D : Type 0} → (name : List ℕ) (time : ℕ) (octets : List ℕ) (prepared : Prepared) (first t : StoreValue D) (old new : Option History) (why : Refusal) → save_refusal name first ≡ Some why → t ≡ first → new ≡ old → ((why ≡ refusal.Stopped → ⊥) → AddedMail prepared.parts [] old new) → SavesAlone name time octets prepared first t old new (reply.Refused why)
early_saves name time octets prepared first t old new why e same back mail = record {
  given_is = subst (λ (o : Option Refusal). IsDeliverAnswer o (list_named first name) first.map.store (region_length name time prepared) first.drawn.instance (length prepared.parts) first.files (reply.Refused why)) (sym e) refl;
  refused = λ other q. (same, back);
  unsaved = λ other q runs. same_alike first t same;
  left = λ other q runs. inl (ap (λ (v : StoreValue _). v.map) same);
  uncompared = λ q. ([], mail (λ stopped. let k : refusal.ReadFault ≡ refusal.Stopped = sym (one_refusal why refusal.ReadFault q) ∙ stopped in cc k));
  leaves = λ other q runs. ([], inl (mail (λ stopped. runs (sym (one_refusal why other q) ∙ stopped))));
  shows = λ uid guid q. absurd (cc q);
  stored = λ uid guid q. absurd (cc q);
  settled = λ q lists at. subst (IsSettledFor lists) (sym back) at;
}

-- Where nothing refuses it, it is stopped; or out of memory, of numbers of files or of instances, or a candidate can't be read, with
-- the same listings, and the same map or one with a record more; and what is left of storage files and instances is told.
abbrev LateReason : ℕ → FilesValue → ℕ → ℕ → Refusal → Type 0
LateReason size files highest parts why =
    (why ≡ refusal.NoMemory)
    ⊎ (((why ≡ refusal.StoreFull 4294967294) × IsTakeFor size files take.Full) ⊎ (((why ≡ refusal.StoreFull 4294967294) × (4294967294 < highest + parts)) ⊎ ((why ≡ refusal.ReadFault) × (1 ≤ parts))))

-- What it has left; where an instance can't be read, no storage file was touched, and the disk is settled for what it was.
pub record LateMail (name : List ℕ) (time : ℕ) (prepared : Prepared) (old new : Option History) (why : Refusal) : Type 0 where
  pub rows : List InstRow
  pub left : LeftMail name time prepared rows old new
  pub added : why ≡ refusal.ReadFault → AddedMail prepared.parts rows old new
  pub settled : why ≡ refusal.ReadFault → StaysSettled old new

abbrev LateCause : {D : Type 0} → List ℕ → ℕ → Prepared → StoreValue D → StoreValue D → Option History → Option History → Refusal → Type 0
LateCause name time prepared first t old new why =
    (why ≡ refusal.Stopped)
    ⊎ (LateReason (region_length name time prepared) first.files first.drawn.instance (length prepared.parts) why
    × IsAlike first t × ((t.map ≡ first.map) ⊎ HasRecordLeft name time prepared first.drawn.map first.map first.files t.map) × LateMail name time prepared old new why)

reason_answers : (to : Option BoxMeaning) (store : List ℕ) (size : ℕ) (files : FilesValue) (highest parts : ℕ) (why : Refusal) → LateReason size files highest parts why → FreeAnswer to store size highest parts files (reply.Refused why)
reason_answers to store size files highest parts why (inl e) = inr (inr (inr (inr (inl (ap reply.Refused e)))))
reason_answers to store size files highest parts why (inr (inl e)) = inr (inl (ap reply.Refused e.0, e.1))
reason_answers to store size files highest parts why (inr (inr (inl e))) = inr (inr (inl (ap reply.Refused e.0, e.1)))
reason_answers to store size files highest parts why (inr (inr (inr e))) = inr (inr (inr (inl (ap reply.Refused e.0, e.1))))

reason_runs : (size : ℕ) (files : FilesValue) (highest parts : ℕ) (why : Refusal) → LateReason size files highest parts why → why ≡ refusal.Stopped → ⊥
reason_runs size files highest parts why (inl e) stopped = memory_runs (sym e ∙ stopped)
reason_runs size files highest parts why (inr (inl e)) stopped = let k : refusal.StoreFull 4294967294 ≡ refusal.Stopped = sym e.0 ∙ stopped in cc k
reason_runs size files highest parts why (inr (inr (inl e))) stopped = let k : refusal.StoreFull 4294967294 ≡ refusal.Stopped = sym e.0 ∙ stopped in cc k
reason_runs size files highest parts why (inr (inr (inr e))) stopped = let k : refusal.ReadFault ≡ refusal.Stopped = sym e.0 ∙ stopped in cc k

late_answers : {D : Type 0} → (name : List ℕ) (time : ℕ) (prepared : Prepared) (first t : StoreValue D) (old new : Option History) (why : Refusal) → LateCause name time prepared first t old new why
    → FreeAnswer (list_named first name) first.map.store (region_length name time prepared) first.drawn.instance (length prepared.parts) first.files (reply.Refused why)
late_answers name time prepared first t old new why (inl e) = inr (inr (inr (inr (inr (ap reply.Refused e)))))
late_answers name time prepared first t old new why (inr late) = reason_answers (list_named first name) first.map.store (region_length name time prepared) first.files first.drawn.instance (length prepared.parts) why late.0

late_alike : {D : Type 0} → (name : List ℕ) (time : ℕ) (prepared : Prepared) (first t : StoreValue D) (old new : Option History) (why other : Refusal) → LateCause name time prepared first t old new why → reply.Refused why ≡ reply.Refused other → (other ≡ refusal.Stopped → ⊥)
    → IsAlike first t × ((t.map ≡ first.map) ⊎ HasRecordLeft name time prepared first.drawn.map first.map first.files t.map) × LateMail name time prepared old new why
late_alike name time prepared first t old new why other (inl e) q runs = absurd (runs (sym (one_refusal why other q) ∙ e))
late_alike name time prepared first t old new why other (inr late) q runs = (late.1, late.2, late.3)

-- as the store was before instances were let go
late_let_go : {D : Type 0} → (name : List ℕ) (time : ℕ) (prepared : Prepared) (found : List InstRow) (first left t : StoreValue D) (old new : Option History) (why : Refusal) → LetsGo found left t → LateCause name time prepared first left old new why → LateCause name time prepared first t old new why
late_let_go name time prepared found first left t old new why go (inl e) = inl e
late_let_go name time prepared found first left t old new why go (inr late) = inr (
  late.0,
  alike_let_go found first left t go late.1,
  subst (λ (m : MapMeaning). (m ≡ first.map) ⊎ HasRecordLeft name time prepared first.drawn.map first.map first.files m) (sym (map_let_go found left t go)) late.2,
  late.3,
)

late_saves : {D : Type 0} → (name : List ℕ) (time : ℕ) (octets : List ℕ) (prepared : Prepared) (first t : StoreValue D) (old new : Option History) (why : Refusal) → save_refusal name first ≡ None → LateCause name time prepared first t old new why → SavesAlone name time octets prepared first t old new (reply.Refused why)
late_saves name time octets prepared first t old new why free late = record {
  given_is = free_answers name (region_length name time prepared) (length prepared.parts) first (reply.Refused why) free (late_answers name time prepared first t old new why late);
  refused = λ other e. absurd (no_cause other (save_refusal name first) free e);
  unsaved = λ other q runs. (late_alike name time prepared first t old new why other late q runs).0;
  left = λ other q runs. (late_alike name time prepared first t old new why other late q runs).1;
  uncompared = λ q. let mail = (late_alike name time prepared first t old new why refusal.ReadFault late q (λ stopped. cc stopped)).2 in (mail.rows, mail.added (one_refusal why refusal.ReadFault q));
  leaves = λ other q runs. let mail = (late_alike name time prepared first t old new why other late q runs).2 in (mail.rows, mail.left);
  shows = λ uid guid q. absurd (cc q);
  stored = λ uid guid q. absurd (cc q);
  settled = λ q. (late_alike name time prepared first t old new why refusal.ReadFault late q (λ stopped. cc stopped)).2.settled (one_refusal why refusal.ReadFault q);
}

-- saved
one_guid : (uid other : Uid) (guid given : Guid) → reply.Saved uid guid ≡ reply.Saved other given → guid ≡ given
one_guid uid other guid given e = cc e

saved_shown : {D : Type 0} → (name : List ℕ) (time : ℕ) (octets : List ℕ) (added : Added) (uid : Uid) (guid : Guid) (first s t : StoreValue D) → IsAlike first s → added.time ≡ time → added.size ≡ length octets → guid ≡ added.guid → AddsStored name added uid s t → ShowsChanged (saved_lists name time octets guid) first t
saved_shown name time octets added uid guid first s t b timed sized guided adds lists well h =
    let from_first : ShowLists s.map.boxes (indexes_of s.boxes) lists = subst (λ (bs : List MapBox). ShowLists bs (indexes_of s.boxes) lists) (sym b.mailboxes) (subst (λ (ms : List BoxMeaning). ShowLists first.map.boxes ms lists) (sym b.indexes) h) in
    let shown = save_shows name octets added adds.number uid s lists adds.room sized well from_first in
    let there = subst (λ (ms : List BoxMeaning). ShowLists s.map.boxes ms (saved_lists name added.time octets added.guid lists)) (sym adds.taken) shown in
    let at = subst (λ (m : MapMeaning). ShowLists m.boxes (indexes_of t.boxes) (saved_lists name added.time octets added.guid lists)) (ap (λ (v : StoreValue _). v.map) (sym adds.same)) there in
    subst (λ (g : Guid). ShowLists t.map.boxes (indexes_of t.boxes) (saved_lists name time octets g lists)) (sym guided)
    (subst (λ (n : ℕ). ShowLists t.map.boxes (indexes_of t.boxes) (saved_lists name n octets added.guid lists)) timed at)

file_for : (time size : ℕ) (m : MapMeaning) (files : FilesValue) (at : SavedAt) → IsSavedPlace time size m files at → IsFileFor size files at.file
file_for time size m files at place = elim place.taken [
  | inl known ↦ inl known.0
  | inr new ↦ inr new.0
]

done_saves : {D : Type 0} → (h0 h1 h2 : Option History) (name : List ℕ) (time : ℕ) (octets : List ℕ) (prepared : Prepared) (added : Added) (uid : Uid) (guid : Guid) (first s t : StoreValue D) → RecordedAlone h0 h1 name time prepared first s added.map_uid added.guid → added.time ≡ time → added.size ≡ length octets
    → guid ≡ added.guid → AddsStored name added uid s t → ReadsSameMail h1 h2 → HasKnownInstances h2 t → SavesAlone name time octets prepared first t h0 h2 (reply.Saved uid guid)
done_saves h0 h1 h2 name time octets prepared added uid guid first s t knows timed sized guided adds same known = record {
  given_is = free_answers name (region_length name time prepared) (length prepared.parts) first (reply.Saved uid guid) knows.free (inl (record {
    mailbox = adds.room.mailbox;
    named = sym (named_alike name first s knows.alike) ∙ adds.room.named;
    uid = uid;
    next = adds.room.next;
    guid = guid;
    file = at.file;
    offset = at.offset;
    placed = ap (λ (g : Guid). g.0) (guided ∙ sym knows.stored.guid_is) ∙ knows.stored.more.place.guid_is;
    taken = file_for time (region_length name time prepared) first.map first.files at knows.stored.more.place;
    given_is = refl;
  }));
  refused = λ other e. absurd (no_cause other (save_refusal name first) knows.free e);
  unsaved = λ other q runs. absurd (cc q);
  left = λ other q runs. absurd (cc q);
  uncompared = λ q. absurd (cc q);
  leaves = λ other q runs. absurd (cc q);
  shows = λ other given q. subst (λ (g : Guid). ShowsChanged (saved_lists name time octets g) first t) (one_guid uid other guid given q) (saved_shown name time octets added uid guid first s t knows.alike timed sized guided adds);
  stored = λ other given q. (
    added.map_uid,
    subst (λ (g : Guid). StoresAlone name time prepared added.map_uid g first t h0 h2) (sym guided ∙ one_guid uid other guid given q) (record {
      at = at;
      guid_is = knows.stored.guid_is;
      rows = rows;
      more = subst (λ (m : MapMeaning). HasRecordMore name time prepared first.drawn.map first.map first.files rows added.map_uid at m) (ap (λ (v : StoreValue _). v.map) (sym adds.same)) knows.stored.more;
      unsealed = knows.stored.unsealed;
      mail = wrote_on prepared.parts rows time at.file.0 at.offset (written_region name time prepared (ids_in rows) added.guid.0) h0 h1 h2 knows.stored.mail same;
      attachments = attachments_on rows (attachment_octets prepared.parts) h1 h2 same knows.stored.attachments;
      once = firsts_named rows t.instances.known t.map h2 known.kept.named
          (subst (λ (ks : List KnownInstance). AreFirstKnown rows ks h2) (ap (λ (v : StoreValue _). v.instances.known) (sym adds.same)) (firsts_on rows s.instances.known h1 h2 same knows.stored.firsts));
    }),
  );
  settled = λ q. absurd (cc q);
}
  where
    at : SavedAt
    at = knows.stored.at

    rows : List InstRow
    rows = knows.stored.rows

-- ---- each event that ends it

refused_running : {D : Type 0} → (t : StoreValue D) (why : Refusal) → (progress.Done (reply.Refused why) ≡ stopped_reply) ↔ (t.stopped ≡ true) → (why ≡ refusal.Stopped → ⊥) → t.stopped ≡ false
refused_running t why stopped other = not_true t.stopped (λ e. other (one_refusal why refusal.Stopped (one_done (reply.Refused why) (reply.Refused refusal.Stopped) (stopped.1 e))))

-- an event that writes to no storage file, of a store that is as it was at first
left_same : (h0 h1 h2 : Option History) (prepared : Prepared) → h1 ≡ h0 → ReadsSameMail h1 h2 → AddedMail prepared.parts [] h0 h2
left_same h0 h1 h2 prepared same reads = added_none prepared.parts [] h0 h2 (subst (λ (h : Option History). ReadsSameMail h h2) same reads)

-- or of one in which instances were placed
left_added : {D : Type 0} → (h0 h1 h2 : Option History) (name : List ℕ) (prepared : Prepared) (rows : List InstRow) (first s t : StoreValue D) → AttachedAlone h0 h1 name prepared rows first s → ReadsSameMail h1 h2 → AddedMail prepared.parts rows h0 h2
left_added h0 h1 h2 name prepared rows first s t k reads = added_on prepared.parts rows h0 h1 h2 k.mail (added_none prepared.parts rows h1 h2 reads)

late_added : (name : List ℕ) (time : ℕ) (prepared : Prepared) (rows : List InstRow) (old new : Option History) (why : Refusal) → AddedMail prepared.parts rows old new → StaysSettled old new → LateMail name time prepared old new why
late_added name time prepared rows old new why added still = record { rows = rows; left = inl added; added = λ e. added; settled = λ e. still }

-- so it is behind an event that finds instances
more_added : {D : Type 0} → (h0 h1 h2 : Option History) (name : List ℕ) (time : ℕ) (prepared : Prepared) (rows : List InstRow) (first s t : StoreValue D) (why : Refusal) → AttachedAlone h0 h1 name prepared rows first s → ReadsSameMail h1 h2 → StaysSettled h1 h2 → LateMail name time prepared h0 h2 why
more_added h0 h1 h2 name time prepared rows first s t why k reads still = late_added name time prepared rows h0 h2 why (left_added h0 h1 h2 name prepared rows first s t k reads) (λ lists at. still lists (k.settled lists at))

-- lack of memory is no read fault
memory_late : (name : List ℕ) (time : ℕ) (prepared : Prepared) (rows : List InstRow) (old new : Option History) (why : Refusal) → why ≡ refusal.NoMemory → LeftMail name time prepared rows old new → LateMail name time prepared old new why
memory_late name time prepared rows old new why memory left =
    let apart : why ≡ refusal.ReadFault → ⊥ = λ e. let k : refusal.NoMemory ≡ refusal.ReadFault = sym memory ∙ e in cc k in
    record { rows = rows; left = left; added = λ e. absurd (apart e); settled = λ e. absurd (apart e) }

-- refused at the first event
first_saves : {D : Type 0} → (h0 h1 h2 : Option History) (name : List ℕ) (time : ℕ) (octets : List ℕ) (prepared : Prepared) (first s t : StoreValue D) (form : _) (why : Refusal) → (s ≡ first) × (h1 ≡ h0) → SaveEvent name time octets (stage.First form) stage.Ended s t h1 h2 (progress.Done (reply.Refused why)) → t ≡ s
    → (save_refusal name s ≡ Some why) ⊎ ((save_refusal name s ≡ None) × (why ≡ refusal.NoMemory)) → SavesAlone name time octets prepared first t h0 h2 (reply.Refused why)
first_saves h0 h1 h2 name time octets prepared first s t form why knows event same (inl e) =
    early_saves name time octets prepared first t h0 h2 why (subst (λ (v : StoreValue _). save_refusal name v ≡ Some why) knows.0 e) (same ∙ knows.0) (event.idle same ∙ knows.1)
    (λ runs. left_same h0 h1 h2 prepared knows.1 (event.mail (refused_running t why event.stopped runs)))
first_saves h0 h1 h2 name time octets prepared first s t form why knows event same (inr none) =
    let runs : why ≡ refusal.Stopped → ⊥ = λ stopped. memory_runs (sym none.1 ∙ stopped) in
    let back : h2 ≡ h0 = event.idle same ∙ knows.1 in
    late_saves name time octets prepared first t h0 h2 why (subst (λ (v : StoreValue _). save_refusal name v ≡ None) knows.0 none.0)
    (inr (
      inl none.1,
      same_alike first t (same ∙ knows.0),
      inl (ap (λ (v : StoreValue _). v.map) (same ∙ knows.0)),
      late_added name time prepared [] h0 h2 why (left_same h0 h1 h2 prepared knows.1 (event.mail (refused_running t why event.stopped runs))) (λ lists at. subst (IsSettledFor lists) (sym back) at),
    ))

-- the numbers of instances are used up
instances_used : (drawn : ℕ) (why : Refusal) → instance_refusal drawn ≡ Some why → (why ≡ refusal.StoreFull 4294967294) × (4294967294 ≤ drawn)
instances_used drawn why e = by_test (nat_le 4294967294 drawn) refl
  where
    by_test : (b : Bool) → nat_le 4294967294 drawn ≡ b → (why ≡ refusal.StoreFull 4294967294) × (4294967294 ≤ drawn)
    by_test true f =
        let k : Some (refusal.StoreFull 4294967294) ≡ Some why = subst (λ (b : Bool). (if b then Some (refusal.StoreFull 4294967294) else None) ≡ Some why) f e in
        let same : refusal.StoreFull 4294967294 ≡ why = cc k in
        (sym same, leb-true 4294967294 drawn f)
    by_test false f = absurd (let k : None ≡ Some why = subst (λ (b : Bool). (if b then Some (refusal.StoreFull 4294967294) else None) ≡ Some why) f e in cc k)

-- why no instance is found
attach_reason : (size : ℕ) (files : FilesValue) (highest parts found drawn : ℕ) (candidate : Option InstRow) (why : Refusal) → found < parts → drawn ≤ highest + found → IsAttachRefusal candidate drawn why → (why ≡ refusal.Stopped) ⊎ LateReason size files highest parts why
attach_reason size files highest parts found drawn (Some candidate) why some few e = inr (inr (inr (inr (e, omega (arith, some)))))
attach_reason size files highest parts found drawn None why some few (inl e) = let used = instances_used drawn why e in let full = used.1 in inr (inr (inr (inl (used.0, omega (arith, some, few, full)))))
attach_reason size files highest parts found drawn None why some few (inr (room, inl stopped)) = inl stopped
attach_reason size files highest parts found drawn None why some few (inr (room, inr memory)) = inr (inl memory)

-- and then nothing is written
attaches_none : {D : Type 0} → (attaching : AttachingValue) (why : Refusal) (s t : StoreValue D) → (why ≡ refusal.Stopped → ⊥) → AttachesNone attaching why s t → t ≡ record s { disk = t.disk }
attaches_none attaching refusal.Stopped s t runs none = absurd (runs refl)
attaches_none attaching refusal.ReadFault s t runs none = none.1
attaches_none attaching why s t runs none = none.1

-- the next attachment is one that has no instance yet
next_within : (attaching : AttachingValue) (prepared : Prepared) → attaching.parts ≡ prepared.parts → IsSome (next_attachment attaching) → length attaching.found < length prepared.parts
next_within attaching prepared same some = by_next (next_attachment attaching) refl some
  where
    by_next : (o : Option Detached) → next_attachment attaching ≡ o → IsSome o → length attaching.found < length prepared.parts
    by_next (Some part) e some = let a = slice_get_within attaching.parts (length attaching.found) part e in let b : length attaching.parts ≡ length prepared.parts = ap length same in omega (arith, a, b)
    by_next None e some = absurd (let z : false ≡ true = some in cc z)

attaches_late : {D : Type 0} → (name : List ℕ) (time : ℕ) (prepared : Prepared) (attaching : AttachingValue) (first s left t : StoreValue D) (old new : Option History) (why : Refusal) → KeepsLogs first s → s.drawn.instance ≤ first.drawn.instance + length attaching.found → length attaching.found < length prepared.parts
    → ((why ≡ refusal.Stopped → ⊥) → LateMail name time prepared old new why) → IsAttachRefusal (next_candidate attaching s.instances) s.drawn.instance why → AttachesNone attaching why s left → LetsGo attaching.found left t → LateCause name time prepared first t old new why
attaches_late name time prepared attaching first s left t old new why k few some mail refused none go = by_reason (attach_reason (region_length name time prepared) first.files first.drawn.instance (length prepared.parts) (length attaching.found) s.drawn.instance (next_candidate attaching s.instances) why some few refused)
  where
    late : LateReason (region_length name time prepared) first.files first.drawn.instance (length prepared.parts) why → (why ≡ refusal.Stopped → ⊥) → LateCause name time prepared first left old new why
    late reason runs =
        let same = attaches_none attaching why s left runs none in
        let map_is : left.map ≡ first.map = ap (λ (v : StoreValue _). v.map) same ∙ k.map in
        inr (reason, record { indexes = ap (λ (v : StoreValue _). indexes_of v.boxes) same ∙ k.indexes; mailboxes = ap (λ (m : MapMeaning). m.boxes) map_is }, inl map_is, mail runs)

    by_reason : (why ≡ refusal.Stopped) ⊎ LateReason (region_length name time prepared) first.files first.drawn.instance (length prepared.parts) why → LateCause name time prepared first t old new why
    by_reason (inl stopped) = inl stopped
    by_reason (inr reason) = late_let_go name time prepared attaching.found first left t old new why go (late reason (reason_runs (region_length name time prepared) first.files first.drawn.instance (length prepared.parts) why reason))

takes_late : {D : Type 0} → (name : List ℕ) (time : ℕ) (prepared : Prepared) (size : ℕ) (why : Refusal) (first s t : StoreValue D) (old new : Option History) → KeepsLogs first s → s.files ≡ first.files → size ≡ region_length name time prepared → ((why ≡ refusal.Stopped → ⊥) → LateMail name time prepared old new why) → TakesNone size why s t
    → LateCause name time prepared first t old new why
takes_late name time prepared size why first s t old new k files n mail (inl none) = inr (
  inl none.0,
  record { indexes = ap (λ (v : StoreValue _). indexes_of v.boxes) none.1 ∙ k.indexes; mailboxes = ap (λ (v : StoreValue _). v.map.boxes) none.1 ∙ ap (λ (m : MapMeaning). m.boxes) k.map },
  inl (ap (λ (v : StoreValue _). v.map) none.1 ∙ k.map),
  mail (λ stopped. memory_runs (sym none.0 ∙ stopped)),
)
takes_late name time prepared size why first s t old new k files n mail (inr (inl full)) = inr (
  inr (inl (full.0, subst (λ (f : FilesValue). IsTakeFor (region_length name time prepared) f take.Full) files (subst (λ (j : ℕ). IsTakeFor j s.files take.Full) n full.1.full))),
  record { indexes = ap (λ (v : StoreValue _). indexes_of v.boxes) full.1.same ∙ k.indexes; mailboxes = ap (λ (v : StoreValue _). v.map.boxes) full.1.same ∙ ap (λ (m : MapMeaning). m.boxes) k.map },
  inl (ap (λ (v : StoreValue _). v.map) full.1.same ∙ k.map),
  mail (λ stopped. let q : refusal.StoreFull 4294967294 ≡ refusal.Stopped = sym full.0 ∙ stopped in cc q),
)
takes_late name time prepared size why first s t old new k files n mail (inr (inr stopped)) = inl stopped.0

given_file_back : {D : Type 0} → (at : SavedAt) (first s t : StoreValue D) (why : Refusal) → KeepsLogs first s → why ≡ refusal.NoMemory → StoresNone at why s t → IsAlike first t × (t.map ≡ first.map)
given_file_back at first s t why k e (inl stopped) = absurd (memory_runs (sym e ∙ stopped.0))
given_file_back at first s t why k e (inr back) = (
  record {
    indexes = ap (λ (v : StoreValue _). indexes_of v.boxes) back.1.same ∙ k.indexes;
    mailboxes = ap (λ (v : StoreValue _). v.map.boxes) back.1.same ∙ ap (λ (m : MapMeaning). m.boxes) k.map;
  },
  ap (λ (v : StoreValue _). v.map) back.1.same ∙ k.map,
)

stores_late : {D : Type 0} → (name : List ℕ) (time : ℕ) (prepared : Prepared) (rows : List InstRow) (at : SavedAt) (first s t : StoreValue D) (old new : Option History) (why : Refusal) → KeepsLogs first s → ((why ≡ refusal.Stopped → ⊥) → LeftMail name time prepared rows old new) → save_refusal name first ≡ None
    → (uid_refusal s.drawn.map ≡ Some why) ⊎ ((uid_refusal s.drawn.map ≡ None) × ((why ≡ refusal.Stopped) ⊎ (why ≡ refusal.NoMemory))) → StoresNone at why s t → LateCause name time prepared first t old new why
stores_late name time prepared rows at first s t old new why k mail free (inl used) none = absurd (no_cause why (uid_refusal s.drawn.map) (ap uid_refusal k.drawn ∙ none_second (box_refusal (list_named first name)) (uid_refusal first.drawn.map) free) used)
stores_late name time prepared rows at first s t old new why k mail free (inr (room, inl stopped)) none = inl stopped
stores_late name time prepared rows at first s t old new why k mail free (inr (room, inr memory)) none = let back = given_file_back at first s t why k memory none in inr (inl memory, back.0, inl back.1, memory_late name time prepared rows old new why memory (mail (λ stopped. memory_runs (sym memory ∙ stopped))))

adds_late : {D : Type 0} → (name : List ℕ) (time : ℕ) (prepared : Prepared) (first s t : StoreValue D) (old new : Option History) (added : Added) (room : _) (why : Refusal) → RepliesAt (stage.Adding added room) name (progress.Done (reply.Refused why)) stage.Ended s → LateCause name time prepared first t old new why
adds_late name time prepared first s t old new added room why (inl saved) = absurd (let q : reply.Refused why ≡ reply.Saved saved.1 added.guid = one_done (reply.Refused why) (reply.Saved saved.1 added.guid) saved.3 in cc q)
adds_late name time prepared first s t old new added room why (inr (inl stopped)) = inl (one_refusal why refusal.Stopped (one_done (reply.Refused why) (reply.Refused refusal.Stopped) stopped.3))
adds_late name time prepared first s t old new added room why (inr (inr back)) = absurd (more_done (reply.Refused why) (sym back.2))

-- its record is given back
gives_late : {D : Type 0} → (h0 h1 h2 : Option History) (name : List ℕ) (time : ℕ) (prepared : Prepared) (uid : MapUid) (guid : Guid) (given : Refusal) (first s t : StoreValue D) → RecordedAlone h0 h1 name time prepared first s uid guid → given ≡ refusal.NoMemory → ReadsSameMail h1 h2 → LowersRecord uid s t
    → LateCause name time prepared first t h0 h2 given
gives_late h0 h1 h2 name time prepared uid guid given first s t knows memory same lowered = inr (
  inl memory,
  record { indexes = ap (λ (v : StoreValue _). indexes_of v.boxes) lowered.same ∙ knows.alike.indexes; mailboxes = lowered.mailboxes ∙ knows.alike.mailboxes },
  inr (record { rows = knows.stored.rows; uid = uid; at = knows.stored.at; made = s.map; more = knows.stored.more; lowered = lowered.map }),
  memory_late name time prepared knows.stored.rows h0 h2 given memory (inr (inr (
    knows.stored.at.file.0,
    knows.stored.at.offset,
    guid.0,
    wrote_on prepared.parts knows.stored.rows time knows.stored.at.file.0 knows.stored.at.offset (written_region name time prepared (ids_in knows.stored.rows) guid.0) h0 h1 h2 knows.stored.mail same,
  ))),
)

saved_running : {D : Type 0} → (uid : Uid) (guid : Guid) (t : StoreValue D) → (progress.Done (reply.Saved uid guid) ≡ stopped_reply) ↔ (t.stopped ≡ true) → t.stopped ≡ false
saved_running uid guid t stopped = not_true t.stopped (λ e. let q : reply.Saved uid guid ≡ reply.Refused refusal.Stopped = one_done (reply.Saved uid guid) (reply.Refused refusal.Stopped) (stopped.1 e) in absurd (cc q))

pub saves_end : {D : Type 0} → (h0 h1 h2 : Option History) (name : List ℕ) (time : ℕ) (octets : List ℕ) (prepared : Prepared) (first s t : StoreValue D) (now next : SaveStage) (given : Reply) → IsPrepared octets prepared → SaveKnows h0 h1 name time octets prepared first s now
    → SaveEvent name time octets now next s t h1 h2 (progress.Done given) → HasKnownInstances h2 t → SavesAlone name time octets prepared first t h0 h2 given
saves_end h0 h1 h2 name time octets prepared first s t (stage.First form) stage.Ended (reply.Refused why) formed knows event known = first_saves h0 h1 h2 name time octets prepared first s t form why knows event event.effects event.replies
saves_end h0 h1 h2 name time octets prepared first s t (stage.Attaching parts attaching) stage.Ended (reply.Refused why) formed knows event known =
    late_saves name time octets prepared first t h0 h2 why knows.0.free
    (attaches_late name time prepared attaching first s event.effects.0 t h0 h2 why knows.0.logs knows.1 (next_within attaching prepared (attaching_parts name time octets prepared parts attaching s h1 formed event.ready.1) event.kept.1)
    (λ runs. more_added h0 h1 h2 name time prepared attaching.found first s t why knows.0 (event.mail (refused_running t why event.stopped runs)) (event.rests (refused_running t why event.stopped runs))) event.replies event.effects.1 event.effects.2)
saves_end h0 h1 h2 name time octets prepared first s t (stage.Taking parts) stage.Ended (reply.Refused why) formed knows event known =
    late_saves name time octets prepared first t h0 h2 why knows.free
    (late_let_go name time prepared parts.rows first event.effects.0 t h0 h2 why event.effects.2
    (takes_late name time prepared (length parts.laid.region) why first s event.effects.0 h0 h2 knows.logs knows.files (attached_as name time octets prepared parts s h1 formed event.ready.1).sized
    (λ runs. more_added h0 h1 h2 name time prepared parts.rows first s t why knows (event.mail (refused_running t why event.stopped runs)) (event.rests (refused_running t why event.stopped runs))) event.effects.1))
saves_end h0 h1 h2 name time octets prepared first s t (stage.Placing parts file) stage.Ended (reply.Refused why) formed knows event known =
    late_saves name time octets prepared first t h0 h2 why knows.free (inl event.replies)
saves_end h0 h1 h2 name time octets prepared first s t (stage.Storing at rows room) stage.Ended (reply.Refused why) formed knows event known =
    late_saves name time octets prepared first t h0 h2 why knows.free
    (late_let_go name time prepared rows first event.effects.0 t h0 h2 why event.effects.2
    (stores_late name time prepared rows at first s event.effects.0 h0 h2 why knows.logs
    (λ runs. inr (inr (at.file.0, at.offset, at.guid.0, wrote_on prepared.parts rows time at.file.0 at.offset (written_region name time prepared (ids_in rows) at.guid.0) h0 h1 h2 knows.mail (event.mail (refused_running t why event.stopped runs)))))
    knows.free event.replies event.effects.1))
saves_end h0 h1 h2 name time octets prepared first s t (stage.Adding added room) stage.Ended (reply.Saved uid guid) formed knows event known =
    done_saves h0 h1 h2 name time octets prepared added uid guid first s t knows.0 knows.1 knows.2 event.effects.0 event.effects.1 (event.mail (saved_running uid guid t event.stopped)) known
saves_end h0 h1 h2 name time octets prepared first s t (stage.Adding added room) stage.Ended (reply.Refused why) formed knows event known =
    late_saves name time octets prepared first t h0 h2 why knows.0.free (adds_late name time prepared first s t h0 h2 added room why event.replies)
saves_end h0 h1 h2 name time octets prepared first s t (stage.GivingBack uid why room) stage.Ended (reply.Refused given) formed knows event known =
    late_saves name time octets prepared first t h0 h2 given knows.1.free
    (elim event.effects [
      | inl lowered ↦ gives_late h0 h1 h2 name time prepared uid knows.0 given first s t knows.1 (lowered.0 ∙ knows.2) (event.mail (refused_running t given event.stopped (λ stopped. memory_runs (sym (lowered.0 ∙ knows.2) ∙ stopped)))) lowered.1
      | inr stopped ↦ inl stopped.0
    ])
saves_end h0 h1 h2 name time octets prepared first s t now next given formed knows event known = absurd event.effects

-- ---- event after event

-- what an event has, but for room to hold instances
kept_left : {D : Type 0} → (now : SaveStage) (name : List ℕ) (time : ℕ) (s : StoreValue D) (h : Option History) → HasLeft now name time s h → HasKept now name time s h
kept_left (stage.First form) name time s h left = left.0
kept_left (stage.Attaching parts attaching) name time s h left = (left.0, left.1)
kept_left (stage.Taking parts) name time s h left = left
kept_left (stage.Placing parts file) name time s h left = left
kept_left (stage.Storing at rows room) name time s h left = left
kept_left (stage.Adding added room) name time s h left = left
kept_left (stage.GivingBack uid why room) name time s h left = left
kept_left stage.Ended name time s h left = left

-- Where a delivery alone is, behind some of its events.
pub record IsSavingAlone {D : Type 0} (name : List ℕ) (time : ℕ) (octets : List ℕ) (prepared : Prepared) (first : StoreValue D) (mid : Option History) (t : SaveValue) (s : StoreValue D) (now : Option History) : Type 0 where
  pub name_is : t.name ≡ name
  pub time_is : t.time ≡ time
  pub size_is : t.size ≡ length octets
  pub running : s.stopped ≡ false
  pub ready : IsReadyToSave t.stage name time (length octets) octets s now
  pub kept : HasKept t.stage name time s now
  pub knows : SaveKnows mid now name time octets prepared first s t.stage

abbrev pub StandsSave : {D : Type 0} → List ℕ → ℕ → List ℕ → Prepared → StoreValue D → Option History → Task → StoreValue D → Option History → Type 0
StandsSave name time octets prepared first mid (task.Deliver t) s now = IsSavingAlone name time octets prepared first mid t s now
StandsSave name time octets prepared first mid (task.Ops t) s now = request.Deliver name time octets ≡ t.request
StandsSave name time octets prepared first mid other s now = ⊥

-- What is known with its reply.
pub record IsSaveTold {D : Type 0} (name : List ℕ) (time : ℕ) (octets : List ℕ) (prepared : Prepared) (first : StoreValue D) (mid : Option History) (given : Reply) (t : StoreValue D) (now : Option History) : Type 0 where
  pub saves : HasKnownInstances now t → SavesAlone name time octets prepared first t mid now given
  pub halts : t.stopped ≡ true → given ≡ reply.Refused refusal.Stopped

abbrev SaveSays : {D : Type 0} → SaveValue → SaveValue → Progress → StoreValue D → StoreValue D → Option History → Option History → Faults → Faults → Type 0
SaveSays t next answer s u before after first second = Saves t.stage next.stage t.name t.time t.size answer next.did s u before after first second

-- what it says, of the request's name, time and octets
says_as : {D : Type 0} → (name : List ℕ) (time size : ℕ) (t next : SaveValue) (answer : Progress) (s u : StoreValue D) (before after : Option History) (first second : Faults) → t.name ≡ name → t.time ≡ time → t.size ≡ size → SaveSays t next answer s u before after first second
    → Saves t.stage next.stage name time size answer next.did s u before after first second
says_as name time size t next answer s u before after first second names times sizes says =
    subst (λ (n : List ℕ). Saves t.stage next.stage n time size answer next.did s u before after first second) names
    (subst (λ (m : ℕ). Saves t.stage next.stage t.name m size answer next.did s u before after first second) times (subst (λ (k : ℕ). Saves t.stage next.stage t.name t.time k answer next.did s u before after first second) sizes says))

save_event : {D : Type 0} → (name : List ℕ) (time : ℕ) (octets : List ℕ) (prepared : Prepared) (first : StoreValue D) (mid : Option History) (t next : SaveValue) (answer : Progress) (s u : StoreValue D) (before after : Option History) (one two : Faults) → IsSavingAlone name time octets prepared first mid t s before → IsStore before s
    → Saves t.stage next.stage name time (length octets) answer next.did s u before after one two → SaveEvent name time octets t.stage next.stage s u before after answer
save_event name time octets prepared first mid t next answer s u before after one two is store says = record {
  replies = says.replies;
  effects = says.effects;
  idle = says.idle;
  stopped = says.stopped;
  running = is.running;
  is = store;
  ready = is.ready;
  kept = is.kept;
  left = says.left;
  mail = says.mail;
  rests = says.rests;
}

save_at : {D : Type 0} → (name : List ℕ) (time : ℕ) (octets : List ℕ) (prepared : Prepared) (first : StoreValue D) (mid : Option History) (t next : SaveValue) (s u : StoreValue D) (before after : Option History) (one two : Faults) (ended : Option Reply) → IsPrepared octets prepared
    → IsSavingAlone name time octets prepared first mid t s before → (next.name ≡ t.name) × (next.time ≡ t.time) × (next.size ≡ t.size) → IsStore before s → SaveSays t next (progress_by ended) s u before after one two
    → (ended ≡ None → IsSavingAlone name time octets prepared first mid next u after) × ((given : Reply) → ended ≡ Some given → IsSaveTold name time octets prepared first mid given u after)
save_at name time octets prepared first mid t next s u before after one two None form is kind store said =
    let says = says_as name time (length octets) t next progress.More s u before after one two is.name_is is.time_is is.size_is said in
    let event = save_event name time octets prepared first mid t next progress.More s u before after one two is store says in (
      λ more. record {
        name_is = kind.0 ∙ is.name_is;
        time_is = kind.1 ∙ is.time_is;
        size_is = kind.2 ∙ is.size_is;
        running = goes_on u says.stopped;
        ready = says.ready refl octets is.ready;
        kept = kept_left next.stage name time u after (says.left refl);
        knows = saving_on mid before after name time octets prepared first s u t.stage next.stage form is.knows event;
      },
      λ given e. absurd (let k : None ≡ Some given = e in cc k),
    )
save_at name time octets prepared first mid t next s u before after one two (Some told) form is kind store said =
    let says = says_as name time (length octets) t next (progress.Done told) s u before after one two is.name_is is.time_is is.size_is said in
    let event = save_event name time octets prepared first mid t next (progress.Done told) s u before after one two is store says in (
      λ more. absurd (let k : Some told ≡ None = more in cc k),
      λ given e. subst (λ (r : Reply). IsSaveTold name time octets prepared first mid r u after) (some_reply told given e) (record {
        saves = λ known. saves_end mid before after name time octets prepared first s u t.stage next.stage told form is.knows event known;
        halts = λ stopped. one_done told (reply.Refused refusal.Stopped) (says.stopped.1 stopped);
      }),
    )

save_task : {D : Type 0} → (name : List ℕ) (time : ℕ) (octets : List ℕ) (prepared : Prepared) (first : StoreValue D) (mid : Option History) (t next : Task) (s u : StoreValue D) (before after : Option History) (ended : Option Reply) → IsPrepared octets prepared
    → StandsSave name time octets prepared first mid t s before → StaysOfRequest t next → IsStore before s → TellsStore t next s u before after ended
    → (ended ≡ None → StandsSave name time octets prepared first mid next u after) × ((given : Reply) → ended ≡ Some given → IsSaveTold name time octets prepared first mid given u after)
save_task name time octets prepared first mid (task.Deliver t) (task.Deliver next) s u before after ended form is kind store tells =
    let said = tells is.running in save_at name time octets prepared first mid t next s u before after said.0 said.1 ended form is kind store said.2
save_task name time octets prepared first mid (task.Deliver t) next s u before after ended form is kind store tells = absurd kind
save_task name time octets prepared first mid (task.Ops t) next s u before after ended form is kind store tells = absurd (subst IsOpsRequest (sym is) (ops_asked t.request s u tells.0 tells.2))
save_task name time octets prepared first mid t next s u before after ended form is kind store tells = absurd is

pub keeps_save : {D : Type 0} → (name : List ℕ) (time : ℕ) (octets : List ℕ) (prepared : Prepared) (first : StoreValue D) (mid : Option History) → IsPrepared octets prepared → KeepsAlone (StandsSave name time octets prepared first mid) (IsSaveTold name time octets prepared first mid)
keeps_save name time octets prepared first mid form queued next event s u before after one two is goes =
    save_task name time octets prepared first mid queued.task next s u before after (ended_by event.ended) form is goes.keeps.request goes.store goes.keeps.tells

pub begun_save : {D : Type 0} → (name : List ℕ) (time : ℕ) (octets : List ℕ) (prepared : Prepared) (first : StoreValue D) (mid : Option History) → first.stopped ≡ false → (t : Task) → BeginsTask (request.Deliver name time octets) t → StandsSave name time octets prepared first mid t first mid
begun_save name time octets prepared first mid running (task.Deliver t) b = record {
  name_is = sym b.is_of.0;
  time_is = sym b.is_of.1;
  size_is = b.at.2 ∙ b.at.4.whole;
  running = running;
  ready = subst (λ (now : SaveStage). IsReadyToSave now name time (length octets) octets first mid) (sym b.at.1) ((refl, b.at.3), b.at.4);
  kept = subst (λ (now : SaveStage). HasKept now name time first mid) (sym b.at.1) (octets, b.at.3, b.at.4);
  knows = subst (λ (now : SaveStage). SaveKnows mid mid name time octets prepared first first now) (sym b.at.1) (refl, refl);
}
begun_save name time octets prepared first mid running (task.Ops t) b = b.is_of
begun_save name time octets prepared first mid running (task.Counts t) b = absurd (cc b.is_of)
begun_save name time octets prepared first mid running (task.Make t) b = absurd (cc b.is_of)
begun_save name time octets prepared first mid running (task.Copy t) b = absurd (cc b.is_of)
begun_save name time octets prepared first mid running (task.Move t) b = absurd (cc b.is_of)
begun_save name time octets prepared first mid running (task.Expunge t) b = absurd (cc b.is_of)
begun_save name time octets prepared first mid running (task.Fetch t) b = absurd (cc b.is_of)
begun_save name time octets prepared first mid running (task.Resync t) b = absurd (cc b.is_of)
begun_save name time octets prepared first mid running (task.Purge t) b = absurd (cc b.is_of)
begun_save name time octets prepared first mid running (task.Delete t) b = absurd (cc b.is_of)
begun_save name time octets prepared first mid running (task.Rename t) b = absurd (cc b.is_of)
