-- How `deliver` ends.
use Rattle.std.specs.Prelude.{◌≡◌, ◌≤◌, ◌<◌, ◌⊎◌, ℕ, List, [], ◌∷◌, length, Option, Some, IfSome}
use Rattle.disk_model.specs.Disk.{History, Faults, EachImage, IfTold}
use Rattle.disk_model.specs.FaultCounts.{NoFault}
use Rattle.attach_detach.specs.Prepared.{IsPrepared}
use Rattle.attach_detach.specs.declared.message.Prepared.{Prepared}
use Rattle.mdbox_base.specs.declared.entries.InstRow.{InstRow}
use Rattle.mdbox_base.specs.Streams.{IsAtEnd}
use Rattle.mdbox_base.specs.declared.ids.Guid.{Guid}
use Rattle.mdbox_base.specs.declared.ids.MapUid.{MapUid}
use Rattle.mdbox_base.specs.declared.ids.Uid.{Uid}
use Rattle.mdbox_base.specs.declared.replies.Refusal.{Refusal}
use Rattle.mdbox_base.specs.declared.replies.Refusal.TheVariants as refusal
use Rattle.mdbox_base.specs.declared.replies.Reply.{Reply}
use Rattle.mdbox_base.specs.declared.replies.Reply.TheVariants as reply
use Rattle.mdbox_base.specs.declared.requests.Request.TheVariants as request
use Rattle.mdbox_base.specs.declared.stream.InputError.{InputError}
use Rattle.mdbox_base.specs.declared.stream.InputError.TheVariants as read
use Rattle.model_lists.specs.Lists.{Lists, AreWellFormed}
use Rattle.model_meaning.specs.BoxMeaning.{BoxMeaning}
use Rattle.model_meaning.specs.MapMeaning.{MapMeaning}
use Rattle.model_store.specs.Listing.{ShowLists, meaning_named}
use Rattle.model_store.specs.Safe.{Safe}
use Rattle.model_store.specs.Settled.{IsSettledFor, files_of}
use Rattle.model_store.specs.Stands.{HasInstances}
use Rattle.storage_files.specs.Files.{FilesValue}
use Rattle.store_files.specs.Found.{IsFoundFiles}
use Rattle.saved_message.specs.Region.{written_region}
use Rattle.saved_message.specs.Saved.{ids_in}
use Rattle.mail_save.specs.declared.place.SavedAt.{SavedAt}
use Rattle.store_open.specs.Opened.{IsOpenedAs, KeepsOpenedMail}
use Rattle.store_sweep.specs.Moments.{NoFailedChange}
use Rattle.store_sweep.specs.Swept.{IsSwept}
use Rattle.request_text.specs.Outcomes.{status_of}
use Rattle.request_text.specs.declared.outcome.InputRefusal.TheVariants as input
use Rattle.request_text.specs.declared.outcome.Outcome.{Outcome}
use Rattle.request_text.specs.declared.outcome.Outcome.TheVariants as outcome
use Rattle.script_run.specs.One.{OpensUnchanged, lists_told, saved_lists}
use Rattle.mdbox_top.specs.InputRun.{OfInput, IsOneOf}
use Rattle.tasks_alone.specs.SavedMail.{LeavesDelivery}
use Rattle.mdbox_top.specs.Served.{RequestOutcome}
use Rattle.tasks_alone.specs.DeliveryAlone.{undelivered_cause, region_length, IsDeliverAnswer, HasRecordMore, HasRecordLeft, WroteMessage, AreFirstNamed, attachment_octets}

-- The files open with the same listings and the same mailboxes; the map is the same, or has the record of the message more, with
-- count 0.
pub record OpensAlike (name : List ℕ) (time : ℕ) (prepared : Prepared) (m : MapMeaning) (meanings : List BoxMeaning) (files : FilesValue) (new : Option History) : Type 0 where
  pub map : MapMeaning
  pub opened : IsOpenedAs new map meanings
  pub mailboxes : map.boxes ≡ m.boxes
  pub left : (map ≡ m) ⊎ HasRecordLeft name time prepared m.highest.map m files map

-- The files open. Of any lists that the logs showed their logs show those with the message, and the map has its record more. The
-- files of its instances have the octets of its attachments, and each is the first that has them.
pub record OpensSaved (name : List ℕ) (time : ℕ) (octets : List ℕ) (prepared : Prepared) (guid : Guid) (m : MapMeaning) (meanings : List BoxMeaning) (files : FilesValue) (old new : Option History) : Type 0 where
  pub map : MapMeaning
  pub changed : List BoxMeaning
  pub opened : IsOpenedAs new map changed
  pub shows : (lists : Lists) → AreWellFormed lists → ShowLists m.boxes meanings lists → ShowLists map.boxes changed (saved_lists name time octets guid lists)
  pub uid : MapUid
  pub at : SavedAt
  pub guid_is : at.guid ≡ guid
  pub rows : List InstRow
  pub more : HasRecordMore name time prepared m.highest.map m files rows uid at map
  pub mail : WroteMessage time (written_region name time prepared (ids_in rows) guid.0) m files at old new
  pub attachments : IfTold new (λ now. HasInstances (files_of now) rows (attachment_octets prepared.parts))
  pub once : IfTold new (AreFirstNamed rows map)

-- The reply to the delivery of these octets, whose detached form this is, at this time, by what the logs mean from which the store
-- opened, and by the storage files that it found. Where the logs say why the message isn't saved, the store opens again, with
-- logs that mean the same and the same mail, and the disk was swept. With any other refusal it opens with the same listings,
-- unless the store is stopped. Where it is saved, its logs show the lists with the message: last in its mailbox, with its next
-- UID, without flags or keywords, with this time and these octets, and with the GUID that is replied; its octets were added to
-- its storage file, and what else the store reads of storage files and instances is the same. The opening swept the disk; at each
-- moment of it and afterwards, whatever failed, storage files stayed as far as their regions, sealed ones whole, and so did instances; and after it,
-- unless the store is stopped, no storage file has changed but the one that was taken for the message, and no instance, but that
-- new ones have the octets of its attachments. Unless the store is stopped, a disk that was settled for lists is settled for those
-- that the reply tells.
pub record IsDeliverReply (name : List ℕ) (time : ℕ) (octets : List ℕ) (old new : Option History) (given : Reply) : Type 0 where
  pub m : MapMeaning
  pub meanings : List BoxMeaning
  pub opened : IsOpenedAs old m meanings
  pub files : FilesValue
  pub found : IsFoundFiles m old files
  pub prepared : Prepared
  pub form : IsPrepared octets prepared
  pub given_is : IsDeliverAnswer (undelivered_cause (meaning_named name m.boxes meanings) m.highest) (meaning_named name m.boxes meanings) m.store (region_length name time prepared) m.highest.instance (length prepared.parts) files given
  pub refused : (why : Refusal) → undelivered_cause (meaning_named name m.boxes meanings) m.highest ≡ Some why → OpensUnchanged m meanings old new
  pub unsaved : (why : Refusal) → given ≡ reply.Refused why → (why ≡ refusal.Stopped → ⊥) → OpensAlike name time prepared m meanings files new
  pub done : (uid : Uid) (guid : Guid) → given ≡ reply.Saved uid guid → OpensSaved name time octets prepared guid m meanings files old new
  pub mail : (generation : ℕ) × (swept : Option History) × IsSwept generation m old swept × KeepsOpenedMail old new × LeavesDelivery m.store name time prepared given swept new
  pub settled : (given ≡ reply.Refused refusal.Stopped → ⊥) → (lists : Lists) → IsSettledFor lists old → IsSettledFor (lists_told (request.Deliver name time octets) given lists) new

-- ---- a message that was read

-- How the delivery of these octets at this time ends: the reply is printed, which is `OK` with the message's UID and GUID, or why
-- it isn't saved, or `NO 17 memory`, or that an instance can't be read or the store is stopped; or a prefix of it; or the store was
-- not opened.
abbrev pub SaveOutcome : Type 0 → List ℕ → ℕ → List ℕ → Option (List ℕ) → Option (List ℕ) → Option History → Option History → Faults → Faults → Outcome → Type 0
SaveOutcome D name time octets = RequestOutcome D (IsDeliverReply name time octets) (request.Deliver name time octets)

-- the lists with the message, of some GUID
abbrev pub AreSaved : List ℕ → ℕ → List ℕ → Lists → Lists → Type 0
AreSaved name time octets lists some = (guid : Guid) × (some ≡ saved_lists name time octets guid lists)

-- A crash at any moment leaves a disk that is safe for the lists for which it was settled, or for those with the message, whatever
-- fails.
abbrev pub SaveMoments : List ℕ → ℕ → List ℕ → Option History → Option History → Type 0
SaveMoments name time octets old new = (lists : Lists) → IsSettledFor lists old
    → EachImage (λ _ image. Safe image lists ⊎ ((some : Lists) × AreSaved name time octets lists some × Safe image some)) old new

-- If no change of the disk failed, a disk that was settled for lists is settled for these, or for those with the message.
abbrev pub SaveRests : List ℕ → ℕ → List ℕ → Type 0 → Faults → Faults → Option History → Option History → Type 0
SaveRests name time octets failed began now old new = NoFailedChange failed began now → (lists : Lists) → IsSettledFor lists old
    → IsSettledFor lists new ⊎ ((some : Lists) × AreSaved name time octets lists some × IsSettledFor some new)

-- ---- the message and the time

-- why an input was not read, as the end of a run
abbrev pub unread_outcome : InputError → Outcome
unread_outcome (read.TooLong limit) = outcome.InputRefused (input.TooLong limit)
unread_outcome read.Fault = outcome.ReadFault
unread_outcome read.NoMemory = outcome.NoMemory

-- If the source is modelled, these octets were left of it; they are at most 64 MiB. If the clock is modelled, it told this time.
abbrev pub IsMessageOf : Option (List ℕ) → List ℕ → Type 0
IsMessageOf left octets = IfSome left (λ all. all ≡ octets) × (length octets ≤ 67108864)

abbrev pub IsTimeOf : Option ℕ → ℕ → Type 0
IsTimeOf told time = IfSome told (λ now. time ≡ now)

-- The input was read to its end, which came within 64 MiB. Only then is the clock asked.
abbrev pub IsReadWhole : Option (List ℕ) → Option (List ℕ) → Type 0
IsReadWhole left rest = ((octets : List ℕ) × IsMessageOf left octets) × IsAtEnd rest

abbrev pub OfDelivery : Option (List ℕ) → Option ℕ → (ℕ → List ℕ → Type 0) → Type 0
OfDelivery left told holds = (octets : List ℕ) × (time : ℕ) × IsMessageOf left octets × IsTimeOf told time × holds time octets

-- There is no message, or no time: the input is longer than 64 MiB, there was no memory for it, or the source or the clock failed.
abbrev pub IsUnread : Option (List ℕ) → Outcome → Type 0
IsUnread left (outcome.InputRefused (input.TooLong limit)) = (limit ≡ 67108864) × OfInput left (λ all. 67108864 < length all)
IsUnread left outcome.NoMemory = Unit {0}
IsUnread left outcome.ReadFault = Unit {0}
IsUnread left other = ⊥

-- One delivery, of these octets at this time: how it ends, what a crash at any moment of it may leave, and what it leaves of the
-- disk when it ends.
pub record IsDelivery (D : Type 0) (name : List ℕ) (time : ℕ) (octets : List ℕ) (held later : Option (List ℕ)) (old new : Option History) (began now : Faults) (ended : Outcome) : Type 0 where
  pub ends : SaveOutcome D name time octets held later old new began now ended
  pub moments : SaveMoments name time octets old new
  pub rests : SaveRests name time octets (IsOneOf (6 ∷ 8 ∷ []) (status_of ended)) began now old new

-- How `deliver` ends: there is no message or no time, nothing is printed, no call of the disk is made, and none failed; or as the delivery of
-- the message that the input is, at the time that the clock told.
abbrev pub DeliverOutcome : Type 0 → List ℕ → Option (List ℕ) → Option ℕ → Option (List ℕ) → Option (List ℕ) → Option History → Option History → Faults → Faults → Outcome → Type 0
DeliverOutcome D name left told held later old new began now ended =
    (IsUnread left ended × (later ≡ held) × (new ≡ old) × NoFault began now)
    ⊎ OfDelivery left told (λ time octets. IsDelivery D name time octets held later old new began now ended)

-- What a crash at any moment may leave, and what `deliver` leaves of the disk when it ends: no call of it was made, or as the
-- delivery of the message.
abbrev pub DeliverMoments : List ℕ → Option (List ℕ) → Option ℕ → Option History → Option History → Type 0
DeliverMoments name left told old new = (new ≡ old) ⊎ OfDelivery left told (λ time octets. SaveMoments name time octets old new)

abbrev pub DeliverRests : List ℕ → Option (List ℕ) → Option ℕ → Type 0 → Faults → Faults → Option History → Option History → Type 0
DeliverRests name left told failed began now old new = (new ≡ old) ⊎ OfDelivery left told (λ time octets. SaveRests name time octets failed began now old new)

-- An input that is too long is refused, but for out of memory and faults of the source and of the clock; with another, no file of a
-- settled disk refuses a delivery.
abbrev pub DeliverStatus : Option (List ℕ) → Option History → ℕ → Type 0
DeliverStatus left old status = IfSome left (λ all. (67108864 < length all → IsOneOf (4 ∷ 5 ∷ 7 ∷ []) status)
    × (length all ≤ 67108864 → (lists : Lists) → IsSettledFor lists old → IsOneOf (0 ∷ 1 ∷ 5 ∷ 6 ∷ 7 ∷ 8 ∷ []) status))
